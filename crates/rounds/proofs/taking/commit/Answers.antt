use borrow.Author.Rules.{rules}
use mathlib.Core.Path.{◌∙◌}
use native.Mathlib.Omega.{arith}
use Rattle.state.specs.Numbers.{back_length}
use Rattle.state.specs.Places.{numbers_size, history_size}
use Rattle.rounds.specs.Taking.{internal_leaves, external_leaves, event_waits, stores_ready, next_ready}
use Rattle.rounds.specs.Committing.{names_join, committed}
use Rattle.rounds.proofs.taking.commit.Goals as goal

pub internal_left-kept-requires : goal.internal_left-kept-requires
internal_left-kept-requires c = internal_leaves _ _ _ _ _ _ _ _ c.requires.made

pub take_event-requires : goal.take_event-requires
take_event-requires c = event_waits _ _ _ _ _ _ _ _ c.requires.made

pub queue_names-waiting-requires : goal.queue_names-waiting-requires
queue_names-waiting-requires c = names_join _ _ _ _ _ _ _ _ c.requires _ _ c.take_event.ensures.0 c.internal_left-kept.ensures

pub store-requires : goal.store-requires
store-requires c = rw (c.rows_at-atomic.ensures, c.rows_at-histories.ensures) (stores_ready _ _ _ _ _ _ _ _ c.requires.made)

pub external_left-requires : goal.external_left-requires
external_left-requires c = external_leaves _ _ _ _ _ _ _ _ c.requires.made

pub mode_of-requires : goal.mode_of-requires
mode_of-requires c = next_ready _ _ _ _ _ _ _ _ c.requires.made _ c.next_configuration-next.ensures

pub put_state-requires : goal.put_state-requires
put_state-requires c = back_length c.args.numbers.now c.store.new.history (numbers_size _ _ _ _ c.requires.made.holds.spells) (c.store.auto.history ∙ history_size _ _ _ _ c.requires.made.holds.spells)

pub returns : goal.returns
returns c = record { next = λ d. committed _ _ _ _ _ _ _ _ d _ _ c.take_event.ensures.0 c.internal_left-kept.ensures _ _ _ _ _ _ _ _ c.queue_names-waiting.ensures c.take_event.ensures.1 c.external_left.ensures c.store.ensures (record { fits = λ k. (c.slice_known-9-1.given k).fits }) c.next_configuration-next.ensures c.mode_of.ensures c.put_state.ensures }

pub bounds-numbers-1028 : goal.bounds-numbers-1028
bounds-numbers-1028 c = let e = numbers_size _ _ _ _ c.requires.made.holds.spells in omega arith

pub bounds-numbers-1029 : goal.bounds-numbers-1029
bounds-numbers-1029 c = let e = numbers_size _ _ _ _ c.requires.made.holds.spells in omega arith

pub slice_bounds-stored-end : goal.slice_bounds-stored-end
slice_bounds-stored-end c = let e = numbers_size _ _ _ _ c.requires.made.holds.spells in search rules
