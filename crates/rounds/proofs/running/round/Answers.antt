use mathlib.Core.Path.{sym, ◌∙◌}
use native.Mathlib.Omega.{arith}
use Rattle.state.specs.Places.{numbers_size}
use Rattle.definition.specs.declared.Mode.TheVariants.{Running, Closing}
use Rattle.rounds.specs.Closing.{record_holds, round_running, round_closing, round_over}
use Rattle.rounds.proofs.running.round.Goals as goal

pub bounds-numbers-1030 : goal.bounds-numbers-1030
bounds-numbers-1030 c = let e = numbers_size _ _ _ _ c.requires.1.spells in omega arith

pub take-requires : goal.take-requires
take-requires c = (c.requires.0, c.requires.1, c.requires.2, sym c.from-mode.ensures ∙ c.in-Running.is, record_holds _ c.args.names.now _ _ _ c.requires.1 _ _ c.from-mode.ensures Running c.in-Running.is c.requires.3, c.requires.4)

pub close-requires : goal.close-requires
close-requires c = (c.requires.0.compiled.ready, c.requires.1, sym c.from-mode.ensures ∙ c.in-Closing.is, record_holds _ c.args.names.now _ _ _ c.requires.1 _ _ c.from-mode.ensures Closing c.in-Closing.is c.requires.3)

pub returns-in-Running : goal.returns-in-Running
returns-in-Running c = round_running _ _ _ _ _ c.requires.1 _ _ c.from-mode.ensures _ _ _ _ _ _ _ _ c.in-Running.is c.take.ensures

pub returns-in-Closing : goal.returns-in-Closing
returns-in-Closing c = round_closing _ _ _ _ _ c.requires.1 _ _ c.from-mode.ensures _ _ _ _ _ _ _ _ c.in-Closing.is _ c.is_quiet-quiet.ensures c.close.ensures

pub returns-in-Ended : goal.returns-in-Ended
returns-in-Ended c = round_over _ _ _ _ _ c.requires.1 _ _ c.from-mode.ensures _ _ _ _ c.requires.3 c.unchanged.ensures c.in-Ended.is

pub is_quiet-quiet-requires : goal.is_quiet-quiet-requires
is_quiet-quiet-requires c = c.requires.0.indexed.size
