-- `slot_matches`: by the first byte where it is a token's, else by the whole name.
use borrow.Author.Rules.{rules}
use borrow.Author.Tests.{ltb-true}
use mathlib.Core.Path.{◌≡◌, sym, ap, ◌∙◌}
use mathlib.Core.Bool.{true}
use mathlib.Core.List.{List}
use Prim.Native.Nat.{ℕ, ◌<◌}
use lib.ListN.{length}
use Rattle.definition.specs.Names.{matches}
use Rattle.laws.specs.Bools.{and_left, and_right}
use Rattle.names.specs.Matching.{starts_token, token_some, slot_differs, slot_rest}
use Rattle.names.proofs.slots.slot_matches.Goals as goal
use Rattle.names.proofs.slots.slot_matches.Goals.{Then-starts_token-event}

token : (c : Then-starts_token-event) → starts_token c.args.slot.now ≡ true
token c = sym c.starts_token.ensures ∙ and_left _ _ c.if-starts_token-event.true

event_some : (c : Then-starts_token-event) → 0 < length c.args.event.now
event_some c = ltb-true _ _ (and_right c.starts_token.result _ c.if-starts_token-event.true)

pub bounds-slot-0 : goal.bounds-slot-0
bounds-slot-0 c = token_some _ (token (goal.at.bounds-slot-0 c).Then-starts_token-event)

pub bounds-event-0 : goal.bounds-event-0
bounds-event-0 c = event_some (goal.at.bounds-event-0 c).Then-starts_token-event

pub returns-then-slot-event : goal.returns-then-slot-event
returns-then-slot-event c = slot_differs _ _ (token (goal.at.returns-then-slot-event c).Then-starts_token-event) (event_some (goal.at.returns-then-slot-event c).Then-starts_token-event) c.if-slot-event.true

pub slice_bounds-begins_with-count : goal.slice_bounds-begins_with-count
slice_bounds-begins_with-count c = let l = event_some (goal.at.slice_bounds-begins_with-count c).Then-starts_token-event in search rules

pub slice_bounds-name_of-count : goal.slice_bounds-name_of-count
slice_bounds-name_of-count c = let l = token_some _ (token (goal.at.slice_bounds-name_of-count c).Then-starts_token-event) in search rules

pub returns-then-starts_token-event : goal.returns-then-starts_token-event
returns-then-starts_token-event c =
    let at = (goal.at.returns-then-starts_token-event c).Then-starts_token-event in
    slot_rest _ _ (token at) (event_some at) _ _ _ c.if-slot-event.false c.name_of.ensures c.bare.ensures c.begins_with.ensures

pub returns : goal.returns
returns c = c.matches.ensures ∙ ap (λ (n : List ℕ). matches n c.args.event.now) c.name_of-2.ensures

pub slice_bounds-name_of-start : goal.slice_bounds-name_of-start
slice_bounds-name_of-start c = let l = token_some _ (token (goal.at.slice_bounds-name_of-start c).Then-starts_token-event) in search rules

pub slice_bounds-begins_with-start : goal.slice_bounds-begins_with-start
slice_bounds-begins_with-start c = let l = event_some (goal.at.slice_bounds-begins_with-start c).Then-starts_token-event in search rules
