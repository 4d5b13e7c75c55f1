use Rattle.std.proofs.Common.{ap, not}
use borrow.Author.Rules.{rules}
use Rattle.walks.specs.HeadWalk.{heading_start, heading_end, heading_less, heading_room, heading_more}
use Rattle.walks.proofs.heads.lay_heads.Goals as goal

pub loop-p-init : goal.loop-p-init
loop-p-init c = search (rules, heading_start)

pub shape_of-levels-then-not-found : goal.shape_of-levels-then-not-found
shape_of-levels-then-not-found c = search (rules, c.requires.deep)

pub shape_of-spots-then-not-found : goal.shape_of-spots-then-not-found
shape_of-spots-then-not-found c = search (rules, c.requires.spots_room)

pub returns-then-not-found : goal.returns-then-not-found
returns-then-not-found c = search (rules, heading_end)

pub lay_tag-c-requires : goal.lay_tag-c-requires
lay_tag-c-requires c = heading_room _ _ _ _ _ _ _ _ _ _ _ _ c.loop-p.invariant _ _ _ _ c.next_turn-turn.ensures _ c.is_mark-found.ensures (ap not c.if-not-found.false) _ _ c.shape_of.ensures c.element_of.ensures

pub loop-p-smaller : goal.loop-p-smaller
loop-p-smaller c = search (rules, heading_less)

pub loop-p-preserved : goal.loop-p-preserved
loop-p-preserved c = heading_more _ _ _ _ _ _ _ _ _ _ _ _ c.loop-p.invariant _ _ _ _ c.next_turn-turn.ensures _ c.is_mark-found.ensures (ap not c.if-not-found.false) _ _ c.shape_of.ensures c.element_of.ensures _ _ c.lay_tag-c.ensures
