use mathlib.Core.Path.{◌≡◌, refl, sym, ap, ◌∙◌}
use lib.ListN.{length}
use mathlib.Core.Bool.{not}
use native.Mathlib.Omega.{arith}
use Rattle.onepass.specs.Four.{lives_own, live_inside, heads_begin, heads_turn, heads_end, heads_parted, heads_settled, again_followed, again_on}
use Rattle.onepass.proofs.match_four.Goals as goal
use Rattle.onepass.proofs.match_four.Goals.{then-not-all_go_on+else-all_part+else-not-any_going, else-not-all_go_on}

pub begin_all-p-requires : goal.begin_all-p-requires
begin_all-p-requires c = c.requires

pub loop-i-init : goal.loop-i-init
loop-i-init c = (omega arith, heads_begin _ _ _ c.requires _ c.begin_all-p.ensures, lives_own _ _)

pub all_go_on-requires : goal.all_go_on-requires
all_go_on-requires c = let inv = c.loop-i.invariant in (live_inside _ _ _ _ c.requires inv.2, inv.0)

pub all_part-requires : goal.all_part-requires
all_part-requires c = let inv = c.loop-i.invariant in (live_inside _ _ _ _ c.requires inv.2, inv.0)

pub returns-then-all_part : goal.returns-then-all_part
returns-then-all_part c =
    let inv = c.loop-i.invariant in
    heads_parted _ _ _ c.requires _ _ _ _ _ _ c.loop-i-test.true inv.0 refl c.all_part.ensures c.if-all_part.true inv.2 inv.1
    c.settled.ensures

pub follow_all-p-requires : goal.follow_all-p-requires
follow_all-p-requires c = (c.requires, c.loop-i.invariant.0)

pub returns-then-not-any_going : goal.returns-then-not-any_going
returns-then-not-any_going c =
    let pre = c.requires in
    heads_settled _ _ _ pre _ _ _ (sym c.any_going.ensures ∙ c.if-not-any_going.true)
    (heads_turn _ _ _ pre _ _ _ _ c.loop-i-test.true refl c.loop-i.invariant.1 c.follow_all-p.ensures) c.settled-then-not-any_going.ensures

pub loop-i-preserved : goal.loop-i-preserved
loop-i-preserved c =
    let pre = c.requires in
    let l = c.loop-i-test.true in
    let inv = c.loop-i.invariant in
    elim c.if-not-all_go_on.branch [
      | then-not-all_go_on+else-all_part+else-not-any_going w ↦ again_followed _ _ _ pre _ _ _ _ _ _ _ _ l refl inv.1 w.follow_all-p.ensures w.any_going.ensures (ap not w.if-not-any_going.false) w.live_places-q.ensures w.p-is w.q-is
      | else-not-all_go_on w ↦ again_on _ _ _ pre _ _ _ _ _ _ _ l inv.0 refl (ap not w.if-not-all_go_on.false) c.all_go_on.ensures inv.2 inv.1 w.p-is w.q-is
    ]

pub finish-requires : goal.finish-requires
finish-requires c = let l = c.loop-i.invariant.0 in (c.requires, omega arith)

pub returns : goal.returns
returns c =
    let e : c.loop-i.i ≡ length c.args.event.now = omega arith in
    heads_end _ _ _ c.requires _ _ _ (omega arith) (rw e at c.loop-i.invariant.1) c.finish.ensures
