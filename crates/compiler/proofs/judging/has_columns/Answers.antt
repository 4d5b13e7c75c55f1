use mathlib.Core.Path.{refl, sym}
use mathlib.Core.Bool.{true}
use native.Mathlib.Omega.{arith}
use Rattle.compiler.specs.Compared.{kids_differ, below_differ, targets_differ, columns_decide, kids_known, room_below, room_kids, room_targets}
use Rattle.compiler.proofs.judging.has_columns.Goals as goal

pub returns-then-not-all_joined : goal.returns-then-not-all_joined
returns-then-not-all_joined c = kids_differ _ _ c.row_count-rows.ensures c.requires.0.numbers_keep _ c.requires.0.room _ c.all_joined.ensures c.if-not-all_joined.true

pub all_down-requires : goal.all_down-requires
all_down-requires c = (room_below _ _ c.row_count-rows.ensures c.requires.0.numbers_keep c.args.sets.now c.requires.0.room, room_kids _ _ c.row_count-rows.ensures c.requires.0.numbers_keep c.args.sets.now c.requires.0.room)

pub returns-then-not-all_down : goal.returns-then-not-all_down
returns-then-not-all_down c = below_differ _ _ c.row_count-rows.ensures c.requires.0.numbers_keep _ c.requires.0.room _ c.all_down.ensures c.if-not-all_down.true

pub all_aimed-requires : goal.all_aimed-requires
all_aimed-requires c = (kids_known _ _ c.row_count-rows.ensures c.requires.0.numbers_keep c.args.sets.now c.requires.0.room _ _ c.all_joined.ensures c.if-not-all_joined.false c.all_down.ensures c.if-not-all_down.false, room_targets _ _ c.row_count-rows.ensures c.requires.0.numbers_keep c.args.sets.now c.requires.0.room)

pub returns-then-not-all_aimed : goal.returns-then-not-all_aimed
returns-then-not-all_aimed c = targets_differ _ _ c.row_count-rows.ensures c.requires.0.numbers_keep _ c.requires.0.room _ c.all_aimed.ensures c.if-not-all_aimed.true

pub returns : goal.returns
returns c = columns_decide _ _ c.row_count-rows.ensures c.requires.0.numbers_keep _ c.requires.0.room _ _ c.all_joined.ensures c.if-not-all_joined.false c.all_down.ensures c.if-not-all_down.false true _ _ (λ k. omega (arith, c.shared_slice_known-2-1.given k)) (sym c.requires.1.are) refl c.all_aimed.ensures c.if-not-all_aimed.false c.all_anchored.ensures
