use Rattle.chart.specs.Readers.{set_place, behind_fits}
use Rattle.chart.specs.Ready.{row_set_at}
use Rattle.definition.specs.Tables.{row_count, transition_count}
use mathlib.Core.Path.{refl, ap, ◌∙◌}
use native.Mathlib.Omega.{arith}
use Rattle.chart.proofs.set_in.Goals as goal

pub overflow_mul-after : goal.overflow_mul-after
unfolding row_count transition_count
overflow_mul-after c = let l = behind_fits _ _ _ _ _ c.requires refl refl in omega arith

pub overflow_mul-after-2 : goal.overflow_mul-after-2
unfolding row_count transition_count
overflow_mul-after-2 c = let l = behind_fits _ _ _ _ _ c.requires refl refl in omega arith

pub overflow_add-after : goal.overflow_add-after
unfolding row_count transition_count
overflow_add-after c = let l = behind_fits _ _ _ _ _ c.requires refl refl in omega arith

pub overflow_sub-chart : goal.overflow_sub-chart
unfolding row_count transition_count
overflow_sub-chart c = let l = behind_fits _ _ _ _ _ c.requires refl refl in omega arith

pub overflow_add-chart : goal.overflow_add-chart
unfolding row_count transition_count
overflow_add-chart c = let e = set_place _ _ _ _ _ c.requires refl refl in omega arith

pub set_at-requires : goal.set_at-requires
unfolding row_count transition_count
set_at-requires c = let e = set_place _ _ _ _ _ c.requires refl refl in record { inside = omega arith }

pub returns : goal.returns
unfolding row_count transition_count
returns c = c.set_at.ensures ∙ ap (row_set_at _) (set_place _ _ _ _ _ c.requires refl refl)
