use mathlib.Core.List.{List}
use mathlib.Core.Path.{sym, ap, ◌∙◌}
use Prim.Native.Nat.{ℕ}
use Rattle.definition.specs.Tables.{chart_of}
use Rattle.definition.specs.Chart.{is_parallel}
use Rattle.definition.specs.Rows.{any, intersection, subset}
use Rattle.rowset.specs.Member.{rows_of}
use Rattle.laws.specs.Loops.{told}
use Rattle.effects.specs.Entering.{is_final_row, kids_within, in_final_parallel, in_final_compound, in_final_none}
use Rattle.effects.proofs.done.is_in_final.Goals as goal

pub returns-then-is_parallel : goal.returns-then-is_parallel
returns-then-is_parallel c = c.subset.ensures ∙ ap (λ (xs : List ℕ). subset xs (rows_of c.args.set)) c.children_of.ensures ∙ in_final_parallel _ _ _ _ (told is_parallel _ _ _ _ c.kind_of.ensures c.is_parallel.ensures c.if-is_parallel.true)

pub any_final-requires : goal.any_final-requires
any_final-requires c = (c.requires.ready.tables, kids_within _ c.requires.ready.sound _ _ _ _ c.intersection.ensures c.children_of-then-is_compound.ensures)

pub returns-then-is_compound : goal.returns-then-is_compound
returns-then-is_compound c = c.any_final.ensures ∙ ap (any (is_final_row (chart_of c.args.chart.now))) (c.intersection.ensures ∙ ap (λ (xs : List ℕ). intersection xs (rows_of c.args.active)) c.children_of-then-is_compound.ensures) ∙ in_final_compound _ _ _ _ (told is_parallel _ _ _ _ c.kind_of.ensures c.is_parallel.ensures c.if-is_parallel.false) (sym c.is_compound.ensures ∙ c.if-is_compound.true)

pub returns : goal.returns
returns c = in_final_none _ _ _ _ (told is_parallel _ _ _ _ c.kind_of.ensures c.is_parallel.ensures c.if-is_parallel.false) (sym c.is_compound.ensures ∙ c.if-is_compound.false)
