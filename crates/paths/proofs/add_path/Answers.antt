use mathlib.Core.List.{List}
use mathlib.Core.Path.{ap, ◌∙◌}
use Prim.Native.Nat.{ℕ}
use Rattle.definition.specs.Rows.{union}
use Rattle.rowset.specs.Rows.{ascends_rows}
use Rattle.rowset.specs.Member.{rows_of}
use Rattle.paths.specs.Paths.{path_added}
use Rattle.paths.proofs.add_path.Goals as goal

pub returns : goal.returns
returns c = c.union.ensures ∙ ap (λ (xs : List ℕ). union xs (rows_of c.ancestors_of.result)) c.with.ensures ∙ path_added _ _ _ _ (ascends_rows _) c.ancestors_of.ensures
