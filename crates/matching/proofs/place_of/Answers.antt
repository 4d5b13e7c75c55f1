use mathlib.Core.Path.{◌∙◌}
use native.Mathlib.Omega.{arith}
use Rattle.matching.specs.Descriptors.{place_own, place_first}
use Rattle.matching.proofs.place_of.Goals as goal

pub returns-then-k-descriptors : goal.returns-then-k-descriptors
returns-then-k-descriptors c = let e = c.name_index.ensures in let n = c.name_at.ensures in let l = n.below in place_own _ _ _ _ c.if-k-descriptors.true (e ∙ n.is) (omega arith)

pub returns : goal.returns
returns c = let e = c.name_index-2.ensures in let n = c.name_at-2.ensures in let l = n.below in place_first _ _ _ _ c.if-k-descriptors.false (e ∙ n.is) (omega arith)
