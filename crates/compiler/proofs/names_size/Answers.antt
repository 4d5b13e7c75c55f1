use Prim.Native.Nat.{◌*◌, ℕ}
use Rattle.tables.specs.Ranges.{counts_of}
use Rattle.compiler.specs.Results.{size_none, size_some}
use mathlib.Core.Path.{sym, ap, ◌∙◌}
use native.Mathlib.Omega.{arith}
use Rattle.compiler.proofs.names_size.Goals as goal

pub returns-then-not-counts_fit : goal.returns-then-not-counts_fit
returns-then-not-counts_fit c = size_none _ _ (sym c.counts_fit.ensures ∙ c.if-not-counts_fit.true)

pub overflow_mul-result : goal.overflow_mul-result
overflow_mul-result c =
    let e = c.name_count.ensures in
    let n = (counts_of _ (sym c.counts_fit.ensures ∙ c.if-not-counts_fit.false)).names in
    omega arith

pub returns : goal.returns
returns c = size_some _ _ _ (sym c.counts_fit.ensures ∙ c.if-not-counts_fit.false) (ap (λ (k : ℕ). k * 64) c.name_count.ensures)
