use Rattle.std.specs.Prelude.{◌≡◌, ◌||◌, ℕ, eqb, get_or}
use Rattle.std.proofs.Common.{refl, subst, eq-eqb, ne_eqb}
use Rattle.grammar.specs.Tables.{needed}
use Rattle.grammar.specs.Grammar.{is_complete, has}
use Rattle.scan.proofs.is_complete.Goals as goal

pub returns-then-j-eq4 : goal.returns-then-j-eq4
unfolding needed is_complete
returns-then-j-eq4 c =
    let j : c.need_cell-j.result ≡ get_or needed c.args.e 4 = rw c.from.ensures at c.need_cell-j.ensures in
    subst (λ (n : ℕ). eqb c.need_cell-j.result 4 ≡ (eqb n 4 || has c.args.x n)) j (rw (eq-eqb c.need_cell-j.result 4 c.if-j-eq4.true) refl)

pub returns-else-j-eq4 : goal.returns-else-j-eq4
unfolding needed is_complete
returns-else-j-eq4 c =
    let j : c.need_cell-j.result ≡ get_or needed c.args.e 4 = rw c.from.ensures at c.need_cell-j.ensures in
    subst (λ (n : ℕ). c.has_it.result ≡ (eqb n 4 || has c.args.x n)) j (rw (ne_eqb c.need_cell-j.result 4 c.if-j-eq4.false) c.has_it.ensures)
