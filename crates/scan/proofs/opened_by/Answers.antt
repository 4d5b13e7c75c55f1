use Rattle.std.proofs.Common.{eq-eqb, ne_eqb}
use Rattle.std.proofs.Math.Path.{refl, sym, ◌∙◌}
use Rattle.grammar.specs.Tables.{opened}
use Rattle.grammar.specs.Grammar.{opens}
use Rattle.scan.proofs.opened_by.Goals as goal
use Rattle.scan.proofs.opened_by.Goals.{else-e-eq1-via-then-e-eq1+else-has_it, else-e-eq1-via-else-e-eq1}

pub returns-then-has_it : goal.returns-then-has_it
unfolding opens
returns-then-has_it c = rw (eq-eqb c.args.e 1 c.if-e-eq1.true, sym c.has_it.ensures ∙ c.if-has_it.true) refl

pub returns : goal.returns
unfolding opens opened
returns c =
    elim c.else-e-eq1.branch [
      | else-e-eq1-via-then-e-eq1+else-has_it w ↦ rw (eq-eqb c.args.e 1 w.if-e-eq1.true, sym w.has_it.ensures ∙ w.if-has_it.false) (rw c.from.ensures at c.open_cell.ensures)
      | else-e-eq1-via-else-e-eq1 w ↦ rw (ne_eqb c.args.e 1 w.if-e-eq1.false) (rw c.from.ensures at c.open_cell.ensures)
    ]
