use borrow.Author.Rules.{rules}
use mathlib.Core.Path.{sym, ◌∙◌}
use Rattle.rules3.specs.Parents.{path_here, path_top, path_up}
use Rattle.rules3.proofs.is_on_path.Goals as goal

pub returns-then-a-p : goal.returns-then-a-p
returns-then-a-p c = path_here _ _ _ c.if-a-p.true ∙ sym c.loop-a.invariant.1

pub returns-then-a-up : goal.returns-then-a-up
returns-then-a-up c = path_top _ _ _ _ c.if-a-p.false c.parent_of-up.ensures c.if-a-up.true ∙ sym c.loop-a.invariant.1

pub loop-a-preserved : goal.loop-a-preserved
loop-a-preserved c = (record { tables = c.loop-a.invariant.0.tables; below = search rules }, c.loop-a.invariant.1 ∙ path_up _ _ _ _ c.if-a-p.false c.parent_of-up.ensures c.if-a-up.false)
