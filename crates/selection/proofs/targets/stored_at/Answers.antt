use mathlib.Core.Path.{ap, ◌∙◌}
use Prim.Native.Nat.{◌*◌, ℕ}
use Rattle.chart.specs.Ready.{row_set_at}
use Rattle.selection.specs.History.{as_stored, stored_of}
use Rattle.selection.proofs.targets.stored_at.Goals as goal

pub returns : goal.returns
unfolding stored_of
returns c = c.as_stored.ensures ∙ ap as_stored (c.set_at.ensures ∙ ap (λ (n : ℕ). row_set_at c.args.history.now (n * 4)) c.row_index.ensures)
