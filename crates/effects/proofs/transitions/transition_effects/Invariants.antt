use Prim.Native.Nat.{◌≤◌}
use lib.ListN.{length, drop}
use Rattle.follower.specs.Microstep.{transition_effects}
use Rattle.definition.specs.Tables.{chart_of}
use Rattle.rowset.specs.Member.{rows_of}
use Rattle.effects.specs.Trace.{places}
use Rattle.effects.specs.Choosers.{chooser_in}
use Rattle.effects.specs.Emitting.{Emitting}
use Rattle.effects.proofs.transitions.transition_effects.Given as goal

abbrev pub invariant-loop-i : goal.invariant-loop-i
invariant-loop-i l = (l.i ≤ length l.chosen) × Emitting (transition_effects (chart_of l.chart) (rows_of l.stay) (chooser_in l.by)) (places l.initial.trace l.initial.joins) (places l.trace l.joins) l.initial.sum l.sum l.chosen (drop l.i l.chosen)
