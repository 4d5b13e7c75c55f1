use mathlib.Core.Path.{◌≡◌}
use Prim.Native.Nat.{◌≤◌}
use Rattle.definition.specs.Tables.{transition_count, chart_of}
use Rattle.selection.specs.FixedDomains.{Fixing}
use Rattle.selection.proofs.domains.fixed_domains.Given as goal

abbrev pub invariant-loop-t : goal.invariant-loop-t
invariant-loop-t l = (l.n ≡ transition_count l.chart) × (l.n ≤ 512) × Fixing (chart_of l.chart) l.domains l.t
