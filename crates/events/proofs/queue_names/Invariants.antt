use Rattle.definition.specs.Tables.{name_at, chart_of}
use Rattle.events.specs.Joining.{Queueing}
use Rattle.events.proofs.queue_names.Given as goal

abbrev pub invariant-loop-join : goal.invariant-loop-join
invariant-loop-join l = Queueing (chart_of l.chart) (name_at l.names) l.joins l.initial.internal l.internal l.count l.n l.join-index
