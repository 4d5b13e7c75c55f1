use mathlib.Core.Path.{◌≡◌}
use lib.ListN.{length}
use Rattle.rounds.specs.Running.{RunsOn}
use Rattle.rounds.proofs.running.run.Given as goal

abbrev pub invariant-loop-done : goal.invariant-loop-done
invariant-loop-done l =
    (length l.items ≡ 768) × RunsOn l.chart l.names l.initial.numbers l.initial.internal l.initial.external l.initial.clock l.rounds l.quiet l.initial.trace l.numbers l.internal l.external l.clock l.trace l.done l.count l.at
