use mathlib.Core.Path.{◌≡◌}
use mathlib.Core.Bool.{true}
use Prim.Native.Nat.{◌*◌, ◌≤◌}
use lib.Dec.{eqb}
use lib.ListN.{drop}
use Rattle.queue.specs.Queues.{QueueSized, named_at}
use Rattle.definition.specs.Rows.{all, from}
use Rattle.queue.proofs.queue_fits.Given as goal

abbrev pub invariant-loop-k : goal.invariant-loop-k
invariant-loop-k l =
    (l.k ≤ l.count) × (l.count ≤ 32) × QueueSized l.queue × (all (eqb 0) (drop (l.count * 64) l.queue) ≡ true) × (all (named_at l.queue) (from l.k 0) ≡ true)
