-- What is read has room.
use Rattle.std.proofs.Common.{◌≤◌, ◌≡◌, length}
use Rattle.lines.proofs.reading.read_whole.Given as goal

abbrev pub invariant-loop : goal.invariant-loop
invariant-loop g l = (l.at ≤ length l.text) × (length l.text ≡ length l.fn.text)
