use Prim.Native.Nat.{◌-◌}
use Rattle.write_text.specs.Rows.{Rowing}
use Rattle.write_text.proofs.rows.lay_rows.Given as goal

abbrev pub invariant-loop-i : goal.invariant-loop-i
invariant-loop-i l = Rowing l.numbers l.names l.initial.out l.n l.out l.at l.inmost l.t l.i
