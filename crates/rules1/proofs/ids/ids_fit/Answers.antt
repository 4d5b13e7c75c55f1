use mathlib.Core.Path.{ap, refl, sym}
use mathlib.Core.Bool.{not}
use Prim.Native.Nat.{◌<◌}
use native.Mathlib.Omega.{arith}
use Rattle.laws.specs.Loops.{all_begin, all_turn, said_not_yes, said_not_no}
use Rattle.rules1.specs.Ids.{id_turn, ids_leave, ids_done, new_no, new_root}
use Rattle.rules1.specs.Chains.{Turn, seen_begin, seen_turn}
use Rattle.rules1.proofs.ids.ids_fit.Goals as goal

pub is_id_of-requires : goal.is_id_of-requires
is_id_of-requires c = let some = c.requires.tables.sized.counts.some in (c.requires, omega (arith, some))

pub returns-then-not-is_id_of : goal.returns-then-not-is_id_of
returns-then-not-is_id_of c = let n = c.row_count-n.result in let q = c.row_count-n.ensures in let some = c.requires.tables.sized.counts.some in ids_leave _ _ 0 n (omega (arith, q, some)) q (sym (new_no _ _ 0 (said_not_yes _ _ c.is_id_of.ensures (ap not c.if-not-is_id_of.true))))

pub loop-i-init : goal.loop-i-init
loop-i-init c = let n = c.row_count-n.result in let q = c.row_count-n.ensures in let some = c.requires.tables.sized.counts.some in (omega arith, omega (arith, q, some), all_turn _ 0 (all_begin _) (sym (new_root _ _ 0 refl (said_not_no _ _ c.is_id_of.ensures (ap not c.if-not-is_id_of.false)))), seen_begin _ _)

pub id_key-requires : goal.id_key-requires
id_key-requires c = let n = c.row_count-n.result in let q = c.row_count-n.ensures in let some = c.requires.tables.sized.counts.some in let i = c.loop-i.i in let l : i < n = omega arith in (c.requires, omega (arith, q, l), omega arith)

pub returns-in_default : goal.returns-in_default
returns-in_default c = let n = c.row_count-n.result in let q = c.row_count-n.ensures in let i = c.loop-i.i in let l : i < n = omega arith in ids_leave _ _ i n l q (sym (new_no _ _ i (c.id_key.ensures.none c.in_default.is)))

pub met-requires : goal.met-requires
met-requires c = let n = c.row_count-n.result in let q = c.row_count-n.ensures in let some = c.requires.tables.sized.counts.some in let i = c.loop-i.i in let l : i < n = omega arith in let f = c.id_key.ensures.some _ c.in-Some.is in record { turn = id_turn _ _ i n c.requires l q c.loop-i.invariant.2; positive = omega arith; own = f.1; is = f.2; low = f.0; so_far = c.loop-i.invariant.3 }

pub returns-in-Twice : goal.returns-in-Twice
returns-in-Twice c = let n = c.row_count-n.result in let q = c.row_count-n.ensures in let i = c.loop-i.i in let l : i < n = omega arith in ids_leave _ _ i n l q (c.met.ensures.twice c.in-Twice.is)

pub loop-i-preserved : goal.loop-i-preserved
loop-i-preserved c = let n = c.row_count-n.result in let q = c.row_count-n.ensures in let i = c.loop-i.i in let l : i < n = omega arith in let f = c.id_key.ensures.some _ c.in-Some.is in let few = c.requires.tables.sized.counts.rows in let t : Turn _ _ _ _ i _ = record { turn = id_turn _ _ i n c.requires l q c.loop-i.invariant.2; positive = omega arith; own = f.1; is = f.2; low = f.0; so_far = c.loop-i.invariant.3 } in (omega arith, omega arith, all_turn _ i c.loop-i.invariant.2 (c.met.ensures.new c.in-New.is), seen_turn _ _ _ _ i _ t (omega (arith, q, few, l)))

pub returns : goal.returns
returns c = let n = c.row_count-n.result in let q = c.row_count-n.ensures in ids_done _ _ c.loop-i.i n c.loop-i.invariant.1 (omega arith) q c.loop-i.invariant.2
