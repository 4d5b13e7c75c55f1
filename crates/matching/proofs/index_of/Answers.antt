use mathlib.Core.Path.{refl, sym, ◌∙◌}
use native.Mathlib.Omega.{arith}
use Rattle.matching.specs.Sources.{before_low, indexing_begin, indexing_pass, indexing_mark, indexing_done}
use Rattle.matching.proofs.index_of.Goals as goal

pub loop-i-init : goal.loop-i-init
loop-i-init c = (omega arith, let e = c.row_count-rows.ensures in let m = c.requires.tables.sized.counts.rows in omega arith, c.row_count-rows.ensures, indexing_begin _ _ refl)

pub loop-i-smaller-then-starts_before : goal.loop-i-smaller-then-starts_before
loop-i-smaller-then-starts_before c = let l = before_low _ _ _ (sym c.starts_before.ensures ∙ c.if-starts_before.true) in omega arith

pub loop-i-preserved-then-starts_before : goal.loop-i-preserved-then-starts_before
loop-i-preserved-then-starts_before c = let v = c.loop-i.invariant in (v.0, v.1, v.2, indexing_pass _ _ _ _ v.3 (sym c.starts_before.ensures ∙ c.if-starts_before.true))

pub loop-i-smaller : goal.loop-i-smaller
loop-i-smaller c = let v = c.loop-i.invariant in let l = c.loop-i-test.true in let m = v.0 in omega arith

pub loop-i-preserved : goal.loop-i-preserved
loop-i-preserved c = let v = c.loop-i.invariant in let l = c.loop-i-test.true in let m = v.1 in (omega arith, v.1, v.2, indexing_mark _ _ c.requires.sound _ _ (omega arith) v.3 (sym c.starts_before.ensures ∙ c.if-starts_before.false))

pub returns : goal.returns
returns c = let v = c.loop-i.invariant in let e = v.2 in let l = c.loop-i-test.false in indexing_done _ _ _ _ (omega arith) v.3
