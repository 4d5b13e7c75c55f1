use lib.ListN.{length-set}
use Rattle.tables.specs.Sets.{set_words}
use borrow.Author.Rules.{rules}
use native.Mathlib.Omega.{arith}
use Rattle.tables.proofs.sets.put_set.Goals as goal

pub bounds-sets-w-2 : goal.bounds-sets-w-2
bounds-sets-w-2 c = simp length-set (omega arith)

pub bounds-sets-w-3 : goal.bounds-sets-w-3
bounds-sets-w-3 c = simp length-set (omega arith)

pub bounds-sets-w-4 : goal.bounds-sets-w-4
bounds-sets-w-4 c = simp length-set (omega arith)

pub returns : goal.returns
returns c = set_words _ c.args.w c.args.s (record { fit0 = search rules; fit1 = search rules; fit2 = search rules; fit3 = search rules }) c.requires
