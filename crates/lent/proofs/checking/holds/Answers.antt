use borrow.Author.Rules.{rules}
use native.Mathlib.Omega.{arith}
use Rattle.laws.specs.Loops.{said_not_yes, said_not_no}
use Rattle.lent.specs.Lent.{lengths_fit_lem, no_lengths, judged}
use Rattle.state.specs.Numbers.{set_inside}
use mathlib.Core.Bool.{not}
use mathlib.Core.Path.{ap}
use Rattle.lent.proofs.checking.holds.Goals as goal

pub returns-then-not-lengths_fit : goal.returns-then-not-lengths_fit
returns-then-not-lengths_fit c = no_lengths _ c.requires.sound _ _ _ (said_not_yes _ _ c.lengths_fit.ensures (ap not c.if-not-lengths_fit.true))

pub bounds-numbers-1028 : goal.bounds-numbers-1028
bounds-numbers-1028 c = let l = (lengths_fit_lem c.args.numbers.now c.args.internal.now c.args.external.now (said_not_no _ _ c.lengths_fit.ensures (ap not c.if-not-lengths_fit.false))).numbers in omega arith

pub bounds-numbers-1029 : goal.bounds-numbers-1029
bounds-numbers-1029 c = let l = (lengths_fit_lem c.args.numbers.now c.args.internal.now c.args.external.now (said_not_no _ _ c.lengths_fit.ensures (ap not c.if-not-lengths_fit.false))).numbers in omega arith

pub bounds-numbers-1030 : goal.bounds-numbers-1030
bounds-numbers-1030 c = let l = (lengths_fit_lem c.args.numbers.now c.args.internal.now c.args.external.now (said_not_no _ _ c.lengths_fit.ensures (ap not c.if-not-lengths_fit.false))).numbers in omega arith

pub queue_fits-requires : goal.queue_fits-requires
queue_fits-requires c = record { size = (lengths_fit_lem c.args.numbers.now c.args.internal.now c.args.external.now (said_not_no _ _ c.lengths_fit.ensures (ap not c.if-not-lengths_fit.false))).internal }

pub queue_fits-requires-2 : goal.queue_fits-requires-2
queue_fits-requires-2 c = record { size = (lengths_fit_lem c.args.numbers.now c.args.internal.now c.args.external.now (said_not_no _ _ c.lengths_fit.ensures (ap not c.if-not-lengths_fit.false))).external }

pub set_at-conf-requires : goal.set_at-conf-requires
set_at-conf-requires c = set_inside _ (lengths_fit_lem c.args.numbers.now c.args.internal.now c.args.external.now (said_not_no _ _ c.lengths_fit.ensures (ap not c.if-not-lengths_fit.false))).numbers

pub slice_bounds-history_holds-end : goal.slice_bounds-history_holds-end
slice_bounds-history_holds-end c = let l = (lengths_fit_lem c.args.numbers.now c.args.internal.now c.args.external.now (said_not_no _ _ c.lengths_fit.ensures (ap not c.if-not-lengths_fit.false))).numbers in search rules

pub returns : goal.returns
returns c = judged _ _ _ _ _ _ _ _ _ c.requires (lengths_fit_lem c.args.numbers.now c.args.internal.now c.args.external.now (said_not_no _ _ c.lengths_fit.ensures (ap not c.if-not-lengths_fit.false))) (record { fits = λ k. (c.shared_slice_known-2-1.given k).fits }) c.set_at-conf.ensures c.queue_fits.ensures c.queue_fits-2.ensures c.mode_holds.ensures c.history_holds.ensures
