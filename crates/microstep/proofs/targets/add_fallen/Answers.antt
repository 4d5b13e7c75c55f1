use mathlib.Core.Path.{refl, ap, ◌∙◌}
use Rattle.definition.specs.Rows.{fold}
use Rattle.laws.specs.Passes.{pass_begin, pass_turn, pass_done}
use Rattle.rowset.specs.Member.{rows_of}
use Rattle.microstep.specs.Targets.{add_fell, fell_pass}
use Rattle.microstep.proofs.targets.add_fallen.Goals as goal

pub targets_of-targets-requires : goal.targets_of-targets-requires
targets_of-targets-requires c = record { tables = c.requires.round.store.ready.tables; below = c.requires.inside }

pub loop-i-init : goal.loop-i-init
loop-i-init c = pass_begin _ _ _ _ refl

pub row_at-x-requires : goal.row_at-x-requires
row_at-x-requires c = record { rows = c.targets_of-targets.ensures.within; below = c.loop-i-test.true }

pub add_fell-set-requires : goal.add_fell-set-requires
add_fell-set-requires c = (c.requires.round, c.row_at-x.ensures.row.below)

pub loop-i-preserved : goal.loop-i-preserved
loop-i-preserved c = pass_turn _ _ _ _ _ _ c.loop-i-test.true c.loop-i.invariant (c.add_fell-set.ensures ∙ ap (add_fell _ _ (rows_of c.loop-i.set)) c.row_at-x.ensures.is)

pub returns : goal.returns
returns c = pass_done _ _ _ _ _ c.loop-i-test.false c.loop-i.invariant ∙ ap (fold _ (rows_of c.args.before)) c.targets_of-targets.ensures.is ∙ fell_pass _ _ _ _
