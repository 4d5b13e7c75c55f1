use mathlib.Core.Path.{ap}
use mathlib.Core.Bool.{not}
use Rattle.laws.specs.Loops.{said_not_yes, said_not_no}
use Rattle.tables.specs.Ranges.{rule1_tables, rule1_slots}
use Rattle.rules.specs.Verdict.{three_1, three_2, three_3}
use Rattle.rules.proofs.keeps_tables.Goals as goal

pub returns-then-not-keeps_sizes : goal.returns-then-not-keeps_sizes
returns-then-not-keeps_sizes c = three_1 _ _ _ _ (said_not_yes _ _ c.keeps_sizes.ensures (ap not c.if-not-keeps_sizes.true))

pub keeps_names-requires : goal.keeps_names-requires
keeps_names-requires c = let h = said_not_no _ _ c.keeps_sizes.ensures (ap not c.if-not-keeps_sizes.false) in (rule1_tables _ _ _ _ h, rule1_slots _ _ _ _ h)

pub returns-then-not-keeps_names : goal.returns-then-not-keeps_names
returns-then-not-keeps_names c = three_2 _ _ _ _ (said_not_no _ _ c.keeps_sizes.ensures (ap not c.if-not-keeps_sizes.false)) (said_not_yes _ _ c.keeps_names.ensures (ap not c.if-not-keeps_names.true))

pub keeps_tree-requires : goal.keeps_tree-requires
keeps_tree-requires c = rule1_tables _ _ _ _ (said_not_no _ _ c.keeps_sizes.ensures (ap not c.if-not-keeps_sizes.false))

pub returns : goal.returns
returns c =
    three_3 _ _ _ _ _ (said_not_no _ _ c.keeps_sizes.ensures (ap not c.if-not-keeps_sizes.false)) (said_not_no _ _ c.keeps_names.ensures (ap not c.if-not-keeps_names.false)) c.keeps_tree.ensures
