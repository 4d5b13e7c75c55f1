use borrow.Author.Rules.{rules}
use mathlib.Core.Path.{sym, ◌∙◌}
use Rattle.laws.specs.Loops.{said-laws}
use Rattle.tables.specs.Ranges.{rule1_tables, rule1_slots}
use Rattle.rules.specs.Verdict.{verdict-laws}
use Rattle.rules3.specs.Parents.{tree_kept}
use Rattle.rules.proofs.verdict.Goals as goal

pub returns-then-not-keeps_sizes : goal.returns-then-not-keeps_sizes
returns-then-not-keeps_sizes c = search (rules, said-laws, verdict-laws)

pub keeps_names-requires : goal.keeps_names-requires
keeps_names-requires c = (rule1_tables _ _ _ _ (sym c.keeps_sizes.ensures ∙ c.if-not-keeps_sizes.false), rule1_slots _ _ _ _ (sym c.keeps_sizes.ensures ∙ c.if-not-keeps_sizes.false))

pub returns-then-not-keeps_names : goal.returns-then-not-keeps_names
returns-then-not-keeps_names c = search (rules, said-laws, verdict-laws)

pub keeps_tree-requires : goal.keeps_tree-requires
keeps_tree-requires c = rule1_tables _ _ _ _ (sym c.keeps_sizes.ensures ∙ c.if-not-keeps_sizes.false)

pub returns-then-not-keeps_tree : goal.returns-then-not-keeps_tree
returns-then-not-keeps_tree c = search (rules, said-laws, verdict-laws)

pub keeps_lists-requires : goal.keeps_lists-requires
keeps_lists-requires c = let k = sym c.keeps_tree.ensures ∙ c.if-not-keeps_tree.false in (tree_kept _ (rule1_tables _ _ _ _ (sym c.keeps_sizes.ensures ∙ c.if-not-keeps_sizes.false)) k, k)

pub returns-then-not-keeps_lists : goal.returns-then-not-keeps_lists
returns-then-not-keeps_lists c = search (rules, said-laws, verdict-laws)

pub keeps_transitions-requires : goal.keeps_transitions-requires
keeps_transitions-requires c = rule1_tables _ _ _ _ (sym c.keeps_sizes.ensures ∙ c.if-not-keeps_sizes.false)

pub returns-then-not-keeps_transitions : goal.returns-then-not-keeps_transitions
returns-then-not-keeps_transitions c = search (rules, said-laws, verdict-laws)

pub returns : goal.returns
returns c = search (rules, said-laws, verdict-laws)
