use borrow.Author.Rules.{rules}
use Rattle.gather.specs.Faults.{part_xmlns, part_version, part_type, part_label, part_delay, part_cond, part_names}
use Rattle.gather.proofs.faults.part_fault.Goals as goal

pub returns-then-word-eq24 : goal.returns-then-word-eq24
returns-then-word-eq24 c = search (rules, part_xmlns)

pub returns-then-word-eq25 : goal.returns-then-word-eq25
returns-then-word-eq25 c = search (rules, part_version)

pub returns-then-word-eq28 : goal.returns-then-word-eq28
returns-then-word-eq28 c = search (rules, part_type)

pub returns-then-word-eq32 : goal.returns-then-word-eq32
returns-then-word-eq32 c = search (rules, part_label)

pub returns-then-word-eq33 : goal.returns-then-word-eq33
returns-then-word-eq33 c = search (rules, part_delay)

pub returns-then-word-eq30 : goal.returns-then-word-eq30
returns-then-word-eq30 c = search (rules, part_cond)

pub returns : goal.returns
returns c = search (rules, part_names)
