use borrow.Author.Rules.{rules}
use Rattle.write_text.specs.Runs.{run_begin, run_cell, run_turn, run_leave, run_done}
use Rattle.write_text.proofs.runs.run_end.Goals as goal

pub loop-e-init : goal.loop-e-init
loop-e-init c = search (rules, run_begin)

pub source_of-source-requires : goal.source_of-source-requires
source_of-source-requires c = search (rules, run_cell)

pub returns-then-source-i : goal.returns-then-source-i
returns-then-source-i c = search (rules, run_leave)

pub loop-e-preserved : goal.loop-e-preserved
loop-e-preserved c = search (rules, run_turn)

pub returns : goal.returns
returns c = search (rules, run_done)
