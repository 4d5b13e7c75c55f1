use borrow.Author.Rules.{rules}
use Rattle.write_text.specs.Runs.{run_text_begin, run_text_small, run_text_in, run_text_turn, run_text_end}
use Rattle.write_text.proofs.runs.lay_transitions.Goals as goal

pub loop-k-init : goal.loop-k-init
loop-k-init c = search (rules, run_text_begin)

pub overflow_cast-k : goal.overflow_cast-k
overflow_cast-k c = search (rules, run_text_small)

pub lay_transition-next-requires : goal.lay_transition-next-requires
lay_transition-next-requires c = search (rules, run_text_in)

pub loop-k-preserved : goal.loop-k-preserved
loop-k-preserved c = search (rules, run_text_turn)

pub returns : goal.returns
returns c = search (rules, run_text_end)
