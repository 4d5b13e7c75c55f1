use borrow.Author.Rules.{rules}
use Rattle.lent.specs.Lent.{checks_checked}
use Rattle.calls.specs.Reading.{post_part, run_rounds, started_did, posted_did, ran_did, clocked_did}
use Rattle.calls.proofs.performing.perform_call.Goals as goal

pub start_checked-started-requires : goal.start_checked-started-requires
start_checked-started-requires c = ((checks_checked _ _ _ _ _ c.requires.0).of_chart, c.requires.1)

pub returns-then-kind-eq-START : goal.returns-then-kind-eq-START
returns-then-kind-eq-START c = rw c.gives.ensures (started_did _ _ _ _ _ _ _ _ _ _ c.start_checked-started.result _ _ _ c.if-kind-eq-START.true c.start_checked-started.ensures c.answer_number.ensures)

pub slice_bounds-name-count : goal.slice_bounds-name-count
slice_bounds-name-count c = (post_part _ _ _ _ c.requires.2 c.if-kind-eq-POST.true).0

pub slice_bounds-name-start : goal.slice_bounds-name-start
slice_bounds-name-start c = let p = post_part _ _ _ _ c.requires.2 c.if-kind-eq-POST.true in search rules

pub slice_bounds-name-end : goal.slice_bounds-name-end
slice_bounds-name-end c = let p = post_part _ _ _ _ c.requires.2 c.if-kind-eq-POST.true in search rules

pub post_checked-answer-requires : goal.post_checked-answer-requires
post_checked-answer-requires c = checks_checked _ _ _ _ _ c.requires.0

pub returns-then-kind-eq-POST : goal.returns-then-kind-eq-POST
returns-then-kind-eq-POST c = rw c.gives-then-kind-eq-POST.ensures (posted_did _ _ _ _ _ _ _ _ _ _ _ _ c.if-kind-eq-POST.true c.post_checked-answer.ensures c.answer_number-then-kind-eq-POST.ensures)

pub overflow_cast-a : goal.overflow_cast-a
overflow_cast-a c = let l = run_rounds _ _ _ _ c.requires.2 c.if-kind-eq-RUN.true in search rules

pub run_checked-ran-requires : goal.run_checked-ran-requires
run_checked-ran-requires c = c.requires.0

pub returns-then-kind-eq-RUN : goal.returns-then-kind-eq-RUN
returns-then-kind-eq-RUN c = rw c.gives-then-kind-eq-RUN.ensures (ran_did _ _ _ _ _ _ _ _ _ _ c.run_checked-ran.result _ _ _ c.if-kind-eq-RUN.true c.run_checked-ran.ensures c.status_number.ensures)

pub clock_checked-answer-requires : goal.clock_checked-answer-requires
clock_checked-answer-requires c = c.requires.0

pub returns : goal.returns
returns c = rw c.gives-2.ensures (clocked_did _ _ _ _ _ _ _ _ _ _ _ _ _ c.if-kind-eq-START.false c.if-kind-eq-POST.false c.if-kind-eq-RUN.false c.clock_checked-answer.ensures c.answer_number-2.ensures)
