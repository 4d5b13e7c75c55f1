use Rattle.std.proofs.Common.{arith, length-take}
use borrow.Author.Rules.{rules}
use Rattle.std.proofs.lemmas.Result.{err_from_is_err_and}
use Rattle.reader.specs.Judged.{judge_head, head_faulty, head_whole, judge_outside, judge_fault, judge_well}
use Rattle.reader.proofs.judge.Goals as goal

pub gather_ids-requires : goal.gather_ids-requires
gather_ids-requires c = search (rules, judge_head)

pub returns-in_err-gather_ids : goal.returns-in_err-gather_ids
returns-in_err-gather_ids c =
    let p = err_from_is_err_and c.from_residual.result c.from_residual.ensures.1 in
    rw (p.1, p.2) (head_faulty _ c.if-text-gt32768.true _ c.in_err-gather_ids.ensures.1)

pub returns-then-text-gt32768 : goal.returns-then-text-gt32768
returns-then-text-gt32768 c = head_whole _ c.if-text-gt32768.true c.in_ok-gather_ids.ensures.1

pub returns-in_err-n : goal.returns-in_err-n
returns-in_err-n c =
    let p = err_from_is_err_and c.from_residual-in_err-n.result c.from_residual-in_err-n.ensures.1 in
    rw (p.1, p.2) (judge_outside _ _ c.in_err-n.ensures.1)

pub returns-in-None : goal.returns-in-None
returns-in-None c = judge_well _ c.in_ok-n.ensures.1 _ _ _ _ c.first_fault.ensures c.in-None.is

pub returns-in-Some : goal.returns-in-Some
returns-in-Some c = judge_fault _ c.in_ok-n.ensures.1 _ _ _ _ c.first_fault.ensures _ c.in-Some.is

pub slice_bounds-gather_ids-end : goal.slice_bounds-gather_ids-end
slice_bounds-gather_ids-end c = simp length-take (omega arith)
