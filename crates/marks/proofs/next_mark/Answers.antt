use Rattle.std.proofs.Common.{arith}
use borrow.Author.Rules.{rules}
use Rattle.marks.specs.Walks.{walk_start}
use Rattle.marks.specs.Strides.{walk_leaps, stop_dead, stop_end, leap_end, leap_ready, leap_found, leap_more, leap_less}
use Rattle.marks.proofs.next_mark.Goals as goal

pub loop-i-init : goal.loop-i-init
loop-i-init c = search (rules, walk_start)

pub returns-in_default : goal.returns-in_default
returns-in_default c = search (rules, stop_dead)

pub stride-s-requires : goal.stride-s-requires
stride-s-requires c = search (rules, walk_leaps)

pub returns-then-text-j : goal.returns-then-text-j
returns-then-text-j c = search (rules, leap_end)

pub note_byte-next-requires : goal.note_byte-next-requires
note_byte-next-requires c = search (rules, leap_ready)

pub returns-then-is_mark : goal.returns-then-is_mark
returns-then-is_mark c =
    leap_found c.args.text.now c.args.stack.now c.args.walk c.loop-i.stack c.loop-i.w c.loop-i.i c.loop-i.invariant c.in-Some.cursor c.in-Some.is c.stride-s.result c.stride-s.ensures c.note_byte-next.new.stack c.note_byte-next.result (omega arith) c.note_byte-next.ensures c.is_mark.result c.is_mark.ensures c.if-is_mark.true

pub loop-i-smaller : goal.loop-i-smaller
loop-i-smaller c = search (rules, leap_less)

pub loop-i-preserved : goal.loop-i-preserved
loop-i-preserved c =
    leap_more c.args.text.now c.args.stack.now c.args.walk c.loop-i.stack c.loop-i.w c.loop-i.i c.loop-i.invariant c.in-Some.cursor c.in-Some.is c.stride-s.result c.stride-s.ensures c.note_byte-next.new.stack c.note_byte-next.result (omega arith) c.note_byte-next.ensures c.is_mark.result c.is_mark.ensures c.if-is_mark.false

pub returns : goal.returns
returns c = search (rules, stop_end)
