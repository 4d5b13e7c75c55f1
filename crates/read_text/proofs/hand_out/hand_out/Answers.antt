use borrow.Author.Rules.{rules}
use Rattle.read_text.specs.Hand.{hand_short, hand_narrow, hand_refused, hand_tables}
use Rattle.read_text.proofs.hand_out.hand_out.Goals as goal

pub returns-then-place-size : goal.returns-then-place-size
returns-then-place-size c = search (rules, hand_short)

pub returns-then-name_place-bytes : goal.returns-then-name_place-bytes
returns-then-name_place-bytes c = search (rules, hand_narrow)

pub returns-then-answer-ne0 : goal.returns-then-answer-ne0
returns-then-answer-ne0 c = search (rules, hand_refused)

pub returns : goal.returns
returns c = hand_tables _ _ _ _ _ _ c.requires _ _ c.if-place-size.false c.if-name_place-bytes.false _ c.lay_names.ensures _ _ c.keeps_rules.ensures c.answer_number-answer.ensures c.if-answer-ne0.false _ _ c.copy_first.ensures c.copy_first-2.ensures
