use borrow.Author.Rules.{rules}
use Rattle.walks.specs.Acts.{act_event, act_sendid, act_id, act_label, act_delay, act_cond, is_raise, is_log, is_if_lem, is_elseif, is_else, is_send, is_cancel}
use Rattle.walks.proofs.acts.act_cells.Goals as goal

pub place_at-requires : goal.place_at-requires
place_at-requires c = search (rules, act_event)

pub returns-then-element-eq9 : goal.returns-then-element-eq9
returns-then-element-eq9 c = search (rules, is_raise)

pub decimal_at-requires : goal.decimal_at-requires
decimal_at-requires c = search (rules, act_label)

pub returns-then-element-eq10 : goal.returns-then-element-eq10
returns-then-element-eq10 c = search (rules, is_log)

pub row_at-requires : goal.row_at-requires
row_at-requires c = search (rules, act_cond)

pub returns-then-element-eq12 : goal.returns-then-element-eq12
returns-then-element-eq12 c = search (rules, is_if_lem)

pub row_at-requires-then-element-eq14 : goal.row_at-requires-then-element-eq14
row_at-requires-then-element-eq14 c = search (rules, act_cond)

pub returns-then-element-eq14 : goal.returns-then-element-eq14
returns-then-element-eq14 c = search (rules, is_elseif)

pub returns-then-element-eq13 : goal.returns-then-element-eq13
returns-then-element-eq13 c = search (rules, is_else)

pub place_at-event-requires : goal.place_at-event-requires
place_at-event-requires c = search (rules, act_event)

pub decimal_at-delay-requires : goal.decimal_at-delay-requires
decimal_at-delay-requires c = search (rules, act_delay)

pub place_or_none-id-requires : goal.place_or_none-id-requires
place_or_none-id-requires c = search (rules, act_id)

pub returns-then-element-eq15 : goal.returns-then-element-eq15
returns-then-element-eq15 c = search (rules, is_send)

pub place_at-requires-2 : goal.place_at-requires-2
place_at-requires-2 c = search (rules, act_sendid)

pub returns : goal.returns
returns c = search (rules, is_cancel)
