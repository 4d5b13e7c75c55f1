use borrow.Author.Rules.{rules}
use Rattle.walks.specs.Acts.{act_first, act_second, act_third, act_fourth, act_filed}
use Rattle.walks.proofs.acts.file_act.Goals as goal

pub file_item-requires : goal.file_item-requires
file_item-requires c = search (rules, act_first)

pub file_item-requires-2 : goal.file_item-requires-2
file_item-requires-2 c = search (rules, act_second)

pub file_item-requires-3 : goal.file_item-requires-3
file_item-requires-3 c = act_third _ _ _ c.args.a _ _ c.requires.able _ _ c.file_item.ensures _ _ c.file_item-2.ensures

pub file_item-requires-4 : goal.file_item-requires-4
file_item-requires-4 c = act_fourth _ _ _ c.args.a _ _ c.requires.able _ _ c.file_item.ensures _ _ c.file_item-2.ensures _ _ c.file_item-3.ensures

pub returns : goal.returns
returns c = act_filed _ _ _ c.args.a _ _ c.requires.able _ _ c.file_item.ensures _ _ c.file_item-2.ensures _ _ c.file_item-3.ensures _ _ c.file_item-4.ensures
