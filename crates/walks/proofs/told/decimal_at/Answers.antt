use Rattle.std.proofs.Common.{ap, not}
use borrow.Author.Rules.{rules}
use Rattle.walks.specs.Told.{decimal_none, decimal_room, decimal_is}
use Rattle.walks.proofs.told.decimal_at.Goals as goal

pub returns-then-not-stated : goal.returns-then-not-stated
returns-then-not-stated c = search (rules, decimal_none)

pub decimal_of-requires : goal.decimal_of-requires
decimal_of-requires c = decimal_room _ _ _ _ c.requires _ c.is_stated-stated.ensures _ _ c.value_from-from.ensures c.value_to-to.ensures (ap not c.if-not-stated.false)

pub returns : goal.returns
returns c = search (rules, decimal_is)
