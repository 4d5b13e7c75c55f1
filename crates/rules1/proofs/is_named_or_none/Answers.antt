use Rattle.tables.specs.Ranges.{optional_below_lem}
use Rattle.rules1.specs.Raises.{none_named, other_named}
use Rattle.rules1.proofs.is_named_or_none.Goals as goal

pub returns-then-n-eq-NO_NUMBER : goal.returns-then-n-eq-NO_NUMBER
returns-then-n-eq-NO_NUMBER c = none_named _ _ c.if-n-eq-NO_NUMBER.true

pub is_named-requires : goal.is_named-requires
is_named-requires c = (c.requires.0, c.requires.1, optional_below_lem _ _ c.requires.2 c.if-n-eq-NO_NUMBER.false)

pub returns : goal.returns
returns c = other_named _ _ _ c.if-n-eq-NO_NUMBER.false c.is_named.ensures
