use Rattle.names.specs.Bytes.{name_fills}
use Rattle.rules1.specs.Filled.{some_few}
use Rattle.rules1.proofs.filled.fits.Goals as goal

pub holds_name-requires : goal.holds_name-requires
holds_name-requires c = let f = some_few _ c.if-n.true in (c.requires, f.0, f.1)

pub returns-then-holds_name : goal.returns-then-holds_name
returns-then-holds_name c = name_fills _ _ c.filled-n.ensures (c.holds_name.ensures.named c.if-holds_name.true)
