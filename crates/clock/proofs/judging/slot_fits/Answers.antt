use Rattle.clock.specs.Judging.{blank_fits, name_tested}
use Rattle.clock.proofs.judging.slot_fits.Goals as goal

pub returns-then-blanks-is_blank : goal.returns-then-blanks-is_blank
returns-then-blanks-is_blank c = let a = c in blank_fits a.args.blanks a.args.slot.now _ c.is_blank.ensures c.if-blanks-is_blank.true

pub returns : goal.returns
returns c = let a = c in name_tested a.args.blanks a.args.slot.now _ _ c.is_blank.ensures c.if-blanks-is_blank.false c.slot_names.ensures
