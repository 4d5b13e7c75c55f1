use Rattle.std.proofs.Common.{◌-◌, length, refl, arith}
use Rattle.std.proofs.lemmas.Grind.{common_steps}
use Rattle.values.specs.Notes.{forget_done}
use Rattle.values.proofs.noted.forget.Goals as goal

pub returns : goal.returns
returns c = forget_done c.args.ids.now _ (length c.args.ids.now - 1024) c.requires refl (grind (arith, common_steps))
