-- `bare`: as Matching has it, by the last two bytes.
use Rattle.names.specs.Matching.{bare_cut, bare_whole}
use Rattle.names.proofs.bare.Goals as goal

pub returns-in-Some : goal.returns-in-Some
returns-in-Some c = let h = c.in-Some.ensures.cases in bare_cut _ _ h.0 h.1 h.2

pub returns-in-None : goal.returns-in-None
returns-in-None c = bare_whole _ c.in-None.ensures.cases
