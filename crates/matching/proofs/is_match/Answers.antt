use Rattle.matching.specs.Events.{match_untriggered, match_triggered}
use mathlib.Core.Bool.{not}
use mathlib.Core.Path.{ap}
use Rattle.matching.proofs.is_match.Goals as goal

pub returns-then-not-is_triggered : goal.returns-then-not-is_triggered
returns-then-not-is_triggered c = match_untriggered _ _ _ _ _ _ c.is_triggered.ensures (ap not c.if-not-is_triggered.true)

pub returns : goal.returns
returns c = match_triggered _ _ _ _ _ _ _ _ c.is_triggered.ensures (ap not c.if-not-is_triggered.false) c.condition_of.ensures.is c.is_true.ensures
