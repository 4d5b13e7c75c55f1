use borrow.Author.Rules.{rules}
use mathlib.Core.Path.{refl}
use Rattle.effects.specs.Trace.{wrote_length, wrote_joins}
use Rattle.effects.specs.Kinds.{sent_wrote}
use Rattle.effects.proofs.writing.emit_sent.Goals as goal

pub returns : goal.returns
returns c = sent_wrote _ _ _ _ _ _ refl refl refl _ _ _ c.put.ensures c.put_timer.ensures

pub shape_of-trace : goal.shape_of-trace
shape_of-trace c = wrote_length _ _ _ _ _ (returns c)

pub shape_of-joins : goal.shape_of-joins
shape_of-joins c = wrote_joins _ _ _ _ _ (returns c)

pub put_timer-requires : goal.put_timer-requires
put_timer-requires c = let m = c.requires.1.timers in search rules
