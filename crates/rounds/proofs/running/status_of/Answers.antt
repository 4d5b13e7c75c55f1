use mathlib.Core.Path.{sym, ap}
use Rattle.rounds.specs.Turns.{status_of}
use Rattle.rounds.proofs.running.status_of.Goals as goal

pub returns-in-Idle : goal.returns-in-Idle
unfolding status_of
returns-in-Idle c = sym (ap status_of c.in-Idle.is)

pub returns-in-Over : goal.returns-in-Over
unfolding status_of
returns-in-Over c = sym (ap status_of c.in-Over.is)

pub returns-in-Refused : goal.returns-in-Refused
unfolding status_of
returns-in-Refused c = sym (ap status_of c.in-Refused.is)

pub returns-in-Did : goal.returns-in-Did
unfolding status_of
returns-in-Did c = sym (ap status_of c.in-Did.is)
