use Rattle.rounds.proofs.running.stopped.Goals as goal

pub returns : goal.returns
returns c = rw c.status_of.ensures
