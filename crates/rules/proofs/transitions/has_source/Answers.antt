use Rattle.rules.proofs.transitions.has_source.Goals as goal

pub returns : goal.returns
returns c = rw (c.is_parallel.ensures, c.is_state.ensures, c.kind_of-kind.ensures, c.source_of.ensures.is)
