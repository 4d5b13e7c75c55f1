use Rattle.chart.proofs.is_domain_kind.Goals as goal

pub returns : goal.returns
returns c = c.has_initial.ensures
