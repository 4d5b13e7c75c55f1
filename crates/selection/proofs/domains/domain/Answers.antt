use borrow.Author.Rules.{rules}
use Rattle.selection.specs.Domain.{domain_is}
use Rattle.selection.proofs.domains.domain.Goals as goal

pub returns : goal.returns
returns c = record { is = search (rules, domain_is); row = search rules }
