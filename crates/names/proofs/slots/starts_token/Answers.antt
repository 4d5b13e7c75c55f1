-- `starts_token`: by the first byte.
use Rattle.std.proofs.Common.{sym, arith}
use Rattle.names.specs.Matching.{token_none, token_at}
use Rattle.names.proofs.slots.starts_token.Goals as goal

pub returns-in-empty : goal.returns-in-empty
returns-in-empty c = token_none _ (omega arith)

pub returns-in-len1-up : goal.returns-in-len1-up
returns-in-len1-up c = sym (token_at _ (omega arith))
