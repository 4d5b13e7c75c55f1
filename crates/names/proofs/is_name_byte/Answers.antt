-- `is_name_byte`: a bit for each of the first 128 bytes.
use native.Mathlib.Omega.{arith}
use Rattle.names.specs.Bytes.{low_byte, high_byte, no_byte}
use Rattle.names.proofs.is_name_byte.Goals as goal

pub returns-then-b-lt64 : goal.returns-then-b-lt64
returns-then-b-lt64 c = low_byte _ (omega arith)

pub returns-then-b-lt128 : goal.returns-then-b-lt128
returns-then-b-lt128 c = high_byte _ (omega arith) (omega arith)

pub returns : goal.returns
returns c = no_byte _ (omega arith)
