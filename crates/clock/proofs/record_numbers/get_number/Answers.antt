use native.Mathlib.Omega.{arith}
use Rattle.clock.specs.Numbers.{number_read}
use Rattle.clock.proofs.record_numbers.get_number.Goals as goal

pub returns : goal.returns
returns c = number_read c.args.place.now _ c.args.at _ (λ k. omega (arith, c.type_inv.place k)) c.requires c.copy_from_slice.ensures.after c.from_le_bytes.ensures
