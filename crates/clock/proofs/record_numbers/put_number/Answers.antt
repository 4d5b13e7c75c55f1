use mathlib.Core.Path.{◌∙◌}
use Rattle.clock.specs.Numbers.{number_put, bytes_written}
use Rattle.clock.proofs.record_numbers.put_number.Goals as goal

pub returns : goal.returns
returns c = let a = c.args in number_put a.place.now a.at _ _ (c.copy_from_slice.ensures.after ∙ c.to_le_bytes-bytes.ensures ∙ bytes_written a.n)
