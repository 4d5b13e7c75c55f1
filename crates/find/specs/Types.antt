-- Types that stand without an entity.
use Rattle.std.specs.Prelude.{◌≡◌, refl, Bool, List, ℕ}
use Rattle.std.proofs.Common.{sym, ◌∙◌}
use Rattle.definition.specs.Rows.{same}
use Rattle.values.specs.Plain.{is_clear, plain_same}
use Rattle.reading.specs.Faults.{plain, deep, internal}

pub deep_so : (v : List ℕ) (r : Bool) → r ≡ same v deep → r ≡ same (plain v) deep
unfolding is_clear
deep_so v r e = e ∙ sym (plain_same v deep refl)

pub internal_so : (v : List ℕ) (r : Bool) → r ≡ same v internal → r ≡ same (plain v) internal
unfolding is_clear
internal_so v r e = e ∙ sym (plain_same v internal refl)
