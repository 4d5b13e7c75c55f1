-- What the call gives, as the definition has it.
use Rattle.std.specs.Prelude.{List, ℕ}
use Rattle.reading.specs.Calls.{Outcome}
use Rattle.read_text.specs.declared.hand_out.Read.{Read}

abbrev pub refused : ℕ → ℕ → Read
refused a at = record { answer = a; offset = at; cells = 0; bytes = 0 }

-- with both places behind the call
abbrev pub outcome_of : Read → List ℕ → List ℕ → Outcome
outcome_of r place name_place_is = record { answer = r.answer; offset = r.offset; cells = r.cells; bytes = r.bytes; numbers = place; names = name_place_is }
