-- The number that each of the three types holds. A function of one type takes none of the others.
use Rattle.std.specs.Prelude.{ℕ}
use Rattle.numbers.specs.declared.Row.{Row}
use Rattle.numbers.specs.declared.Transition.{Transition}
use Rattle.numbers.specs.declared.NameNumber.{NameNumber}

abbrev pub row_no : Row → ℕ
row_no r = r.0

abbrev pub transition_no : Transition → ℕ
transition_no t = t.0

abbrev pub name_no : NameNumber → ℕ
name_no n = n.0
