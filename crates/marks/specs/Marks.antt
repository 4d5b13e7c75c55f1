-- The marks of a text, one for each value and one for each tag, with offsets alone: what `next_mark` answers one by one. They are the tags of the
-- definition (Joined). What a byte marks depends on the place before it, its step, and the place behind it.
use Rattle.std.specs.Prelude.{Bool, true, false, cond, List, [], ◌∷◌, ℕ, ◌+◌}
use Rattle.grammar.specs.declared.Step.{Step}
use Rattle.grammar.specs.declared.Step.TheVariants.{Fault, Go, Open, Shut}
use Rattle.grammar.specs.Grammar.{attribute, owner, is_char, step_of, State, dead, live, next, start}
use Rattle.reading.specs.declared.Zone.{Zone}
use Rattle.reading.specs.declared.Zone.TheVariants as zones
use Rattle.reading.specs.Zones.{zone, landing, is_begun, is_value, element_in}
use Rattle.marks.specs.declared.Mark.{Mark}
use Rattle.marks.specs.declared.Mark.TheVariants.{Nothing, Valued, Tagged}

abbrev pub slash_mark : Zone → ℕ → ℕ → Mark
slash_mark zones.Outside at e = Nothing
slash_mark zones.Begun at e = Nothing
slash_mark (zones.InTag d) at e = Nothing
slash_mark (zones.InValue d j) at e = Nothing
slash_mark zones.Slash at e = Tagged at 1 e

-- the tag that a step ends: 0 <x>, 1 <x/>, 2 </x>
abbrev pub end_mark : Step → Zone → ℕ → ℕ → ℕ → Mark
end_mark Fault z t at e = Nothing
end_mark (Go p u) z t at e = slash_mark z at e
end_mark (Open u v) z t at e = Tagged at 0 e
end_mark Shut z t at e = Tagged at 2 (owner t)

-- a value ends where its zone is left
abbrev pub value_mark : Zone → ℕ → ℕ → ℕ → ℕ → Mark
value_mark y d j from i = cond (is_value y) Nothing (Valued d (attribute d j) from i)

abbrev pub mark_of : Step → Zone → ℕ → ℕ → ℕ → ℕ → ℕ → Mark
mark_of s zones.Outside t at e from i = end_mark s zones.Outside t at e
mark_of s zones.Begun t at e from i = end_mark s zones.Begun t at e
mark_of s (zones.InTag d) t at e from i = end_mark s (zones.InTag d) t at e
mark_of s (zones.InValue d j) t at e from i = value_mark (landing s) d j from i
mark_of s zones.Slash t at e from i = end_mark s zones.Slash t at e

abbrev pub marked : Mark → List Mark → List Mark
marked Nothing ms = ms
marked (Valued e w a b) ms = Valued e w a b ∷ ms
marked (Tagged a s e) ms = Tagged a s e ∷ ms

abbrev pub is_mark : Mark → Bool
is_mark Nothing = false
is_mark (Valued e w a b) = true
is_mark (Tagged a s e) = true

-- where a value begins and where its quote stands; 0 of a mark that is none
abbrev pub value_from : Mark → ℕ
value_from Nothing = 0
value_from (Valued e w a b) = a
value_from (Tagged a s e) = 0

abbrev pub value_to : Mark → ℕ
value_to Nothing = 0
value_to (Valued e w a b) = b
value_to (Tagged a s e) = 0

-- the last "<" before i or at it
abbrev pub began_at : Zone → ℕ → ℕ → ℕ
began_at y i at = cond (is_begun y) i at

unfoldable pub marks_from : State → ℕ → ℕ → ℕ → ℕ → List ℕ → List Mark
marks_from s at e from i [] = []
marks_from dead at e from i (b ∷ bs) = []
marks_from (live p t st) at e from i (b ∷ bs) =
    cond (is_char b)
    (marked (mark_of (step_of p t b) (zone p) t (began_at (landing (step_of p t b)) i at) (element_in (zone p) e) from i)
    (marks_from (next (live p t st) b) (began_at (landing (step_of p t b)) i at) (element_in (zone p) e) (cond (is_value (zone p)) from (i + 1)) (i + 1) bs))
    []

unfoldable pub marks_of : List ℕ → List Mark
marks_of text = marks_from start 0 48 0 0 text
