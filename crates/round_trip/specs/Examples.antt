-- The call that writes a chart, computed (R-4): buffers of just the text's length, of more, of one less and of none, and a chart that is refused. The text
-- was spelt as docs/grammar.md has it, not by the definitions.
use Rattle.std.specs.Prelude.{◌≡◌, refl, List, [], ◌∷◌, ◌++◌, ℕ, replicate}
use Rattle.reading.specs.Layout.{names_of}
use Rattle.writing.specs.Calls.{text_of, outcome, call_of}
use Rattle.texts.specs.Opened.{everything}

-- <scxml><state id='a'/></scxml>
abbrev rows : List ℕ
rows =
    2 ∷ 0 ∷ 0 ∷ 0 ∷ 0 ∷ 1 ∷ 0 ∷ 65535 ∷ 65535 ∷ 0 ∷ 0 ∷ 0 ∷ 0 ∷ 0 ∷ 0 ∷ 0 ∷ 0 ∷ 1 ∷ 0 ∷ 0 ∷ 0 ∷ 0 ∷ 0 ∷ 0 ∷ 0 ∷ 0 ∷
    0 ∷ 0 ∷ []

abbrev names : List ℕ
names = names_of ((97 ∷ []) ∷ [])

-- <scxml xmlns="http://www.w3.org/2005/07/scxml" version="1.0"><state id="a"/></scxml>
abbrev text : List ℕ
text =
    60 ∷ 115 ∷ 99 ∷ 120 ∷ 109 ∷ 108 ∷ 32 ∷ 120 ∷ 109 ∷ 108 ∷ 110 ∷ 115 ∷ 61 ∷ 34 ∷ 104 ∷ 116 ∷ 116 ∷ 112 ∷ 58 ∷ 47 ∷ 47 ∷ 119 ∷ 119 ∷ 119 ∷ 46 ∷ 119 ∷
    51 ∷ 46 ∷ 111 ∷ 114 ∷ 103 ∷ 47 ∷ 50 ∷ 48 ∷ 48 ∷ 53 ∷ 47 ∷ 48 ∷ 55 ∷ 47 ∷ 115 ∷ 99 ∷ 120 ∷ 109 ∷ 108 ∷ 34 ∷ 32 ∷ 118 ∷ 101 ∷ 114 ∷ 115 ∷ 105 ∷
    111 ∷ 110 ∷ 61 ∷ 34 ∷ 49 ∷ 46 ∷ 48 ∷ 34 ∷ 62 ∷ 60 ∷ 115 ∷ 116 ∷ 97 ∷ 116 ∷ 101 ∷ 32 ∷ 105 ∷ 100 ∷ 61 ∷ 34 ∷ 97 ∷ 34 ∷ 47 ∷ 62 ∷ 60 ∷ 47 ∷
    115 ∷ 99 ∷ 120 ∷ 109 ∷ 108 ∷ 62 ∷ []

-- just the length
pub just_fits : call_of rows names (replicate 84 7) ≡ record { answer = 0; length = 84; buffer = text }
unfolding everything call_of text_of outcome
just_fits = refl

-- two bytes more: they keep what they held
pub bytes_behind : call_of rows names (replicate 86 7) ≡ record { answer = 0; length = 84; buffer = text ++ 7 ∷ 7 ∷ [] }
unfolding everything call_of text_of outcome
bytes_behind = refl

-- "If the text does not fit the lent buffer" (4.7): one byte less, and none
pub one_less : call_of rows names (replicate 83 7) ≡ record { answer = 13; length = 84; buffer = replicate 83 7 }
unfolding everything call_of text_of outcome
one_less = refl

pub no_buffer : call_of rows names [] ≡ record { answer = 13; length = 84; buffer = [] }
unfolding everything call_of text_of outcome
no_buffer = refl

-- "a refused chart still gets 1 to 5 first" (4.8): a state in a final breaks rule 3, and the buffer is too short besides
abbrev rows_in_final : List ℕ
rows_in_final =
    3 ∷ 0 ∷ 0 ∷ 0 ∷ 0 ∷ 2 ∷ 0 ∷ 65535 ∷ 65535 ∷ 0 ∷ 0 ∷ 0 ∷ 0 ∷ 0 ∷ 0 ∷ 0 ∷ 0 ∷ 3 ∷ 0 ∷ 0 ∷ 0 ∷ 0 ∷ 0 ∷ 0 ∷ 0 ∷ 0 ∷
    0 ∷ 0 ∷ 1 ∷ 1 ∷ 1 ∷ 0 ∷ 0 ∷ 0 ∷ 0 ∷ 0 ∷ 0 ∷ 0 ∷ 0 ∷ []

pub refused_first : call_of rows_in_final (names_of ((97 ∷ []) ∷ (98 ∷ []) ∷ [])) [] ≡ record { answer = 3; length = 0; buffer = [] }
unfolding everything call_of text_of outcome
refused_first = refl
