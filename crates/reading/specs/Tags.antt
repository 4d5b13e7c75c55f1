-- The tags of a text, found by the grammar's own steps: what a step notes depends on the place before it, the byte, and the place behind it.
use Rattle.std.specs.Prelude.{Bool, true, false, not, ◌&&◌, cond, List, [], ◌∷◌, ◌++◌, ℕ, ◌+◌}
use Rattle.grammar.specs.declared.Step.{Step}
use Rattle.grammar.specs.declared.Step.TheVariants.{Fault, Go, Open, Shut}
use Rattle.grammar.specs.Grammar.{attribute, owner, is_char, step_of, State, dead, live, next, start}
use Rattle.reading.specs.declared.Zone.{Zone}
use Rattle.reading.specs.declared.Zone.TheVariants as zones
use Rattle.reading.specs.Zones.{zone, landing, is_begun, is_value, element_in}

-- an attribute as it stands: its element, the word of its name, the offset of its value's first byte, the bytes between the quotes
pub record Part : Type 0 where
  pub element : ℕ
  pub word : ℕ
  pub from : ℕ
  pub bytes : List ℕ

-- <x ..>, <x ../>, </x>
pub data Shape : Type 0 where
  opening : Shape
  empty : Shape
  closing : Shape

-- a tag: the offset of its "<", its element, its attributes in the order of the text
pub record Markup : Type 0 where
  pub at : ℕ
  pub shape : Shape
  pub element : ℕ
  pub parts : List Part

abbrev pub is_slash : Zone → Bool
is_slash zones.Outside = false
is_slash zones.Begun = false
is_slash (zones.InTag e) = false
is_slash (zones.InValue e j) = false
is_slash zones.Slash = true

-- the word of the attribute whose value the place is in
abbrev pub word_in : Zone → ℕ
word_in zones.Outside = 48
word_in zones.Begun = 48
word_in (zones.InTag e) = 48
word_in (zones.InValue e j) = attribute e j
word_in zones.Slash = 48

-- the tag so far, and the value so far with the offset of its first byte
pub record Draft : Type 0 where
  pub at : ℕ
  pub element : ℕ
  pub parts : List Part
  pub from : ℕ
  pub bytes : List ℕ

-- a value that has ended is a part of its tag
abbrev pub parts_of : Zone → Zone → Draft → List Part
parts_of z y d = cond (is_value z && not (is_value y)) (d.parts ++ (record { element = element_in z 48; word = word_in z; from = d.from; bytes = d.bytes }) ∷ []) d.parts

-- the byte b at offset i led from z to y
unfoldable pub noted : Zone → Zone → ℕ → ℕ → Draft → Draft
noted z y i b d = record {
  at = cond (is_begun y) i d.at;
  element = element_in z d.element;
  parts = parts_of z y d;
  from = cond (is_value z) d.from (i + 1);
  bytes = cond (is_value z && is_value y) (d.bytes ++ b ∷ []) [];
}

abbrev pub markup : Shape → ℕ → Draft → Markup
markup s e d = record { at = d.at; shape = s; element = e; parts = d.parts }

-- the tag that a step ends, if it ends one: an end tag has no attributes
unfoldable pub emitted : Step → Zone → ℕ → Draft → List Markup
emitted Fault z t d = []
emitted (Go p u) z t d = cond (is_slash z) (markup empty d.element d ∷ []) []
emitted (Open u v) z t d = markup opening d.element d ∷ []
emitted Shut z t d = markup closing (owner t) d ∷ []

-- a tag that has ended leaves no part to the next
abbrev pub kept : Step → Zone → List Part → List Part
kept Fault z ps = ps
kept (Go p u) z ps = cond (is_slash z) [] ps
kept (Open u v) z ps = []
kept Shut z ps = []

abbrev pub behind : Step → Zone → Draft → Draft
behind s z d = record { at = d.at; element = d.element; parts = kept s z d.parts; from = d.from; bytes = d.bytes }

-- the tags from the byte at offset i on, of which d is begun
unfoldable pub tags_from : State → Draft → ℕ → List ℕ → List Markup
tags_from s d i [] = []
tags_from dead d i (b ∷ bs) = []
tags_from (live p t st) d i (b ∷ bs) =
    let s = step_of p t b in
    let e = noted (zone p) (landing s) i b d in
    cond (is_char b) (emitted s (zone p) t e ++ tags_from (next (live p t st) b) (behind s (zone p) e) (i + 1) bs) []

abbrev pub no_draft : Draft
no_draft = record { at = 0; element = 48; parts = []; from = 0; bytes = [] }

-- the tags of a text, comments and white space left out
unfoldable pub tags_of : List ℕ → List Markup
tags_of text = tags_from start no_draft 0 text
