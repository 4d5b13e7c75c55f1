-- Tags from marks: the code answers marks, one a call, with offsets alone; the tags of the definition carry the bytes.
use Rattle.std.specs.Prelude.{List, [], ◌∷◌, ◌++◌, ℕ, zero, suc, ◌-◌, take, drop}
use Rattle.marks.specs.declared.Mark.{Mark}
use Rattle.marks.specs.declared.Mark.TheVariants.{Nothing, Valued, Tagged}
use Rattle.reading.specs.Tags.{Part, Shape, opening, empty, closing, Markup}

abbrev pub shape_of : ℕ → Shape
shape_of zero = opening
shape_of (suc zero) = empty
shape_of (suc (suc n)) = closing

-- the bytes of the text from a on, before b
abbrev pub bytes_from : List ℕ → ℕ → ℕ → List ℕ
bytes_from text a b = take (b - a) (drop a text)

-- a tag has the values that are marked since the one before it
unfoldable pub grouped : List ℕ → List Part → List Mark → List Markup
grouped text ps [] = []
grouped text ps (Nothing ∷ ms) = grouped text ps ms
grouped text ps (Valued e w a b ∷ ms) = grouped text (ps ++ (record { element = e; word = w; from = a; bytes = bytes_from text a b }) ∷ []) ms
grouped text ps (Tagged a s e ∷ ms) = (record { at = a; shape = shape_of s; element = e; parts = ps }) ∷ grouped text [] ms
