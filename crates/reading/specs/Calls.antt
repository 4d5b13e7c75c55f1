-- The call that reads a text into two lent places: what it answers, and what the places then hold, for every text and all places.
use Rattle.std.specs.Prelude.{Bool, true, false, ◌&&◌, List, ◌++◌, ℕ, leb, length, drop}
use Rattle.reading.specs.Tags.{Markup, tags_of}
use Rattle.reading.specs.Content.{content_of, slots_of}
use Rattle.reading.specs.Layout.{numbers_of, names_of, Reading, faulty, refused, tables, read_of}

-- places of so many numbers and so many bytes hold the tables
unfoldable pub have_room : List Markup → ℕ → ℕ → Bool
have_room ts room names_room = leb (length (numbers_of (slots_of ts) (content_of ts))) room && leb (length (names_of (slots_of ts))) names_room

-- too small a place is 1, as in rule 1, "the place lent .. of the size stated in docs/" (21): behind 12, before 2 to 5
abbrev pub confined : Bool → Reading → Reading
confined fits (faulty at) = faulty at
confined true (refused n) = refused n
confined true (tables numbers names) = tables numbers names
confined false (refused n) = refused 1
confined false (tables numbers names) = refused 1

unfoldable pub read_into : List ℕ → ℕ → ℕ → Reading
read_into text room names_room = confined (have_room (tags_of text) room names_room) (read_of text)

-- the answer, the offset of a fault, how many numbers and bytes the tables have, and both places behind the call
pub record Outcome : Type 0 where
  pub answer : ℕ
  pub offset : ℕ
  pub cells : ℕ
  pub bytes : ℕ
  pub numbers : List ℕ
  pub names : List ℕ

-- "new refusal 12 with the byte offset of the first fault, tables untouched" (1.7); 1 to 5 leave "lent memory untouched" (76); tables stand at the
-- beginning of their places
abbrev pub outcome : Reading → List ℕ → List ℕ → Outcome
outcome (faulty at) place name_place_is = record { answer = 12; offset = at; cells = 0; bytes = 0; numbers = place; names = name_place_is }
outcome (refused n) place name_place_is = record { answer = n; offset = 0; cells = 0; bytes = 0; numbers = place; names = name_place_is }
outcome (tables numbers names) place name_place_is =
    record {
      answer = 0;
      offset = 0;
      cells = length numbers;
      bytes = length names;
      numbers = numbers ++ drop (length numbers) place;
      names = names ++ drop (length names) name_place_is;
    }

unfoldable pub call_of : List ℕ → List ℕ → List ℕ → Outcome
call_of text place name_place_is = outcome (read_into text (length place) (length name_place_is)) place name_place_is
