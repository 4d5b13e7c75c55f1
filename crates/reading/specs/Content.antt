-- What a text of the grammar without faults says: rows, blocks and transitions, with names as bytes and rows by their numbers.
use Rattle.std.specs.Prelude.{Bool, true, false, not, ◌&&◌, ◌||◌, cond, List, [], ◌∷◌, ◌++◌, map, ℕ, suc, eqb, leb, length}
use Rattle.std.proofs.Math.Option.{Option, none, some}
use Rattle.definition.specs.Rows.{same, flat, from}
use Rattle.definition.specs.Tables.{no_number}
use Rattle.reading.specs.Tags.{Part, opening, empty, closing, Markup}
use Rattle.reading.specs.Faults.{names_in, plain, inner, decimal, id_word, initial_word, type_word, event_word, cond_word, target_word, label_word, delay_word, sendid_word, states, value_of, value_or, ids_of, is_among, external, internal as internal_text, shallow, deep as deep_text}

-- actions: raise and log (1.1); if, elseif, else (R-5) and the end of an if are actions of the block that they stand in; send and cancel (R-9)
pub data Act : Type 0 where
  raises : List ℕ → Act
  hosts : ℕ → Act
  if_in : ℕ → Act
  elseif_in : ℕ → Act
  otherwise : Act
  end_if : Act
  sends : List ℕ → ℕ → Option (List ℕ) → Act
  cancels : List ℕ → Act

-- kinds as in the tables: 0 root, 1 state, 2 parallel, 3 final, 4 shallow, 5 deep; the root has no id
pub record Row : Type 0 where
  pub kind : ℕ
  pub parent : ℕ
  pub id : List ℕ
  pub entry : List Act
  pub exit : List Act
  pub list : List ℕ
  pub block : List Act

pub record Transition : Type 0 where
  pub source : ℕ
  pub descriptors : List (List ℕ)
  pub condition : Option ℕ
  pub internal : Bool
  pub targets : List ℕ
  pub block : List Act

pub record Content : Type 0 where
  pub rows : List Row
  pub transitions : List Transition

-- ---- references: "a doubled id is taken as the first" (1.11)

-- where a name stands in a list of names, or how many there are
unfoldable pub place_of : List ℕ → List (List ℕ) → ℕ
place_of n [] = 0
place_of n (m ∷ ms) = cond (same n m) 0 (suc (place_of n ms))

abbrev pub row_named : List (List ℕ) → List ℕ → ℕ
row_named ids n = suc (place_of n ids)

abbrev pub rows_in : List (List ℕ) → List ℕ → List ℕ
rows_in ids v = map (row_named ids) (names_in v)

abbrev pub row_in : List (List ℕ) → List ℕ → ℕ
row_in ids v = row_named ids (inner v)

abbrev pub condition_in : List (List ℕ) → List Part → Option ℕ
condition_in ids ps = cond (states cond_word ps) (some (row_in ids (value_of cond_word ps))) none

-- ---- what each tag says

-- a block: 1 the entry, 2 the exit block of a row, 3 the block of its list; 4 that of a transition, by its number in the text
pub record Block : Type 0 where
  pub part : ℕ
  pub owner : ℕ

-- "Rows, blocks and transitions may stand under any row" (1.15): where a tag stands, under a row (is it a history or an initial element that still wants
-- its default transition?) or in a block
pub data Spot : Type 0 where
  in_row : ℕ → Bool → Spot
  in_block : Block → Spot

-- what a tag says: a row (kind, parent, id, list of its attribute initial), a list of a row, a transition (source, descriptors, condition, internal?,
-- targets), an action of a block
pub data Fact : Type 0 where
  row_fact : ℕ → ℕ → List ℕ → List ℕ → Fact
  list_fact : ℕ → List ℕ → Fact
  transition_fact : ℕ → List (List ℕ) → Option ℕ → Bool → List ℕ → Fact
  action_fact : Block → Act → Fact

abbrev pub row_of : Spot → ℕ
row_of (in_row i d) = i
row_of (in_block k) = k.owner

abbrev pub wants : Spot → Bool
wants (in_row i d) = d
wants (in_block k) = false

abbrev pub settled : Spot → Spot
settled (in_row i d) = in_row i false
settled (in_block k) = in_block k

abbrev pub block_of : Spot → Block
block_of (in_row i d) = record { part = 0; owner = i }
block_of (in_block k) = k

-- the defaults, "external" of a transition and "shallow" of a history (1.8)
abbrev pub is_internal : List Part → Bool
is_internal ps = same (plain (value_or external type_word ps)) internal_text

abbrev pub kind_in : ℕ → List Part → ℕ
kind_in e ps = cond (eqb e 4 && same (plain (value_or shallow type_word ps)) deep_text) 5 e

-- raise, log, if, else, elseif, send, cancel
unfoldable pub act_in : List (List ℕ) → ℕ → List Part → Act
act_in ids e ps =
    cond (eqb e 9) (raises (value_of event_word ps))
    (cond (eqb e 10) (hosts (decimal (plain (value_of label_word ps))))
    (cond (eqb e 12) (if_in (row_in ids (value_of cond_word ps)))
    (cond (eqb e 14) (elseif_in (row_in ids (value_of cond_word ps)))
    (cond (eqb e 13) otherwise
    (cond (eqb e 15) (sends (value_of event_word ps) (decimal (plain (value_of delay_word ps))) (cond (states id_word ps) (some (value_of id_word ps)) none))
    (cancels (value_of sendid_word ps)))))))

-- what a tag says, where its content stands, its parent's place from then on, and how many rows and transitions there are then
pub record Turn : Type 0 where
  pub facts : List Fact
  pub inside : Spot
  pub around : Spot
  pub rows : ℕ
  pub transitions : ℕ

-- a transition of an initial element, or the first of a history without event and cond
abbrev pub is_default : Spot → ℕ → List Part → Bool
is_default s e ps = eqb e 11 || (wants s && not (states event_word ps) && not (states cond_word ps))

-- a start tag of element e in the spot s, with n rows and m transitions before it
unfoldable pub turn : List (List ℕ) → Spot → ℕ → ℕ → ℕ → List Part → Turn
turn ids s n m e ps =
    cond (leb e 4)
    (record { facts = row_fact (kind_in e ps) (row_of s) (value_of id_word ps) (rows_in ids (value_of initial_word ps)) ∷ []; inside = in_row n (eqb e 4); around = s; rows = suc n; transitions = m })
    (cond (eqb e 5) (record { facts = []; inside = in_row (row_of s) true; around = s; rows = n; transitions = m })
    (cond (eqb e 7) (record { facts = []; inside = in_block (record { part = 1; owner = row_of s }); around = s; rows = n; transitions = m })
    (cond (eqb e 8) (record { facts = []; inside = in_block (record { part = 2; owner = row_of s }); around = s; rows = n; transitions = m })
    (cond (eqb e 6 || eqb e 11)
    (cond (is_default s e ps)
    (record { facts = list_fact (row_of s) (rows_in ids (value_of target_word ps)) ∷ []; inside = in_block (record { part = 3; owner = row_of s }); around = settled s; rows = n; transitions = m })
    (record {
      facts = transition_fact (row_of s) (names_in (value_of event_word ps)) (condition_in ids ps) (is_internal ps) (rows_in ids (value_of target_word ps)) ∷ [];
      inside = in_block (record { part = 4; owner = m });
      around = s;
      rows = n;
      transitions = suc m;
    }))
    (record { facts = action_fact (block_of s) (act_in ids e ps) ∷ []; inside = s; around = s; rows = n; transitions = m })))))

-- the end of an if
abbrev pub end_facts : Spot → ℕ → List Fact
end_facts s e = cond (eqb e 12) (action_fact (block_of s) end_if ∷ []) []

abbrev pub top : List Spot → Spot
top [] = in_row no_number false
top (s ∷ st) = s

abbrev pub rest : List Spot → List Spot
rest [] = []
rest (s ∷ st) = st

-- what the tags say one after the other, with the spots that they stand in as a stack
unfoldable pub facts_from : List (List ℕ) → List Spot → ℕ → ℕ → List Markup → List Fact
facts_from ids st n m [] = []
facts_from ids st n m (t ∷ ts) =
    let r = turn ids (top st) n m t.element t.parts in
    elim t.shape [
      | opening ↦ r.facts ++ facts_from ids (r.inside ∷ r.around ∷ rest st) r.rows r.transitions ts
      | empty ↦ r.facts ++ end_facts r.inside t.element ++ facts_from ids (r.around ∷ rest st) r.rows r.transitions ts
      | closing ↦ end_facts (top st) t.element ++ facts_from ids (rest st) n m ts
    ]

-- ---- rows and transitions

abbrev pub is_block : ℕ → ℕ → Block → Bool
is_block p i k = eqb k.part p && eqb k.owner i

-- "Several onentry (or onexit) elements of one row join into one block." (1.17)
unfoldable pub acts_in : ℕ → ℕ → List Fact → List Act
acts_in p i [] = []
acts_in p i (row_fact k q n l ∷ fs) = acts_in p i fs
acts_in p i (list_fact j l ∷ fs) = acts_in p i fs
acts_in p i (transition_fact s d c y g ∷ fs) = acts_in p i fs
acts_in p i (action_fact k a ∷ fs) = cond (is_block p i k) (a ∷ acts_in p i fs) (acts_in p i fs)

-- the list that an initial element or a history's default transition states
unfoldable pub list_of : ℕ → List Fact → List ℕ
list_of i [] = []
list_of i (row_fact k q n l ∷ fs) = list_of i fs
list_of i (list_fact j l ∷ fs) = cond (eqb i j) (l ++ list_of i fs) (list_of i fs)
list_of i (transition_fact s d c y g ∷ fs) = list_of i fs
list_of i (action_fact k a ∷ fs) = list_of i fs

-- the rows from number i on, of all facts
unfoldable pub rows_from : List Fact → ℕ → List Fact → List Row
rows_from whole i [] = []
rows_from whole i (row_fact k q n l ∷ fs) =
    record { kind = k; parent = q; id = n; entry = acts_in 1 i whole; exit = acts_in 2 i whole; list = l ++ list_of i whole; block = acts_in 3 i whole } ∷ rows_from whole (suc i) fs
rows_from whole i (list_fact j l ∷ fs) = rows_from whole i fs
rows_from whole i (transition_fact s d c y g ∷ fs) = rows_from whole i fs
rows_from whole i (action_fact k a ∷ fs) = rows_from whole i fs

unfoldable pub transitions_from : List Fact → ℕ → List Fact → List Transition
transitions_from whole i [] = []
transitions_from whole i (row_fact k q n l ∷ fs) = transitions_from whole i fs
transitions_from whole i (list_fact j l ∷ fs) = transitions_from whole i fs
transitions_from whole i (transition_fact s d c y g ∷ fs) =
    record { source = s; descriptors = d; condition = c; internal = y; targets = g; block = acts_in 4 i whole } ∷ transitions_from whole (suc i) fs
transitions_from whole i (action_fact k a ∷ fs) = transitions_from whole i fs

unfoldable pub of_source : List Transition → ℕ → List Transition
of_source [] i = []
of_source (t ∷ ts) i = cond (eqb t.source i) (t ∷ of_source ts i) (of_source ts i)

-- "Transitions are numbered by source row, then by place" (1.18)
unfoldable pub content_from : List Fact → Content
content_from fs =
    let rows = rows_from fs 0 fs in
    record { rows = rows; transitions = flat (of_source (transitions_from fs 0 fs)) (from (length rows) 0) }

unfoldable pub content_of : List Markup → Content
content_of ts = content_from (facts_from (ids_of ts) [] 0 0 ts)

-- ---- names: "equal names share a slot, by first use in the text as id, descriptor or action's name" (1.19)

abbrev pub uses_in : Part → List (List ℕ)
uses_in p = cond (eqb p.word id_word || eqb p.word event_word || eqb p.word sendid_word) (names_in p.bytes) []

abbrev pub uses_of : Markup → List (List ℕ)
uses_of t = flat uses_in t.parts

-- those that are not among the first, each once
unfoldable pub fresh : List (List ℕ) → List (List ℕ) → List (List ℕ)
fresh seen [] = seen
fresh seen (n ∷ ns) = cond (is_among n seen) (fresh seen ns) (fresh (seen ++ n ∷ []) ns)

unfoldable pub slots_of : List Markup → List (List ℕ)
slots_of ts = fresh [] (flat uses_of ts)
