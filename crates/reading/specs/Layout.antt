-- The tables of a content in one layout (docs/tables.md), and the answer to a text.
use Rattle.std.specs.Prelude.{cond, List, [], ◌∷◌, ◌++◌, map, ℕ, zero, suc, ◌+◌, eqb, length}
use Rattle.std.proofs.Math.Option.{Option, none, some}
use Rattle.definition.specs.Rows.{flat, is_empty, from}
use Rattle.definition.specs.Tables.{slot_of, no_number, row_count, transition_count, row_cell, transition_cell, action_cell, references_at, descriptors_at, optional, name_at}
use Rattle.definition.specs.Rules.{keeps_rules}
use Rattle.definition.specs.Answers.{answer_no}
use Rattle.grammar.specs.Grammar.{in_grammar, grammar_fault}
use Rattle.reading.specs.Tags.{Markup, tags_of}
use Rattle.reading.specs.Faults.{first_fault}
use Rattle.reading.specs.Content.{Act, raises, hosts, if_in, elseif_in, otherwise, end_if, sends, cancels, Row, Transition, Content, place_of, content_of, slots_of}

abbrev pub or_none : Option ℕ → ℕ
or_none none = no_number
or_none (some i) = i

-- the four cells of an action
abbrev pub act_cells : List (List ℕ) → Act → List ℕ
act_cells slots (raises n) = 0 ∷ place_of n slots ∷ 0 ∷ 0 ∷ []
act_cells slots (hosts k) = 1 ∷ k ∷ 0 ∷ 0 ∷ []
act_cells slots (if_in i) = 2 ∷ i ∷ 0 ∷ 0 ∷ []
act_cells slots (elseif_in i) = 3 ∷ i ∷ 0 ∷ 0 ∷ []
act_cells slots otherwise = 4 ∷ 0 ∷ 0 ∷ 0 ∷ []
act_cells slots end_if = 5 ∷ 0 ∷ 0 ∷ 0 ∷ []
act_cells slots (sends n d none) = 6 ∷ place_of n slots ∷ d ∷ no_number ∷ []
act_cells slots (sends n d (some i)) = 6 ∷ place_of n slots ∷ d ∷ place_of i slots ∷ []
act_cells slots (cancels n) = 7 ∷ place_of n slots ∷ 0 ∷ 0 ∷ []

abbrev pub id_cell : List (List ℕ) → List ℕ → ℕ
id_cell slots n = cond (is_empty n) no_number (place_of n slots)

abbrev pub row_acts : Row → List Act
row_acts r = r.entry ++ r.exit ++ r.block

-- the rows' cells; their parts stand behind each other, from reference f and action a on
unfoldable pub row_cells : List (List ℕ) → ℕ → ℕ → List Row → List ℕ
row_cells slots f a [] = []
row_cells slots f a (r ∷ rs) =
    let b = a + length r.entry in
    let c = b + length r.exit in
    (r.kind ∷ r.parent ∷ id_cell slots r.id ∷ a ∷ length r.entry ∷ b ∷ length r.exit ∷ f ∷ length r.list ∷ c ∷ length r.block ∷ []) ++
    row_cells slots (f + length r.list) (c + length r.block) rs

unfoldable pub transition_cells : List (List ℕ) → ℕ → ℕ → ℕ → List Transition → List ℕ
transition_cells slots f d a [] = []
transition_cells slots f d a (t ∷ ts) =
    (t.source ∷ d ∷ length t.descriptors ∷ or_none t.condition ∷ cond t.internal 1 0 ∷ f ∷ length t.targets ∷ a ∷ length t.block ∷ []) ++
    transition_cells slots (f + length t.targets) (d + length t.descriptors) (a + length t.block) ts

abbrev pub row_list : Row → List ℕ
row_list r = r.list

abbrev pub target_list : Transition → List ℕ
target_list t = t.targets

abbrev pub descriptor_list : Transition → List (List ℕ)
descriptor_list t = t.descriptors

abbrev pub transition_acts : Transition → List Act
transition_acts t = t.block

-- docs/tables.md's layout: the lists of the rows, then the targets; the blocks of the rows, then those of the transitions
unfoldable pub numbers_of : List (List ℕ) → Content → List ℕ
numbers_of slots c =
    let row_refs = flat row_list c.rows in
    let refs = row_refs ++ flat target_list c.transitions in
    let descs = flat descriptor_list c.transitions in
    let row_blocks = flat row_acts c.rows in
    let acts = row_blocks ++ flat transition_acts c.transitions in
    (length c.rows ∷ length c.transitions ∷ length refs ∷ length descs ∷ length acts ∷ length slots ∷ []) ++
    row_cells slots 0 0 c.rows ++ transition_cells slots (length row_refs) 0 (length row_blocks) c.transitions ++
    refs ++ map (λ (n : List ℕ). place_of n slots) descs ++ flat (act_cells slots) acts

-- a slot of 64 bytes for each name
unfoldable pub names_of : List (List ℕ) → List ℕ
names_of slots = flat slot_of slots

-- ---- the answer: 12 with the offset (1.7), 1 to 5, or 0 with the tables

pub data Reading : Type 0 where
  faulty : ℕ → Reading
  refused : ℕ → Reading
  tables : List ℕ → List ℕ → Reading

abbrev pub judged : ℕ → List ℕ → List ℕ → Reading
judged zero numbers names = tables numbers names
judged (suc n) numbers names = refused (suc n)

-- "Text that reads well goes through rules 1 to 5; one of more than rule 1 allows gets 1." (1.20, 1.21, and 1.16: "rules 3 to 5 judge")
unfoldable pub meaning : List Markup → Reading
meaning ts =
    let numbers = numbers_of (slots_of ts) (content_of ts) in
    let names = names_of (slots_of ts) in
    judged (answer_no (keeps_rules numbers names)) numbers names

abbrev pub searched : Option ℕ → List Markup → Reading
searched none ts = meaning ts
searched (some at) ts = faulty at

-- "Only text of at most 32,768 bytes and of the grammar .. is searched for these faults; other text is 12 at the first byte .." (1.12, 1.13)
unfoldable pub read_of : List ℕ → Reading
read_of text = cond (in_grammar text) (searched (first_fault (tags_of text)) (tags_of text)) (faulty (grammar_fault text))

-- ---- the way back: the content of tables. Two charts are equal, "the same rows and transitions after equal names are joined, unused ones dropped and
-- the rest numbered by first use" (R-4, 4.5), where their content is

abbrev pub act_of : (ℕ → List ℕ) → ℕ → ℕ → ℕ → ℕ → Act
act_of name zero x y z = raises (name x)
act_of name (suc zero) x y z = hosts x
act_of name (suc (suc zero)) x y z = if_in x
act_of name (suc (suc (suc zero))) x y z = elseif_in x
act_of name (suc (suc (suc (suc zero)))) x y z = otherwise
act_of name (suc (suc (suc (suc (suc zero))))) x y z = end_if
act_of name (suc (suc (suc (suc (suc (suc zero)))))) x y z = sends (name x) y (cond (eqb z no_number) none (some (name z)))
act_of name (suc (suc (suc (suc (suc (suc (suc n))))))) x y z = cancels (name x)

unfoldable pub acts_at : List ℕ → List ℕ → ℕ → ℕ → List Act
acts_at numbers names start count =
    map (λ (a : ℕ). act_of (name_at names) (action_cell numbers a 0) (action_cell numbers a 1) (action_cell numbers a 2) (action_cell numbers a 3)) (from count start)

unfoldable pub row_back : List ℕ → List ℕ → ℕ → Row
row_back numbers names i =
    let c = row_cell numbers i in
    record {
      kind = c 0;
      parent = c 1;
      id = cond (eqb (c 2) no_number) [] (name_at names (c 2));
      entry = acts_at numbers names (c 3) (c 4);
      exit = acts_at numbers names (c 5) (c 6);
      list = references_at numbers (c 7) (c 8);
      block = acts_at numbers names (c 9) (c 10);
    }

unfoldable pub transition_back : List ℕ → List ℕ → ℕ → Transition
transition_back numbers names t =
    let c = transition_cell numbers t in
    record {
      source = c 0;
      descriptors = map (name_at names) (descriptors_at numbers (c 1) (c 2));
      condition = optional (c 3);
      internal = eqb (c 4) 1;
      targets = references_at numbers (c 5) (c 6);
      block = acts_at numbers names (c 7) (c 8);
    }

unfoldable pub content : List ℕ → List ℕ → Content
content numbers names =
    record { rows = map (row_back numbers names) (from (row_count numbers) 0); transitions = map (transition_back numbers names) (from (transition_count numbers) 0) }
