-- What the walks over a text without faults are given, and what they leave: the counts or the cells of the tables' lists and blocks, and the cells that only the
-- tags of rows and transitions know.
use Rattle.std.specs.Prelude.{◌≡◌, true, false, cond, List, [], ℕ, ◌+◌, ◌*◌, ◌≤◌, ◌<◌, length, get_or, drop}
use Rattle.std.proofs.Math.Option.{none}
use Rattle.reading.specs.Tags.{tags_of}
use Rattle.reading.specs.Faults.{ids_of, first_fault}
use Rattle.reading.specs.Content.{Fact, facts_from, rows_from, slots_of}
use Rattle.reading.specs.Layout.{or_none, id_cell}
use Rattle.values.specs.Ids.{Noted, ids_from}
use Rattle.bins.specs.Binned.{Item, values_of, Binned}
use Rattle.facts.specs.Appended.{row_facts, transition_facts}
use Rattle.items.specs.Items.{bin_count, sources_of, Ranked, items_from, Tallied}
use Rattle.items.specs.Order.{transition_at}
use Rattle.items.specs.Picked.{no_row}
use Rattle.walks.specs.declared.plan.Plan.{Plan}
use Rattle.walks.specs.declared.plan.Pass.TheVariants.{Count, Fill}

-- ---- the facts of a text, and their items

abbrev pub text_facts : List ℕ → List Fact
text_facts text = facts_from (ids_of (tags_of text)) [] 0 0 (tags_of text)

abbrev pub text_items : List ℕ → List ℕ → ℕ → ℕ → List Item
text_items text ranks n t = items_from (slots_of (tags_of text)) n t ranks 0 0 (text_facts text)

abbrev pub counts_of : List Item → ℕ → ℕ
counts_of items k = length (values_of items k)

-- where the lists and blocks begin: behind the header and the cells of the rows and transitions
abbrev pub lay_base : ℕ → ℕ → ℕ
lay_base n t = 6 + n * 11 + t * 9

-- a text without a fault, its ids and slots noted by place and length
pub record Named (text ids slots : List ℕ) (p : Plan) : Type 0 where
  pub ids_noted : Noted text ids p.ids
  pub ids_are : ids_from text ids p.ids 0 ≡ ids_of (tags_of text)
  pub slots_noted : Noted text slots p.slots
  pub slots_are_lem : ids_from text slots p.slots 0 ≡ slots_of (tags_of text)
  pub clean : first_fault (tags_of text) ≡ none
  pub rows_few : p.rows ≤ 32768
  pub transitions_few : p.transitions ≤ 32768

-- ---- the items

pub record FileRoom (text levels spots ids slots ranks out next : List ℕ) (p : Plan) : Type 0 where
  pub short : length text ≤ 32768
  pub deep : length levels ≡ 32768
  pub spots_room : length spots ≡ 16388
  pub named : Named text ids slots p
  pub bins : bin_count p.rows p.transitions ≤ length next
  pub few : length out < 4294967296
  -- to count, all counts are 0
  pub counting : p.pass ≡ Count → (k : ℕ) → k < bin_count p.rows p.transitions → get_or next k 0 ≡ 0
  -- to lay out, the counts are the starts (binned-start)
  pub filling : p.pass ≡ Fill →
      Binned (bin_count p.rows p.transitions) (lay_base p.rows p.transitions) (counts_of (text_items text ranks p.rows p.transitions)) out next []

pub record FiledAll (text levels spots ranks out next : List ℕ) (p : Plan) : Type 0 where
  pub deep : length levels ≡ 32768
  pub spots_room : length spots ≡ 16388
  pub tallied : p.pass ≡ Count → Tallied p.rows p.transitions next (text_items text ranks p.rows p.transitions)
  pub binned : p.pass ≡ Fill →
      Binned (bin_count p.rows p.transitions) (lay_base p.rows p.transitions) (counts_of (text_items text ranks p.rows p.transitions)) out next
      (text_items text ranks p.rows p.transitions)

-- ---- the first cells of rows and transitions

pub record HeadRoom (text levels spots ids slots ranks out : List ℕ) (p : Plan) : Type 0 where
  pub short : length text ≤ 32768
  pub deep : length levels ≡ 32768
  pub spots_room : length spots ≡ 16388
  pub named : Named text ids slots p
  pub ranked : Ranked p.rows p.transitions (sources_of (text_facts text)) ranks
  pub room : lay_base p.rows p.transitions ≤ length out

-- kind, parent and id of the row i
pub record RowHead (text : List ℕ) (i : ℕ) (out : List ℕ) : Type 0 where
  pub kind_is : get_or out (6 + i * 11) 0 ≡ (get_or (rows_from (text_facts text) 0 (text_facts text)) i no_row).kind
  pub parent_is : get_or out (6 + i * 11 + 1) 0 ≡ (get_or (rows_from (text_facts text) 0 (text_facts text)) i no_row).parent
  pub id_is : get_or out (6 + i * 11 + 2) 0 ≡ id_cell (slots_of (tags_of text)) (get_or (rows_from (text_facts text) 0 (text_facts text)) i no_row).id

-- source, condition and kind of the m-th transition of the text, whose number in the tables is r
pub record TransitionHead (text : List ℕ) (n r m : ℕ) (out : List ℕ) : Type 0 where
  pub source_is : get_or out (6 + n * 11 + r * 9) 0 ≡ (transition_at (text_facts text) m).source
  pub condition_is : get_or out (6 + n * 11 + r * 9 + 3) 0 ≡ or_none (transition_at (text_facts text) m).condition
  pub internal_is_lem : get_or out (6 + n * 11 + r * 9 + 4) 0 ≡ cond (transition_at (text_facts text) m).internal 1 0

pub record HeadsLaid (text levels spots ranks out out' : List ℕ) (p : Plan) : Type 0 where
  pub deep : length levels ≡ 32768
  pub spots_room : length spots ≡ 16388
  pub behind : drop (lay_base p.rows p.transitions) out' ≡ drop (lay_base p.rows p.transitions) out
  pub rows_are : (i : ℕ) → i < p.rows → i < row_facts (text_facts text) → RowHead text i out'
  pub transitions_are : (m : ℕ) → m < transition_facts (text_facts text) → get_or ranks m 0 < p.transitions → TransitionHead text p.rows (get_or ranks m 0) m out'
