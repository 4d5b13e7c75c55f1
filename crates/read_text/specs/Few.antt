-- How large the tables of a text are (R-1), by the definition alone: of any text that reads at most 27,756 numbers and 768 names.
use Rattle.std.specs.Prelude.{◌≡◌, Bool, cond, List, ◌++◌, map, ℕ, zero, suc, ◌+◌, ◌≤◌, ◌<◌, leb, length, get_or, take}
use Rattle.std.proofs.Math.Path.{refl, sym, ap}
use Rattle.std.proofs.Common.{subst, ◌∙◌, zero-add, length-append}
use Rattle.std.proofs.Math.Bool.{true, false}
use Rattle.std.proofs.Math.Option.{Option, none, some}
use native.Mathlib.Omega.{arith}
use Rattle.std.proofs.Math.Dec.{ltb}
use Rattle.std.proofs.lemmas.List.{length-map}
use borrow.Author.Tests.{leb-true, ltb-true, ltb-false, lt-ltb, le-ltb}
use Rattle.definition.specs.declared.Answer.TheVariants.{Size}
use Rattle.definition.specs.Answers.{answer_no}
use Rattle.definition.specs.Rows.{flat, from}
use Rattle.definition.specs.Rules.{keeps_rules}
use Rattle.grammar.specs.Grammar.{is_text, in_grammar, grammar_fault}
use Rattle.reading.specs.Tags.{tags_of}
use Rattle.reading.specs.Faults.{ids_of, first_fault}
use Rattle.reading.specs.Content.{Fact, Content, place_of, content_from, content_of, slots_of}
use Rattle.reading.specs.Layout.{act_cells, numbers_of, Reading, faulty, refused, tables, judged, meaning, searched, read_of}
use Rattle.laws.specs.Bools.{and_left}
use Rattle.laws.specs.Lists.{length_from}
use Rattle.laws.specs.Maps.{map_at}
use Rattle.lay.specs.Sizes.{references, descriptors, actions, all_cells, map_length, tables_size_lem, names_size_lem, many_rows, many_names}
use Rattle.bins.specs.Bins.{start_of}
use Rattle.bins.specs.Binned.{Item, values_of}
use Rattle.items.specs.Items.{bin_count, sources_of, order_of, Ranked}
use Rattle.items.specs.Order.{transitions_count}
use Rattle.items.specs.Owners.{facts_owned}
use Rattle.items.specs.Places.{count_in, flat_long, order_long, rank_place, rank_below}
use Rattle.items.specs.Whole.{bins_are}
use Rattle.walks.specs.Plan.{text_facts, text_items, counts_of, lay_base}
use Rattle.read_text.specs.Hand.{tables_of, slots_in}
use Rattle.read_text.specs.Bound.{tables_few}

-- ---- the ranks of transitions, as a list

module _ (n : ℕ) (ss : List ℕ) where
  abbrev in_order : ℕ → ℕ
  in_order m = start_of (count_in ss) (get_or ss m 0) + count_in (take m ss) (get_or ss m 0)

  abbrev rank_at : ℕ → ℕ
  rank_at m = cond (ltb (get_or ss m 0) n) (in_order m) (length (order_of n ss))

  abbrev ranks_of : List ℕ
  ranks_of = map rank_at (from (length ss) 0)

  rank_at_lem : (m : ℕ) → m < length ss → (z : Bool) → ltb (get_or ss m 0) n ≡ z → get_or ranks_of m 0 ≡ cond z (in_order m) (length (order_of n ss))
  rank_at_lem m l z e = map_at rank_at (length ss) 0 m 0 l ∙ ap rank_at (zero-add m) ∙ ap (λ (b : Bool). cond b (in_order m) (length (order_of n ss))) e

  ranked : Ranked n (length (order_of n ss)) ss ranks_of
  ranked =
      record {
        room = let a = length-map (from (length ss) 0) rank_at in let b = length_from (length ss) 0 in omega arith;
        many = refl;
        within = λ m l h.
            let a = rank_at_lem m l true (lt-ltb (get_or ss m 0) n h) in let b = rank_below ss n m l h in let c = order_long ss n in omega arith;
        placed = λ m l h. ap (λ (k : ℕ). get_or (order_of n ss) k 0) (rank_at_lem m l true (lt-ltb (get_or ss m 0) n h)) ∙ rank_place ss n m l h;
        outside = λ m l h. rank_at_lem m l false (le-ltb (get_or ss m 0) n h);
      }

-- ---- the tables

module _ (text : List ℕ) where
  abbrev fs : List Fact
  fs = text_facts text

  abbrev sl : List (List ℕ)
  sl = slots_of (tags_of text)

  abbrev c : Content
  c = content_from fs

  abbrev n : ℕ
  n = length c.rows

  abbrev t : ℕ
  t = length (order_of n (sources_of fs))

  abbrev ranks : List ℕ
  ranks = ranks_of n (sources_of fs)

  abbrev items : List Item
  items = text_items text ranks n t

  -- the bins of the ranks are the lists and blocks of the content
  size_is : length (numbers_of sl c) ≡ lay_base n t + start_of (counts_of items) (bin_count n t)
  size_is =
      let names = map (λ (d : List ℕ). place_of d sl) (descriptors c) in
      let s = tables_size_lem sl c in let m = transitions_count fs n refl in
      let b = ap length (bins_are sl fs n t ranks refl (ranked n (sources_of fs)) (facts_owned (ids_of (tags_of text)) (tags_of text))) in
      let f = flat_long (values_of items) (bin_count n t) in
      let p = length-append (references c ++ names) (flat (act_cells sl) (actions c)) in
      let q = length-append (references c) names in
      let d = map_length (λ (d : List ℕ). place_of d sl) (descriptors c) in let a = all_cells sl (actions c) in
      omega arith

  module _ (e : answer_no (keeps_rules (tables_of text) (slots_in text)) ≡ 0) where
    not_size : keeps_rules (tables_of text) (slots_in text) ≡ Size → ⊥
    unfolding answer_no
    not_size s = let q = sym e ∙ ap answer_no s in omega arith

    rows_few : n ≤ 256
    unfolding content_of
    rows_few = by (ltb 256 n) refl
      where
        by : (z : Bool) → ltb 256 n ≡ z → n ≤ 256
        by true q = absurd (not_size (many_rows sl c (ltb-true 256 n q)))
        by false q = ltb-false 256 n q

    names_few : length sl ≤ 768
    names_few = by (ltb 768 (length sl)) refl
      where
        by : (z : Bool) → ltb 768 (length sl) ≡ z → length sl ≤ 768
        by true q = absurd (not_size (many_names sl (content_of (tags_of text)) (ltb-true 768 (length sl) q)))
        by false q = ltb-false 768 (length sl) q

    numbers_bounded : length text ≤ 32768 → length (tables_of text) ≤ 27756
    unfolding content_of
    numbers_bounded short = let s = size_is in let b = tables_few text ranks n t short rows_few refl refl in omega arith

    names_bounded : length (slots_in text) ≤ 49152
    names_bounded = let s = names_size_lem sl in let f = names_few in omega arith

-- ---- the answer

abbrev Bounded : Reading → Type 0
Bounded (faulty at) = Unit {0}
Bounded (refused k) = Unit {0}
Bounded (tables numbers names) = (length numbers ≤ 27756) × (length names ≤ 49152)

judged_bounded : (text : List ℕ) → length text ≤ 32768 → Bounded (meaning (tags_of text))
unfolding meaning
judged_bounded text short = by (answer_no (keeps_rules (tables_of text) (slots_in text))) refl
  where
    by : (k : ℕ) → answer_no (keeps_rules (tables_of text) (slots_in text)) ≡ k → Bounded (judged k (tables_of text) (slots_in text))
    by zero e = (numbers_bounded text e short, names_bounded text e)
    by (suc k) e = tt

all_bounded : (text : List ℕ) → Bounded (read_of text)
unfolding read_of in_grammar
all_bounded text = by (in_grammar text) (first_fault (tags_of text)) refl
  where
    by : (z : Bool) (o : Option ℕ) → in_grammar text ≡ z → Bounded (cond z (searched o (tags_of text)) (faulty (grammar_fault text)))
    by true none e = judged_bounded text (leb-true (length text) 32768 (and_left (leb (length text) 32768) (is_text text) e))
    by true (some at) e = tt
    by false o e = tt

pub read_few : (text numbers names : List ℕ) → read_of text ≡ tables numbers names → (length numbers ≤ 27756) × (length names ≤ 49152)
read_few text numbers names h = subst Bounded h (all_bounded text)
