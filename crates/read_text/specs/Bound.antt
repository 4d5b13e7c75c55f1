-- The tables of a text of at most 32,768 bytes have at most 27,756 cells: six of the header, six of each of at most 256 rows, and four for five bytes of the text
-- (crate weights).
use Rattle.std.specs.Prelude.{◌≡◌, ℕ, suc, ◌+◌, ◌*◌, ◌≤◌, ltb, length, get_or}
use Rattle.std.proofs.Math.Bool.{cond}
use mathlib.Core.List.{List, [], ◌∷◌, ◌++◌, map}
use native.Mathlib.Omega.{arith}
use Rattle.std.proofs.Math.ListN.{length-append, length-map}
use Rattle.reading.specs.Tags.{tags_of}
use Rattle.reading.specs.Faults.{ids_of}
use Rattle.reading.specs.Content.{Fact, row_fact, list_fact, transition_fact, action_fact, place_of, content_from, slots_of}
use Rattle.reading.specs.Layout.{act_cells}
use Rattle.weights.specs.Paid.{tags_paid}
use Rattle.weights.specs.Cells.{facts_cells, facts_paid}
use Rattle.bins.specs.Bins.{start_of}
use Rattle.bins.specs.Binned.{Item}
use Rattle.facts.specs.Appended.{row_facts, transition_facts}
use Rattle.items.specs.Items.{under, list_key, element_key, target_key, descriptor_key, bin_count, sources_of, order_of, key_of_block, items_from}
use Rattle.items.specs.Order.{rows_count, sources_length}
use Rattle.items.specs.Places.{bins_few, numbers_few, order_long}
use Rattle.walks.specs.ItemWalk.{under_length, four}
use Rattle.walks.specs.Plan.{text_facts, text_items, counts_of, lay_base}

module _ (slots : List (List ℕ)) (n t : ℕ) (ranks : List ℕ) where
  abbrev targets_of : ℕ → List ℕ → List Item
  targets_of m g = under (cond (ltb (get_or ranks m 0) t) (target_key n (get_or ranks m 0)) (bin_count n t)) g

  abbrev descriptors_of : ℕ → List (List ℕ) → List Item
  descriptors_of m d = under (cond (ltb (get_or ranks m 0) t) (descriptor_key n t (get_or ranks m 0)) (bin_count n t)) (map (λ (x : List ℕ). place_of x slots) d)

  abbrev rest : ℕ → ℕ → List Fact → List Item
  rest i m fs = items_from slots n t ranks i m fs

  -- a fact has no items but those that its tag pays for
  items_few : (i m : ℕ) (fs : List Fact) → length (items_from slots n t ranks i m fs) + row_facts fs * 5 + transition_facts fs * 9 ≤ facts_cells fs
  unfolding items_from row_facts transition_facts facts_cells
  items_few i m [] = omega arith
  items_few i m (row_fact k q id l ∷ fs) =
      let o = cond (ltb i n) (list_key i) (bin_count n t) in
      let a = length-append (under o l) (rest (suc i) m fs) in let b = under_length o l in let h = items_few (suc i) m fs in omega arith
  items_few i m (list_fact j l ∷ fs) =
      let o = cond (ltb j n) (element_key j) (bin_count n t) in
      let a = length-append (under o l) (rest i m fs) in let b = under_length o l in let h = items_few i m fs in omega arith
  items_few i m (transition_fact s d c y g ∷ fs) =
      let a = length-append (targets_of m g ++ descriptors_of m d) (rest i (suc m) fs) in let b = length-append (targets_of m g) (descriptors_of m d) in
      let u = under_length (cond (ltb (get_or ranks m 0) t) (target_key n (get_or ranks m 0)) (bin_count n t)) g in
      let v = under_length (cond (ltb (get_or ranks m 0) t) (descriptor_key n t (get_or ranks m 0)) (bin_count n t)) (map (λ (x : List ℕ). place_of x slots) d) in
      let e = length-map d (λ (x : List ℕ). place_of x slots) in let h = items_few i (suc m) fs in omega arith
  items_few i m (action_fact b x ∷ fs) =
      let o = key_of_block n t ranks b.part b.owner in
      let a = length-append (under o (act_cells slots x)) (rest i m fs) in let u = under_length o (act_cells slots x) in let c = four slots x in let h = items_few i m fs in omega arith

pub tables_few : (text ranks : List ℕ) (n t : ℕ) → length text ≤ 32768 → n ≤ 256 → n ≡ length (content_from (text_facts text)).rows → t ≡ length (order_of n (sources_of (text_facts text))) →
    lay_base n t + start_of (counts_of (text_items text ranks n t)) (bin_count n t) ≤ 27756
tables_few text ranks n t short few rows transitions =
    let a : start_of (counts_of (text_items text ranks n t)) (bin_count n t) ≤ length (text_items text ranks n t) = bins_few (text_items text ranks n t) (bin_count n t) in
    let b = items_few (slots_of (tags_of text)) n t ranks 0 0 (text_facts text) in
    let c = rows_count (text_facts text) in
    let d = order_long (sources_of (text_facts text)) n in let e = numbers_few (sources_of (text_facts text)) n in let f = sources_length (text_facts text) in
    let p = facts_paid (ids_of (tags_of text)) (tags_of text) [] 0 0 in let q = tags_paid text in
    omega arith
