-- The counts of all bins against rule 1: a content of more references, descriptors or actions is refused with 1.
use Rattle.std.specs.Prelude.{◌≡◌, refl, Bool, true, false, ◌&&◌, List, ℕ, zero, suc, ◌+◌, ◌*◌, ◌-◌, ◌≤◌, ◌<◌, leb, length, take, drop, sum}
use Rattle.std.proofs.Common.{sym, ◌∙◌, drop-cons, length-append, leb-true, leb-false, le-leb}
use Rattle.std.proofs.Math.Path.{ap}
use native.Mathlib.Omega.{arith}
use Rattle.std.proofs.Math.ListN.{get_or}
use Rattle.std.proofs.lemmas.Bool.{lt-leb}
use Rattle.std.proofs.lemmas.List.Sums.{sum_by-cons}
use Rattle.definition.specs.Rows.{flat}
use Rattle.definition.specs.declared.Answer.TheVariants.{Size}
use Rattle.definition.specs.Rules.{keeps_rules}
use Rattle.reading.specs.Content.{Content}
use Rattle.reading.specs.Layout.{target_list, transition_acts, numbers_of, names_of}
use Rattle.lay.specs.Sizes.{many_references, many_descriptors, many_actions}
use Rattle.bins.specs.Bins.{start_of, counts_in}
use Rattle.bins.specs.Binned.{Item, values_of}
use Rattle.items.specs.Items.{bin_count}
use Rattle.cells.specs.Starts.{Few, table_base}
use Rattle.cells.specs.Parts.{blocks}
use Rattle.cells.specs.Cells.{Held}
use Rattle.cells.specs.Counts.{row_refs, row_blocks, list_sum, target_sum, descriptor_sum, row_block_sum, block_sum}

-- ---- sums

pub record SumRoom (next : List ℕ) (from to : ℕ) : Type 0 where
  pub there : to ≤ length next
  pub before : from ≤ to
  pub few : to ≤ 65536

pub record Summed (next : List ℕ) (from to r : ℕ) : Type 0 where
  pub is : start_of (counts_in next) from + r ≡ start_of (counts_in next) to

-- the counts from one bin on, one after the other
sum_on : (next : List ℕ) (k from : ℕ) → from + k ≤ length next → start_of (counts_in next) from + sum (take k (drop from next)) ≡ start_of (counts_in next) (from + k)
unfolding start_of
sum_on next zero from h =
    let e : from + 0 ≡ from = omega arith in
    let q = ap (start_of (counts_in next)) e in
    omega arith
sum_on next (suc k) from h =
    let more = sum_on next k (suc from) (omega arith) in
    let there : sum (take (suc k) (drop from next)) ≡ get_or next from 0 + sum (take k (drop (suc from) next)) = ap (λ (l : List ℕ). sum (take (suc k) l)) (drop-cons next from 0 (omega arith)) ∙ sum_by-cons (λ (x : ℕ). x) (get_or next from 0) (take k (drop (suc from) next)) in
    let e : suc from + k ≡ from + suc k = omega arith in
    let q = ap (start_of (counts_in next)) e in
    omega arith

pub summed : (next : List ℕ) (from to r : ℕ) → SumRoom next from to → r ≡ sum (take (to - from) (drop from next)) → Summed next from to r
summed next from to r h e =
    record {
      is =
          let b = h.before in let t = h.there in
          let w : from + (to - from) ≡ to = omega arith in
          ap (λ (x : ℕ). start_of (counts_in next) from + x) e ∙ sum_on next (to - from) from (omega arith) ∙ ap (start_of (counts_in next)) w;
    }

pub summed_front : (next : List ℕ) (to r : ℕ) → SumRoom next 0 to → r ≡ sum (take to next) → Summed next 0 to r
summed_front next to r h e = let whole : to ≡ to - 0 = omega arith in summed next 0 to r h (e ∙ ap (λ (k : ℕ). sum (take k next)) whole)

-- ---- within rule 1

pub record TotalsRoom (next : List ℕ) (n t : ℕ) : Type 0 where
  pub few : Few n t
  pub there : bin_count n t ≤ length next

abbrev pub is_within : (ℕ → ℕ) → ℕ → ℕ → Bool
is_within c n t = leb (start_of c (n * 2 + t)) 69632 && leb (start_of c (blocks n t) - start_of c (n * 2 + t)) 2048 && leb (start_of c (bin_count n t) - start_of c (blocks n t)) 163840

module _ (next : List ℕ) (n t : ℕ) (p : TotalsRoom next n t) where
  pub references_sum : SumRoom next 0 (n * 2 + t)
  references_sum = let r = p.there in let a = p.few.rows in let b = p.few.transitions in record { there = omega arith; before = omega arith; few = omega arith }

  pub descriptors_sum : SumRoom next (n * 2 + t) (blocks n t)
  descriptors_sum = let r = p.there in let a = p.few.rows in let b = p.few.transitions in record { there = omega arith; before = omega arith; few = omega arith }

  pub actions_sum : SumRoom next (blocks n t) (bin_count n t)
  actions_sum = let r = p.there in let a = p.few.rows in let b = p.few.transitions in record { there = omega arith; before = omega arith; few = omega arith }

  module _ (a : ℕ) (s : Summed next 0 (n * 2 + t) a) where
    references_are : start_of (counts_in next) (n * 2 + t) ≡ a
    unfolding start_of
    references_are = let i = s.is in omega arith

    pub within_references : 69632 < a → false ≡ is_within (counts_in next) n t
    within_references h = let e = references_are in sym (rw (lt-leb (start_of (counts_in next) (n * 2 + t)) 69632 (omega arith)) refl)

    module _ (h : a ≤ 69632) (b : ℕ) (s' : Summed next (n * 2 + t) (blocks n t) b) where
      descriptors_are : start_of (counts_in next) (blocks n t) - start_of (counts_in next) (n * 2 + t) ≡ b
      descriptors_are = let i = s'.is in omega arith

      pub within_descriptors : 2048 < b → false ≡ is_within (counts_in next) n t
      within_descriptors g =
          let e = references_are in let e' = descriptors_are in
          sym
          (rw (
            le-leb (start_of (counts_in next) (n * 2 + t)) 69632 (omega arith),
            lt-leb (start_of (counts_in next) (blocks n t) - start_of (counts_in next) (n * 2 + t)) 2048 (omega arith),
          ) refl)

      pub within_actions : b ≤ 2048 → (d : ℕ) → Summed next (blocks n t) (bin_count n t) d → leb d 163840 ≡ is_within (counts_in next) n t
      within_actions g d s'' =
          let e = references_are in let e' = descriptors_are in
          let i = s''.is in
          let e'' : start_of (counts_in next) (bin_count n t) - start_of (counts_in next) (blocks n t) ≡ d = omega arith in
          sym
          (rw (
            le-leb (start_of (counts_in next) (n * 2 + t)) 69632 (omega arith),
            le-leb (start_of (counts_in next) (blocks n t) - start_of (counts_in next) (n * 2 + t)) 2048 (omega arith),
            e'',
          ) refl)

-- ---- what it means for a content

-- by the test that fails, or by all
three : {A : Type 0} (a b d z : Bool) → (a && b && d) ≡ z → (a ≡ false → A) → (b ≡ false → A) → (d ≡ false → A) → (a ≡ true → b ≡ true → d ≡ true → z ≡ true → A) → A
three true true true z e f g h k = k refl refl refl (sym e)
three true true false z e f g h k = h refl
three true false d z e f g h k = g refl
three false b d z e f g h k = f refl

module _ (c : ℕ → ℕ) (n t : ℕ) where
  pub record Totals : Type 0 where
    pub references_few : start_of c (n * 2 + t) ≤ 69632
    pub descriptors_few : start_of c (blocks n t) - start_of c (n * 2 + t) ≤ 2048
    pub actions_few : start_of c (bin_count n t) - start_of c (blocks n t) ≤ 163840

  pub within_totals : is_within c n t ≡ true → Totals
  within_totals e =
      three (leb (start_of c (n * 2 + t)) 69632) (leb (start_of c (blocks n t) - start_of c (n * 2 + t)) 2048) (leb (start_of c (bin_count n t) - start_of c (blocks n t)) 163840) true e
      (λ q. absurd (clash q)) (λ q. absurd (clash' q)) (λ q. absurd (clash'' q))
      (λ q r s z.
      record {
        references_few = leb-true (start_of c (n * 2 + t)) 69632 q;
        descriptors_few = leb-true (start_of c (blocks n t) - start_of c (n * 2 + t)) 2048 r;
        actions_few = leb-true (start_of c (bin_count n t) - start_of c (blocks n t)) 163840 s;
      })
    where
      no : true ≡ false → ⊥
      no z = let q : ◌≡◌ {A = ℕ} 0 1 = cc in omega arith

      clash : leb (start_of c (n * 2 + t)) 69632 ≡ false → ⊥
      clash q = no (sym e ∙ rw q refl)

      clash' : leb (start_of c (blocks n t) - start_of c (n * 2 + t)) 2048 ≡ false → ⊥
      clash' q = no (sym e ∙ rw q (second (leb (start_of c (n * 2 + t)) 69632) (leb (start_of c (bin_count n t) - start_of c (blocks n t)) 163840)))
        where
          second : (a d : Bool) → (a && false && d) ≡ false
          second true d = refl
          second false d = refl

      clash'' : leb (start_of c (bin_count n t) - start_of c (blocks n t)) 163840 ≡ false → ⊥
      clash'' q = no (sym e ∙ rw q (third (leb (start_of c (n * 2 + t)) 69632) (leb (start_of c (blocks n t) - start_of c (n * 2 + t)) 2048)))
        where
          third : (a b : Bool) → (a && b && false) ≡ false
          third true true = refl
          third true false = refl
          third false b = refl

  pub within_size : Few n t → Totals → table_base n t + start_of c (bin_count n t) ≤ 242950
  within_size f w =
      let a = f.rows in let b = f.transitions in let x = w.references_few in let y = w.descriptors_few in let z = w.actions_few in omega arith

module _ (slots : List (List ℕ)) (n t : ℕ) (c : ℕ → ℕ) (items : List Item) (x : Content) (full : (k : ℕ) → k < bin_count n t → length (values_of items k) ≡ c k) (held : Held slots n t items x) where
  pub over_size : is_within c n t ≡ false → keeps_rules (numbers_of slots x) (names_of slots) ≡ Size
  over_size e =
      let a = list_sum slots n t c items x full held in
      let b = target_sum slots n t c items x full held in
      let d = descriptor_sum slots n t c items x full held in
      let g = row_block_sum slots n t c items x full held in
      let h = block_sum slots n t c items x full held in
      let u = length-append (row_refs x) (flat target_list x.transitions) in
      let v = length-append (row_blocks x) (flat transition_acts x.transitions) in
      three (leb (start_of c (n * 2 + t)) 69632) (leb (start_of c (blocks n t) - start_of c (n * 2 + t)) 2048) (leb (start_of c (bin_count n t) - start_of c (blocks n t)) 163840) false e
      (λ q. let l = leb-false (start_of c (n * 2 + t)) 69632 q in many_references slots x (omega arith))
      (λ q. let l = leb-false (start_of c (blocks n t) - start_of c (n * 2 + t)) 2048 q in many_descriptors slots x (omega arith))
      (λ q. let l = leb-false (start_of c (bin_count n t) - start_of c (blocks n t)) 163840 q in many_actions slots x (omega arith))
      (λ p q r z. absurd (let o : ◌≡◌ {A = ℕ} 0 1 = cc in omega arith))
