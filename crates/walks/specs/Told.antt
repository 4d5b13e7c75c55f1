-- What the values of a tag's attributes say, as numbers.
use Rattle.std.specs.Prelude.{◌≡◌, refl, Bool, true, cond, List, [], ℕ, suc, ◌+◌, ◌-◌, ◌^◌, ◌≤◌, ◌<◌, eqb, length, take, drop}
use Rattle.std.proofs.Math.Path.{sym}
use Rattle.std.proofs.Common.{ap, subst, ◌∙◌, add-one, length-drop, length-take-le}
use Rattle.std.proofs.Math.Bool.{false, not}
use native.Mathlib.Omega.{arith}
use Rattle.std.proofs.Math.ListN.{get_or}
use Rattle.std.proofs.Math.Seq.{take-nil, drop-nil}
use borrow.Author.Tests.{not-true, not-false, eqb-true}
use Rattle.reading.specs.Faults.{decoded, plain, decimal_from, decimal, is_decimal, name_bytes, condition_at, inner, is_condition, part_faults, cond_word, states, value_of}
use Rattle.definition.specs.Rows.{flat}
use Rattle.gather.specs.Parts.{absent}
use Rattle.facts.specs.Clean.{clean_label, clean_delay, clean_cond}
use Rattle.reading.specs.Tags.{Part}
use Rattle.reading.specs.Content.{place_of, row_in}
use Rattle.marks.specs.Grouped.{bytes_from}
use Rattle.tags.specs.Cells.{stated_in, from_in, to_in, long_cell, Stated}
use Rattle.attribute.specs.Laws.{value_at_lem}
use Rattle.std.specs.declared.option.Option.{Option as program}
use Rattle.std.specs.declared.option.Option.TheVariants.{Some, None}
use Rattle.values.specs.declared.conditions.Span.{Span}
use Rattle.values.specs.Conditions.{span, condition_of}
use Rattle.values.specs.Ids.{ids_from, Noted}
use Rattle.walks.specs.Names.{place_few}

-- ---- the value of an attribute

abbrev pub value_at : List ℕ → List ℕ → ℕ → List ℕ
value_at text cells w = bytes_from text (from_in cells w) (to_in cells w)

-- a part of the text by the two ends that the cells tell
pub part_at : (text cells : List ℕ) (w from to : ℕ) → from ≡ from_in cells w → to ≡ to_in cells w → take (to - from) (drop from text) ≡ value_at text cells w
part_at text cells w from to a b = ap (λ (i : ℕ). take (to - i) (drop i text)) a ∙ ap (λ (j : ℕ). bytes_from text (from_in cells w) j) b

pub record WordRoom (text cells : List ℕ) (w : ℕ) : Type 0 where
  pub room : length cells ≡ 22
  pub least : 24 ≤ w
  pub most : w < 35
  pub short : length text ≤ 32768
  pub inside : to_in cells w ≤ length text

pub word_room : (text cells : List ℕ) (w : ℕ) (ps : List Part) → Stated text cells ps → length text ≤ 32768 → 24 ≤ w → w < 35 → WordRoom text cells w
word_room text cells w ps h s l u = record { room = h.room; least = l; most = u; short = s; inside = h.inside w l u }

-- ---- a place among names

pub record PlaceRoom (text cells names : List ℕ) (n w : ℕ) : Type 0 where
  pub word : WordRoom text cells w
  pub noted : Noted text names n

module _ (text cells names : List ℕ) (n w : ℕ) (from to : ℕ) (a : from ≡ from_in cells w) (b : to ≡ to_in cells w) where
  pub place_is : (place r : ℕ) → place ≡ place_of (take (to - from) (drop from text)) (ids_from text names n 0) → r ≡ place → r ≡ place_of (value_at text cells w) (ids_from text names n 0)
  place_is place r p q =
      q ∙ p ∙ ap (λ (v : List ℕ). place_of v (ids_from text names n 0)) (part_at text cells w from to a b)

module _ (text cells names : List ℕ) (n w : ℕ) (stated : Bool) (is : stated ≡ stated_in cells w) where
  pub place_none : not stated ≡ true → 65535 ≡ cond (stated_in cells w) (place_of (value_at text cells w) (ids_from text names n 0)) 65535
  place_none q = ap (λ (z : Bool). cond z (place_of (value_at text cells w) (ids_from text names n 0)) 65535) (sym (sym is ∙ not-true stated q))

  pub place_some : (r : ℕ) → not stated ≡ false → r ≡ place_of (value_at text cells w) (ids_from text names n 0) →
      r ≡ cond (stated_in cells w) (place_of (value_at text cells w) (ids_from text names n 0)) 65535
  place_some r q e = e ∙ ap (λ (z : Bool). cond z (place_of (value_at text cells w) (ids_from text names n 0)) 65535) (sym (sym is ∙ not-false stated q))

-- ---- decimals

pub record DecimalRoom (text cells : List ℕ) (w most : ℕ) : Type 0 where
  pub word : WordRoom text cells w
  pub limit : most ≤ 4294967295
  pub valid : stated_in cells w ≡ true → is_decimal most (plain (value_at text cells w)) ≡ true

module _ (text cells : List ℕ) (w most : ℕ) (h : DecimalRoom text cells w most) (stated : Bool) (is : stated ≡ stated_in cells w) where
  pub decimal_none : not stated ≡ true → 0 ≡ decimal (plain (value_at text cells w))
  unfolding decoded decimal_from
  decimal_none q =
      let off : not (eqb (get_or cells (long_cell w) 0) 0) ≡ false = sym is ∙ not-true stated q in
      let none : get_or cells (long_cell w) 0 ≡ 0 = eqb-true (get_or cells (long_cell w) 0) 0 (not-false (eqb (get_or cells (long_cell w) 0) 0) off) in
      let short : to_in cells w - from_in cells w ≡ 0 = omega arith in
      sym (ap (λ (n : ℕ). decimal (plain (take n (drop (from_in cells w) text)))) short)

  module _ (from to : ℕ) (a : from ≡ from_in cells w) (b : to ≡ to_in cells w) where
    part_is : take (to - from) (drop from text) ≡ value_at text cells w
    part_is = part_at text cells w from to a b

    pub decimal_room : not stated ≡ false → (most ≤ 4294967295) × (is_decimal most (plain (take (to - from) (drop from text))) ≡ true)
    decimal_room q = (h.limit, ap (λ (v : List ℕ). is_decimal most (plain v)) part_is ∙ h.valid (sym is ∙ not-false stated q))

    pub decimal_is : (r : ℕ) → r ≡ decimal (plain (take (to - from) (drop from text))) → r ≡ decimal (plain (value_at text cells w))
    decimal_is r q = q ∙ ap (λ (v : List ℕ). decimal (plain v)) part_is

-- ---- the row of a cond

pub record CondRoom (text ids : List ℕ) (n : ℕ) (v : List ℕ) : Type 0 where
  pub noted : Noted text ids n
  pub short : length v ≤ 32768
  pub otherwise : is_condition v ≡ false → v ≡ []

inner_none : inner [] ≡ []
inner_none = ap (λ (l : List ℕ). take (name_bytes l) l) (drop-nil (condition_at [])) ∙ take-nil (name_bytes [])

module _ (text ids : List ℕ) (n : ℕ) (v : List ℕ) (h : CondRoom text ids n v) (c : program Span) (is : c ≡ condition_of v) where
  pub row_fits : (name : List ℕ) (place : ℕ) → place ≡ place_of name (ids_from text ids n 0) → place + 1 < 2 ^ 64
  row_fits name place q = let f = place_few name text ids n 0 in let w = h.noted.few in omega arith

  row_by : (name : List ℕ) (place r : ℕ) → name ≡ inner v → place ≡ place_of name (ids_from text ids n 0) → r ≡ place + 1 → r ≡ row_in (ids_from text ids n 0) v
  row_by name place r e p q = q ∙ add-one place ∙ ap suc (p ∙ ap (λ (m : List ℕ). place_of m (ids_from text ids n 0)) e)

  pub row_none : (place r : ℕ) → c ≡ None → place ≡ place_of (take (0 - 0) (drop 0 v)) (ids_from text ids n 0) → r ≡ place + 1 → r ≡ row_in (ids_from text ids n 0) v
  row_none place r o p q = row_by [] place r (sym (ap inner (h.otherwise (by (is_condition v) refl)) ∙ inner_none)) p q
    where
      by : (z : Bool) → is_condition v ≡ z → is_condition v ≡ false
      by true e = absurd (let x : None ≡ Some (span (condition_at v) (condition_at v + name_bytes (drop (condition_at v) v))) = sym o ∙ is ∙ rw e refl in let z2 : ◌≡◌ {A = ℕ} 0 1 = cc in omega arith)
      by false e = e

  module _ (s : Span) (here : c ≡ Some s) where
    so : Some s ≡ Some (span (condition_at v) (condition_at v + name_bytes (drop (condition_at v) v)))
    so = by (is_condition v) refl
      where
        by : (z : Bool) → is_condition v ≡ z → Some s ≡ Some (span (condition_at v) (condition_at v + name_bytes (drop (condition_at v) v)))
        by true e = sym here ∙ is ∙ rw e refl
        by false e = absurd (let x : None ≡ Some s = sym (is ∙ rw e refl) ∙ here in let z2 : ◌≡◌ {A = ℕ} 0 1 = cc in omega arith)

    span_is : s ≡ span (condition_at v) (condition_at v + name_bytes (drop (condition_at v) v))
    span_is = let x = so in cc

    a_is : s.from ≡ condition_at v
    a_is = ap (λ (x : Span). x.from) span_is

    b_is : s.to ≡ condition_at v + name_bytes (drop (condition_at v) v)
    b_is = ap (λ (x : Span). x.to) span_is

    pub row_named : (place r : ℕ) → place ≡ place_of (take (s.to - s.from) (drop s.from v)) (ids_from text ids n 0) → r ≡ place + 1 → r ≡ row_in (ids_from text ids n 0) v
    row_named place r p q =
        let long : s.to - s.from ≡ name_bytes (drop (condition_at v) v) = let x = a_is in let y = b_is in omega arith in
        let name : take (s.to - s.from) (drop s.from v) ≡ inner v = ap (λ (m : ℕ). take m (drop s.from v)) long ∙ ap (λ (m : ℕ). take (name_bytes (drop (condition_at v) v)) (drop m v)) a_is in
        row_by (take (s.to - s.from) (drop s.from v)) place r name p q

pub record CondAtRoom (text cells ids : List ℕ) (n : ℕ) : Type 0 where
  pub word : WordRoom text cells 30
  pub noted : Noted text ids n
  pub otherwise : is_condition (value_at text cells 30) ≡ false → value_at text cells 30 ≡ []

module _ (text cells ids : List ℕ) (n : ℕ) (h : CondAtRoom text cells ids n) (from to : ℕ) (a : from ≡ from_in cells 30) (b : to ≡ to_in cells 30) where
  cond_is : take (to - from) (drop from text) ≡ value_at text cells 30
  cond_is = part_at text cells 30 from to a b

  pub cond_room : CondRoom text ids n (take (to - from) (drop from text))
  cond_room =
      let i = h.word.inside in let s = h.word.short in let d = length-drop from text in
      let l : length (take (to - from) (drop from text)) ≡ to - from = length-take-le (to - from) (drop from text) (omega arith) in
      record { noted = h.noted; short = omega arith; otherwise = subst (λ (v : List ℕ). is_condition v ≡ false → v ≡ []) (sym cond_is) h.otherwise }

  pub cond_row : (r : ℕ) → r ≡ row_in (ids_from text ids n 0) (take (to - from) (drop from text)) → r ≡ row_in (ids_from text ids n 0) (value_at text cells 30)
  cond_row r q = q ∙ ap (row_in (ids_from text ids n 0)) cond_is

-- ---- the values of a tag without a fault

module _ (text cells ids : List ℕ) (n : ℕ) (ps : List Part) (short : length text ≤ 32768) (h : Stated text cells ps) (clean : flat (part_faults (ids_from text ids n 0)) ps ≡ []) where
  pub label_room : DecimalRoom text cells 32 65535
  label_room =
      record {
        word = word_room text cells 32 ps h short (omega arith) (omega arith);
        limit = omega arith;
        valid = λ q.
            ap (λ (v : List ℕ). is_decimal 65535 (plain v)) (value_at_lem text cells 32 ps h (omega arith) (omega arith)) ∙
            clean_label (ids_from text ids n 0) ps clean (sym (h.there 32 (omega arith) (omega arith)) ∙ q);
      }

  pub delay_room : DecimalRoom text cells 33 4294967295
  delay_room =
      record {
        word = word_room text cells 33 ps h short (omega arith) (omega arith);
        limit = omega arith;
        valid = λ q.
            ap (λ (v : List ℕ). is_decimal 4294967295 (plain v)) (value_at_lem text cells 33 ps h (omega arith) (omega arith)) ∙
            clean_delay (ids_from text ids n 0) ps clean (sym (h.there 33 (omega arith) (omega arith)) ∙ q);
      }

  pub condition_room : Noted text ids n → CondAtRoom text cells ids n
  condition_room noted =
      record {
        word = word_room text cells 30 ps h short (omega arith) (omega arith);
        noted = noted;
        otherwise = λ q. value_at_lem text cells 30 ps h (omega arith) (omega arith) ∙ by (states cond_word ps) refl (sym (ap is_condition (value_at_lem text cells 30 ps h (omega arith) (omega arith))) ∙ q);
      }
    where
      by : (z : Bool) → states cond_word ps ≡ z → is_condition (value_of cond_word ps) ≡ false → value_of cond_word ps ≡ []
      by true e q = absurd (let x : true ≡ false = sym (clean_cond (ids_from text ids n 0) ps clean e) ∙ q in let z : ◌≡◌ {A = ℕ} 0 1 = cc in omega arith)
      by false e q = absent cond_word ps e
