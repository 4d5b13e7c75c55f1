-- Classes of rows, each named by its first row, split by a half of a byte of every row: a table has the first row of each class and half.
use Rattle.std.specs.Prelude.{◌≡◌, refl, cond, List, ℕ, ◌+◌, ◌*◌, ◌/◌, ◌%◌, ◌^◌, ◌<◌, ◌≤◌, eqb, length, get_or, set, replicate}
use Rattle.std.proofs.Common.{sym, ap, ◌∙◌, mod-lt, zero-lt-suc, arith, length-set, get_or-set_same, get_or-set_other, eq-eqb, ne_eqb}
use Rattle.std.proofs.lemmas.List.{length-replicate, get_or-replicate}
use Rattle.std.proofs.Math.ListN.{get_or-eq_default}
use Rattle.laws.specs.Bools.{eq_case}
use Rattle.laws.specs.Orders.{lt_case}

-- ---- one split: by a half of a byte

-- where the rows of one class and one half byte meet in a table
abbrev pub cell_of : List ℕ → List ℕ → ℕ → ℕ → ℕ
cell_of class bytes s k = get_or class k 0 * 16 + get_or bytes k 0 / 2 ^ s % 16

-- each row below n is of a class that its first row names
pub record Named (class : List ℕ) (n : ℕ) : Type 0 where
  pub low : (k : ℕ) → 0 < k → k < n → (0 < get_or class k 0) × (get_or class k 0 ≤ k)

pub cell_low : (class bytes : List ℕ) (s n : ℕ) → Named class n → (k : ℕ) → 0 < k → k < n → n ≤ 256 → cell_of class bytes s k < 4096
cell_low class bytes s n o k p l m = let r = (o.low k p l).1 in let d = mod-lt (get_or bytes k 0 / 2 ^ s) (zero-lt-suc 15) in omega (arith, r, d)

-- the rows below n in their new classes
pub record Split (class bytes : List ℕ) (s n : ℕ) (out : List ℕ) : Type 0 where
  pub size : length out ≡ 256
  pub named : Named out n
  pub first : (k : ℕ) → 0 < k → k < n → cell_of class bytes s (get_or out k 0) ≡ cell_of class bytes s k
  pub join : (k j : ℕ) → 0 < k → k < n → 0 < j → j < n → cell_of class bytes s k ≡ cell_of class bytes s j → get_or out k 0 ≡ get_or out j 0

-- the same of those below i, with the table of the first row of each cell, 0 for none
pub record Firsts (class bytes : List ℕ) (s : ℕ) (table out : List ℕ) (i : ℕ) : Type 0 where
  pub room : length table ≡ 4096
  pub size : length out ≡ 256
  pub sound : (x : ℕ) → 0 < get_or table x 0 → (get_or table x 0 < i) × (cell_of class bytes s (get_or table x 0) ≡ x)
  pub done : (k : ℕ) → 0 < k → k < i → (0 < get_or out k 0) × (get_or out k 0 ≤ k) × (get_or table (cell_of class bytes s k) 0 ≡ get_or out k 0)

pub zeros : (n x : ℕ) → get_or {A = ℕ} (replicate n 0) x 0 ≡ 0
zeros n x = lt_case x n (λ l. get_or-replicate {A = ℕ} n x 0 0 l) (λ g. get_or-eq_default {A = ℕ} (replicate n 0) 0 (rw (length-replicate {A = ℕ} n 0) g))

-- the row that is there, or the new one
unfoldable pub first_of : ℕ → ℕ → ℕ
first_of f i = cond (eqb f 0) i f

first_new : (f i : ℕ) → f ≡ 0 → first_of f i ≡ i
unfolding first_of
first_new f i z = rw (eq-eqb f 0 z)

pub first_none : (f i : ℕ) → f ≡ 0 → i ≡ first_of f i
first_none f i z = sym (first_new f i z)

pub first_some : (f i : ℕ) → (f ≡ 0 → ⊥) → f ≡ first_of f i
unfolding first_of
first_some f i d = rw (ne_eqb f 0 d)

first_old : (f i : ℕ) → 0 < f → first_of f i ≡ f
unfolding first_of
first_old f i l = rw (ne_eqb f 0 (λ e. omega arith))

module _ (class bytes : List ℕ) (s : ℕ) where
  abbrev cell : ℕ → ℕ
  cell k = cell_of class bytes s k

  pub firsts_begin : Firsts class bytes s (replicate 4096 0) (replicate 256 0) 1
  firsts_begin = record {
    room = length-replicate {A = ℕ} 4096 0;
    size = length-replicate {A = ℕ} 256 0;
    sound = λ x l. absurd (let e = zeros 4096 x in omega (arith, e, l));
    done = λ k p l. absurd (omega arith);
  }

  module _ (table out : List ℕ) (i : ℕ) (o : Firsts class bytes s table out i) (positive : 0 < i) (few : i < 256) (low : cell i < 4096) where
    abbrev found : ℕ
    found = get_or table (cell i) 0

    abbrev v : ℕ
    v = first_of found i

    abbrev table' : List ℕ
    table' = set table (cell i) v

    abbrev out' : List ℕ
    out' = set out i v

    own : (0 < v) × (v ≤ i) × (cell v ≡ cell i)
    own = eq_case found 0 (λ z. let e = first_new found i z in rw e (positive, let m : i ≤ i = omega arith in m, refl))
        (λ d. let l : 0 < found = omega (arith, d) in let e = first_old found i l in let r = o.sound (cell i) l in rw e (l, let m = r.0 in omega arith, r.1))

    new_cell : get_or table' (cell i) 0 ≡ v
    new_cell = get_or-set_same table (cell i) v 0 (rw o.room low)

    new_row : get_or out' i 0 ≡ v
    new_row = get_or-set_same out i v 0 (rw o.size few)

    sound' : (x : ℕ) → 0 < get_or table' x 0 → (get_or table' x 0 < i + 1) × (cell (get_or table' x 0) ≡ x)
    sound' x h =
        eq_case x (cell i) (λ e. let q : get_or table' x 0 ≡ v = ap (λ (t : ℕ). get_or table' t 0) e ∙ new_cell in rw q (let m = own.1 in omega arith, own.2 ∙ sym e))
        (λ d. let q : get_or table' x 0 ≡ get_or table x 0 = get_or-set_other table (cell i) x v 0 d in let r = o.sound x (rw q at h) in rw q (let m = r.0 in omega arith, r.1))

    done' : (k : ℕ) → 0 < k → k < i + 1 → (0 < get_or out' k 0) × (get_or out' k 0 ≤ k) × (get_or table' (cell k) 0 ≡ get_or out' k 0)
    done' k p l = eq_case k i same_row other_row
      where
        same_row : k ≡ i → (0 < get_or out' k 0) × (get_or out' k 0 ≤ k) × (get_or table' (cell k) 0 ≡ get_or out' k 0)
        same_row e = rw (e, new_row, new_cell) (own.0, own.1, refl)

        kept : (k ≡ i → ⊥) → (0 < get_or out k 0) × (get_or out k 0 ≤ k) × (get_or table (cell k) 0 ≡ get_or out k 0) → get_or table' (cell k) 0 ≡ get_or out k 0
        kept d r = eq_case (cell k) (cell i)
            (λ e. let q : found ≡ get_or out k 0 = ap (λ (t : ℕ). get_or table t 0) (sym e) ∙ r.2 in
            let g : 0 < found = rw q r.0 in
            ap (λ (t : ℕ). get_or table' t 0) e ∙ new_cell ∙ first_old found i g ∙ q)
            (λ n. get_or-set_other table (cell i) (cell k) v 0 n ∙ r.2)

        other_row : (k ≡ i → ⊥) → (0 < get_or out' k 0) × (get_or out' k 0 ≤ k) × (get_or table' (cell k) 0 ≡ get_or out' k 0)
        other_row d = let b : k < i = omega (arith, d, l) in let r = o.done k p b in
            let q : get_or out' k 0 ≡ get_or out k 0 = get_or-set_other out i k v 0 d in
            rw q (r.0, r.1, kept d r)

    turned : Firsts class bytes s table' out' (i + 1)
    turned = record { room = length-set table (cell i) v ∙ o.room; size = length-set out i v ∙ o.size; sound = sound'; done = done' }

    pub firsts_turn : (w : ℕ) → w ≡ first_of found i → Firsts class bytes s (set table (cell i) w) (set out i w) (i + 1)
    firsts_turn w e = rw e turned

  pub firsts_done : (table out : List ℕ) (i n : ℕ) → n ≤ i → Firsts class bytes s table out i → Split class bytes s n out
  firsts_done table out i n g o = record {
    size = o.size;
    named = record { low = λ k p l. let r = o.done k p (omega arith) in (r.0, r.1) };
    first = λ k p l. let r = o.done k p (omega arith) in let e = r.2 in let h : 0 < get_or table (cell k) 0 = rw e r.0 in ap cell (sym e) ∙ (o.sound (cell k) h).1;
    join = λ k j p l q m e. sym (o.done k p (omega arith)).2 ∙ ap (λ (t : ℕ). get_or table t 0) e ∙ (o.done j q (omega arith)).2;
  }
