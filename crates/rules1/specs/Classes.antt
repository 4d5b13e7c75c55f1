-- Equal ids, found byte by byte: rows whose ids begin alike are one class, named by its first row, and each byte splits every class by its two halves.
-- Behind the last byte that an id can have a class is the rows of one id.
use Rattle.std.specs.Prelude.{◌≡◌, refl, Bool, true, false, not, ◌&&◌, ℕ, zero, suc, ◌+◌, ◌-◌, ◌*◌, ◌/◌, ◌%◌, ◌^◌, ◌<◌, ◌≤◌, eqb, length, set, replicate}
use Rattle.std.proofs.Common.{sym, ◌∙◌, mod-lt, zero-lt-suc, length-set, get_or-set_same, get_or-set_other, eqb-true, eq-eqb, ne_eqb}
use Rattle.std.proofs.Math.Path.{ap}
use mathlib.Core.List.{List, [], ◌∷◌}
use native.Mathlib.Omega.{arith}
use Rattle.std.proofs.Math.ListN.{get_or}
use Rattle.std.proofs.lemmas.List.{length-replicate, get_or-replicate}
use Rattle.std.proofs.lemmas.Bool.{eqb-false}
use Rattle.definition.specs.Rows.{all, from, same}
use Rattle.definition.specs.Names.{Name, before_zero}
use Rattle.definition.specs.Tables.{row_count, id_at, slot_at, name_at}
use Rattle.definition.specs.Rules.{id_differs, id_fits}
use Rattle.laws.specs.Bools.{no, bool_case, eq_case}
use Rattle.laws.specs.Lists.{same_eq, same_self}
use Rattle.laws.specs.Loops.{all_begin, all_turn, each_below, below_each}
use Rattle.names.specs.Spelling.{id_short, done_length}
use Rattle.tables.specs.Parts.{IdOf, SlotOf}
use Rattle.rules1.specs.Ids.{AllIds, is_id_of, is_new_id, id_named_lem, id_slots, differs_root, differs_names, ids_leave, ids_done, new_no, new_done, new_leave}
use Rattle.rules1.specs.Splits.{cell_of, Named, Split}

-- ---- the classes of the rows, by the first p bytes of their ids

unfoldable pub byte_at : List ℕ → List ℕ → ℕ → ℕ → ℕ
byte_at numbers names p k = get_or (slot_at names (id_at numbers k)) p 0

module _ (numbers names : List ℕ) where
  abbrev rows : ℕ
  rows = row_count numbers

  abbrev byte : ℕ → ℕ → ℕ
  byte p k = byte_at numbers names p k

  -- byte p of each row's id
  pub record Bytes (p n : ℕ) (bytes : List ℕ) : Type 0 where
    pub size : length bytes ≡ 256
    pub are : (k : ℕ) → 0 < k → k < n → (get_or bytes k 0 ≡ byte_at numbers names p k) × (get_or bytes k 0 < 256)

  pub record Classes (p : ℕ) (class : List ℕ) : Type 0 where
    pub size : length class ≡ 256
    pub named : Named class (row_count numbers)
    pub first : (k : ℕ) → 0 < k → k < row_count numbers → (t : ℕ) → t < p → byte_at numbers names t (get_or class k 0) ≡ byte_at numbers names t k
    pub join : (k j : ℕ) → 0 < k → k < row_count numbers → 0 < j → j < row_count numbers → ((t : ℕ) → t < p → byte_at numbers names t k ≡ byte_at numbers names t j) → get_or class k 0 ≡ get_or class j 0

  pub bytes_begin : (p : ℕ) → Bytes p 1 (replicate 256 0)
  bytes_begin p = record { size = length-replicate {A = ℕ} 256 0; are = λ k l m. absurd (omega arith) }

  pub bytes_turn : (p i b : ℕ) (bytes : List ℕ) → Bytes p i bytes → i < 256 → b ≡ byte_at numbers names p i → b < 256 → Bytes p (i + 1) (set bytes i b)
  bytes_turn p i b bytes o l e m = record {
    size = length-set bytes i b ∙ o.size;
    are = λ k g h. eq_case k i (λ q. rw (q, get_or-set_same bytes i b 0 (rw o.size l)) (e, m))
        (λ d. rw (get_or-set_other bytes i k b 0 d) (o.are k g (omega (arith, d, h))));
  }

  pub bytes_done : (p i n : ℕ) (bytes : List ℕ) → n ≤ i → Bytes p i bytes → Bytes p n bytes
  bytes_done p i n bytes g o = record { size = o.size; are = λ k l m. o.are k l (omega arith) }

  -- the byte was read in the slot of the row's id
  pub byte_read : (i n p : ℕ) (xs : List ℕ) → IdOf numbers i n → SlotOf names n xs → get_or xs p 0 ≡ byte_at numbers names p i
  unfolding byte_at
  byte_read i n p xs o a = rw (a.is, o.is)

  pub classes_begin : row_count numbers ≤ 256 → Classes 0 (replicate 256 1)
  classes_begin few = record {
    size = length-replicate {A = ℕ} 256 1;
    named = record { low = λ k p l. rw (one k (omega arith)) (let a : 0 < 1 = omega arith in a, p) };
    first = λ k p l t h. absurd (omega arith);
    join = λ k j p l q m h. one k (omega arith) ∙ sym (one j (omega arith));
  }
    where
      one : (k : ℕ) → k < 256 → get_or {A = ℕ} (replicate 256 1) k 0 ≡ 1
      one k l = get_or-replicate {A = ℕ} 256 k 1 0 l

  -- ---- both halves of a byte

  halves : (a b : ℕ) → a < 256 → b < 256 → a / 2 ^ 4 % 16 ≡ b / 2 ^ 4 % 16 → a / 2 ^ 0 % 16 ≡ b / 2 ^ 0 % 16 → a ≡ b
  halves a b l m e f = omega arith

  cell_parts : (a b x y : ℕ) → a * 16 + x % 16 ≡ b * 16 + y % 16 → (a ≡ b) × (x % 16 ≡ y % 16)
  cell_parts a b x y e =
      let l = mod-lt x (zero-lt-suc 15) in let m = mod-lt y (zero-lt-suc 15) in
      let q : a ≡ b = omega (arith, e, l, m) in (q, omega (arith, e, l, m))

  module _ (p : ℕ) (class bytes mid out : List ℕ) (o : Classes p class) (b : Bytes p (row_count numbers) bytes) (high : Split class bytes 4 (row_count numbers) mid) (half : Split mid bytes 0 (row_count numbers) out) where
    up_to : (k j : ℕ) → ((t : ℕ) → t < p → byte t k ≡ byte t j) → byte p k ≡ byte p j → (t : ℕ) → t < p + 1 → byte t k ≡ byte t j
    up_to k j f e t l = eq_case t p (λ q. rw q e) (λ d. f t (omega (arith, d, l)))

    same_byte : (k j : ℕ) → 0 < k → k < rows → 0 < j → j < rows → byte p k ≡ byte p j → get_or bytes k 0 ≡ get_or bytes j 0
    same_byte k j c l d m e = (b.are k c l).0 ∙ e ∙ sym (b.are j d m).0

    join' : (k j : ℕ) → 0 < k → k < rows → 0 < j → j < rows → ((t : ℕ) → t < p + 1 → byte t k ≡ byte t j) → get_or out k 0 ≡ get_or out j 0
    join' k j c l d m f =
        let e = o.join k j c l d m (λ t g. f t (omega arith)) in
        let q = same_byte k j c l d m (f p (omega arith)) in
        let r : get_or mid k 0 ≡ get_or mid j 0 = high.join k j c l d m (rw (e, q)) in
        half.join k j c l d m (rw (r, q))

    first' : (k : ℕ) → 0 < k → k < rows → (t : ℕ) → t < p + 1 → byte t (get_or out k 0) ≡ byte t k
    first' k c l =
        let n = half.named.low k c l in
        let j = get_or out k 0 in
        let j_pos : 0 < j = n.0 in
        let j-low : j < rows = let z = n.1 in omega arith in
        let low = cell_parts _ _ (get_or bytes j 0 / 2 ^ 0) (get_or bytes k 0 / 2 ^ 0) (half.first k c l) in
        let up = cell_parts _ _ (get_or bytes j 0 / 2 ^ 4) (get_or bytes k 0 / 2 ^ 4) (sym (high.first j j_pos j-low) ∙ ap (cell_of class bytes 4) low.0 ∙ high.first k c l) in
        let q = halves _ _ (b.are j j_pos j-low).1 (b.are k c l).1 up.1 low.1 in
        let e : byte p j ≡ byte p k = sym (b.are j j_pos j-low).0 ∙ q ∙ (b.are k c l).0 in
        up_to j k (λ t g. sym (o.first j j_pos j-low t g) ∙ ap (byte t) up.0 ∙ o.first k c l t g) e

    pub classes_turn : Classes (p + 1) out
    classes_turn = record { size = half.size; named = half.named; first = first'; join = join' }

  -- the same, where the rows are counted by n
  module _ (p n : ℕ) (e : n ≡ row_count numbers) where
    pub next_named : (class : List ℕ) → Classes p class → Named class n
    next_named class o = rw e o.named

    pub next_split : (class bytes mid out : List ℕ) → Classes p class → Bytes p (row_count numbers) bytes → Split class bytes 4 n mid → Split mid bytes 0 n out → Classes (p + 1) out
    next_split class bytes mid out o b h l = classes_turn p class bytes mid out o b (rw e at h) (rw e at l)

-- ---- behind the last byte

empty : (zs : List ℕ) → length zs ≤ 0 → zs ≡ []
empty [] l = refl
empty (z ∷ zs) l = absurd (omega arith)

ends : (x : ℕ) (xs : List ℕ) → x ≡ 0 → before_zero (x ∷ xs) ≡ []
unfolding before_zero
ends x xs e = rw (eq-eqb x 0 e)

goes_on : (x : ℕ) (xs : List ℕ) → (x ≡ 0 → ⊥) → before_zero (x ∷ xs) ≡ x ∷ before_zero xs
unfolding before_zero
goes_on x xs d = rw (ne_eqb x 0 d)

ends_none_lem : before_zero [] ≡ []
unfolding before_zero
ends_none_lem = refl

-- names are told apart by the bytes that they can have
alike : (n : ℕ) (xs ys : List ℕ) → ((t : ℕ) → t < n → get_or xs t 0 ≡ get_or ys t 0) → length (before_zero xs) ≤ n → length (before_zero ys) ≤ n → before_zero xs ≡ before_zero ys
alike zero xs ys f l m = empty _ l ∙ sym (empty _ m)
alike (suc n) [] [] f l m = refl
alike (suc n) [] (y ∷ ys) f l m = ends_none_lem ∙ sym (ends y ys (sym (f 0 (omega arith))))
alike (suc n) (x ∷ xs) [] f l m = ends x xs (f 0 (omega arith)) ∙ sym ends_none_lem
alike (suc n) (x ∷ xs) (y ∷ ys) f l m =
    let e : x ≡ y = f 0 (omega arith) in
    eq_case x 0 (λ z. ends x xs z ∙ sym (ends y ys (sym e ∙ z)))
    (λ d. let p = goes_on x xs d in let q = goes_on y ys (λ z. d (e ∙ z)) in
    let a : length (before_zero xs) ≤ n = omega (arith, rw p at l) in
    let b : length (before_zero ys) ≤ n = omega (arith, rw q at m) in
    p ∙ rw (e, alike n xs ys (λ t g. f (suc t) (omega arith)) a b) (sym q))

unfoldable pub is_alone : List ℕ → ℕ → Bool
is_alone class zero = true
is_alone class (suc i) = eqb (get_or class (suc i) 0) (suc i)

pub alone_root : (class : List ℕ) → all (is_alone class) (from 1 0) ≡ true
alone_root class = all_turn (is_alone class) 0 (all_begin (is_alone class)) (unfold is_alone in refl)

pub alone_own : (class : List ℕ) (i : ℕ) → 0 < i → get_or class i 0 ≡ i → is_alone class i ≡ true
unfolding is_alone
alone_own class zero p e = refl
alone_own class (suc i) p e = eq-eqb _ _ e

pub alone_not : (class : List ℕ) (i : ℕ) → 0 < i → (get_or class i 0 ≡ i → ⊥) → is_alone class i ≡ false
unfolding is_alone
alone_not class zero p d = absurd (omega arith)
alone_not class (suc i) p d = ne_eqb _ _ d

alone_is : (class : List ℕ) (i : ℕ) → 0 < i → is_alone class i ≡ true → get_or class i 0 ≡ i
unfolding is_alone
alone_is class zero p e = absurd (omega arith)
alone_is class (suc i) p e = eqb-true _ _ e

alone_some : (class : List ℕ) (i : ℕ) → is_alone class i ≡ false → (0 < i) × (get_or class i 0 ≡ i → ⊥)
unfolding is_alone
alone_some class zero e = absurd (no (sym e))
alone_some class (suc i) e = (omega arith, eqb-false _ _ e)

module _ (numbers names class : List ℕ) (a : AllIds numbers names) (o : Classes numbers names 52 class) where
  abbrev name : ℕ → Name
  name i = name_at names (id_at numbers i)

  short : (i : ℕ) → 0 < i → i < row_count numbers → length (name i) ≤ 52
  short i p l = let h = id_short (name i) (id_named_lem numbers names i p (a.ids i l)) in let e = done_length (name i) in omega arith

  same_class : (i j : ℕ) → 0 < i → i < row_count numbers → 0 < j → j < row_count numbers → name i ≡ name j → get_or class i 0 ≡ get_or class j 0
  unfolding byte_at
  same_class i j p l q m e = o.join i j p l q m (λ t g. ap (λ (xs : List ℕ). get_or xs t 0) (id_slots numbers names a.slots i j p q l m (a.ids i l) (a.ids j m) e))

  same_name : (i : ℕ) → 0 < i → i < row_count numbers → name (get_or class i 0) ≡ name i
  unfolding byte_at name_at
  same_name i p l = let r = o.named.low i p l in
      let m : get_or class i 0 < row_count numbers = let z = r.1 in omega arith in
      alike 52 (slot_at names (id_at numbers (get_or class i 0))) (slot_at names (id_at numbers i)) (o.first i p l) (short (get_or class i 0) r.0 m) (short i p l)

  all_new : all (is_alone class) (from (row_count numbers) 0) ≡ true → (i : ℕ) → i < row_count numbers → is_new_id numbers names i ≡ true
  all_new h i l = sym (new_done numbers names i i (omega arith) (omega arith) (a.ids i l) (below_each (id_differs numbers names i) i differs))
    where
      alone : (k : ℕ) → 0 < k → k < row_count numbers → get_or class k 0 ≡ k
      alone k p m = alone_is class k p (each_below (is_alone class) (row_count numbers) h k m)

      other : (j : ℕ) → suc j < i → same (name i) (name (suc j)) ≡ true → ⊥
      other j m t = let e = sym (alone i (omega arith) l) ∙ same_class i (suc j) (omega arith) l (omega arith) (omega arith) (same_eq _ _ t) ∙ alone (suc j) (omega arith) (omega arith) in omega (arith, e, m)

      differs : (j : ℕ) → j < i → id_differs numbers names i j ≡ true
      differs zero m = differs_root numbers names i
      differs (suc j) m =
          differs_names numbers names i (suc j) (omega arith) (λ w. omega arith) ∙
          ap not (bool_case (same (name i) (name (suc j))) (λ t. absurd (other j m t)) (λ t. t))

  -- a row that is not the first of its class has the id of that one
  twice : (i : ℕ) → i < row_count numbers → is_alone class i ≡ false → false ≡ all (id_fits numbers names) (from (row_count numbers) 0)
  twice i l h =
      let d = alone_some class i h in
      let r = o.named.low i d.0 l in
      let c = get_or class i 0 in
      let low : c < i = let z = r.1 in let w = d.1 in omega (arith, z, w) in
      let e : same (name i) (name c) ≡ true = rw (same_name i d.0 l) (same_self (name i)) in
      ids_leave numbers names i (row_count numbers) l refl (sym (new_leave numbers names i c low (differs_names numbers names i c r.0 (λ w. omega arith) ∙ ap not e)))

  pub classes_tell : (b : Bool) → b ≡ all (is_alone class) (from (row_count numbers) 0) → b ≡ all (id_fits numbers names) (from (row_count numbers) 0)
  classes_tell b e = bool_case b (λ t. t ∙ ids_done numbers names (row_count numbers) (row_count numbers) (omega arith) (omega arith) refl (below_each (is_new_id numbers names) (row_count numbers) (all_new (sym e ∙ t))))
      (λ f. f ∙ some_twice (sym e ∙ f))
    where
      some_twice : all (is_alone class) (from (row_count numbers) 0) ≡ false → false ≡ all (id_fits numbers names) (from (row_count numbers) 0)
      some_twice f = bool_case (all (id_fits numbers names) (from (row_count numbers) 0))
          (λ t. absurd (no (sym f ∙ below_each (is_alone class) (row_count numbers) (λ i l. bool_case (is_alone class i) (λ h. h) (λ h. absurd (no (twice i l h ∙ t)))))))
          (λ t. sym t)

-- a row's id is none
pub ids_some_no : (numbers names : List ℕ) → all (is_id_of numbers names) (from (row_count numbers) 0) ≡ false → false ≡ all (id_fits numbers names) (from (row_count numbers) 0)
ids_some_no numbers names f = bool_case (all (id_fits numbers names) (from (row_count numbers) 0))
    (λ t. absurd (no (sym f ∙ below_each (is_id_of numbers names) (row_count numbers) (λ i l. bool_case (is_id_of numbers names i) (λ h. h)
    (λ h. absurd (no (ids_leave numbers names i (row_count numbers) l refl (sym (new_no numbers names i h)) ∙ t)))))))
    (λ t. sym t)

-- the root is one by itself: the rows behind it decide
pub alone_behind : (class : List ℕ) (n : ℕ) (r : Bool) → 1 ≤ n → r ≡ all (λ (i : ℕ). eqb (get_or class i 0) i) (from (n - 1) 1) → r ≡ all (is_alone class) (from n 0)
unfolding from all is_alone
alone_behind class zero r l e = absurd (omega arith)
alone_behind class (suc n) r l e = let k : suc n - 1 ≡ n = omega arith in e ∙ ap (λ (j : ℕ). all (λ (i : ℕ). eqb (get_or class i 0) i) (from j 1)) k ∙ go n 0
  where
    go : (m a : ℕ) → all (λ (i : ℕ). eqb (get_or class i 0) i) (from m (suc a)) ≡ all (is_alone class) (from m (suc a))
    go zero a = refl
    go (suc m) a = ap (λ (b : Bool). eqb (get_or class (suc a) 0) (suc a) && b) (go m (suc a))
