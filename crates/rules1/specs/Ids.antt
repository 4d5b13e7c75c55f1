-- The ids of the rows: each is one, and each differs from those of the rows before it, which is the same as from all others.
use Rattle.std.specs.Prelude.{◌≡◌, Bool, false, not, ◌&&◌, List, eqb}
use Rattle.std.proofs.Math.Path.{refl, sym, ap}
use Rattle.std.proofs.Common.{◌∙◌, arith}
use Rattle.std.proofs.Math.Bool.{true}
use Prim.Native.Nat.{ℕ, zero, suc, ◌<◌, ◌≤◌}
use Rattle.std.proofs.Math.ListN.{length}
use borrow.Author.Tests.{eqb-false, eq-eqb, ne_eqb, not-true}
use Rattle.definition.specs.Rows.{all, from, same}
use Rattle.definition.specs.Names.{is_descriptor, is_id, before_zero, zeros_after}
use Rattle.definition.specs.Tables.{no_number, row_count, name_count, id_at, slot_at, name_at}
use Rattle.definition.specs.Rules.{slot_fits, id_differs, id_fits}
use Rattle.laws.specs.Bools.{both_ways, eq_case, and_false, and_left, and_right, and_true, or_left, or_right}
use Rattle.laws.specs.Lists.{same_eq, same_self}
use Rattle.laws.specs.Loops.{each_below, below_each, all_begin, all_leave, all_done}
use Rattle.laws.specs.Orders.{lt_case}
use Rattle.names.specs.Slots.{padded_before}
use Rattle.tables.specs.Ranges.{InTables, SlotsIn, SlotIn, optional_below_lem, slot_in_lem, row_fits}
use Rattle.tables.specs.Parts.{IdOf, SlotOf, slot_is}

-- every slot has been judged
pub record Slots (numbers names : List ℕ) : Type 0 where
  pub tables : InTables numbers
  pub slots : SlotsIn numbers names
  pub fit : (n : ℕ) → n < name_count numbers → slot_fits names n ≡ true

-- the row's id by itself; the root has none
unfoldable pub is_id_of : List ℕ → List ℕ → ℕ → Bool
is_id_of numbers names zero = eqb (id_at numbers 0) no_number
is_id_of numbers names (suc i) = not (eqb (id_at numbers (suc i)) no_number) && is_id (name_at names (id_at numbers (suc i)))

-- and it differs from those before
unfoldable pub is_new_id : List ℕ → List ℕ → ℕ → Bool
is_new_id numbers names i = is_id_of numbers names i && all (id_differs numbers names i) (from i 0)

-- the ids of the rows before i have been judged
pub record IdTurn (numbers names : List ℕ) (i : ℕ) : Type 0 where
  pub slots : Slots numbers names
  pub below : i < row_count numbers
  pub before : (j : ℕ) → j < i → is_new_id numbers names j ≡ true

-- every slot and every id by itself has been judged
pub record AllIds (numbers names : List ℕ) : Type 0 where
  pub slots : Slots numbers names
  pub ids : (i : ℕ) → i < row_count numbers → is_id_of numbers names i ≡ true

-- ---- slots that end in zeros are equal if their names are

pub same_slots : (xs ys : List ℕ) → length xs ≡ length ys → zeros_after xs ≡ true → zeros_after ys ≡ true → same xs ys ≡ same (before_zero xs) (before_zero ys)
same_slots xs ys l a b =
    both_ways (same xs ys) (same (before_zero xs) (before_zero ys))
    (λ e. rw (same_eq xs ys e) (same_self (before_zero ys)))
    (λ e. let q : before_zero xs ≡ before_zero ys = same_eq (before_zero xs) (before_zero ys) e in
    let z : xs ≡ ys = sym (padded_before xs a) ∙ rw (l, q) (padded_before ys b) in
    rw z (same_self ys))

same_swap : (xs ys : List ℕ) → same xs ys ≡ same ys xs
same_swap xs ys = both_ways (same xs ys) (same ys xs) (λ e. rw (same_eq xs ys e) (same_self ys)) (λ e. rw (same_eq ys xs e) (same_self xs))

module _ (numbers names : List ℕ) where
  abbrev name_of : ℕ → List ℕ
  name_of i = name_at names (id_at numbers i)

  -- ---- one pair of rows

  pub differs_root : (i : ℕ) → id_differs numbers names i 0 ≡ true
  unfolding id_differs
  differs_root i = refl

  differs_self : (i : ℕ) → id_differs numbers names i i ≡ true
  unfolding id_differs
  differs_self i = rw (eq-eqb i i refl) (or_left _ _ (or_right (eqb i 0) true refl))

  pub differs_names : (i j : ℕ) → 0 < j → (i ≡ j → ⊥) → id_differs numbers names i j ≡ not (same (name_of i) (name_of j))
  unfolding id_differs
  differs_names i j l d = rw (ne_eqb j 0 (omega arith), ne_eqb i j d)

  differs_swap : (i j : ℕ) → 0 < i → 0 < j → (i ≡ j → ⊥) → id_differs numbers names i j ≡ id_differs numbers names j i
  differs_swap i j l m d = rw (differs_names i j m d, differs_names j i l (λ e. d (sym e)), same_swap (name_of i) (name_of j))

  -- ---- each pair once

  id_parts : (i : ℕ) → id_fits numbers names (suc i) ≡ true → (is_id_of numbers names (suc i) ≡ true) × (all (id_differs numbers names (suc i)) (from (row_count numbers) 0) ≡ true)
  unfolding id_fits is_id_of
  id_parts i h = (and_left _ _ h, and_right (is_id_of numbers names (suc i)) _ h)

  id_new : (i : ℕ) → i < row_count numbers → id_fits numbers names i ≡ true → is_new_id numbers names i ≡ true
  unfolding is_new_id
  id_new zero l h = and_true (is_id_of numbers names 0) _ (unfold is_id_of id_fits in h) (all_begin (id_differs numbers names 0))
  id_new (suc i) l h =
      let p = id_parts i h in
      and_true (is_id_of numbers names (suc i)) _ p.0
      (below_each (id_differs numbers names (suc i)) (suc i) (λ j m. each_below (id_differs numbers names (suc i)) (row_count numbers) p.1 j (omega arith)))

  new_parts : (i : ℕ) → is_new_id numbers names i ≡ true → (is_id_of numbers names i ≡ true) × ((j : ℕ) → j < i → id_differs numbers names i j ≡ true)
  unfolding is_new_id
  new_parts i h = (and_left (is_id_of numbers names i) _ h, each_below (id_differs numbers names i) i (and_right (is_id_of numbers names i) _ h))

  new_id : ((i : ℕ) → i < row_count numbers → is_new_id numbers names i ≡ true) → (i : ℕ) → i < row_count numbers → id_fits numbers names i ≡ true
  unfolding id_fits is_id_of
  new_id f zero l = (new_parts 0 (f 0 l)).0
  new_id f (suc i) l = and_true (is_id_of numbers names (suc i)) _ (new_parts (suc i) (f (suc i) l)).0
      (below_each (id_differs numbers names (suc i)) (row_count numbers) differs)
    where
      differs : (j : ℕ) → j < row_count numbers → id_differs numbers names (suc i) j ≡ true
      differs zero m = differs_root (suc i)
      differs (suc j) m =
          lt_case (suc j) (suc i) (λ b. (new_parts (suc i) (f (suc i) l)).1 (suc j) b)
          (λ g. eq_case i j (λ e. rw e (differs_self (suc j)))
          (λ d. differs_swap (suc i) (suc j) (omega arith) (omega arith) (λ e. d (omega arith)) ∙ (new_parts (suc j) (f (suc j) m)).1 (suc i) (omega arith)))

  ids_each : all (is_new_id numbers names) (from (row_count numbers) 0) ≡ all (id_fits numbers names) (from (row_count numbers) 0)
  ids_each =
      both_ways _ _ (λ e. below_each (id_fits numbers names) (row_count numbers) (new_id (each_below (is_new_id numbers names) (row_count numbers) e)))
      (λ e. below_each (is_new_id numbers names) (row_count numbers) (λ i l. id_new i l (each_below (id_fits numbers names) (row_count numbers) e i l)))

  pub ids_leave : (i m : ℕ) → i < m → m ≡ row_count numbers → is_new_id numbers names i ≡ false → false ≡ all (id_fits numbers names) (from (row_count numbers) 0)
  ids_leave i m l e h = all_leave (is_new_id numbers names) i m (row_count numbers) l e h ∙ ids_each

  pub ids_done : (i m : ℕ) → i ≤ m → m ≤ i → m ≡ row_count numbers → all (is_new_id numbers names) (from i 0) ≡ true → true ≡ all (id_fits numbers names) (from (row_count numbers) 0)
  ids_done i m l g e h = all_done (is_new_id numbers names) i m (row_count numbers) l g e h ∙ ids_each

  pub id_turn : (i m : ℕ) → Slots numbers names → i < m → m ≡ row_count numbers → all (is_new_id numbers names) (from i 0) ≡ true → IdTurn numbers names i
  id_turn i m s l e h = record { slots = s; below = omega arith; before = each_below (is_new_id numbers names) i h }

  -- ---- the slot of a row's id

  id_there : (i : ℕ) → 0 < i → is_id_of numbers names i ≡ true → id_at numbers i ≡ no_number → ⊥
  unfolding is_id_of
  id_there zero l h = absurd (omega arith)
  id_there (suc i) l h = eqb-false _ _ (not-true _ (and_left (not (eqb (id_at numbers (suc i)) no_number)) _ h))

  pub id_named_lem : (i : ℕ) → 0 < i → is_id_of numbers names i ≡ true → is_id (name_of i) ≡ true
  unfolding is_id_of
  id_named_lem zero l h = absurd (omega arith)
  id_named_lem (suc i) l h = and_right (not (eqb (id_at numbers (suc i)) no_number)) _ h

  module _ (s : Slots numbers names) where
    id_low : (i n : ℕ) → 0 < i → is_id_of numbers names i ≡ true → IdOf numbers i n → n < name_count numbers
    id_low i n l h o = optional_below_lem (name_count numbers) n o.low (λ e. id_there i l h (sym o.is ∙ e))

    pub id_slot_lem : (i n : ℕ) → 0 < i → is_id_of numbers names i ≡ true → IdOf numbers i n → SlotIn names n
    id_slot_lem i n l h o = slot_in_lem numbers names n s.slots (id_low i n l h o)

    slot_zeros : (n : ℕ) → n < name_count numbers → zeros_after (slot_at names n) ≡ true
    unfolding slot_fits
    slot_zeros n l = and_left (zeros_after (slot_at names n)) _ (s.fit n l)

    id_is : (i : ℕ) → i < row_count numbers → IdOf numbers i (id_at numbers i)
    unfolding id_at
    id_is i l = record { is = refl; low = (row_fits numbers i (record { tables = s.tables; below = l })).id }

    slot_size_lem : (n : ℕ) → n < name_count numbers → length (slot_at names n) ≡ 64
    slot_size_lem n l = let a = slot_is names n (slot_in_lem numbers names n s.slots l) in ap length (sym a.is) ∙ a.size

    -- rows of one name have one slot
    pub id_slots : (i j : ℕ) → 0 < i → 0 < j → i < row_count numbers → j < row_count numbers → is_id_of numbers names i ≡ true → is_id_of numbers names j ≡ true →
        name_of i ≡ name_of j → slot_at names (id_at numbers i) ≡ slot_at names (id_at numbers j)
    unfolding name_at
    id_slots i j p q l m h g e =
        let a = id_low i (id_at numbers i) p h (id_is i l) in
        let b = id_low j (id_at numbers j) q g (id_is j m) in
        same_eq _ _ (same_slots (slot_at names (id_at numbers i)) (slot_at names (id_at numbers j)) (slot_size_lem _ a ∙ sym (slot_size_lem _ b)) (slot_zeros _ a) (slot_zeros _ b) ∙ rw e (same_self (before_zero (slot_at names (id_at numbers j)))))

    -- two slots, read by the ids of two rows
    pub id_same : (i j n m : ℕ) (xs ys : List ℕ) → 0 < i → 0 < j → (i ≡ j → ⊥) → is_id_of numbers names i ≡ true → is_id_of numbers names j ≡ true → IdOf numbers i n → IdOf numbers j m →
        SlotOf names n xs → SlotOf names m ys → id_differs numbers names i j ≡ not (same xs ys)
    unfolding name_at
    id_same i j n m xs ys l k d h g o q a b =
        let an = id_low i n l h o in
        let bm = id_low j m k g q in
        let la = a.size in
        let lb = b.size in
        let e : same (slot_at names n) (slot_at names m) ≡ same (name_at names n) (name_at names m) =
        same_slots (slot_at names n) (slot_at names m) (ap length (sym a.is) ∙ la ∙ sym lb ∙ ap length b.is) (slot_zeros n an) (slot_zeros m bm) in
        differs_names i j k d ∙ rw (← o.is, ← q.is, a.is, b.is, e)

    -- ---- the row's own id, as it was read

    -- every slot holds a descriptor
    pub id_descriptor : (i n : ℕ) (xs ys : List ℕ) → IdOf numbers i n → eqb n no_number ≡ false → SlotOf names n xs → ys ≡ before_zero xs → is_descriptor ys ≡ true
    unfolding slot_fits name_at
    id_descriptor i n xs ys o e a q =
        rw (q, a.is) (and_right (zeros_after (slot_at names n)) _ (s.fit n (optional_below_lem (name_count numbers) n o.low (eqb-false _ _ e))))

    pub id_zeros : (i n : ℕ) (xs : List ℕ) → IdOf numbers i n → eqb n no_number ≡ false → SlotOf names n xs → zeros_after xs ≡ true
    id_zeros i n xs o e a = rw a.is (slot_zeros n (optional_below_lem (name_count numbers) n o.low (eqb-false _ _ e)))

    pub id_low_read : (i n : ℕ) → IdOf numbers i n → eqb n no_number ≡ false → SlotIn names n
    id_low_read i n o e = slot_in_lem numbers names n s.slots (optional_below_lem (name_count numbers) n o.low (eqb-false _ _ e))

  pub id_root : (i n : ℕ) → i ≡ 0 → IdOf numbers i n → eqb n no_number ≡ is_id_of numbers names i
  unfolding is_id_of
  id_root i n e o = rw (o.is, e)

  id_other : (i : ℕ) → (i ≡ 0 → ⊥) → is_id_of numbers names i ≡ (not (eqb (id_at numbers i) no_number) && is_id (name_at names (id_at numbers i)))
  unfolding is_id_of
  id_other zero d = absurd (d refl)
  id_other (suc i) d = refl

  pub id_none : (i n : ℕ) → (i ≡ 0 → ⊥) → IdOf numbers i n → eqb n no_number ≡ true → false ≡ is_id_of numbers names i
  id_none i n d o e = sym (id_other i d ∙ rw (← o.is, e))

  pub id_some : (i n : ℕ) (xs ys : List ℕ) (b : Bool) → (i ≡ 0 → ⊥) → IdOf numbers i n → eqb n no_number ≡ false → SlotOf names n xs → ys ≡ before_zero xs → b ≡ is_id ys → b ≡ is_id_of numbers names i
  unfolding name_at
  id_some i n xs ys b d o e a q h = h ∙ rw (q, a.is) (sym (id_other i d ∙ rw (← o.is, e)))

  -- ---- the rows before it

  pub new_no : (i : ℕ) → is_id_of numbers names i ≡ false → false ≡ is_new_id numbers names i
  unfolding is_new_id
  new_no i h = rw h

  pub new_root : (i : ℕ) → i ≡ 0 → is_id_of numbers names i ≡ true → true ≡ is_new_id numbers names i
  unfolding is_new_id
  new_root i e h = sym (and_true (is_id_of numbers names i) _ h (rw e (all_begin (id_differs numbers names 0))))

  pub new_leave : (i j : ℕ) → j < i → id_differs numbers names i j ≡ false → false ≡ is_new_id numbers names i
  unfolding is_new_id
  new_leave i j l h = rw (← all_leave (id_differs numbers names i) j i i l refl h) (sym (and_false (is_id_of numbers names i)))

  pub new_done : (i j : ℕ) → j ≤ i → i ≤ j → is_id_of numbers names i ≡ true → all (id_differs numbers names i) (from j 0) ≡ true → true ≡ is_new_id numbers names i
  unfolding is_new_id
  new_done i j l m h e = sym (and_true (is_id_of numbers names i) _ h (sym (all_done (id_differs numbers names i) j i i l m refl e)))

  module _ (i : ℕ) (t : IdTurn numbers names i) where
    pub before_id : (j : ℕ) → j < i → is_id_of numbers names j ≡ true
    before_id j l = (new_parts j (t.before j l)).0

    pub before_slot : (j m : ℕ) → 0 < j → j < i → IdOf numbers j m → SlotIn names m
    before_slot j m p l q = id_slot_lem t.slots j m p (before_id j l) q

    -- the slots of two rows' ids have been compared
    pub compared : (j n m : ℕ) (xs ys : List ℕ) (b t' : Bool) → is_id_of numbers names i ≡ true → 0 < j → j < i → IdOf numbers i n → IdOf numbers j m → SlotOf names n xs → SlotOf names m ys →
        b ≡ same xs ys → b ≡ t' → id_differs numbers names i j ≡ not t'
    compared j n m xs ys b t' h p l o q a z e f =
        id_same t.slots i j n m xs ys (omega arith) p (λ w. omega arith) h (before_id j l) o q a z ∙ ap not (sym e ∙ f)
