-- Where the values of a tag's attributes stand: 22 cells, two for each attribute by its word.
use Rattle.std.specs.Prelude.{◌≡◌, Bool, not, ◌&&◌, ◌||◌, cond, List, [], ◌∷◌, ◌++◌, ℕ, ◌+◌, ◌*◌, ◌-◌, ◌^◌, ◌≤◌, ◌<◌, length, get_or, set, take, drop, replicate}
use Rattle.std.proofs.lemmas.List.{get_or-replicate, length-replicate}
use Rattle.std.proofs.Math.Path.{refl, sym}
use Rattle.std.proofs.Common.{ap, subst, ◌∙◌, arith, length-set, get_or-set_same, get_or-set_other}
use Rattle.std.proofs.Math.Bool.{true, false}
use Rattle.std.proofs.Math.Dec.{eqb, leb, ltb}
use borrow.Author.Tests.{eqb-true, eqb-false, eq-eqb, ne_eqb, leb-true, ltb-true, le-leb, lt-ltb}
use Rattle.marks.specs.declared.Mark.{Mark}
use Rattle.marks.specs.declared.Mark.TheVariants.{Nothing, Valued, Tagged}
use Rattle.marks.specs.Marks.{value_from, value_to}
use Rattle.reading.specs.Tags.{Part}
use Rattle.reading.specs.Faults.{states, value_of}
use Rattle.gather.specs.Parts.{part_at, states_snoc, value_snoc, absent}

-- the words of the attributes, xmlns 24 to sendid 34
abbrev pub is_word : ℕ → Bool
is_word w = leb 24 w && ltb w 35

-- the two cells of an attribute
abbrev pub from_cell : ℕ → ℕ
from_cell w = (w - 24) * 2

abbrev pub long_cell : ℕ → ℕ
long_cell w = (w - 24) * 2 + 1

abbrev pub stated_in : List ℕ → ℕ → Bool
stated_in cells w = not (eqb (get_or cells (long_cell w) 0) 0)

abbrev pub from_in : List ℕ → ℕ → ℕ
from_in cells w = get_or cells (from_cell w) 0

abbrev pub to_in : List ℕ → ℕ → ℕ
to_in cells w = get_or cells (from_cell w) 0 + (get_or cells (long_cell w) 0 - 1)

pub record WordIn (cells : List ℕ) (w : ℕ) : Type 0 where
  pub room : length cells ≡ 22
  pub least : 24 ≤ w
  pub most : w < 35

pub record EndIn (cells : List ℕ) (w : ℕ) : Type 0 where
  pub room : length cells ≡ 22
  pub least : 24 ≤ w
  pub most : w < 35
  pub end : to_in cells w ≤ 32768

pub record ValueIn (cells : List ℕ) (a b : ℕ) : Type 0 where
  pub room : length cells ≡ 22
  pub first : a ≤ b
  pub quote : b ≤ 32768

pub record Cleared (cells : List ℕ) : Type 0 where
  pub room : length cells ≡ 22
  pub none : (c : ℕ) → c < 22 → get_or cells c 0 ≡ 0

-- the first value of an attribute counts
abbrev pub valued : List ℕ → ℕ → ℕ → ℕ → List ℕ
valued cells w a b = set (set cells (from_cell w) a) (long_cell w) (b - a + 1)

unfoldable pub with_value : List ℕ → ℕ → ℕ → ℕ → List ℕ
with_value cells w a b = cond (is_word w) (cond (eqb (get_or cells (long_cell w) 0) 0) (valued cells w a b) cells) cells

abbrev pub with_mark : List ℕ → Mark → List ℕ
with_mark cells Nothing = cells
with_mark cells (Valued e w a b) = with_value cells w a b
with_mark cells (Tagged a s e) = cells

abbrev pub is_value_mark : Mark → Bool
is_value_mark Nothing = false
is_value_mark (Valued e w a b) = true
is_value_mark (Tagged a s e) = false

-- ---- the code's places

pub clear_done : (cells cells' : List ℕ) → length cells ≡ 22 → cells' ≡ replicate (length cells) 0 → Cleared cells'
clear_done cells cells' e q =
    record {
      room = ap length q ∙ length-replicate (length cells) 0 ∙ e;
      none = λ c l. ap (λ (xs : List ℕ). get_or xs c 0) q ∙ get_or-replicate (length cells) c 0 0 (omega arith);
    }

pub to_fits : (cells : List ℕ) (w a l : ℕ) → EndIn cells w → a ≡ get_or cells (from_cell w) 0 → l ≡ get_or cells (long_cell w) 0 → a + (l - 1) < 2 ^ 64
to_fits cells w a l h p q = let e = h.end in omega arith

pub to_absent : (cells : List ℕ) (w : ℕ) → get_or cells (long_cell w) 0 < 1 → get_or cells (from_cell w) 0 ≡ to_in cells w
to_absent cells w h = omega arith

module _ (cells : List ℕ) (w a b : ℕ) (z : Bool) (is : z ≡ is_word w) where
  pub note_other : z ≡ false → cells ≡ with_value cells w a b
  unfolding with_value
  note_other e = sym (rw (sym is ∙ e) refl)

  pub note_again : z ≡ true → (get_or cells (long_cell w) 0 ≡ 0 → ⊥) → cells ≡ with_value cells w a b
  unfolding with_value
  note_again e f = sym (rw (sym is ∙ e, ne_eqb (get_or cells (long_cell w) 0) 0 f) refl)

  pub note_first : (x y : ℕ) → z ≡ true → get_or cells (long_cell w) 0 ≡ 0 → x ≡ a → y ≡ b - a + 1 → set (set cells (from_cell w) x) (long_cell w) y ≡ with_value cells w a b
  unfolding with_value
  note_first x y e f p q = sym (rw (sym is ∙ e, eq-eqb (get_or cells (long_cell w) 0) 0 f, p, q) refl)

  and_both : (p q : Bool) → (p && q) ≡ true → (p ≡ true) × (q ≡ true)
  and_both true q e = (refl, e)
  and_both false q e = absurd (let x : ◌≡◌ {A = ℕ} 0 1 = cc in omega arith)

  pub word_least : z ≡ true → 24 ≤ w
  word_least e = leb-true 24 w (and_both (leb 24 w) (ltb w 35) (sym is ∙ e)).0

  pub word_most : z ≡ true → w < 35
  word_most e = ltb-true w 35 (and_both (leb 24 w) (ltb w 35) (sym is ∙ e)).1

  pub cell_from : z ≡ true → length cells ≡ 22 → from_cell w < length cells
  cell_from e r = let l = word_least e in let u = word_most e in omega arith

  pub cell_long : z ≡ true → length cells ≡ 22 → long_cell w < length cells
  cell_long e r = let l = word_least e in let u = word_most e in omega arith

  pub cell_set : (i x : ℕ) → z ≡ true → length cells ≡ 22 → long_cell w < length (set cells i x)
  cell_set i x e r = let l = word_least e in let u = word_most e in let n = length-set cells i x in omega arith

module _ (m : Mark) where
  pub mark_value : (e w a b : ℕ) → m ≡ Valued e w a b → true ≡ is_value_mark m
  mark_value e w a b x = sym (ap is_value_mark x)

  pub mark_cells : (cells cells' : List ℕ) (e w a b : ℕ) → m ≡ Valued e w a b → cells' ≡ with_value cells w a b → cells' ≡ with_mark cells m
  mark_cells cells cells' e w a b x q = q ∙ sym (ap (with_mark cells) x)

  pub mark_other : (cells : List ℕ) → ((e w a b : ℕ) → m ≡ Valued e w a b → ⊥) → cells ≡ with_mark cells m
  mark_other cells x = by m refl
    where
      by : (k : Mark) → m ≡ k → cells ≡ with_mark cells m
      by Nothing e = sym (ap (with_mark cells) e)
      by (Valued e w a b) g = absurd (x e w a b g)
      by (Tagged a s e) g = sym (ap (with_mark cells) g)

  pub mark_in : (cells : List ℕ) (e w a b : ℕ) → ValueIn cells (value_from m) (value_to m) → m ≡ Valued e w a b → ValueIn cells a b
  mark_in cells e w a b h x = subst (λ (k : Mark). ValueIn cells (value_from k) (value_to k)) x h

-- ---- the cells say what the parts say

pub record Stated (text cells : List ℕ) (ps : List Part) : Type 0 where
  pub room : length cells ≡ 22
  pub there : (w : ℕ) → 24 ≤ w → w < 35 → stated_in cells w ≡ states w ps
  pub value : (w : ℕ) → 24 ≤ w → w < 35 → take (get_or cells (long_cell w) 0 - 1) (drop (from_in cells w) text) ≡ value_of w ps
  pub inside : (w : ℕ) → 24 ≤ w → w < 35 → to_in cells w ≤ length text

pub stated_none : (text cells : List ℕ) → Cleared cells → Stated text cells []
unfolding states value_of
stated_none text cells h =
    record {
      room = h.room;
      there = λ w l u. rw (h.none (long_cell w) (omega arith)) refl;
      value = λ w l u. rw (h.none (long_cell w) (omega arith)) refl;
      inside = λ w l u. rw (h.none (long_cell w) (omega arith), h.none (from_cell w) (omega arith)) (omega arith);
    }

-- the cells of another attribute stay
module _ (cells : List ℕ) (w a b v : ℕ) (differs : v ≡ w → ⊥) (lw : 24 ≤ w) (lv : 24 ≤ v) where
  kept_from : get_or (valued cells w a b) (from_cell v) 0 ≡ get_or cells (from_cell v) 0
  kept_from = get_or-set_other (set cells (from_cell w) a) (long_cell w) (from_cell v) (b - a + 1) 0 (λ e. omega arith) ∙ get_or-set_other cells (from_cell w) (from_cell v) a 0 (λ e. differs (omega arith))

  kept_long : get_or (valued cells w a b) (long_cell v) 0 ≡ get_or cells (long_cell v) 0
  kept_long = get_or-set_other (set cells (from_cell w) a) (long_cell w) (long_cell v) (b - a + 1) 0 (λ e. differs (omega arith)) ∙ get_or-set_other cells (from_cell w) (long_cell v) a 0 (λ e. omega arith)

module _ (cells : List ℕ) (w a b : ℕ) (room : length cells ≡ 22) (l : 24 ≤ w) (u : w < 35) where
  new_from : get_or (valued cells w a b) (from_cell w) 0 ≡ a
  new_from = get_or-set_other (set cells (from_cell w) a) (long_cell w) (from_cell w) (b - a + 1) 0 (λ e. omega arith) ∙ get_or-set_same cells (from_cell w) a 0 (omega arith)

  new_long : get_or (valued cells w a b) (long_cell w) 0 ≡ b - a + 1
  new_long = get_or-set_same (set cells (from_cell w) a) (long_cell w) (b - a + 1) 0 (let s = length-set cells (from_cell w) a in omega arith)

module _ (text cells : List ℕ) (ps : List Part) (h : Stated text cells ps) (e w a b : ℕ) where
  abbrev p : Part
  p = part_at text e w a b

  -- what an attribute says that the part is none of
  other_there : (v : ℕ) → (v ≡ w → ⊥) → states v (ps ++ p ∷ []) ≡ states v ps
  other_there v ne = states_snoc v ps p ∙ ap (λ (z : Bool). states v ps || z) (ne_eqb w v (λ q. ne (sym q))) ∙ or_false (states v ps)
    where
      or_false : (z : Bool) → (z || false) ≡ z
      or_false true = refl
      or_false false = refl

  other_value : (v : ℕ) → (v ≡ w → ⊥) → value_of v (ps ++ p ∷ []) ≡ value_of v ps
  other_value v ne = value_snoc v ps p ∙ ap (λ (z : Bool). cond (states v ps) (value_of v ps) (cond z p.bytes [])) (ne_eqb w v (λ q. ne (sym q))) ∙ by (states v ps) refl
    where
      by : (z : Bool) → states v ps ≡ z → cond (states v ps) (value_of v ps) [] ≡ value_of v ps
      by true q = rw q refl
      by false q = rw q (sym (absent v ps q))

  -- and one that was stated before
  again_there : states w ps ≡ true → states w (ps ++ p ∷ []) ≡ states w ps
  again_there q = states_snoc w ps p ∙ rw q refl

  again_value : states w ps ≡ true → value_of w (ps ++ p ∷ []) ≡ value_of w ps
  again_value q = value_snoc w ps p ∙ rw q refl

  unnoted : is_word w ≡ false → Stated text cells (ps ++ p ∷ [])
  unnoted q =
      record {
        room = h.room;
        there = λ v l u. h.there v l u ∙ sym (other_there v (differs v l u));
        value = λ v l u. h.value v l u ∙ sym (other_value v (differs v l u));
        inside = h.inside;
      }
    where
      differs : (v : ℕ) → 24 ≤ v → v < 35 → v ≡ w → ⊥
      differs v l u x = let t : is_word w ≡ true = rw (← x, le-leb 24 v l, lt-ltb v 35 u) refl in let z : true ≡ false = sym t ∙ q in let z2 : ◌≡◌ {A = ℕ} 0 1 = cc in omega arith

  repeated : 24 ≤ w → w < 35 → stated_in cells w ≡ true → Stated text cells (ps ++ p ∷ [])
  repeated lw uw q =
      record { room = h.room; there = λ v l u. by_there v l u (eqb v w) refl; value = λ v l u. by_value v l u (eqb v w) refl; inside = h.inside }
    where
      was : states w ps ≡ true
      was = sym (h.there w lw uw) ∙ q

      by_there : (v : ℕ) → 24 ≤ v → v < 35 → (z : Bool) → eqb v w ≡ z → stated_in cells v ≡ states v (ps ++ p ∷ [])
      by_there v l u true z = h.there v l u ∙ subst (λ (k : ℕ). states k ps ≡ states k (ps ++ p ∷ [])) (sym (eqb-true v w z)) (sym (again_there was))
      by_there v l u false z = h.there v l u ∙ sym (other_there v (eqb-false v w z))

      by_value : (v : ℕ) → 24 ≤ v → v < 35 → (z : Bool) → eqb v w ≡ z → take (get_or cells (long_cell v) 0 - 1) (drop (from_in cells v) text) ≡ value_of v (ps ++ p ∷ [])
      by_value v l u true z = h.value v l u ∙ subst (λ (k : ℕ). value_of k ps ≡ value_of k (ps ++ p ∷ [])) (sym (eqb-true v w z)) (sym (again_value was))
      by_value v l u false z = h.value v l u ∙ sym (other_value v (eqb-false v w z))

  noted : 24 ≤ w → w < 35 → stated_in cells w ≡ false → a ≤ b → b ≤ length text → Stated text (valued cells w a b) (ps ++ p ∷ [])
  noted lw uw q f t =
      record {
        room = length-set (set cells (from_cell w) a) (long_cell w) (b - a + 1) ∙ length-set cells (from_cell w) a ∙ h.room;
        there = λ v l u. by_there v l u (eqb v w) refl;
        value = λ v l u. by_value v l u (eqb v w) refl;
        inside = λ v l u. by_inside v l u (eqb v w) refl;
      }
    where
      was : states w ps ≡ false
      was = sym (h.there w lw uw) ∙ q

      now_there : stated_in (valued cells w a b) w ≡ states w (ps ++ p ∷ [])
      now_there =
          ap (λ (k : ℕ). not (eqb k 0)) (new_long cells w a b h.room lw uw) ∙ ap not (ne_eqb (b - a + 1) 0 (λ x. omega arith)) ∙
          sym (states_snoc w ps p ∙ rw (was, eq-eqb w w refl) refl)

      now_value : take (get_or (valued cells w a b) (long_cell w) 0 - 1) (drop (from_in (valued cells w a b) w) text) ≡ value_of w (ps ++ p ∷ [])
      now_value =
          let one : b - a + 1 - 1 ≡ b - a = omega arith in
          rw (new_long cells w a b h.room lw uw, new_from cells w a b h.room lw uw)
          (ap (λ (k : ℕ). take k (drop a text)) one ∙ sym (value_snoc w ps p ∙ rw (was, eq-eqb w w refl) refl))

      now_inside : to_in (valued cells w a b) w ≤ length text
      now_inside = rw (new_long cells w a b h.room lw uw, new_from cells w a b h.room lw uw) (omega arith)

      by_there : (v : ℕ) → 24 ≤ v → v < 35 → (z : Bool) → eqb v w ≡ z → stated_in (valued cells w a b) v ≡ states v (ps ++ p ∷ [])
      by_there v l u true z = subst (λ (k : ℕ). stated_in (valued cells w a b) k ≡ states k (ps ++ p ∷ [])) (sym (eqb-true v w z)) now_there
      by_there v l u false z =
          ap (λ (k : ℕ). not (eqb k 0)) (kept_long cells w a b v (eqb-false v w z) lw l) ∙ h.there v l u ∙ sym (other_there v (eqb-false v w z))

      by_value : (v : ℕ) → 24 ≤ v → v < 35 → (z : Bool) → eqb v w ≡ z → take (get_or (valued cells w a b) (long_cell v) 0 - 1) (drop (from_in (valued cells w a b) v) text) ≡ value_of v (ps ++ p ∷ [])
      by_value v l u true z =
          subst (λ (k : ℕ). take (get_or (valued cells w a b) (long_cell k) 0 - 1) (drop (from_in (valued cells w a b) k) text) ≡ value_of k (ps ++ p ∷ [])) (sym (eqb-true v w z)) now_value
      by_value v l u false z =
          ap (λ (k : ℕ). take (k - 1) (drop (from_in (valued cells w a b) v) text)) (kept_long cells w a b v (eqb-false v w z) lw l) ∙
          ap (λ (k : ℕ). take (get_or cells (long_cell v) 0 - 1) (drop k text)) (kept_from cells w a b v (eqb-false v w z) lw l) ∙ h.value v l u ∙ sym (other_value v (eqb-false v w z))

      by_inside : (v : ℕ) → 24 ≤ v → v < 35 → (z : Bool) → eqb v w ≡ z → to_in (valued cells w a b) v ≤ length text
      by_inside v l u true z = subst (λ (k : ℕ). to_in (valued cells w a b) k ≤ length text) (sym (eqb-true v w z)) now_inside
      by_inside v l u false z =
          let i = h.inside v l u in
          let x = kept_long cells w a b v (eqb-false v w z) lw l in
          let y = kept_from cells w a b v (eqb-false v w z) lw l in
          omega arith

  pub stated_more : a ≤ b → b ≤ length text → Stated text (with_value cells w a b) (ps ++ part_at text e w a b ∷ [])
  unfolding with_value
  stated_more f t = by (leb 24 w) (ltb w 35) (eqb (get_or cells (long_cell w) 0) 0) refl refl refl
    where
      by : (x y z : Bool) → leb 24 w ≡ x → ltb w 35 ≡ y → eqb (get_or cells (long_cell w) 0) 0 ≡ z →
          Stated text (cond (leb 24 w && ltb w 35) (cond (eqb (get_or cells (long_cell w) 0) 0) (valued cells w a b) cells) cells) (ps ++ p ∷ [])
      by false y z i j k = rw i (unnoted (rw i refl))
      by true false z i j k = rw (i, j) (unnoted (rw (i, j) refl))
      by true true false i j k = rw (i, j, k) (repeated (leb-true 24 w i) (ltb-true w 35 j) (rw k refl))
      by true true true i j k = rw (i, j, k) (noted (leb-true 24 w i) (ltb-true w 35 j) (rw k refl) f t)
