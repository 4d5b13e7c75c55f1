-- Searches: what the next and the previous row of a list are, and how a search by words finds them.
use Rattle.std.specs.Prelude.{◌≡◌, refl, true, false, List, [], ◌∷◌, ℕ, suc, ◌+◌, ◌-◌, ◌*◌, ◌≤◌, ◌<◌, min, leb, ltb}
use Rattle.std.proofs.Math.Path.{sym, ap}
use Rattle.std.proofs.Common.{◌∙◌, arith}
use Rattle.std.proofs.Math.Option.{Option, none, some}
use borrow.Author.Tests.{le-leb, lt-leb, leb-true, leb-false, lt-ltb, le-ltb, ltb-true, ltb-false, ne_eqb, eq-eqb}
use Rattle.definition.specs.Rows.{mem, keep, first, backwards, is_empty, is_single, not_in, minus}
use Rattle.laws.specs.Bools.{no, clash, not_so, and_false}
use Rattle.laws.specs.Sets.{Ascends, mem_keep}
use Rattle.laws.specs.Orders.{lt_case, leads_first, first_leads, first_left, first_missing, missing_first, keep_all, keep_none, ascends_pairs, mem_backwards, pairs_backwards}
use Rattle.numbers.specs.declared.Row.{Row}
use Rattle.rowset.specs.declared.RowSet.{RowSet}
use Rattle.std.specs.declared.option.Option.TheVariants.{Some, None}
use Rattle.rowset.specs.Member.{bit, word_of, member, rows_of, is_from, is_below, found, next_in, prev_in, LowFrom, HighBelow}
use Rattle.rowset.specs.Words.{member_past, member_at, member_in}
use Rattle.rowset.specs.Rows.{mem_rows, ascends_rows}

found_at : (o : Option ℕ) (r : Row) → found o ≡ Some r → o ≡ some r.0
unfolding found
found_at none r e = let z : ◌≡◌ {A = ℕ} 0 1 = cc in absurd (omega arith)
found_at (some x) r e = let q : record { 0 = x } ≡ r = cc in ap (λ (y : Row). some y.0) q

found_none : (o : Option ℕ) → found o ≡ None → o ≡ none
unfolding found
found_none none e = refl
found_none (some x) e = let z : ◌≡◌ {A = ℕ} 0 1 = cc in absurd (omega arith)

-- ---- the next of an ascending list

-- r is the least of xs from k on
pub record NextAt (xs : List ℕ) (k r : ℕ) : Type 0 where
  pub low : k ≤ r
  pub here : mem r xs ≡ true
  pub none : (m : ℕ) → k ≤ m → m < r → mem m xs ≡ false

-- those of xs from k on
unfoldable pub rest_from : List ℕ → ℕ → List ℕ
rest_from xs k = keep (is_from k) xs

module _ (xs : List ℕ) (up : Ascends 0 xs) (k : ℕ) where
  pub next_is : (r : ℕ) → NextAt xs k r → next_in xs k ≡ Some (record { 0 = r })
  unfolding next_in found
  next_is r f =
      ap found (leads_first (λ x y. x < y) (is_from k) xs r (ascends_pairs 0 xs up) (record {
        isin = f.here;
        passes = le-leb k r f.low;
        before = λ x m l. lt_case x k (λ g. lt-leb k x g) (λ g. absurd (no (sym (f.none x g l) ∙ m)));
      }))

  pub next_at_lem : (r : Row) → next_in xs k ≡ Some r → NextAt xs k r.0
  unfolding next_in
  next_at_lem r e =
      let l = first_leads (λ x y. x < y) (is_from k) (λ x y a b. omega arith) xs r.0 (ascends_pairs 0 xs up) (found_at (first (is_from k) xs) r e) in
      record {
        low = leb-true k r.0 l.passes;
        here = l.isin;
        none = λ m g h. not_so (mem m xs) (λ i. clash (leb k m) (le-leb k m g) (l.before m i h));
      }

  pub rest_next : (r : Row) → next_in xs k ≡ Some r → rest_from xs k ≡ r.0 ∷ rest_from xs (r.0 + 1)
  unfolding next_in rest_from
  rest_next r e =
      first_left (λ x y. x < y) (is_from k) (is_from (r.0 + 1)) xs r.0 (ascends_pairs 0 xs up) (found_at (first (is_from k) xs) r e)
      (λ x y l p. let q : k ≤ x = leb-true k x p in le-leb k y (omega arith))
      (λ x l. le-leb (r.0 + 1) x (omega arith))
      (lt-leb (r.0 + 1) r.0 (omega arith))
      (λ x p. let q : x < k = leb-false k x p in let a : k ≤ r.0 = (next_at_lem r e).low in lt-leb (r.0 + 1) x (omega arith))

module _ (xs : List ℕ) (k : ℕ) where
  pub next_none : ((m : ℕ) → k ≤ m → mem m xs ≡ false) → next_in xs k ≡ None
  unfolding next_in found
  next_none h = ap found (first_missing (is_from k) xs (λ x m. not_so (leb k x) (λ l. no (sym (h x (leb-true k x l)) ∙ m))))

  from_none : next_in xs k ≡ None → (x : ℕ) → mem x xs ≡ true → is_from k x ≡ false
  unfolding next_in
  from_none e = missing_first (is_from k) xs (found_none (first (is_from k) xs) e)

  pub none_next : next_in xs k ≡ None → (m : ℕ) → k ≤ m → mem m xs ≡ false
  none_next e m l = not_so (mem m xs) (λ i. clash (leb k m) (le-leb k m l) (from_none e m i))

  pub rest_none : next_in xs k ≡ None → rest_from xs k ≡ []
  unfolding rest_from
  rest_none e = keep_none (is_from k) xs (from_none e)

pub rest_all : (xs : List ℕ) → rest_from xs 0 ≡ xs
unfolding rest_from
rest_all xs = keep_all (is_from 0) xs (λ x m. le-leb 0 x (omega arith))

-- ---- the one before, in an ascending list

-- r is the greatest of xs below k
pub record PrevAt (xs : List ℕ) (k r : ℕ) : Type 0 where
  pub high : r < k
  pub here : mem r xs ≡ true
  pub none : (m : ℕ) → r < m → m < k → mem m xs ≡ false

-- those of xs below k, descending
unfoldable pub rest_below : List ℕ → ℕ → List ℕ
rest_below xs k = keep (is_below k) (backwards xs)

module _ (xs : List ℕ) (up : Ascends 0 xs) (k : ℕ) where
  pub prev_is : (r : ℕ) → PrevAt xs k r → prev_in xs k ≡ Some (record { 0 = r })
  unfolding prev_in found
  prev_is r f =
      ap found (leads_first (λ x y. y < x) (is_below k) (backwards xs) r (pairs_backwards (λ x y. x < y) xs (ascends_pairs 0 xs up)) (record {
        isin = mem_backwards r xs ∙ f.here;
        passes = lt-ltb r k f.high;
        before = λ x m l. lt_case x k (λ g. absurd (no (sym (f.none x l g) ∙ sym (mem_backwards x xs) ∙ m))) (λ g. le-ltb x k g);
      }))

  pub prev_at : (r : Row) → prev_in xs k ≡ Some r → PrevAt xs k r.0
  unfolding prev_in
  prev_at r e =
      let l = first_leads (λ x y. y < x) (is_below k) (λ x y a b. omega arith) (backwards xs) r.0 (pairs_backwards (λ x y. x < y) xs (ascends_pairs 0 xs up))
      (found_at (first (is_below k) (backwards xs)) r e) in
      record {
        high = ltb-true r.0 k l.passes;
        here = sym (mem_backwards r.0 xs) ∙ l.isin;
        none = λ m g h. not_so (mem m xs) (λ i. clash (ltb m k) (lt-ltb m k h) (l.before m (mem_backwards m xs ∙ i) g));
      }

  pub rest_prev : (r : Row) → prev_in xs k ≡ Some r → rest_below xs k ≡ r.0 ∷ rest_below xs r.0
  unfolding prev_in rest_below
  rest_prev r e =
      first_left (λ x y. y < x) (is_below k) (is_below r.0) (backwards xs) r.0 (pairs_backwards (λ x y. x < y) xs (ascends_pairs 0 xs up))
      (found_at (first (is_below k) (backwards xs)) r e)
      (λ x y l p. let q : x < k = ltb-true x k p in lt-ltb y k (omega arith))
      (λ x l. lt-ltb x r.0 l)
      (le-ltb r.0 r.0 (omega arith))
      (λ x p. let q : k ≤ x = ltb-false x k p in let a : r.0 < k = (prev_at r e).high in le-ltb x r.0 (omega arith))

module _ (xs : List ℕ) (k : ℕ) where
  pub prev_none : ((m : ℕ) → m < k → mem m xs ≡ false) → prev_in xs k ≡ None
  unfolding prev_in found
  prev_none h = ap found (first_missing (is_below k) (backwards xs) (λ x m. not_so (ltb x k) (λ l. no (sym (h x (ltb-true x k l)) ∙ sym (mem_backwards x xs) ∙ m))))

  below_none : prev_in xs k ≡ None → (x : ℕ) → mem x (backwards xs) ≡ true → is_below k x ≡ false
  unfolding prev_in
  below_none e = missing_first (is_below k) (backwards xs) (found_none (first (is_below k) (backwards xs)) e)

  pub none_prev : prev_in xs k ≡ None → (m : ℕ) → m < k → mem m xs ≡ false
  none_prev e m l = not_so (mem m xs) (λ i. clash (ltb m k) (lt-ltb m k l) (below_none e m (mem_backwards m xs ∙ i)))

  pub rest_start : prev_in xs k ≡ None → rest_below xs k ≡ []
  unfolding rest_below
  rest_start e = keep_none (is_below k) (backwards xs) (below_none e)

pub rest_whole : (xs : List ℕ) (k : ℕ) → ((x : ℕ) → mem x xs ≡ true → x < k) → rest_below xs k ≡ backwards xs
unfolding rest_below
rest_whole xs k h = keep_all (is_below k) (backwards xs) (λ x m. lt-ltb x k (h x (sym (mem_backwards x xs) ∙ m)))

-- ---- the first of all

-- the least row stands first
pub first_row : (xs : List ℕ) → Ascends 0 xs → (r : Row) → next_in xs 0 ≡ Some r → xs ≡ r.0 ∷ rest_from xs (r.0 + 1)
first_row xs up r e = sym (rest_all xs) ∙ rest_next xs up 0 r e

pub first_none : (xs : List ℕ) → next_in xs 0 ≡ None → xs ≡ []
first_none xs e = sym (rest_all xs) ∙ rest_none xs 0 e

minus_head : (x : ℕ) (ys : List ℕ) → mem x ys ≡ false → minus (x ∷ ys) (x ∷ []) ≡ ys
unfolding minus mem
minus_head x ys h = rw (eq-eqb x x refl) (keep_all (not_in (x ∷ [])) ys (λ y m. rw (ne_eqb y x (λ e. clash (mem y ys) m (rw e h)))))

-- without it the list is empty exactly if it was the only one
pub single_row : (xs : List ℕ) → Ascends 0 xs → (r : Row) → next_in xs 0 ≡ Some r → is_empty (minus xs (r.0 ∷ [])) ≡ is_single xs
unfolding is_single
single_row xs up r e = rw (first_row xs up r e) (ap is_empty (minus_head r.0 (rest_from xs (r.0 + 1)) after))
  where
    after : mem r.0 (rest_from xs (r.0 + 1)) ≡ false
    after = unfold rest_from in mem_keep (is_from (r.0 + 1)) r.0 xs ∙ rw (lt-leb (r.0 + 1) r.0 (omega arith)) (and_false (mem r.0 xs))

-- ---- a search by words

-- s has no row from lo up to hi
pub record Clear (s : RowSet) (lo hi : ℕ) : Type 0 where
  pub none : (m : ℕ) → lo ≤ m → m < hi → member s m ≡ false

clear_in : (s : RowSet) (lo hi lo' hi' : ℕ) → Clear s lo hi → lo ≤ lo' → hi' ≤ hi → Clear s lo' hi'
clear_in s lo hi lo' hi' f a b = record { none = λ m l h. f.none m (omega arith) (omega arith) }

pub clear_none : (s : RowSet) (lo hi : ℕ) → hi ≤ lo → Clear s lo hi
clear_none s lo hi e = record { none = λ m l h. absurd (omega arith) }

-- no row is past 255
pub clear_top : (s : RowSet) (k : ℕ) → Clear s 256 k
clear_top s k = record { none = λ m l h. member_past s m l }

clear_join : (s : RowSet) (a b d : ℕ) → Clear s a b → Clear s b d → Clear s a d
clear_join s a b d f g = record { none = λ m l h. lt_case m b (λ u. f.none m l u) (λ u. g.none m u h) }

-- bits lo to hi of word q are not set
clear_word : (s : RowSet) (q w lo hi : ℕ) → w ≡ word_of s q → hi ≤ 64 → ((j : ℕ) → lo ≤ j → j < hi → bit w j ≡ false) → Clear s (q * 64 + lo) (q * 64 + hi)
clear_word s q w lo hi e u f = record {
  none = λ m l h. member_in s q m (omega arith) (omega arith) ∙ ap (λ (x : ℕ). bit x (m - q * 64)) (sym e) ∙ f (m - q * 64) (omega arith) (omega arith);
}

clear_rows : (s : RowSet) (lo hi : ℕ) → Clear s lo hi → (m : ℕ) → lo ≤ m → m < hi → mem m (rows_of s) ≡ false
clear_rows s lo hi f m l h = mem_rows s m ∙ f.none m l h

-- upward: none from k up to word q, in which b is the next bit from k on
module _ (s : RowSet) (k q j b w : ℕ) (past : Clear s k (q * 64)) (e : w ≡ word_of s q) (at : j ≡ k - q * 64) (low : LowFrom w j b) where
  up_start : Clear s k (q * 64 + j)
  up_start = record { none = λ m l h. lt_case m (q * 64) (past.none m l) (λ u. absurd (omega arith)) }

  up_clear : Clear s k (q * 64 + b)
  up_clear = clear_join s k (q * 64 + j) (q * 64 + b) up_start (clear_word s q w j b e low.most low.clear)

  pub up_past : 64 ≤ b → Clear s k (q * 64 + 64)
  up_past h = clear_in s k (q * 64 + b) k (q * 64 + 64) up_clear (omega arith) (omega arith)

  pub up_found : b < 64 → (r : ℕ) → r ≡ q * 64 + b → Some (record { 0 = r }) ≡ next_in (rows_of s) k
  up_found h r at' =
      let jb : j ≤ b = low.least in
      sym (next_is (rows_of s) (ascends_rows s) k r (record {
        low = omega arith;
        here = mem_rows s r ∙ ap (member s) at' ∙ member_at s q b h ∙ ap (λ (x : ℕ). bit x b) (sym e) ∙ low.set h;
        none = λ m l u. clear_rows s k (q * 64 + b) up_clear m l (omega arith);
      }))

pub up_nothing : (s : RowSet) (k n : ℕ) → Clear s k n → 256 ≤ n → None ≡ next_in (rows_of s) k
up_nothing s k n f h = sym (next_none (rows_of s) k (λ m l. lt_case m n (λ u. clear_rows s k n f m l u) (λ u. mem_rows s m ∙ member_past s m (omega arith))))

-- downward: none from the word after q up to k; b is the bit of word q before k
module _ (s : RowSet) (k q j b w : ℕ) (past : Clear s (q * 64 + 64) k) (e : w ≡ word_of s q) (at : j ≡ min (k - q * 64) 64) (high : HighBelow w j b) where
  down_start : Clear s (q * 64 + j) k
  down_start = record { none = λ m l h. lt_case m (q * 64 + 64) (λ u. absurd (omega arith)) (λ u. past.none m u h) }

  pub down_past : 64 ≤ b → Clear s (q * 64) k
  down_past h =
      let b64 : b ≤ 64 = high.most in
      let c : Clear s (q * 64 + 0) k = clear_join s (q * 64 + 0) (q * 64 + j) k (clear_word s q w 0 j e (omega arith) (λ i l u. high.clear (omega arith) i u)) down_start in
      clear_in s (q * 64 + 0) k (q * 64) k c (omega arith) (omega arith)

  pub down_found : b < 64 → (r : ℕ) → r ≡ q * 64 + b → Some (record { 0 = r }) ≡ prev_in (rows_of s) k
  down_found h r at' =
      let f = high.set h in
      let bj : b < j = f.0 in
      let over : Clear s (q * 64 + suc b) k = clear_join s (q * 64 + suc b) (q * 64 + j) k (clear_word s q w (suc b) j e (omega arith) f.2) down_start in
      sym (prev_is (rows_of s) (ascends_rows s) k r (record {
        high = omega arith;
        here = mem_rows s r ∙ ap (member s) at' ∙ member_at s q b h ∙ ap (λ (x : ℕ). bit x b) (sym e) ∙ f.1;
        none = λ m g u. clear_rows s (q * 64 + suc b) k over m (omega arith) u;
      }))

pub down_nothing : (s : RowSet) (k n : ℕ) → Clear s n k → n ≤ 0 → None ≡ prev_in (rows_of s) k
down_nothing s k n f z = sym (prev_none (rows_of s) k (λ m l. clear_rows s n k f m (omega arith) l))
