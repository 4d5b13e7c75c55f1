-- Sets written into a lent place, four words each: one behind the others, or one changed among the others.
use Rattle.std.specs.Prelude.{◌≡◌, refl, true, ◌&&◌, List, [], ◌∷◌, ◌++◌, ℕ, ◌+◌, ◌*◌, ◌-◌, ◌≤◌, ◌<◌, length, take, drop, leb, ltb}
use Rattle.std.proofs.Common.{sym, ap, ◌∙◌, append_assoc, zero-add, arith, length-append, length-take, length-drop, take-append-drop, take_at, drop_at, drop-drop, length-take-le, leb-true, ltb-true}
use Rattle.std.proofs.Math.Seq.{drop-append-add}
use Rattle.definition.specs.Rows.{from, flat, union, mem}
use Rattle.definition.specs.Compiled.{words, words_at, column}
use Rattle.laws.specs.Bools.{and_left, and_right}
use Rattle.laws.specs.Sets.{mem_from, mem_head, union_set}
use Rattle.laws.specs.Lists.{mem_tail}
use Rattle.rowset.specs.declared.RowSet.{RowSet}
use Rattle.rowset.specs.Member.{rows_of}
unfoldable pub use Rattle.tables.specs.Sets.{put_at}
use Rattle.chart.specs.Ready.{row_set_at}
use Rattle.chart.specs.Columns.{rows_set_of, length_column, column_none, column_more, column_at, set_in_column}

-- a list that was made a set has the same words
pub words_set : (xs : List ℕ) → words (union [] xs) ≡ words xs
unfolding words
words_set xs = rw (union_set [] xs tt)

length_words : (xs : List ℕ) → length (words xs) ≡ 4
unfolding words
length_words xs = refl

put_behind : (p a q : List ℕ) (w : ℕ) (xs : List ℕ) → length p ≡ w → length a ≡ 4 → put_at (p ++ (a ++ q)) w xs ≡ p ++ (words xs ++ q)
unfolding put_at
put_behind p a q w xs e f =
    let d : drop (w + 4) (p ++ (a ++ q)) ≡ q = rw (← e) (drop-append-add p (a ++ q) 4 ∙ drop_at a q 4 f) in
    rw (take_at p (a ++ q) w e, d)

pub length_put : (sets : List ℕ) (w : ℕ) (xs : List ℕ) → w + 4 ≤ length sets → length (put_at sets w xs) ≡ length sets
unfolding put_at words
length_put sets w xs l = simp (length-append, length-take, length-drop) (omega arith)

-- ---- one set more

-- p, the sets below i, and what stood behind them at first
pub put_next : (p : List ℕ) (f : ℕ → List ℕ) (i : ℕ) (post sets : List ℕ) (w : ℕ) (xs : List ℕ) →
    sets ≡ p ++ (column f i ++ drop (i * 4) post) → length p + i * 4 ≡ w → i * 4 + 4 ≤ length post → words xs ≡ words (f i) →
    put_at sets w xs ≡ p ++ (column f (i + 1) ++ drop ((i + 1) * 4) post)
put_next p f i post sets w xs e s l q =
    let a : List ℕ = take 4 (drop (i * 4) post) in
    let m : i * 4 + 4 ≡ (i + 1) * 4 = omega arith in
    let r : drop 4 (drop (i * 4) post) ≡ drop ((i + 1) * 4) post = drop-drop 4 (i * 4) post ∙ ap (λ (k : ℕ). drop k post) m in
    let split : sets ≡ (p ++ column f i) ++ (a ++ drop ((i + 1) * 4) post) =
    e ∙ ap (λ (ys : List ℕ). p ++ (column f i ++ ys)) (sym (take-append-drop 4 (drop (i * 4) post)) ∙ ap (λ (ys : List ℕ). a ++ ys) r) ∙ simp append_assoc in
    let size : length (p ++ column f i) ≡ w = length-append p (column f i) ∙ rw (length_column f i) s in
    let put : put_at sets w xs ≡ (p ++ column f i) ++ (words xs ++ drop ((i + 1) * 4) post) =
    rw split (put_behind (p ++ column f i) a (drop ((i + 1) * 4) post) w xs size (length-take-le 4 (drop (i * 4) post) (rw (length-drop (i * 4) post) (omega arith)))) in
    put ∙ rw (q, column_more f i) (simp append_assoc)

-- ---- one set changed

flat_cong : (g h : ℕ → List ℕ) (xs : List ℕ) → ((a : ℕ) → mem a xs ≡ true → words (g a) ≡ words (h a)) → flat (words_at g) xs ≡ flat (words_at h) xs
unfolding flat words_at
flat_cong g h [] e = refl
flat_cong g h (x ∷ xs) e = rw (e x (mem_head x xs), flat_cong g h xs (λ a m. e a (mem_tail x a xs m)))

-- the numbers from i on are at least i, and below i + n
pub from_bounds : (n i a : ℕ) → mem a (from n i) ≡ true → (i ≤ a) × (a < i + n)
from_bounds n i a m =
    let k : (leb i a && ltb a (i + n)) ≡ true = sym (mem_from a n i) ∙ m in
    (leb-true _ _ (and_left (leb i a) _ k), ltb-true _ _ (and_right (leb i a) _ k))

pub column_cong : (g h : ℕ → List ℕ) (n : ℕ) → ((a : ℕ) → a < n → words (g a) ≡ words (h a)) → column g n ≡ column h n
unfolding column
column_cong g h n e = flat_cong g h (from n 0) (λ a m. let b = (from_bounds n 0 a m).1 in e a (omega arith))

pub put_change : (g h : ℕ → List ℕ) (n k : ℕ) (post sets xs : List ℕ) → sets ≡ column g n ++ post → k < n →
    ((a : ℕ) → a < n → (a ≡ k → ⊥) → words (g a) ≡ words (h a)) → words xs ≡ words (h k) → put_at sets (k * 4) xs ≡ column h n ++ post
put_change g h n k post sets xs e l off at =
    let rest : List ℕ = flat (words_at g) (from (n - (k + 1)) (k + 1)) in
    let same : rest ≡ flat (words_at h) (from (n - (k + 1)) (k + 1)) =
    flat_cong g h (from (n - (k + 1)) (k + 1)) (λ a m. let b = from_bounds (n - (k + 1)) (k + 1) a m in off a (omega (arith, b.1)) (λ q. omega (arith, b.0))) in
    let split : sets ≡ column g k ++ (words (g k) ++ (rest ++ post)) = e ∙ rw (column_at g n k l) (simp append_assoc) in
    let put : put_at sets (k * 4) xs ≡ column g k ++ (words xs ++ (rest ++ post)) =
    rw split (put_behind (column g k) (words (g k)) (rest ++ post) (k * 4) xs (length_column g k) (length_words (g k))) in
    put ∙ rw (column_at h n k l, at, ← same, column_cong g h k (λ a m. off a (omega arith) (λ q. omega arith))) (simp append_assoc)

-- ---- a set read back

pub read_set : (g : ℕ → List ℕ) (n k : ℕ) (post sets : List ℕ) (s : RowSet) → sets ≡ column g n ++ post → k < n → ((x : ℕ) → mem x (g k) ≡ true → x < 256) →
    s ≡ row_set_at sets (k * 4) → rows_of s ≡ union [] (g k)
read_set g n k post sets s e l low q =
    ap rows_of (q ∙ ap (row_set_at sets) (sym (zero-add (k * 4))) ∙ set_in_column g sets [] post n k 0 e refl l) ∙ rows_set_of (g k) low

-- ---- the sets of the numbers below n, over the beginning of a place

unfoldable pub column_over : (ℕ → List ℕ) → ℕ → List ℕ → List ℕ
column_over f n sets = column f n ++ drop (n * 4) sets

pub over_begin : (f : ℕ → List ℕ) (sets : List ℕ) → sets ≡ column_over f 0 sets
unfolding column_over
over_begin f sets = rw (column_none f)

pub over_next : (f : ℕ → List ℕ) (i : ℕ) (post sets : List ℕ) (w : ℕ) (xs : List ℕ) → sets ≡ column_over f i post → i * 4 ≡ w → i * 4 + 4 ≤ length post →
    words xs ≡ words (f i) → put_at sets w xs ≡ column_over f (i + 1) post
unfolding column_over
over_next f i post sets w xs e s l q = put_next [] f i post sets w xs e (zero-add (i * 4) ∙ s) l q

pub over_change : (g h : ℕ → List ℕ) (n k : ℕ) (post sets : List ℕ) (w : ℕ) (xs : List ℕ) → sets ≡ column_over g n post → k < n → k * 4 ≡ w →
    ((a : ℕ) → a < n → (a ≡ k → ⊥) → words (g a) ≡ words (h a)) → words xs ≡ words (h k) → put_at sets w xs ≡ column_over h n post
unfolding column_over
over_change g h n k post sets w xs e l s off at = rw (← s) (put_change g h n k (drop (n * 4) post) sets xs e l off at)

pub over_read : (g : ℕ → List ℕ) (n k : ℕ) (post sets : List ℕ) (w : ℕ) (s : RowSet) → sets ≡ column_over g n post → k < n → k * 4 ≡ w →
    ((x : ℕ) → mem x (g k) ≡ true → x < 256) → s ≡ row_set_at sets w → rows_of s ≡ union [] (g k)
unfolding column_over
over_read g n k post sets w s e l q low r = read_set g n k (drop (n * 4) post) sets s e l low (r ∙ ap (row_set_at sets) (sym q))

-- the same sets, and another column over one that is no longer
pub over_cong : (g h : ℕ → List ℕ) (n : ℕ) (sets : List ℕ) → column g n ≡ column h n → column_over g n sets ≡ column_over h n sets
unfolding column_over
over_cong g h n sets e = rw e

pub over_over : (f g : ℕ → List ℕ) (m n : ℕ) (sets : List ℕ) → m ≤ n → column_over g n (column_over f m sets) ≡ column_over g n sets
unfolding column_over
over_over f g m n sets l =
    let k : ℕ = n * 4 - m * 4 in
    let e : n * 4 ≡ length (column f m) + k = rw (length_column f m) (omega arith) in
    let d : m * 4 + k ≡ n * 4 = omega arith in
    let r : drop (n * 4) (column f m ++ drop (m * 4) sets) ≡ drop (n * 4) sets =
    ap (λ (j : ℕ). drop j (column f m ++ drop (m * 4) sets)) e ∙ drop-append-add (column f m) (drop (m * 4) sets) k ∙ drop-drop k (m * 4) sets ∙ ap (λ (j : ℕ). drop j sets) d in
    rw r

pub length_over : (f : ℕ → List ℕ) (n : ℕ) (sets : List ℕ) → n * 4 ≤ length sets → length (column_over f n sets) ≡ length sets
unfolding column_over
length_over f n sets l = simp (length-append, length_column, length-drop) (omega arith)

-- ---- loops

-- the first i of n sets are written
pub record Filling (f : ℕ → List ℕ) (n i : ℕ) (sets₀ sets : List ℕ) : Type 0 where
  pub most : i ≤ n
  pub room : n * 4 ≤ length sets₀
  pub size : length sets ≡ length sets₀
  pub is : sets ≡ column_over f i sets₀

-- all of them are, and some may change
pub record Changing (f : ℕ → List ℕ) (n : ℕ) (sets₀ sets : List ℕ) : Type 0 where
  pub room : n * 4 ≤ length sets₀
  pub size : length sets ≡ length sets₀
  pub is : sets ≡ column_over f n sets₀

pub filling_begin : (f : ℕ → List ℕ) (n : ℕ) (sets : List ℕ) → n * 4 ≤ length sets → Filling f n 0 sets sets
filling_begin f n sets l = record { most = omega arith; room = l; size = refl; is = over_begin f sets }

pub filling_turn : (f : ℕ → List ℕ) (n i : ℕ) (sets₀ sets next xs : List ℕ) → Filling f n i sets₀ sets → i < n → words xs ≡ words (f i) → next ≡ put_at sets (i * 4) xs →
    Filling f n (i + 1) sets₀ next
filling_turn f n i sets₀ sets next xs h l q e =
    let r = h.room in
    let is = e ∙ over_next f i sets₀ sets (i * 4) xs h.is refl (omega arith) q in
    record { most = omega arith; room = r; size = ap length is ∙ length_over f (i + 1) sets₀ (omega arith); is = is }

pub filling_end : (f : ℕ → List ℕ) (n i : ℕ) (sets₀ sets : List ℕ) → Filling f n i sets₀ sets → n ≤ i → sets ≡ column_over f n sets₀
filling_end f n i sets₀ sets h l = let m = h.most in let e : i ≡ n = omega arith in h.is ∙ ap (λ (k : ℕ). column_over f k sets₀) e

pub changing_turn : (g h : ℕ → List ℕ) (n k : ℕ) (sets₀ sets next xs : List ℕ) → Changing g n sets₀ sets → k < n →
    ((a : ℕ) → a < n → (a ≡ k → ⊥) → words (g a) ≡ words (h a)) → words xs ≡ words (h k) → next ≡ put_at sets (k * 4) xs → Changing h n sets₀ next
changing_turn g h n k sets₀ sets next xs s l off at e =
    let is = e ∙ over_change g h n k sets₀ sets (k * 4) xs s.is l refl off at in
    record { room = s.room; size = ap length is ∙ length_over h n sets₀ s.room; is = is }

pub changing_cong : (g h : ℕ → List ℕ) (n : ℕ) (sets₀ sets : List ℕ) → column g n ≡ column h n → Changing g n sets₀ sets → Changing h n sets₀ sets
changing_cong g h n sets₀ sets e s = record { room = s.room; size = s.size; is = s.is ∙ over_cong g h n sets₀ e }

-- the same where the place was made ready first: m sets were written over it
module _ (g : ℕ → List ℕ) (m n : ℕ) (place ready : List ℕ) (room : n * 4 ≤ length place) (few : m ≤ n) (made : ready ≡ column_over g m place) where
  size_ready : length ready ≡ length place
  size_ready = ap length made ∙ length_over g m place (omega arith)

  pub ready_over : (f : ℕ → List ℕ) → column_over f n ready ≡ column_over f n place
  ready_over f = ap (column_over f n) made ∙ over_over g f m n place few

  pub ready_filling : (f : ℕ → List ℕ) → column g m ≡ column f m → Filling f n m ready ready
  ready_filling f e =
      let s = size_ready in
      record { most = few; room = omega arith; size = refl; is = made ∙ over_cong g f m place e ∙ sym (over_over g f m m place (omega arith)) ∙ ap (column_over f m) (sym made) }

pub ready_changing : (f : ℕ → List ℕ) (n : ℕ) (ready : List ℕ) → Filling f n n ready ready → Changing f n ready ready
ready_changing f n ready h = record { room = h.room; size = h.size; is = h.is }
