-- Lists of transitions, held in an array; atomic states.
use Rattle.std.specs.Prelude.{◌≡◌, refl, Bool, true, ◌&&◌, List, [], ◌∷◌, ℕ, zero, suc, ◌+◌, ◌≤◌, ◌<◌, length, get_or, take, set}
use Rattle.std.proofs.Common.{sym, ◌∙◌, subst, add-one, arith, take-suc, take-suc-set, length-take-le, get_or-take, lt-ltb}
use Rattle.std.proofs.Math.Path.{ap}
use Rattle.std.proofs.Math.Option.{Option}
use Rattle.definition.specs.Rows.{fold, those, mem, is_in, append, intersection}
use Rattle.definition.specs.Names.{Name}
use Rattle.definition.specs.Chart.{Chart, Names}
use Rattle.definition.specs.Tree.{is_atomic}
use Rattle.follower.specs.Selection.{choose, atomic_states, candidates}
use Rattle.laws.specs.Bools.{no, and_left}
use Rattle.laws.specs.Sets.{mem_those, mem_head, mem_intersection}
use Rattle.laws.specs.Lists.{keep_cong, mem_cases, mem_tail}
use Rattle.accepted.specs.Sound.{Sound}
use Rattle.theory.specs.Disjoint.{candidate_of}
pub use Rattle.chart.specs.Within.{Within, Taken, within_low, within_none, within_append}

-- the first n items
unfoldable pub list_of : List ℕ → ℕ → List ℕ
list_of items n = take n items

-- the first n items, at most 256, are such; the 512 places behind those say which row chose a transition (R-6)
pub record ChosenIn (transitions : ℕ) (items : List ℕ) (n : ℕ) : Type 0 where
  pub room : length items ≡ 768
  pub most : n ≤ 256
  pub inside : Within transitions (list_of items n)

-- and are these
pub record AreChosen (transitions : ℕ) (ts : List ℕ) (items : List ℕ) (n : ℕ) : Type 0 where
  pub is : list_of items n ≡ ts
  pub fits : ChosenIn transitions items n

-- ---- items of the array

pub list_length : (items : List ℕ) (n : ℕ) → n ≤ length items → length (list_of items n) ≡ n
unfolding list_of
list_length items n l = length-take-le n items l

pub list_at : (items : List ℕ) (n i : ℕ) → i < n → get_or items i 0 ≡ get_or (list_of items n) i 0
unfolding list_of
list_at items n i l = sym (get_or-take n items i 0 l)

pub list_begin : (items : List ℕ) → list_of items 0 ≡ []
unfolding list_of
list_begin items = refl

pub list_push : (items : List ℕ) (n x : ℕ) → n < length items → list_of (set items n x) (n + 1) ≡ append (list_of items n) x
unfolding list_of append
list_push items n x l = rw (add-one n) (take-suc-set items n x l)

pub chosen_length : (k : ℕ) (items : List ℕ) (n : ℕ) → ChosenIn k items n → length (list_of items n) ≡ n
chosen_length k items n h = let s = h.room in let m = h.most in list_length items n (omega arith)

pub chosen_low : (k : ℕ) (items : List ℕ) (n i : ℕ) → ChosenIn k items n → i < n → get_or items i 0 < k
chosen_low k items n i h l =
    let s = chosen_length k items n h in
    rw (list_at items n i l) (within_low k (list_of items n) i h.inside (omega arith))

-- ---- atomic states

unfoldable pub atomic_rows : Chart → List ℕ
atomic_rows c = those c.rows (is_atomic c)

pub atomic_states_lem : (c : Chart) (conf : List ℕ) → Within c.rows conf → intersection conf (atomic_rows c) ≡ atomic_states c conf
unfolding intersection atomic_rows atomic_states
atomic_states_lem c conf w =
    keep_cong (is_in (those c.rows (is_atomic c))) (is_atomic c) conf
    (λ i m. mem_those c.rows (is_atomic c) i ∙ ap (λ (b : Bool). b && is_atomic c i) (lt-ltb i c.rows (w.at i m)))

-- a row that is active and atomic is a row of the chart
pub active_inside : (n : ℕ) (conf atoms xs : List ℕ) (i : ℕ) → Within n conf → xs ≡ intersection conf atoms → mem i xs ≡ true → i < n
active_inside n conf atoms xs i w e m = w.at i (and_left (mem i conf) (mem i atoms) (sym (ap (mem i) e ∙ mem_intersection i conf atoms) ∙ m))

-- a candidate is a transition of the chart
candidates_inside : (c : Chart) → Sound c → (names : Names) (conf : List ℕ) (event : Option Name) (t : ℕ) →
    mem t (candidates c names conf event) ≡ true → t < c.transitions
candidates_inside c g names conf event t m = (candidate_of c names conf event g.tree t m).0

-- what the pass over the active atomic states made
pub candidates_done : (c : Chart) → Sound c → (names : Names) (conf : List ℕ) (event : Option Name) (atoms active items : List ℕ) (n : ℕ) → Within c.rows conf →
    atoms ≡ atomic_rows c → active ≡ intersection conf atoms → list_of items n ≡ fold (choose c names conf event) [] active → length items ≡ 768 → n ≤ 256 →
    AreChosen c.transitions (candidates c names conf event) items n
candidates_done c g names conf event atoms active items n w e f h l m = record {
  is = is;
  fits = record { room = l; most = m; inside = record { at = λ t k. candidates_inside c g names conf event t (sym (ap (mem t) is) ∙ k) } };
}
  where
    is : list_of items n ≡ candidates c names conf event
    is =
        unfold candidates in
        h ∙ ap (fold (choose c names conf event) []) (f ∙ ap (intersection conf) e ∙ atomic_states_lem c conf w)

-- ---- parts of a list

mem_front : (i n x : ℕ) (xs : List ℕ) → i ≤ n → mem x (take i xs) ≡ true → mem x (take n xs) ≡ true
unfolding mem
mem_front zero n x xs l m = absurd (no m)
mem_front (suc i) zero x xs l m = absurd (omega arith)
mem_front (suc i) (suc n) x [] l m = absurd (no m)
mem_front (suc i) (suc n) x (y ∷ ys) l m =
    mem_cases x y (take i ys) (λ e. subst (λ z. mem z (y ∷ take n ys) ≡ true) (sym e) (mem_head y (take n ys))) (λ k. mem_tail y x (take n ys) (mem_front i n x ys (omega arith) k)) m

-- the first i of more
pub within_front : (k : ℕ) (items : List ℕ) (i n : ℕ) → i ≤ n → Within k (list_of items n) → Within k (list_of items i)
unfolding list_of
within_front k items i n l w = record { at = λ x m. w.at x (mem_front i n x items l m) }

pub list_more : (items : List ℕ) (i : ℕ) → i < length items → append (list_of items i) (get_or items i 0) ≡ list_of items (i + 1)
unfolding list_of append
list_more items i l = rw (add-one i) (sym (take-suc items i 0 l))
