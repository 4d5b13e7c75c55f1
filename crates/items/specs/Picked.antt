-- Rows and transitions by their numbers: the lists and blocks that each has, gathered of all facts.
use Rattle.std.specs.Prelude.{◌≡◌, refl, Bool, cond, List, [], ◌∷◌, ◌++◌, ℕ, zero, suc, ◌+◌, ◌≤◌, ◌<◌, eqb, get_or}
use Rattle.std.proofs.Common.{sym, ap, ◌∙◌, append-nil, add-zero, zero-add, arith, eq-eqb, ne_eqb}
use Rattle.reading.specs.Content.{Row, Block, Fact, row_fact, list_fact, transition_fact, action_fact, acts_in, list_of, rows_from, transitions_from}
use Rattle.facts.specs.Appended.{row_facts, transition_facts}
use Rattle.items.specs.Order.{no_transition}

-- ---- the list with the number q, of lists numbered from m on

unfoldable pub picked : {A : Type 0} → ℕ → ℕ → List (List A) → List A
picked q m [] = []
picked q m (l ∷ ls) = cond (eqb m q) l [] ++ picked q (suc m) ls

picked_low : {A : Type 0} (q m : ℕ) (ls : List (List A)) → q < m → picked q m ls ≡ []
unfolding picked
picked_low q m [] h = refl
picked_low q m (l ∷ ls) h = rw (ne_eqb m q (λ e. omega arith)) (picked_low q (suc m) ls (omega arith))

picked_at : {A : Type 0} (m k : ℕ) (ls : List (List A)) → picked (m + k) m ls ≡ get_or ls k []
unfolding picked
picked_at m k [] = refl
picked_at {A} m zero (l ∷ ls) =
    ap (λ (z : Bool). cond z l [] ++ picked (m + 0) (suc m) ls) (eq-eqb m (m + 0) (sym (add-zero m))) ∙
    ap (λ (r : List A). l ++ r) (picked_low (m + 0) (suc m) ls (omega arith)) ∙ append-nil l
picked_at m (suc k) (l ∷ ls) =
    ap (λ (z : Bool). cond z l [] ++ picked (m + suc k) (suc m) ls) (ne_eqb m (m + suc k) (λ e. omega arith)) ∙
    ap (λ (q : ℕ). picked q (suc m) ls) (shift m k) ∙ picked_at (suc m) k ls
  where
    shift : (a b : ℕ) → a + suc b ≡ suc a + b
    shift a b = omega arith

pub picked_here : {A : Type 0} (k : ℕ) (ls : List (List A)) → picked k 0 ls ≡ get_or ls k []
picked_here k ls = ap (λ (q : ℕ). picked q 0 ls) (sym (zero-add k)) ∙ picked_at 0 k ls

-- ---- rows

abbrev pub no_row : Row
no_row = record { kind = 0; parent = 0; id = []; entry = []; exit = []; list = []; block = [] }

-- what the attributes initial state
unfoldable pub initial_lists : List Fact → List (List ℕ)
initial_lists [] = []
initial_lists (row_fact k q n l ∷ fs) = l ∷ initial_lists fs
initial_lists (list_fact j l ∷ fs) = initial_lists fs
initial_lists (transition_fact s d c y g ∷ fs) = initial_lists fs
initial_lists (action_fact b a ∷ fs) = initial_lists fs

pub record RowIs (whole : List Fact) (j : ℕ) (initial : List ℕ) (r : Row) : Type 0 where
  pub list_is : r.list ≡ initial ++ list_of j whole
  pub entry_is_lem : r.entry ≡ acts_in 1 j whole
  pub exit_is : r.exit ≡ acts_in 2 j whole
  pub block_is : r.block ≡ acts_in 3 j whole

pub row_at_lem : (whole : List Fact) (i : ℕ) (fs : List Fact) (k : ℕ) → k < row_facts fs → RowIs whole (i + k) (get_or (initial_lists fs) k []) (get_or (rows_from whole i fs) k no_row)
unfolding rows_from row_facts initial_lists
row_at_lem whole i [] k h = absurd (omega arith)
row_at_lem whole i (row_fact e q n l ∷ fs) zero h = rw (add-zero i) (record { list_is = refl; entry_is_lem = refl; exit_is = refl; block_is = refl })
row_at_lem whole i (row_fact e q n l ∷ fs) (suc k) h = rw (shift i k) (row_at_lem whole (suc i) fs k (omega arith))
  where
    shift : (a b : ℕ) → a + suc b ≡ suc a + b
    shift a b = omega arith
row_at_lem whole i (list_fact j l ∷ fs) k h = row_at_lem whole i fs k h
row_at_lem whole i (transition_fact s d c y g ∷ fs) k h = row_at_lem whole i fs k h
row_at_lem whole i (action_fact b a ∷ fs) k h = row_at_lem whole i fs k h

-- ---- transitions

pub block_at_lem : (whole : List Fact) (m : ℕ) (fs : List Fact) (k : ℕ) → k < transition_facts fs → (get_or (transitions_from whole m fs) k no_transition).block ≡ acts_in 4 (m + k) whole
unfolding transitions_from transition_facts
block_at_lem whole m [] k h = absurd (omega arith)
block_at_lem whole m (row_fact e q n l ∷ fs) k h = block_at_lem whole m fs k h
block_at_lem whole m (list_fact j l ∷ fs) k h = block_at_lem whole m fs k h
block_at_lem whole m (transition_fact s d c y g ∷ fs) zero h = ap (λ (j : ℕ). acts_in 4 j whole) (sym (add-zero m))
block_at_lem whole m (transition_fact s d c y g ∷ fs) (suc k) h = block_at_lem whole (suc m) fs k (omega arith) ∙ ap (λ (j : ℕ). acts_in 4 j whole) (shift m k)
  where
    shift : (a b : ℕ) → suc a + b ≡ a + suc b
    shift a b = omega arith
block_at_lem whole m (action_fact b a ∷ fs) k h = block_at_lem whole m fs k h

-- ---- whose blocks the actions stand in

-- there are four parts, and the block of a transition has a transition that is there
pub record Owned (many : ℕ) (b : Block) : Type 0 where
  pub part_few : b.part ≤ 4
  pub owner_in : b.part ≡ 4 → b.owner < many

unfoldable pub AllOwned : ℕ → List Fact → Type 0
AllOwned many [] = Unit {0}
AllOwned many (row_fact k q n l ∷ fs) = AllOwned many fs
AllOwned many (list_fact j l ∷ fs) = AllOwned many fs
AllOwned many (transition_fact s d c y g ∷ fs) = AllOwned many fs
AllOwned many (action_fact b a ∷ fs) = Owned many b × AllOwned many fs
