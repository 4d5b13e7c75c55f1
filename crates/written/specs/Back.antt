-- The facts that the tags of a chart say, taken together, are its rows.
use Rattle.std.specs.Prelude.{◌≡◌, Bool, true, false, ◌&&◌, ◌||◌, cond, ℕ, suc, ◌<◌, eqb}
use Rattle.std.proofs.Math.Path.{refl, ap}
use Rattle.std.proofs.Common.{ap₂, ◌∙◌, arith, eq-eqb, ne_eqb}
use mathlib.Core.List.{List, [], ◌∷◌, ◌++◌}
use Rattle.reading.specs.Content.{Act, Row, Transition, Content, Fact, row_fact, list_fact, transition_fact, action_fact, is_block, acts_in, of_source}
use Rattle.reading.specs.Print.{is_element_list, is_history_kind}
use Rattle.laws.specs.Bools.{and_false}
use Rattle.written.specs.InnerSays.{block, acts_said, transitions_said}
use Rattle.written.specs.RowSays.{list_facts, inner_said, rows_said}

-- ---- actions

pub acts_both : (p i : ℕ) (fs gs : List Fact) → acts_in p i (fs ++ gs) ≡ acts_in p i fs ++ acts_in p i gs
unfolding acts_in
acts_both p i [] gs = refl
acts_both p i (row_fact k q n l ∷ fs) gs = acts_both p i fs gs
acts_both p i (list_fact j l ∷ fs) gs = acts_both p i fs gs
acts_both p i (transition_fact s d c y g ∷ fs) gs = acts_both p i fs gs
acts_both p i (action_fact k a ∷ fs) gs = by (is_block p i k) (acts_both p i fs gs)
  where
    by : (z : Bool) → acts_in p i (fs ++ gs) ≡ acts_in p i fs ++ acts_in p i gs → cond z (a ∷ acts_in p i (fs ++ gs)) (acts_in p i (fs ++ gs)) ≡ cond z (a ∷ acts_in p i fs) (acts_in p i fs) ++ acts_in p i gs
    by true h = ap (λ (l : List Act). a ∷ l) h
    by false h = h

-- the actions of one block
pub acts_here : (p i : ℕ) (acts : List Act) → acts_in p i (acts_said p i acts) ≡ acts
unfolding acts_in
acts_here p i [] = refl
acts_here p i (a ∷ acts) = rw (eq-eqb p p refl, eq-eqb i i refl) (ap (λ (l : List Act). a ∷ l) (acts_here p i acts))

-- those of another
pub acts_there : (p i q j : ℕ) → is_block p i (block q j) ≡ false → (acts : List Act) → acts_in p i (acts_said q j acts) ≡ []
unfolding acts_in
acts_there p i q j h [] = refl
acts_there p i q j h (a ∷ acts) = rw h (acts_there p i q j h acts)

pub other_part : (p i q j : ℕ) → eqb q p ≡ false → is_block p i (block q j) ≡ false
other_part p i q j h = rw h

pub other_owner : (p i q j : ℕ) → (j ≡ i → ⊥) → is_block p i (block q j) ≡ false
other_owner p i q j h = ap (λ (z : Bool). eqb q p && z) (ne_eqb j i h) ∙ and_false (eqb q p)

no_acts : (p i j : ℕ) (l : List ℕ) (fs : List Fact) → acts_in p i (list_fact j l ∷ fs) ≡ acts_in p i fs
unfolding acts_in
no_acts p i j l fs = refl

-- a list that stands as an element, with its block
pub list_acts : (p i j : ℕ) (l : List ℕ) (acts : List Act) (z : Bool) → acts_in p i (cond z (list_fact j l ∷ acts_said 3 j acts) []) ≡ cond z (acts_in p i (acts_said 3 j acts)) []
unfolding acts_in
list_acts p i j l acts true = refl
list_acts p i j l acts false = refl

-- transitions have blocks of their own
pub transitions_acts : (p i s m : ℕ) → eqb 4 p ≡ false → (ts : List Transition) → acts_in p i (transitions_said s m ts) ≡ []
unfolding transitions_said
transitions_acts p i s m h [] = unfold acts_in in refl
transitions_acts p i s m h (t ∷ ts) =
    acts_both p i (transition_fact s t.descriptors t.condition t.internal t.targets ∷ acts_said 4 m t.block) (transitions_said s (suc m) ts) ∙
    ap₂ (λ (x y : List Act). x ++ y) (skipped ∙ acts_there p i 4 m (other_part p i 4 m h) t.block) (transitions_acts p i s (suc m) h ts)
  where
    skipped : acts_in p i (transition_fact s t.descriptors t.condition t.internal t.targets ∷ acts_said 4 m t.block) ≡ acts_in p i (acts_said 4 m t.block)
    skipped = unfold acts_in in refl

-- the blocks of a row are those that it says
module _ (p i j m : ℕ) (r : Row) (ts : List Transition) where
  pub inner_acts : acts_in p i (inner_said j m r ts) ≡
      acts_in p i (acts_said 1 j r.entry) ++ (acts_in p i (acts_said 2 j r.exit) ++ (cond (is_history_kind r.kind || is_element_list r) (acts_in p i (acts_said 3 j r.block)) [] ++ acts_in p i (transitions_said j m ts)))
  unfolding inner_said
  inner_acts =
      acts_both p i (acts_said 1 j r.entry) _ ∙
      ap (λ (l : List Act). acts_in p i (acts_said 1 j r.entry) ++ l)
      (acts_both p i (acts_said 2 j r.exit) _ ∙
      ap (λ (l : List Act). acts_in p i (acts_said 2 j r.exit) ++ l)
      (acts_both p i (list_facts j r r.kind) (transitions_said j m ts) ∙
      ap (λ (l : List Act). l ++ acts_in p i (transitions_said j m ts)) (list_acts p i j r.list r.block (is_history_kind r.kind || is_element_list r))))

pub cond_none : (z : Bool) (l : List Act) → l ≡ [] → cond z l [] ≡ []
cond_none true l h = h
cond_none false l h = refl

pub four_none : {a b c d : List Act} → a ≡ [] → b ≡ [] → c ≡ [] → d ≡ [] → a ++ (b ++ (c ++ d)) ≡ []
four_none {a = a} {b = b} {c = c} {d = d} e f g h = ap (λ (x : List Act). x ++ (b ++ (c ++ d))) e ∙ ap (λ (x : List Act). x ++ (c ++ d)) f ∙ ap (λ (x : List Act). x ++ d) g ∙ h

-- the parts of a row's own blocks
pub data Part : ℕ → Type 0 where
  entry_part_lem : Part 1
  exit_part_lem : Part 2
  list_part : Part 3

pub not_four : {p : ℕ} → Part p → eqb 4 p ≡ false
not_four entry_part_lem = refl
not_four exit_part_lem = refl
not_four list_part = refl

-- the block of a row by its part
abbrev pub part_of : {p : ℕ} → Part p → Row → List Act
part_of entry_part_lem r = r.entry
part_of exit_part_lem r = r.exit
part_of list_part r = r.block

-- another row says nothing of row i
pub inner_other : {p : ℕ} → Part p → (i j m : ℕ) (r : Row) (ts : List Transition) → (j ≡ i → ⊥) → acts_in p i (inner_said j m r ts) ≡ []
inner_other {p = p} q i j m r ts h =
    inner_acts p i j m r ts ∙
    four_none (acts_there p i 1 j (other_owner p i 1 j h) r.entry) (acts_there p i 2 j (other_owner p i 2 j h) r.exit)
    (cond_none (is_history_kind r.kind || is_element_list r) _ (acts_there p i 3 j (other_owner p i 3 j h) r.block)) (transitions_acts p i j m (not_four q) ts)

pub row_skipped : (p i k q : ℕ) (n l : List ℕ) (fs : List Fact) → acts_in p i (row_fact k q n l ∷ fs) ≡ acts_in p i fs
unfolding acts_in
row_skipped p i k q n l fs = refl

pub rows_other : {p : ℕ} → Part p → (c : Content) (rs : List Row) (i j m : ℕ) → i < j → acts_in p i (rows_said c j m rs) ≡ []
unfolding rows_said
rows_other q c [] i j m h = unfold acts_in in refl
rows_other {p = p} q c (r ∷ rs) i j m h =
    row_skipped p i _ _ _ _ _ ∙ acts_both p i (inner_said j m r (of_source c.transitions j)) _ ∙
    ap₂ (λ (x y : List Act). x ++ y) (inner_other q i j m r (of_source c.transitions j) (λ e. omega arith)) (rows_other q c rs i (suc j) _ (omega arith))
