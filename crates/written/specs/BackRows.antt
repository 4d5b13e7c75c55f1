-- The facts that the tags of a chart say make its rows again.
use Rattle.std.specs.Prelude.{◌≡◌, Bool, true, not, ◌&&◌, ◌||◌, cond, ℕ, zero, suc, ◌≤◌, ◌<◌, eqb}
use Rattle.std.proofs.Math.Path.{refl, ap, ap₂}
use Rattle.std.proofs.Common.{sym, ◌∙◌, arith, eq-eqb, ne_eqb}
use Rattle.std.proofs.Math.Bool.{false}
use mathlib.Core.List.{List, [], ◌∷◌, ◌++◌, append-nil, append_assoc}
use Rattle.definition.specs.Rows.{is_empty}
use Rattle.reading.specs.Content.{Act, Row, Transition, Content, Fact, row_fact, list_fact, transition_fact, action_fact, acts_in, list_of, rows_from, of_source}
use Rattle.reading.specs.Print.{is_element_list, is_history_kind}
use Rattle.laws.specs.Bools.{no}
use Rattle.laws.specs.Lists.{empty_list}
use Rattle.written.specs.Sound.{AllOf, no_more, more, Shaped, RowFits}
use Rattle.written.specs.InnerSays.{acts_said, further, transitions_said}
use Rattle.written.specs.RowSays.{list_facts, attr_list, inner_said, rows_said}
use Rattle.written.specs.Back.{acts_both, acts_here, acts_there, other_part, inner_acts, cond_none, transitions_acts, Part, entry_part_lem, exit_part_lem, list_part, part_of, inner_other, row_skipped, rows_other}

-- ---- the blocks of a row

-- a block that is not written is empty
pub unwritten : (k : ℕ) (r : Row) → Shaped k r → (is_history_kind k || is_element_list r) ≡ false → r.block ≡ []
unwritten zero r (d, b) h = b
unwritten (suc zero) r (d, b) h = by (is_empty r.list) refl (is_empty r.block) refl h
  where
    by : (x : Bool) → is_empty r.list ≡ x → (y : Bool) → is_empty r.block ≡ y → (not x && not y) ≡ false → r.block ≡ []
    by true e y f g = b (empty_list r.list e)
    by false e true f g = empty_list r.block f
    by false e false f g = absurd (no (sym g))
unwritten (suc (suc zero)) r (d, l, b) h = b
unwritten (suc (suc (suc zero))) r (d, l, b) h = b
unwritten (suc (suc (suc (suc zero)))) r (d, l) h = absurd (no (sym h))
unwritten (suc (suc (suc (suc (suc zero))))) r (d, l) h = absurd (no (sym h))
unwritten (suc (suc (suc (suc (suc (suc k)))))) r d h = absurd d

cond_own : (z : Bool) (l m : List Act) → l ≡ m → (z ≡ false → m ≡ []) → cond z l [] ≡ m
cond_own true l m e f = e
cond_own false l m e f = sym (f refl)

four_first : {a b c d x : List Act} → a ≡ x → b ≡ [] → c ≡ [] → d ≡ [] → a ++ (b ++ (c ++ d)) ≡ x
four_first {a = a} {b = b} {c = c} {d = d} {x = x} e f g h =
    ap (λ (y : List Act). a ++ y) (ap (λ (y : List Act). y ++ (c ++ d)) f ∙ ap (λ (y : List Act). y ++ d) g ∙ h) ∙ append-nil a ∙ e

four_second : {a b c d x : List Act} → a ≡ [] → b ≡ x → c ≡ [] → d ≡ [] → a ++ (b ++ (c ++ d)) ≡ x
four_second {a = a} {b = b} {c = c} {d = d} {x = x} e f g h =
    ap (λ (y : List Act). y ++ (b ++ (c ++ d))) e ∙ ap (λ (y : List Act). b ++ y) (ap (λ (y : List Act). y ++ d) g ∙ h) ∙ append-nil b ∙ f

four_third : {a b c d x : List Act} → a ≡ [] → b ≡ [] → c ≡ x → d ≡ [] → a ++ (b ++ (c ++ d)) ≡ x
four_third {a = a} {b = b} {c = c} {d = d} {x = x} e f g h =
    ap (λ (y : List Act). y ++ (b ++ (c ++ d))) e ∙ ap (λ (y : List Act). y ++ (c ++ d)) f ∙ ap (λ (y : List Act). c ++ y) h ∙ append-nil c ∙ g

-- a row says its own blocks
inner_own : {p : ℕ} (q : Part p) (i m : ℕ) (r : Row) (ts : List Transition) → Shaped r.kind r → acts_in p i (inner_said i m r ts) ≡ part_of q r
inner_own entry_part_lem i m r ts s =
    inner_acts 1 i i m r ts ∙
    four_first (acts_here 1 i r.entry) (acts_there 1 i 2 i (other_part 1 i 2 i refl) r.exit) (cond_none (is_history_kind r.kind || is_element_list r) (acts_in 1 i (acts_said 3 i r.block)) (acts_there 1 i 3 i (other_part 1 i 3 i refl) r.block))
    (transitions_acts 1 i i m refl ts)
inner_own exit_part_lem i m r ts s =
    inner_acts 2 i i m r ts ∙
    four_second (acts_there 2 i 1 i (other_part 2 i 1 i refl) r.entry) (acts_here 2 i r.exit) (cond_none (is_history_kind r.kind || is_element_list r) (acts_in 2 i (acts_said 3 i r.block)) (acts_there 2 i 3 i (other_part 2 i 3 i refl) r.block))
    (transitions_acts 2 i i m refl ts)
inner_own list_part i m r ts s =
    inner_acts 3 i i m r ts ∙
    four_third (acts_there 3 i 1 i (other_part 3 i 1 i refl) r.entry) (acts_there 3 i 2 i (other_part 3 i 2 i refl) r.exit)
    (cond_own (is_history_kind r.kind || is_element_list r) _ _ (acts_here 3 i r.block) (λ h. unwritten r.kind r s h)) (transitions_acts 3 i i m refl ts)

-- ---- lists

lists_both : (i : ℕ) (fs gs : List Fact) → list_of i (fs ++ gs) ≡ list_of i fs ++ list_of i gs
unfolding list_of
lists_both i [] gs = refl
lists_both i (row_fact k q n l ∷ fs) gs = lists_both i fs gs
lists_both i (list_fact j l ∷ fs) gs = by (eqb i j) (lists_both i fs gs)
  where
    by : (z : Bool) → list_of i (fs ++ gs) ≡ list_of i fs ++ list_of i gs → cond z (l ++ list_of i (fs ++ gs)) (list_of i (fs ++ gs)) ≡ cond z (l ++ list_of i fs) (list_of i fs) ++ list_of i gs
    by true h = ap (λ (x : List ℕ). l ++ x) h ∙ sym (append_assoc l (list_of i fs) (list_of i gs))
    by false h = h
lists_both i (transition_fact s d c y g ∷ fs) gs = lists_both i fs gs
lists_both i (action_fact k a ∷ fs) gs = lists_both i fs gs

acts_lists : (i p j : ℕ) (acts : List Act) → list_of i (acts_said p j acts) ≡ []
unfolding list_of
acts_lists i p j [] = refl
acts_lists i p j (a ∷ acts) = acts_lists i p j acts

transitions_lists : (i s m : ℕ) (ts : List Transition) → list_of i (transitions_said s m ts) ≡ []
unfolding transitions_said
transitions_lists i s m [] = unfold list_of in refl
transitions_lists i s m (t ∷ ts) =
    lists_both i (transition_fact s t.descriptors t.condition t.internal t.targets ∷ acts_said 4 m t.block) (transitions_said s (suc m) ts) ∙
    ap₂ (λ (x y : List ℕ). x ++ y) (skipped ∙ acts_lists i 4 m t.block) (transitions_lists i s (suc m) ts)
  where
    skipped : list_of i (transition_fact s t.descriptors t.condition t.internal t.targets ∷ acts_said 4 m t.block) ≡ list_of i (acts_said 4 m t.block)
    skipped = unfold list_of in refl

inner_lists : (i j m : ℕ) (r : Row) (ts : List Transition) → list_of i (inner_said j m r ts) ≡ list_of i (list_facts j r r.kind)
unfolding inner_said
inner_lists i j m r ts =
    lists_both i (acts_said 1 j r.entry) _ ∙ ap (λ (x : List ℕ). x ++ list_of i (acts_said 2 j r.exit ++ (list_facts j r r.kind ++ transitions_said j m ts))) (acts_lists i 1 j r.entry) ∙
    lists_both i (acts_said 2 j r.exit) _ ∙ ap (λ (x : List ℕ). x ++ list_of i (list_facts j r r.kind ++ transitions_said j m ts)) (acts_lists i 2 j r.exit) ∙
    lists_both i (list_facts j r r.kind) (transitions_said j m ts) ∙ ap (λ (x : List ℕ). list_of i (list_facts j r r.kind) ++ x) (transitions_lists i j m ts) ∙ append-nil _

list_here : (i : ℕ) (l : List ℕ) (acts : List Act) → list_of i (list_fact i l ∷ acts_said 3 i acts) ≡ l
list_here i l acts = shown ∙ ap (λ (z : Bool). cond z (l ++ list_of i (acts_said 3 i acts)) (list_of i (acts_said 3 i acts))) (eq-eqb i i refl) ∙ ap (λ (x : List ℕ). l ++ x) (acts_lists i 3 i acts) ∙ append-nil l
  where
    shown : list_of i (list_fact i l ∷ acts_said 3 i acts) ≡ cond (eqb i i) (l ++ list_of i (acts_said 3 i acts)) (list_of i (acts_said 3 i acts))
    shown = unfold list_of in refl

list_there : (i j : ℕ) (l : List ℕ) (acts : List Act) → (i ≡ j → ⊥) → list_of i (list_fact j l ∷ acts_said 3 j acts) ≡ []
list_there i j l acts h = shown ∙ ap (λ (z : Bool). cond z (l ++ list_of i (acts_said 3 j acts)) (list_of i (acts_said 3 j acts))) (ne_eqb i j h) ∙ acts_lists i 3 j acts
  where
    shown : list_of i (list_fact j l ∷ acts_said 3 j acts) ≡ cond (eqb i j) (l ++ list_of i (acts_said 3 j acts)) (list_of i (acts_said 3 j acts))
    shown = unfold list_of in refl

no_lists : (i : ℕ) → list_of i [] ≡ []
unfolding list_of
no_lists i = refl

-- a row's list is that of its attribute or that of its element
own_list : (i m : ℕ) (r : Row) (ts : List Transition) → attr_list r r.kind ++ list_of i (inner_said i m r ts) ≡ r.list
own_list i m r ts = ap (λ (x : List ℕ). attr_list r r.kind ++ x) (inner_lists i i m r ts) ∙ by (is_history_kind r.kind || is_element_list r)
  where
    by : (z : Bool) → cond z [] r.list ++ list_of i (cond z (list_fact i r.list ∷ acts_said 3 i r.block) []) ≡ r.list
    by true = list_here i r.list r.block
    by false = ap (λ (x : List ℕ). r.list ++ x) (no_lists i) ∙ append-nil r.list

other_list : (i j m : ℕ) (r : Row) (ts : List Transition) → (i ≡ j → ⊥) → list_of i (inner_said j m r ts) ≡ []
other_list i j m r ts h = inner_lists i j m r ts ∙ by (is_history_kind r.kind || is_element_list r)
  where
    by : (z : Bool) → list_of i (cond z (list_fact j r.list ∷ acts_said 3 j r.block) []) ≡ []
    by true = list_there i j r.list r.block h
    by false = unfold list_of in refl

list_skipped : (i k q : ℕ) (n l : List ℕ) (fs : List Fact) → list_of i (row_fact k q n l ∷ fs) ≡ list_of i fs
unfolding list_of
list_skipped i k q n l fs = refl

rows_lists : (c : Content) (rs : List Row) (i j m : ℕ) → i < j → list_of i (rows_said c j m rs) ≡ []
unfolding rows_said
rows_lists c [] i j m h = unfold list_of in refl
rows_lists c (r ∷ rs) i j m h =
    list_skipped i _ _ _ _ _ ∙ lists_both i (inner_said j m r (of_source c.transitions j)) _ ∙
    ap₂ (λ (x y : List ℕ). x ++ y) (other_list i j m r (of_source c.transitions j) (λ e. omega arith)) (rows_lists c rs i (suc j) _ (omega arith))

-- ---- the rows

-- of the rows from number i on, all facts say what these say
pub record Agrees (whole : List Fact) (c : Content) (i m : ℕ) (rs : List Row) : Type 0 where
  pub blocks : (p : ℕ) → Part p → (q : ℕ) → i ≤ q → acts_in p q whole ≡ acts_in p q (rows_said c i m rs)
  pub lists : (q : ℕ) → i ≤ q → list_of q whole ≡ list_of q (rows_said c i m rs)

module _ (whole : List Fact) (c : Content) where
  rows_acts : (i p j : ℕ) (acts : List Act) (fs : List Fact) → rows_from whole i (acts_said p j acts ++ fs) ≡ rows_from whole i fs
  unfolding rows_from
  rows_acts i p j [] fs = refl
  rows_acts i p j (a ∷ acts) fs = rows_acts i p j acts fs

  rows_transitions : (i s m : ℕ) (ts : List Transition) (fs : List Fact) → rows_from whole i (transitions_said s m ts ++ fs) ≡ rows_from whole i fs
  unfolding transitions_said
  rows_transitions i s m [] fs = refl
  rows_transitions i s m (t ∷ ts) fs =
      skipped ∙ ap (rows_from whole i) (append_assoc (acts_said 4 m t.block) (transitions_said s (suc m) ts) fs) ∙ rows_acts i 4 m t.block (transitions_said s (suc m) ts ++ fs) ∙ rows_transitions i s (suc m) ts fs
    where
      skipped : rows_from whole i (transition_fact s t.descriptors t.condition t.internal t.targets ∷ ((acts_said 4 m t.block ++ transitions_said s (suc m) ts) ++ fs)) ≡
          rows_from whole i ((acts_said 4 m t.block ++ transitions_said s (suc m) ts) ++ fs)
      skipped = unfold rows_from in refl

  rows_list : (i j : ℕ) (l : List ℕ) (acts : List Act) (z : Bool) (fs : List Fact) → rows_from whole i (cond z (list_fact j l ∷ acts_said 3 j acts) [] ++ fs) ≡ rows_from whole i fs
  rows_list i j l acts true fs = skipped ∙ rows_acts i 3 j acts fs
    where
      skipped : rows_from whole i (list_fact j l ∷ (acts_said 3 j acts ++ fs)) ≡ rows_from whole i (acts_said 3 j acts ++ fs)
      skipped = unfold rows_from in refl
  rows_list i j l acts false fs = refl

  rows_inner : (i j m : ℕ) (r : Row) (ts : List Transition) (fs : List Fact) → rows_from whole i (inner_said j m r ts ++ fs) ≡ rows_from whole i fs
  unfolding inner_said
  rows_inner i j m r ts fs =
      ap (rows_from whole i) (append_assoc (acts_said 1 j r.entry) _ fs) ∙ rows_acts i 1 j r.entry _ ∙ ap (rows_from whole i) (append_assoc (acts_said 2 j r.exit) _ fs) ∙ rows_acts i 2 j r.exit _ ∙
      ap (rows_from whole i) (append_assoc (list_facts j r r.kind) (transitions_said j m ts) fs) ∙ rows_list i j r.list r.block (is_history_kind r.kind || is_element_list r) _ ∙ rows_transitions i j m ts fs

  row_is : (r : Row) {e x b : List Act} {l : List ℕ} → e ≡ r.entry → x ≡ r.exit → l ≡ r.list → b ≡ r.block →
      record { kind = r.kind; parent = r.parent; id = r.id; entry = e; exit = x; list = l; block = b } ≡ r
  row_is r {e = e} {x = x} {b = b} {l = l} h i j k =
      ap (λ (y : List Act). record { kind = r.kind; parent = r.parent; id = r.id; entry = y; exit = x; list = l; block = b }) h ∙
      ap (λ (y : List Act). record { kind = r.kind; parent = r.parent; id = r.id; entry = r.entry; exit = y; list = l; block = b }) i ∙
      ap (λ (y : List ℕ). record { kind = r.kind; parent = r.parent; id = r.id; entry = r.entry; exit = r.exit; list = y; block = b }) j ∙
      ap (λ (y : List Act). record { kind = r.kind; parent = r.parent; id = r.id; entry = r.entry; exit = r.exit; list = r.list; block = y }) k

  module _ (i m : ℕ) (r : Row) (rs : List Row) (a : Agrees whole c i m (r ∷ rs)) where
    abbrev onward : ℕ
    onward = further m (of_source c.transitions i)

    split_acts : (p q : ℕ) → acts_in p q (rows_said c i m (r ∷ rs)) ≡ acts_in p q (inner_said i m r (of_source c.transitions i)) ++ acts_in p q (rows_said c (suc i) onward rs)
    unfolding rows_said
    split_acts p q = row_skipped p q _ _ _ _ _ ∙ acts_both p q (inner_said i m r (of_source c.transitions i)) _

    split_lists : (q : ℕ) → list_of q (rows_said c i m (r ∷ rs)) ≡ list_of q (inner_said i m r (of_source c.transitions i)) ++ list_of q (rows_said c (suc i) onward rs)
    unfolding rows_said
    split_lists q = list_skipped q _ _ _ _ _ ∙ lists_both q (inner_said i m r (of_source c.transitions i)) _

    own_block : {p : ℕ} (q : Part p) → Shaped r.kind r → acts_in p i whole ≡ part_of q r
    own_block {p = p} q s =
        a.blocks p q i (omega arith) ∙ split_acts p i ∙ ap₂ (λ (x y : List Act). x ++ y) (inner_own q i m r (of_source c.transitions i) s) (rows_other q c rs i (suc i) onward (omega arith)) ∙ append-nil (part_of q r)

    whole_list : attr_list r r.kind ++ list_of i whole ≡ r.list
    whole_list =
        ap (λ (x : List ℕ). attr_list r r.kind ++ x)
        (a.lists i (omega arith) ∙ split_lists i ∙ ap (λ (x : List ℕ). list_of i (inner_said i m r (of_source c.transitions i)) ++ x) (rows_lists c rs i (suc i) onward (omega arith)) ∙ append-nil _) ∙
        own_list i m r (of_source c.transitions i)

    agrees_next : Agrees whole c (suc i) onward rs
    agrees_next =
        record {
          blocks =
              λ (p : ℕ) (k : Part p) (q : ℕ) (h : suc i ≤ q). a.blocks p k q (omega arith) ∙ split_acts p q ∙
              ap (λ (x : List Act). x ++ acts_in p q (rows_said c (suc i) onward rs)) (inner_other k q i m r (of_source c.transitions i) (λ e. omega arith));
          lists =
              λ (q : ℕ) (h : suc i ≤ q). a.lists q (omega arith) ∙ split_lists q ∙
              ap (λ (x : List ℕ). x ++ list_of q (rows_said c (suc i) onward rs)) (other_list q i m r (of_source c.transitions i) (λ e. omega arith));
        }

  first_row : (r : Row) (rs : List Row) (i m : ℕ) → rows_from whole i (rows_said c i m (r ∷ rs)) ≡
      record { kind = r.kind; parent = r.parent; id = r.id; entry = acts_in 1 i whole; exit = acts_in 2 i whole; list = attr_list r r.kind ++ list_of i whole; block = acts_in 3 i whole } ∷
      rows_from whole (suc i) (inner_said i m r (of_source c.transitions i) ++ rows_said c (suc i) (further m (of_source c.transitions i)) rs)
  first_row r rs i m = unfold rows_said rows_from in refl

  rows_back : (n : ℕ) (rs : List Row) (i m : ℕ) → AllOf (RowFits n) rs → Agrees whole c i m rs → rows_from whole i (rows_said c i m rs) ≡ rs
  rows_back n [] i m no_more a = unfold rows_said rows_from in refl
  rows_back n (r ∷ rs) i m (more f g) a =
      first_row r rs i m ∙
      ap₂ (λ (x : Row) (xs : List Row). x ∷ xs)
      (row_is r (own_block i m r rs a entry_part_lem f.shaped) (own_block i m r rs a exit_part_lem f.shaped) (whole_list i m r rs a) (own_block i m r rs a list_part f.shaped))
      (rows_inner (suc i) i m r (of_source c.transitions i) _ ∙ rows_back n rs (suc i) (further m (of_source c.transitions i)) g (agrees_next i m r rs a))

-- the rows that a chart's tags say are its rows
pub rows_again : (c : Content) (n : ℕ) (rs : List Row) → AllOf (RowFits n) rs → rows_from (rows_said c 0 0 rs) 0 (rows_said c 0 0 rs) ≡ rs
rows_again c n rs f = rows_back (rows_said c 0 0 rs) c n rs 0 0 f (record { blocks = λ (p : ℕ) (k : Part p) (q : ℕ) (h : 0 ≤ q). refl; lists = λ (q : ℕ) (h : 0 ≤ q). refl })
