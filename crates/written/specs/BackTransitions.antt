-- The facts that the tags of a chart say make its transitions again, which are in order of their sources; and with its rows the chart.
use Rattle.std.specs.Prelude.{◌≡◌, Bool, true, ◌||◌, cond, eqb, length}
use Rattle.std.proofs.Math.Path.{refl, sym, ap, ap₂}
use Rattle.std.proofs.Common.{◌∙◌, arith, eqb-true}
use Rattle.std.proofs.Math.Bool.{false}
use mathlib.Core.List.{List, [], ◌∷◌, ◌++◌, append-nil, append_assoc}
use Prim.Native.Nat.{ℕ, suc, ◌≤◌, ◌<◌}
use Rattle.definition.specs.Rows.{flat, from}
use Rattle.reading.specs.Content.{Act, Row, Transition, Content, Fact, list_fact, transition_fact, acts_in, transitions_from, of_source}
use Rattle.reading.specs.Print.{is_element_list, is_history_kind}
use Rattle.written.specs.Sound.{AllOf, no_more, more}
use Rattle.written.specs.InnerSays.{acts_said, further, transitions_said}
use Rattle.written.specs.RowSays.{list_facts, inner_said, rows_said}
use Rattle.written.specs.Back.{acts_both, acts_here, acts_there, other_part, other_owner, inner_acts, cond_none, row_skipped}

-- ---- the blocks of transitions

further_up : (m : ℕ) (ts : List Transition) → m ≤ further m ts
further_up m [] = omega arith
further_up m (t ∷ ts) = let h = further_up (suc m) ts in omega arith

transition_skipped : (p q s : ℕ) (t : Transition) (fs : List Fact) → acts_in p q (transition_fact s t.descriptors t.condition t.internal t.targets ∷ fs) ≡ acts_in p q fs
unfolding acts_in
transition_skipped p q s t fs = refl

-- the number of a transition before these
before : (q s m : ℕ) (ts : List Transition) → q < m → acts_in 4 q (transitions_said s m ts) ≡ []
unfolding transitions_said
before q s m [] h = unfold acts_in in refl
before q s m (t ∷ ts) h =
    acts_both 4 q (transition_fact s t.descriptors t.condition t.internal t.targets ∷ acts_said 4 m t.block) (transitions_said s (suc m) ts) ∙
    ap₂ (λ (x y : List Act). x ++ y) (transition_skipped 4 q s t (acts_said 4 m t.block) ∙ acts_there 4 q 4 m (other_owner 4 q 4 m (λ e. omega arith)) t.block) (before q s (suc m) ts (omega arith))

-- and one behind them
behind : (q s m : ℕ) (ts : List Transition) → further m ts ≤ q → acts_in 4 q (transitions_said s m ts) ≡ []
unfolding transitions_said
behind q s m [] h = unfold acts_in in refl
behind q s m (t ∷ ts) h =
    acts_both 4 q (transition_fact s t.descriptors t.condition t.internal t.targets ∷ acts_said 4 m t.block) (transitions_said s (suc m) ts) ∙
    ap₂ (λ (x y : List Act). x ++ y)
    (transition_skipped 4 q s t (acts_said 4 m t.block) ∙ acts_there 4 q 4 m (other_owner 4 q 4 m (λ e. let u = further_up (suc m) ts in omega arith)) t.block) (behind q s (suc m) ts h)

inner_four : (q j m : ℕ) (r : Row) (ts : List Transition) → acts_in 4 q (inner_said j m r ts) ≡ acts_in 4 q (transitions_said j m ts)
inner_four q j m r ts =
    inner_acts 4 q j m r ts ∙
    ap₂ (λ (x y : List Act). x ++ y) (acts_there 4 q 1 j (other_part 4 q 1 j refl) r.entry)
    (ap₂ (λ (x y : List Act). x ++ y) (acts_there 4 q 2 j (other_part 4 q 2 j refl) r.exit)
    (ap (λ (x : List Act). x ++ acts_in 4 q (transitions_said j m ts)) (cond_none (is_history_kind r.kind || is_element_list r) (acts_in 4 q (acts_said 3 j r.block)) (acts_there 4 q 3 j (other_part 4 q 3 j refl) r.block))))

split_four : (c : Content) (q i m : ℕ) (r : Row) (rs : List Row) → acts_in 4 q (rows_said c i m (r ∷ rs)) ≡ acts_in 4 q (transitions_said i m (of_source c.transitions i)) ++ acts_in 4 q (rows_said c (suc i) (further m (of_source c.transitions i)) rs)
unfolding rows_said
split_four c q i m r rs =
    row_skipped 4 q _ _ _ _ _ ∙ acts_both 4 q (inner_said i m r (of_source c.transitions i)) _ ∙
    ap (λ (x : List Act). x ++ acts_in 4 q (rows_said c (suc i) (further m (of_source c.transitions i)) rs)) (inner_four q i m r (of_source c.transitions i))

rows_before : (c : Content) (rs : List Row) (q i m : ℕ) → q < m → acts_in 4 q (rows_said c i m rs) ≡ []
rows_before c [] q i m h = unfold rows_said acts_in in refl
rows_before c (r ∷ rs) q i m h =
    split_four c q i m r rs ∙
    ap₂ (λ (x y : List Act). x ++ y) (before q i m (of_source c.transitions i) h) (rows_before c rs q (suc i) (further m (of_source c.transitions i)) (let u = further_up m (of_source c.transitions i) in omega arith))

-- ---- the transitions

-- of the transitions from number m on, all facts say what these say
pub record Holds (whole : List Fact) (m : ℕ) (fs : List Fact) : Type 0 where
  pub blocks : (q : ℕ) → m ≤ q → acts_in 4 q whole ≡ acts_in 4 q fs

-- all have the source s
pub record From (s : ℕ) (t : Transition) : Type 0 where
  pub is : t.source ≡ s

of_source_lem : (ts : List Transition) (s : ℕ) → AllOf (From s) (of_source ts s)
unfolding of_source
of_source_lem [] s = no_more
of_source_lem (t ∷ ts) s = by (eqb t.source s) refl (of_source_lem ts s)
  where
    by : (z : Bool) → eqb t.source s ≡ z → AllOf (From s) (of_source ts s) → AllOf (From s) (cond z (t ∷ of_source ts s) (of_source ts s))
    by true e h = more (record { is = eqb-true t.source s e }) h
    by false e h = h

module _ (whole : List Fact) where
  skip_acts : (i p j : ℕ) (acts : List Act) (fs : List Fact) → transitions_from whole i (acts_said p j acts ++ fs) ≡ transitions_from whole i fs
  unfolding transitions_from
  skip_acts i p j [] fs = refl
  skip_acts i p j (a ∷ acts) fs = skip_acts i p j acts fs

  skip_list : (i j : ℕ) (l : List ℕ) (acts : List Act) (z : Bool) (fs : List Fact) → transitions_from whole i (cond z (list_fact j l ∷ acts_said 3 j acts) [] ++ fs) ≡ transitions_from whole i fs
  skip_list i j l acts true fs = skipped ∙ skip_acts i 3 j acts fs
    where
      skipped : transitions_from whole i (list_fact j l ∷ (acts_said 3 j acts ++ fs)) ≡ transitions_from whole i (acts_said 3 j acts ++ fs)
      skipped = unfold transitions_from in refl
  skip_list i j l acts false fs = refl

  skip_inner : (i j m : ℕ) (r : Row) (ts : List Transition) (fs : List Fact) → transitions_from whole i (inner_said j m r ts ++ fs) ≡ transitions_from whole i (transitions_said j m ts ++ fs)
  unfolding inner_said
  skip_inner i j m r ts fs =
      ap (transitions_from whole i) (append_assoc (acts_said 1 j r.entry) _ fs) ∙ skip_acts i 1 j r.entry _ ∙ ap (transitions_from whole i) (append_assoc (acts_said 2 j r.exit) _ fs) ∙ skip_acts i 2 j r.exit _ ∙
      ap (transitions_from whole i) (append_assoc (list_facts j r r.kind) (transitions_said j m ts) fs) ∙ skip_list i j r.list r.block (is_history_kind r.kind || is_element_list r) _

  transition_is : (t : Transition) (s : ℕ) (b : List Act) → t.source ≡ s → b ≡ t.block →
      record { source = s; descriptors = t.descriptors; condition = t.condition; internal = t.internal; targets = t.targets; block = b } ≡ t
  transition_is t s b e h =
      ap (λ (x : ℕ). record { source = x; descriptors = t.descriptors; condition = t.condition; internal = t.internal; targets = t.targets; block = b }) (sym e) ∙
      ap (λ (x : List Act). record { source = t.source; descriptors = t.descriptors; condition = t.condition; internal = t.internal; targets = t.targets; block = x }) h

  -- what the first of them says, and those behind it
  said_split : (q s m : ℕ) (t : Transition) (ts : List Transition) (gs : List Fact) → acts_in 4 q (transitions_said s m (t ∷ ts) ++ gs) ≡ acts_in 4 q (acts_said 4 m t.block) ++ acts_in 4 q (transitions_said s (suc m) ts ++ gs)
  said_split q s m t ts gs =
      shown ∙ ap (acts_in 4 q) (append_assoc (acts_said 4 m t.block) (transitions_said s (suc m) ts) gs) ∙ acts_both 4 q (acts_said 4 m t.block) (transitions_said s (suc m) ts ++ gs)
    where
      shown : acts_in 4 q (transitions_said s m (t ∷ ts) ++ gs) ≡ acts_in 4 q ((acts_said 4 m t.block ++ transitions_said s (suc m) ts) ++ gs)
      shown = unfold transitions_said acts_in in refl

  first_transition : (s m : ℕ) (t : Transition) (ts : List Transition) (gs : List Fact) → transitions_from whole m (transitions_said s m (t ∷ ts) ++ gs) ≡
      record { source = s; descriptors = t.descriptors; condition = t.condition; internal = t.internal; targets = t.targets; block = acts_in 4 m whole } ∷
      transitions_from whole (suc m) ((acts_said 4 m t.block ++ transitions_said s (suc m) ts) ++ gs)
  first_transition s m t ts gs = unfold transitions_said transitions_from in refl

  list_back : (s m : ℕ) (ts : List Transition) (gs : List Fact) → AllOf (From s) ts → Holds whole m (transitions_said s m ts ++ gs) → ((q : ℕ) → q < further m ts → acts_in 4 q gs ≡ []) →
      transitions_from whole m (transitions_said s m ts ++ gs) ≡ ts ++ transitions_from whole (further m ts) gs
  list_back s m [] gs no_more h b = unfold transitions_said in refl
  list_back s m (t ∷ ts) gs (more f g) h b =
      first_transition s m t ts gs ∙
      ap₂ (λ (x : Transition) (xs : List Transition). x ∷ xs) (transition_is t s (acts_in 4 m whole) f.is own)
      (ap (transitions_from whole (suc m)) (append_assoc (acts_said 4 m t.block) (transitions_said s (suc m) ts) gs) ∙ skip_acts (suc m) 4 m t.block (transitions_said s (suc m) ts ++ gs) ∙
      list_back s (suc m) ts gs g (record { blocks = λ (q : ℕ) (l : suc m ≤ q). h.blocks q (omega arith) ∙ said_split q s m t ts gs ∙ ap (λ (x : List Act). x ++ acts_in 4 q (transitions_said s (suc m) ts ++ gs)) (acts_there 4 q 4 m (other_owner 4 q 4 m (λ e. omega arith)) t.block) }) b)
    where
      own : acts_in 4 m whole ≡ t.block
      own =
          h.blocks m (omega arith) ∙ said_split m s m t ts gs ∙
          ap₂ (λ (x y : List Act). x ++ y) (acts_here 4 m t.block)
          (acts_both 4 m (transitions_said s (suc m) ts) gs ∙
          ap₂ (λ (x y : List Act). x ++ y) (before m s (suc m) ts (omega arith)) (b m (let u = further_up (suc m) ts in omega arith))) ∙ append-nil t.block

  pub rows_transitions : (c : Content) (rs : List Row) (i m : ℕ) → Holds whole m (rows_said c i m rs) → transitions_from whole m (rows_said c i m rs) ≡ flat (of_source c.transitions) (from (length rs) i)
  rows_transitions c [] i m h = unfold rows_said transitions_from flat from in refl
  rows_transitions c (r ∷ rs) i m h =
      first ∙ skip_inner m i m r ts later ∙
      list_back i m ts later (of_source_lem c.transitions i) (record { blocks = λ (q : ℕ) (l : m ≤ q). h.blocks q l ∙ split_four c q i m r rs ∙ sym (acts_both 4 q (transitions_said i m ts) later) })
      (λ (q : ℕ) (l : q < further m ts). rows_before c rs q (suc i) (further m ts) l) ∙
      ap (λ (x : List Transition). ts ++ x)
      (rows_transitions c rs (suc i) (further m ts)
      (record { blocks = λ (q : ℕ) (l : further m ts ≤ q). h.blocks q (let u = further_up m ts in omega arith) ∙ split_four c q i m r rs ∙ ap (λ (x : List Act). x ++ acts_in 4 q later) (past q l) })) ∙ last
    where
      ts : List Transition
      ts = of_source c.transitions i

      later : List Fact
      later = rows_said c (suc i) (further m ts) rs

      first : transitions_from whole m (rows_said c i m (r ∷ rs)) ≡ transitions_from whole m (inner_said i m r ts ++ later)
      first = unfold rows_said transitions_from in refl

      last : ts ++ flat (of_source c.transitions) (from (length rs) (suc i)) ≡ flat (of_source c.transitions) (from (length (r ∷ rs)) i)
      last = unfold flat from in refl

      past : (q : ℕ) → further m ts ≤ q → acts_in 4 q (transitions_said i m ts) ≡ []
      past q l = behind q i m ts l
