-- What the tags of a block say when they are read back: its actions.
use Rattle.std.specs.Prelude.{◌≡◌, Bool}
use Rattle.std.proofs.Math.Path.{refl, sym, ap}
use Rattle.std.proofs.Common.{◌∙◌, arith, eqb-true}
use Rattle.std.proofs.Math.Bool.{true, false, cond}
use mathlib.Core.List.{List, [], ◌∷◌, ◌++◌, map}
use Rattle.std.proofs.Math.Option.{none, some}
use Prim.Native.Nat.{ℕ, zero, suc, ◌≤◌}
use Rattle.std.proofs.Math.Dec.{eqb}
use Rattle.definition.specs.Names.{is_name}
use Rattle.grammar.specs.Grammar.{attribute}
use Rattle.grammar.specs.Tables.{attrs}
use Rattle.reading.specs.Tags.{Markup}
use Rattle.reading.specs.Faults.{states, value_of, decimal, decimal_from, decoded, plain}
use Rattle.reading.specs.Content.{Act, raises, hosts, if_in, elseif_in, otherwise, end_if, sends, cancels, Row, Spot, action_fact, Turn, turn, act_in, block_of, facts_from, row_named, row_in}
use Rattle.reading.specs.Print.{number, id_of, is_end, is_if}
use Rattle.laws.specs.Bools.{no}
use Rattle.written.specs.Pieces.{attrs_at, parts_at, tags_at}
use Rattle.written.specs.Written.{attr, start_tag, end_tag, in_text, delay_attr, act_piece, empty_if, block_pieces}
use Rattle.written.specs.Sound.{AllOf, no_more, more, Ref, ActFits, balanced, BlockFits}
use Rattle.written.specs.Numbers.{digits_plain, number_decimal, plain_itself}
use Rattle.written.specs.Items.{in_name}
use Rattle.written.specs.Says.{Says, says_none, says_both, says_as, starts_says, stands_says}

abbrev pub act_turn : Spot → ℕ → ℕ → Act → Turn
act_turn s k m a = record { facts = action_fact (block_of s) a ∷ []; inside = s; around = s; rows = k; transitions = m }

number_read : (k : ℕ) → k ≤ 4294967295 → decimal (plain (number k)) ≡ k
number_read k h = ap decimal (plain_itself (number k) (digits_plain 10 k)) ∙ number_decimal k 4294967295 (omega arith) h

-- the references of a chart: each row but the root has a name, and it is found where it stands
pub record Known (rs : List Row) (ids : List (List ℕ)) (n : ℕ) : Type 0 where
  pub named : (i : ℕ) → Ref n i → is_name (id_of rs i) ≡ true
  pub found : (i : ℕ) → Ref n i → row_named ids (id_of rs i) ≡ i

module _ (rs : List Row) (ids : List (List ℕ)) (n : ℕ) (known : Known rs ids n) where
  pub in_read : (i : ℕ) → Ref n i → row_in ids (in_text rs i) ≡ i
  in_read i r = ap (row_named ids) (in_name (id_of rs i) (known.named i r)) ∙ known.found i r

  module _ (s : Spot) (k m j : ℕ) where
    raise_turn : (v : List ℕ) → turn ids s k m 9 (parts_at j 9 (attr 0 v ∷ [])) ≡ act_turn s k m (raises v)
    unfolding turn act_in parts_at attribute attrs states value_of
    raise_turn v = refl

    log_turn : (x : ℕ) → x ≤ 65535 → turn ids s k m 10 (parts_at j 10 (attr 0 (number x) ∷ [])) ≡ act_turn s k m (hosts x)
    unfolding turn act_in parts_at attribute attrs states value_of
    log_turn x h = ap (λ (y : ℕ). act_turn s k m (hosts y)) (number_read x (omega arith))

    if_turn : (i : ℕ) → Ref n i → turn ids s k m 12 (parts_at j 12 (attr 0 (in_text rs i) ∷ [])) ≡ act_turn s k m (if_in i)
    unfolding turn act_in parts_at attribute attrs states value_of
    if_turn i r = ap (λ (y : ℕ). act_turn s k m (if_in y)) (in_read i r)

    elseif_turn : (i : ℕ) → Ref n i → turn ids s k m 14 (parts_at j 14 (attr 0 (in_text rs i) ∷ [])) ≡ act_turn s k m (elseif_in i)
    unfolding turn act_in parts_at attribute attrs states value_of
    elseif_turn i r = ap (λ (y : ℕ). act_turn s k m (elseif_in y)) (in_read i r)

    else_turn : turn ids s k m 13 (parts_at j 13 []) ≡ act_turn s k m otherwise
    unfolding turn act_in parts_at attribute attrs states value_of
    else_turn = refl

    cancel_turn : (v : List ℕ) → turn ids s k m 16 (parts_at j 16 (attr 0 v ∷ [])) ≡ act_turn s k m (cancels v)
    unfolding turn act_in parts_at attribute attrs states value_of
    cancel_turn v = refl

    send_turn : (v : List ℕ) (d : ℕ) → d ≤ 4294967295 → turn ids s k m 15 (parts_at j 15 (attr 0 v ∷ delay_attr d)) ≡ act_turn s k m (sends v d none)
    unfolding turn act_in parts_at attribute attrs states value_of
    send_turn v d h = by (eqb d 0) refl
      where
        by : (z : Bool) → eqb d 0 ≡ z → turn ids s k m 15 (parts_at j 15 (attr 0 v ∷ cond z [] (attr 1 (number d) ∷ []))) ≡ act_turn s k m (sends v d none)
        by true e = ap (λ (y : ℕ). act_turn s k m (sends v y none)) (nothing ∙ sym (eqb-true d 0 e))
          where
            nothing : decimal (plain []) ≡ 0
            nothing = unfold decoded decimal_from in refl
        by false e = ap (λ (y : ℕ). act_turn s k m (sends v y none)) (number_read d h)

    sent_turn : (v w : List ℕ) (d : ℕ) → d ≤ 4294967295 → turn ids s k m 15 (parts_at j 15 (attr 2 w ∷ attr 0 v ∷ delay_attr d)) ≡ act_turn s k m (sends v d (some w))
    unfolding turn act_in parts_at attribute attrs states value_of
    sent_turn v w d h = by (eqb d 0) refl
      where
        by : (z : Bool) → eqb d 0 ≡ z → turn ids s k m 15 (parts_at j 15 (attr 2 w ∷ attr 0 v ∷ cond z [] (attr 1 (number d) ∷ []))) ≡ act_turn s k m (sends v d (some w))
        by true e = ap (λ (y : ℕ). act_turn s k m (sends v y (some w))) (nothing ∙ sym (eqb-true d 0 e))
          where
            nothing : decimal (plain []) ≡ 0
            nothing = unfold decoded decimal_from in refl
        by false e = ap (λ (y : ℕ). act_turn s k m (sends v y (some w))) (number_read d h)

  module _ (s : Spot) (st : List Spot) (k m : ℕ) where
    act_says : (u : List Spot) (a : Act) → ActFits n a → is_if a ≡ false → is_end (a ∷ []) ≡ false → Says ids (s ∷ u) k m (act_piece rs a ∷ []) (action_fact (block_of s) a ∷ []) (s ∷ u) k m
    act_says u (raises v) f i e = stands_says s u k m 9 (attr 0 v ∷ []) (act_turn s k m (raises v)) (λ (j : ℕ). raise_turn s k m j v) refl
    act_says u (hosts x) f i e = stands_says s u k m 10 (attr 0 (number x) ∷ []) (act_turn s k m (hosts x)) (λ (j : ℕ). log_turn s k m j x f) refl
    act_says u (if_in x) f i e = absurd (no (sym i))
    act_says u (elseif_in x) f i e = stands_says s u k m 14 (attr 0 (in_text rs x) ∷ []) (act_turn s k m (elseif_in x)) (λ (j : ℕ). elseif_turn s k m j x f) refl
    act_says u otherwise f i e = stands_says s u k m 13 [] (act_turn s k m otherwise) (λ (j : ℕ). else_turn s k m j) refl
    act_says u end_if f i e = absurd (no (sym e))
    act_says u (sends v d none) (f, g) i e = stands_says s u k m 15 (attr 0 v ∷ delay_attr d) (act_turn s k m (sends v d none)) (λ (j : ℕ). send_turn s k m j v d g) refl
    act_says u (sends v d (some w)) (f, g, h) i e =
        stands_says s u k m 15 (attr 2 w ∷ attr 0 v ∷ delay_attr d) (act_turn s k m (sends v d (some w))) (λ (j : ℕ). sent_turn s k m j v w d g) refl
    act_says u (cancels v) f i e = stands_says s u k m 16 (attr 0 v ∷ []) (act_turn s k m (cancels v)) (λ (j : ℕ). cancel_turn s k m j v) refl

    -- an if with nothing inside says its end too
    empty_if_says : (u : List Spot) (i : ℕ) → Ref n i → Says ids (s ∷ u) k m (empty_if rs i ∷ []) (action_fact (block_of s) (if_in i) ∷ action_fact (block_of s) end_if ∷ []) (s ∷ u) k m
    empty_if_says u i r = record { said = λ (j : ℕ) (ts : List Markup). step j ts ∙ ap (λ (t : Turn). (t.facts ++ action_fact (block_of t.inside) end_if ∷ []) ++ facts_from ids (t.around ∷ u) t.rows t.transitions ts) (if_turn s k m (attrs_at j 12) i r) }
      where
        step : (j : ℕ) (ts : List Markup) → facts_from ids (s ∷ u) k m (tags_at j (empty_if rs i ∷ []) ++ ts) ≡
            (let t = turn ids s k m 12 (parts_at (attrs_at j 12) 12 (attr 0 (in_text rs i) ∷ [])) in (t.facts ++ action_fact (block_of t.inside) end_if ∷ []) ++ facts_from ids (t.around ∷ u) t.rows t.transitions ts)
        step j ts = unfold tags_at facts_from in refl

    if_ends : (u : List Spot) → Says ids (s ∷ u) k m (end_tag 12 ∷ []) (action_fact (block_of s) end_if ∷ []) u k m
    if_ends u = record { said = λ (j : ℕ) (ts : List Markup). unfold tags_at facts_from in refl }

    -- as many spots as ifs are open
    abbrev spots : ℕ → List Spot
    spots zero = st
    spots (suc d) = s ∷ spots d

    -- what is left to say: not the end of an if that is written already
    abbrev left : Bool → List Act → List Act
    left false acts = acts
    left true [] = []
    left true (a ∷ acts) = acts

    abbrev Ready : Bool → ℕ → List Act → Type 0
    Ready false d acts = balanced d acts ≡ true
    Ready true d acts = (is_end acts ≡ true) × (balanced (suc d) acts ≡ true)

    abbrev Block : Bool → ℕ → List Act → Type 0
    Block skip d acts = Says ids (s ∷ spots d) k m (block_pieces rs skip acts) (map (action_fact (block_of s)) (left skip acts)) (s ∷ st) k m

    block_says : (skip : Bool) (acts : List Act) (d : ℕ) → AllOf (ActFits n) acts → Ready skip d acts → Block skip d acts
    unfolding block_pieces balanced
    block_says false [] zero no_more r = says_none
    block_says false [] (suc d) no_more r = absurd (no r)
    block_says true [] d no_more (e, r) = absurd (no e)
    block_says true (raises v ∷ rest) d (more f g) (e, r) = absurd (no e)
    block_says true (hosts v ∷ rest) d (more f g) (e, r) = absurd (no e)
    block_says true (if_in x ∷ rest) d (more f g) (e, r) = absurd (no e)
    block_says true (elseif_in x ∷ rest) d (more f g) (e, r) = absurd (no e)
    block_says true (otherwise ∷ rest) d (more f g) (e, r) = absurd (no e)
    block_says true (end_if ∷ rest) d (more f g) (e, r) = block_says false rest d g r
    block_says true (sends v y w ∷ rest) d (more f g) (e, r) = absurd (no e)
    block_says true (cancels v ∷ rest) d (more f g) (e, r) = absurd (no e)
    block_says false (raises v ∷ rest) d (more f g) r = says_both (act_says (spots d) (raises v) f refl refl) (block_says false rest d g r)
    block_says false (hosts v ∷ rest) d (more f g) r = says_both (act_says (spots d) (hosts v) f refl refl) (block_says false rest d g r)
    block_says false (if_in x ∷ rest) d (more f g) r = by (is_end rest) refl (λ e. block_says true rest d g (e, r)) (block_says false rest (suc d) g r)
      where
        ended : (acts : List Act) → is_end acts ≡ true → acts ≡ end_if ∷ left true acts
        ended [] e = absurd (no e)
        ended (raises v ∷ acts) e = absurd (no e)
        ended (hosts v ∷ acts) e = absurd (no e)
        ended (if_in v ∷ acts) e = absurd (no e)
        ended (elseif_in v ∷ acts) e = absurd (no e)
        ended (otherwise ∷ acts) e = absurd (no e)
        ended (end_if ∷ acts) e = refl
        ended (sends v y w ∷ acts) e = absurd (no e)
        ended (cancels v ∷ acts) e = absurd (no e)

        by : (z : Bool) → is_end rest ≡ z → (is_end rest ≡ true → Block true d rest) → Block false (suc d) rest →
            Says ids (s ∷ spots d) k m (cond z (empty_if rs x ∷ block_pieces rs true rest) (start_tag 12 (attr 0 (in_text rs x) ∷ []) ∷ block_pieces rs false rest))
            (map (action_fact (block_of s)) (if_in x ∷ rest)) (s ∷ st) k m
        by true e short long = says_as (ap (λ (l : List Act). map (action_fact (block_of s)) (if_in x ∷ l)) (sym (ended rest e))) (says_both (empty_if_says (spots d) x f) (short e))
        by false e short long = says_both (starts_says s (spots d) k m 12 (attr 0 (in_text rs x) ∷ []) (act_turn s k m (if_in x)) (λ (j : ℕ). if_turn s k m j x f)) long
    block_says false (elseif_in x ∷ rest) d (more f g) r = says_both (act_says (spots d) (elseif_in x) f refl refl) (block_says false rest d g r)
    block_says false (otherwise ∷ rest) d (more f g) r = says_both (act_says (spots d) otherwise f refl refl) (block_says false rest d g r)
    block_says false (end_if ∷ rest) zero (more f g) r = absurd (no r)
    block_says false (end_if ∷ rest) (suc d) (more f g) r = says_both (if_ends (spots (suc d))) (block_says false rest d g r)
    block_says false (sends v y none ∷ rest) d (more f g) r = says_both (act_says (spots d) (sends v y none) f refl refl) (block_says false rest d g r)
    block_says false (sends v y (some w) ∷ rest) d (more f g) r = says_both (act_says (spots d) (sends v y (some w)) f refl refl) (block_says false rest d g r)
    block_says false (cancels v ∷ rest) d (more f g) r = says_both (act_says (spots d) (cancels v) f refl refl) (block_says false rest d g r)

    -- a block says its actions
    pub block_said : (acts : List Act) → BlockFits n acts → Says ids (s ∷ st) k m (block_pieces rs false acts) (map (action_fact (block_of s)) acts) (s ∷ st) k m
    block_said acts f = block_says false acts 0 f.each f.closed
