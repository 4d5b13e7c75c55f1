-- Five bytes of a text's tags pay for four cells of its tables: for five of the cells of a row, all nine of a transition, the references, the descriptors and the
-- actions.
use Rattle.std.specs.Prelude.{◌≡◌, refl, Bool, true, false, not, ◌||◌, cond, List, [], ◌∷◌, ◌++◌, map, ℕ, zero, suc, ◌+◌, ◌*◌, ◌≤◌, eqb, leb, length}
use Rattle.std.proofs.Common.{sym, ap, subst, ◌∙◌, arith, eqb-true, leb-true, ne_eqb}
use Rattle.std.proofs.lemmas.List.{length-map}
use Rattle.grammar.specs.Words.{choose, no}
use Rattle.reading.specs.Tags.{Part, Shape, opening, empty, closing, Markup}
use Rattle.reading.specs.Faults.{names_in, id_word, initial_word, event_word, target_word, value_of}
use Rattle.reading.specs.Content.{end_if, Fact, row_fact, list_fact, transition_fact, action_fact, Spot, in_row, in_block, row_of, settled, block_of, is_internal, kind_in, act_in, condition_in, row_named, rows_in, Turn, is_default, turn, end_facts, top, rest, facts_from}
use Rattle.weights.specs.Sizes.{name_size, name_two, transition_long, row_long}
use Rattle.weights.specs.Tags.{value_bytes, quote_bytes, start_bytes, start_long, start_if, start_name, shape_bytes, tag_bytes, all_bytes}
use Rattle.weights.specs.Names.{value_names, both_names}

abbrev pub fact_cells : Fact → ℕ
fact_cells (row_fact k q n l) = 5 + length l
fact_cells (list_fact j l) = length l
fact_cells (transition_fact s d c y g) = 9 + (length g + length d)
fact_cells (action_fact k a) = 4

unfoldable pub facts_cells : List Fact → ℕ
facts_cells [] = 0
facts_cells (f ∷ fs) = fact_cells f + facts_cells fs

cells_append : (fs gs : List Fact) → facts_cells (fs ++ gs) ≡ facts_cells fs + facts_cells gs
unfolding facts_cells
cells_append [] gs = omega arith
cells_append (f ∷ fs) gs = let h = cells_append fs gs in omega arith

-- ---- a start tag

abbrev Paid : ℕ → Turn → Type 0
Paid n r = facts_cells r.facts * 5 ≤ n * 4

references : (ids : List (List ℕ)) (v : List ℕ) → length (rows_in ids v) ≡ length (names_in v)
references ids v = length-map (names_in v) (row_named ids)

other_word : (x : ℕ) → eqb x target_word ≡ true → eqb x event_word ≡ false
other_word x h = let e = eqb-true x target_word h in ne_eqb x event_word (λ g. omega arith)

no_if : (e : ℕ) → (eqb e 6 || eqb e 11) ≡ true → e ≡ 12 → ⊥
no_if e h g = let q : (eqb 12 6 || eqb 12 11) ≡ true = ap (λ (x : ℕ). eqb x 6 || eqb x 11) (sym g) ∙ h in no q

-- only the values of an if count without their quotes
other_quote : (e : ℕ) (ps : List Part) → (e ≡ 12 → ⊥) → value_bytes (quote_bytes e) ps ≡ value_bytes 1 ps
other_quote e ps f = ap (λ (z : Bool). value_bytes (cond z 0 1) ps) (ne_eqb e 12 f)

turn_paid : (ids : List (List ℕ)) (s : Spot) (n m e : ℕ) (ps : List Part) → Paid (start_bytes e + value_bytes (quote_bytes e) ps + 1) (turn ids s n m e ps)
unfolding turn facts_cells
turn_paid ids s n m e ps =
    choose (Paid most) (leb e 4)
    (record { facts = row_fact (kind_in e ps) (row_of s) (value_of id_word ps) (rows_in ids (value_of initial_word ps)) ∷ []; inside = in_row n (eqb e 4); around = s; rows = suc n; transitions = m })
    r5
    (λ h. let i = leb-true e 4 h in let o = other_quote e ps (λ g. omega arith) in let l = row_long e h in let k = start_name e in let v = value_names initial_word ps in let r = references ids (value_of initial_word ps) in omega arith)
    (λ _. choose (Paid most) (eqb e 5) (record { facts = []; inside = in_row (row_of s) true; around = s; rows = n; transitions = m }) r7 (λ _. omega arith)
    (λ _. choose (Paid most) (eqb e 7) (record { facts = []; inside = in_block (record { part = 1; owner = row_of s }); around = s; rows = n; transitions = m }) r8 (λ _. omega arith)
    (λ _. choose (Paid most) (eqb e 8) (record { facts = []; inside = in_block (record { part = 2; owner = row_of s }); around = s; rows = n; transitions = m }) r6 (λ _. omega arith)
    (λ _. choose (Paid most) (eqb e 6 || eqb e 11) rt ra
    (λ h. choose (Paid most) (is_default s e ps) rd rn
    (λ _. let o = other_quote e ps (λ g. no_if e h g) in let v = value_names target_word ps in let r = references ids (value_of target_word ps) in omega arith)
    (λ _. let o = other_quote e ps (λ g. no_if e h g) in let l = transition_long e h in let k = start_name e in let v = both_names target_word event_word ps other_word in let r = references ids (value_of target_word ps) in omega arith))
    (λ _. let l = start_long e in omega arith)))))
  where
    most : ℕ
    most = start_bytes e + value_bytes (quote_bytes e) ps + 1

    ra : Turn
    ra = record { facts = action_fact (block_of s) (act_in ids e ps) ∷ []; inside = s; around = s; rows = n; transitions = m }

    rd : Turn
    rd = record { facts = list_fact (row_of s) (rows_in ids (value_of target_word ps)) ∷ []; inside = in_block (record { part = 3; owner = row_of s }); around = settled s; rows = n; transitions = m }

    rn : Turn
    rn =
        record {
          facts = transition_fact (row_of s) (names_in (value_of event_word ps)) (condition_in ids ps) (is_internal ps) (rows_in ids (value_of target_word ps)) ∷ [];
          inside = in_block (record { part = 4; owner = m });
          around = s;
          rows = n;
          transitions = suc m;
        }

    rt : Turn
    rt = cond (is_default s e ps) rd rn

    r6 : Turn
    r6 = cond (eqb e 6 || eqb e 11) rt ra

    r8 : Turn
    r8 = cond (eqb e 8) (record { facts = []; inside = in_block (record { part = 2; owner = row_of s }); around = s; rows = n; transitions = m }) r6

    r7 : Turn
    r7 = cond (eqb e 7) (record { facts = []; inside = in_block (record { part = 1; owner = row_of s }); around = s; rows = n; transitions = m }) r8

    r5 : Turn
    r5 = cond (eqb e 5) (record { facts = []; inside = in_row (row_of s) true; around = s; rows = n; transitions = m }) r7

-- ---- all tags

if_cells : (ids : List (List ℕ)) (s : Spot) (n m : ℕ) (ps : List Part) → facts_cells (turn ids s n m 12 ps).facts ≡ 4
unfolding turn facts_cells
if_cells ids s n m ps = refl

empty_paid : (ids : List (List ℕ)) (s u : Spot) (n m e : ℕ) (ps : List Part) →
    (facts_cells (turn ids s n m e ps).facts + facts_cells (end_facts u e)) * 5 ≤ (start_bytes e + value_bytes (quote_bytes e) ps + 2) * 4
unfolding facts_cells
empty_paid ids s u n m e ps = by (eqb e 12) refl
  where
    by : (z : Bool) → eqb e 12 ≡ z → (facts_cells (turn ids s n m e ps).facts + facts_cells (cond z (action_fact (block_of u) end_if ∷ []) [])) * 5 ≤ (start_bytes e + value_bytes (quote_bytes e) ps + 2) * 4
    by true q =
        let a = ap (λ (x : ℕ). facts_cells (turn ids s n m x ps).facts) (eqb-true e 12 q) in let b = if_cells ids s n m ps in
        let c = ap start_bytes (eqb-true e 12 q) in let d = start_if in omega arith
    by false q = let h = turn_paid ids s n m e ps in omega arith

end_paid : (u : Spot) (e : ℕ) → facts_cells (end_facts u e) * 5 ≤ (name_size e + 3) * 4
unfolding facts_cells
end_paid u e = by (eqb e 12)
  where
    by : (z : Bool) → facts_cells (cond z (action_fact (block_of u) end_if ∷ []) []) * 5 ≤ (name_size e + 3) * 4
    by true = let l = name_two e in omega arith
    by false = omega arith

pub facts_paid : (ids : List (List ℕ)) (ts : List Markup) (st : List Spot) (n m : ℕ) → facts_cells (facts_from ids st n m ts) * 5 ≤ all_bytes ts * 4
unfolding facts_from all_bytes facts_cells
facts_paid ids [] st n m = omega arith
facts_paid ids (t ∷ ts) st n m = by t.shape (λ u x y. facts_paid ids ts u x y)
  where
    r : Turn
    r = turn ids (top st) n m t.element t.parts

    by : (s : Shape) → ((u : List Spot) (x y : ℕ) → facts_cells (facts_from ids u x y ts) * 5 ≤ all_bytes ts * 4) →
        facts_cells
        (elim s [
          | opening ↦ r.facts ++ facts_from ids (r.inside ∷ r.around ∷ rest st) r.rows r.transitions ts
          | empty ↦ r.facts ++ end_facts r.inside t.element ++ facts_from ids (r.around ∷ rest st) r.rows r.transitions ts
          | closing ↦ end_facts (top st) t.element ++ facts_from ids (rest st) n m ts
        ]) * 5 ≤ (shape_bytes s t.element t.parts + all_bytes ts) * 4
    by opening f =
        let a = cells_append r.facts (facts_from ids (r.inside ∷ r.around ∷ rest st) r.rows r.transitions ts) in
        let h = f (r.inside ∷ r.around ∷ rest st) r.rows r.transitions in let p = turn_paid ids (top st) n m t.element t.parts in omega arith
    by empty f =
        let a = cells_append (r.facts ++ end_facts r.inside t.element) (facts_from ids (r.around ∷ rest st) r.rows r.transitions ts) in
        let b = cells_append r.facts (end_facts r.inside t.element) in
        let h = f (r.around ∷ rest st) r.rows r.transitions in let p = empty_paid ids (top st) r.inside n m t.element t.parts in omega arith
    by closing f =
        let a = cells_append (end_facts (top st) t.element) (facts_from ids (rest st) n m ts) in
        let h = f (rest st) n m in let p = end_paid (top st) t.element in omega arith
