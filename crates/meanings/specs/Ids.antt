-- The ids of the rows: the root has none, and row i + 1 the i-th of the ids that references are looked for in.
use Rattle.std.specs.Prelude.{◌≡◌, refl, Bool, true, false, not, ◌&&◌, ◌||◌, cond, List, [], ◌∷◌, ◌++◌, map, ℕ, zero, suc, eqb, leb}
use Rattle.std.proofs.Common.{sym, ap, ◌∙◌, append-nil, arith, eqb-true, le-leb}
use Rattle.std.proofs.lemmas.Bool.{not-true}
use Rattle.definition.specs.Rows.{same, all, flat}
use Rattle.grammar.specs.Words.{and_left, and_right, choose, no}
use Rattle.reading.specs.Tags.{Part, Shape, opening, empty, closing, Markup}
use Rattle.reading.specs.Faults.{names_in, id_word, initial_word, event_word, target_word, states, value_of, is_closing, is_row_tag, ids_of}
use Rattle.reading.specs.Content.{end_if, Row, Fact, row_fact, list_fact, transition_fact, action_fact, Spot, in_row, in_block, row_of, settled, block_of, is_internal, kind_in, act_in, condition_in, rows_in, Turn, is_default, turn, end_facts, top, rest, facts_from, rows_from, content_from, content_of}

abbrev pub id_of : Row → List ℕ
id_of r = r.id

unfoldable row_ids : List Fact → List (List ℕ)
row_ids [] = []
row_ids (row_fact k q n l ∷ fs) = n ∷ row_ids fs
row_ids (list_fact j l ∷ fs) = row_ids fs
row_ids (transition_fact s d c y g ∷ fs) = row_ids fs
row_ids (action_fact k a ∷ fs) = row_ids fs

rows_named : (whole : List Fact) (i : ℕ) (fs : List Fact) → map id_of (rows_from whole i fs) ≡ row_ids fs
unfolding rows_from row_ids
rows_named whole i [] = refl
rows_named whole i (row_fact k q n l ∷ fs) = ap (λ (ids : List (List ℕ)). n ∷ ids) (rows_named whole (suc i) fs)
rows_named whole i (list_fact j l ∷ fs) = rows_named whole i fs
rows_named whole i (transition_fact s d c y g ∷ fs) = rows_named whole i fs
rows_named whole i (action_fact k a ∷ fs) = rows_named whole i fs

ids_append : (fs gs : List Fact) → row_ids (fs ++ gs) ≡ row_ids fs ++ row_ids gs
unfolding row_ids
ids_append [] gs = refl
ids_append (row_fact k q n l ∷ fs) gs = ap (λ (ids : List (List ℕ)). n ∷ ids) (ids_append fs gs)
ids_append (list_fact j l ∷ fs) gs = ids_append fs gs
ids_append (transition_fact s d c y g ∷ fs) gs = ids_append fs gs
ids_append (action_fact k a ∷ fs) gs = ids_append fs gs

-- ---- what the tags say

-- scxml, state, parallel, final, history
abbrev start_id : Bool → ℕ → List Part → List (List ℕ)
start_id closes e ps = cond (not closes && leb e 4) (value_of id_word ps ∷ []) []

abbrev tag_ids : Markup → List (List ℕ)
tag_ids t = start_id (is_closing t.shape) t.element t.parts

abbrev NoRow : Turn → Type 0
NoRow r = row_ids r.facts ≡ []

module _ (ids : List (List ℕ)) (s : Spot) (n m e : ℕ) (ps : List Part) where
  turn_ids : row_ids (turn ids s n m e ps).facts ≡ start_id false e ps
  unfolding turn row_ids
  turn_ids = by (leb e 4)
    where
      rd : Turn
      rd = record { facts = list_fact (row_of s) (rows_in ids (value_of target_word ps)) ∷ []; inside = in_block (record { part = 3; owner = row_of s }); around = settled s; rows = n; transitions = m }

      rn : Turn
      rn =
          record {
            facts = transition_fact (row_of s) (names_in (value_of event_word ps)) (condition_in ids ps) (is_internal ps) (rows_in ids (value_of target_word ps)) ∷ [];
            inside = in_block (record { part = 4; owner = m });
            around = s;
            rows = n;
            transitions = suc m;
          }

      r6 : Turn
      r6 = cond (eqb e 6 || eqb e 11) (cond (is_default s e ps) rd rn) (record { facts = action_fact (block_of s) (act_in ids e ps) ∷ []; inside = s; around = s; rows = n; transitions = m })

      r8 : Turn
      r8 = cond (eqb e 8) (record { facts = []; inside = in_block (record { part = 2; owner = row_of s }); around = s; rows = n; transitions = m }) r6

      r7 : Turn
      r7 = cond (eqb e 7) (record { facts = []; inside = in_block (record { part = 1; owner = row_of s }); around = s; rows = n; transitions = m }) r8

      r5 : Turn
      r5 = cond (eqb e 5) (record { facts = []; inside = in_row (row_of s) true; around = s; rows = n; transitions = m }) r7

      other : row_ids r5.facts ≡ []
      other =
          choose NoRow (eqb e 5) (record { facts = []; inside = in_row (row_of s) true; around = s; rows = n; transitions = m }) r7 (λ _. refl)
          (λ _. choose NoRow (eqb e 7) (record { facts = []; inside = in_block (record { part = 1; owner = row_of s }); around = s; rows = n; transitions = m }) r8 (λ _. refl)
          (λ _. choose NoRow (eqb e 8) (record { facts = []; inside = in_block (record { part = 2; owner = row_of s }); around = s; rows = n; transitions = m }) r6 (λ _. refl)
          (λ _. choose NoRow (eqb e 6 || eqb e 11) (cond (is_default s e ps) rd rn) (record { facts = action_fact (block_of s) (act_in ids e ps) ∷ []; inside = s; around = s; rows = n; transitions = m })
          (λ _. choose NoRow (is_default s e ps) rd rn (λ _. refl) (λ _. refl)) (λ _. refl))))

      by : (z : Bool) →
          row_ids
          (cond z
          (record { facts = row_fact (kind_in e ps) (row_of s) (value_of id_word ps) (rows_in ids (value_of initial_word ps)) ∷ []; inside = in_row n (eqb e 4); around = s; rows = suc n; transitions = m })
          r5).facts ≡ cond z (value_of id_word ps ∷ []) []
      by true = refl
      by false = other

end_ids : (s : Spot) (e : ℕ) → row_ids (end_facts s e) ≡ []
unfolding row_ids
end_ids s e = by (eqb e 12)
  where
    by : (z : Bool) → row_ids (cond z (action_fact (block_of s) end_if ∷ []) []) ≡ []
    by true = refl
    by false = refl

facts_ids : (ids : List (List ℕ)) (ts : List Markup) (st : List Spot) (n m : ℕ) → row_ids (facts_from ids st n m ts) ≡ flat tag_ids ts
unfolding facts_from row_ids flat
facts_ids ids [] st n m = refl
facts_ids ids (t ∷ ts) st n m = by t.shape (λ u x y. facts_ids ids ts u x y)
  where
    r : Turn
    r = turn ids (top st) n m t.element t.parts

    by : (s : Shape) → ((u : List Spot) (x y : ℕ) → row_ids (facts_from ids u x y ts) ≡ flat tag_ids ts) →
        row_ids
        (elim s [
          | opening ↦ r.facts ++ facts_from ids (r.inside ∷ r.around ∷ rest st) r.rows r.transitions ts
          | empty ↦ r.facts ++ end_facts r.inside t.element ++ facts_from ids (r.around ∷ rest st) r.rows r.transitions ts
          | closing ↦ end_facts (top st) t.element ++ facts_from ids (rest st) n m ts
        ]) ≡ start_id (is_closing s) t.element t.parts ++ flat tag_ids ts
    by opening f =
        ids_append r.facts (facts_from ids (r.inside ∷ r.around ∷ rest st) r.rows r.transitions ts) ∙
        ap (λ (xs : List (List ℕ)). xs ++ row_ids (facts_from ids (r.inside ∷ r.around ∷ rest st) r.rows r.transitions ts)) (turn_ids ids (top st) n m t.element t.parts) ∙
        ap (λ (xs : List (List ℕ)). start_id false t.element t.parts ++ xs) (f (r.inside ∷ r.around ∷ rest st) r.rows r.transitions)
    by empty f =
        let fs = facts_from ids (r.around ∷ rest st) r.rows r.transitions ts in
        ids_append (r.facts ++ end_facts r.inside t.element) fs ∙ ap (λ (xs : List (List ℕ)). xs ++ row_ids fs) (ids_append r.facts (end_facts r.inside t.element)) ∙
        ap (λ (xs : List (List ℕ)). row_ids r.facts ++ xs ++ row_ids fs) (end_ids r.inside t.element) ∙ ap (λ (xs : List (List ℕ)). xs ++ row_ids fs) (append-nil (row_ids r.facts)) ∙
        ap (λ (xs : List (List ℕ)). xs ++ row_ids fs) (turn_ids ids (top st) n m t.element t.parts) ∙
        ap (λ (xs : List (List ℕ)). start_id false t.element t.parts ++ xs) (f (r.around ∷ rest st) r.rows r.transitions)
    by closing f =
        ids_append (end_facts (top st) t.element) (facts_from ids (rest st) n m ts) ∙
        ap (λ (xs : List (List ℕ)). xs ++ row_ids (facts_from ids (rest st) n m ts)) (end_ids (top st) t.element) ∙ f (rest st) n m

-- ---- one root

-- no start tag of a root
abbrev pub is_below : Markup → Bool
is_below t = is_closing t.shape || not (eqb t.element 0)

below_ids : (ts : List Markup) → all is_below ts ≡ true → flat tag_ids ts ≡ ids_of ts
unfolding flat all ids_of
below_ids [] h = refl
below_ids (t ∷ ts) h = by (is_closing t.shape) t.element (and_left (is_below t) (all is_below ts) h) (below_ids ts (and_right (is_below t) (all is_below ts) h))
  where
    by : (c : Bool) (e : ℕ) → (c || not (eqb e 0)) ≡ true → flat tag_ids ts ≡ ids_of ts →
        start_id c e t.parts ++ flat tag_ids ts ≡ cond (not c && is_row_tag e) (value_of id_word t.parts ∷ ids_of ts) (ids_of ts)
    by true e g q = q
    by false zero g q = absurd (no g)
    by false (suc e) g q = rw (le-leb 1 (suc e) (omega arith)) (row (leb (suc e) 4))
      where
        row : (z : Bool) → cond z (value_of id_word t.parts ∷ []) [] ++ flat tag_ids ts ≡ cond z (value_of id_word t.parts ∷ ids_of ts) (ids_of ts)
        row true = ap (λ (xs : List (List ℕ)). value_of id_word t.parts ∷ xs) q
        row false = q

-- the first is the start tag of the root, which states no id
unfoldable pub is_rooted : List Markup → Bool
is_rooted [] = false
is_rooted (t ∷ ts) = not (is_closing t.shape) && eqb t.element 0 && not (states id_word t.parts) && all is_below ts

no_value : (ps : List Part) → states id_word ps ≡ false → value_of id_word ps ≡ []
unfolding states value_of
no_value [] h = refl
no_value (p ∷ ps) h = by (eqb p.word id_word) h (no_value ps)
  where
    by : (z : Bool) → (z || states id_word ps) ≡ false → (states id_word ps ≡ false → value_of id_word ps ≡ []) → cond z p.bytes (value_of id_word ps) ≡ []
    by true g f = absurd (no (sym g))
    by false g f = f g

rooted : (ts : List Markup) → is_rooted ts ≡ true → flat tag_ids ts ≡ [] ∷ ids_of ts
unfolding is_rooted flat ids_of
rooted [] h = absurd (no h)
rooted (t ∷ ts) h =
    let three = and_left (not (is_closing t.shape) && eqb t.element 0 && not (states id_word t.parts)) (all is_below ts) h in
    let two = and_left (not (is_closing t.shape) && eqb t.element 0) (not (states id_word t.parts)) three in
    by (is_closing t.shape) t.element (and_left (not (is_closing t.shape)) (eqb t.element 0) two) (eqb-true t.element 0 (and_right (not (is_closing t.shape)) (eqb t.element 0) two))
    (no_value t.parts (not-true (states id_word t.parts) (and_right (not (is_closing t.shape) && eqb t.element 0) (not (states id_word t.parts)) three)))
    (below_ids ts (and_right (not (is_closing t.shape) && eqb t.element 0 && not (states id_word t.parts)) (all is_below ts) h))
  where
    by : (c : Bool) (e : ℕ) → not c ≡ true → e ≡ 0 → value_of id_word t.parts ≡ [] → flat tag_ids ts ≡ ids_of ts →
        start_id c e t.parts ++ flat tag_ids ts ≡ [] ∷ cond (not c && is_row_tag e) (value_of id_word t.parts ∷ ids_of ts) (ids_of ts)
    by true e g z v q = absurd (no g)
    by false zero g z v q = ap (λ (x : List ℕ). x ∷ flat tag_ids ts) v ∙ ap (λ (xs : List (List ℕ)). [] ∷ xs) q
    by false (suc e) g z v q = absurd (omega arith)

pub rows_ids : (ts : List Markup) → is_rooted ts ≡ true → map id_of (content_of ts).rows ≡ [] ∷ ids_of ts
unfolding content_of content_from
rows_ids ts h = rows_named (facts_from (ids_of ts) [] 0 0 ts) 0 (facts_from (ids_of ts) [] 0 0 ts) ∙ facts_ids (ids_of ts) ts [] 0 0 ∙ rooted ts h
