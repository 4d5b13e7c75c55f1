-- Which active atomic state chose a transition: the first, in document order (R-6).
use Rattle.std.specs.Prelude.{◌≡◌, Bool, ℕ, ◌+◌, ◌<◌, ◌≤◌, eqb, ltb, get_or, drop}
use Rattle.std.proofs.Math.Path.{refl, sym, ap}
use Rattle.std.proofs.Common.{◌∙◌, get_or-set_same}
use Rattle.std.proofs.Math.Bool.{true, false, cond}
use mathlib.Core.List.{List, [], ◌∷◌, ◌++◌}
use Rattle.std.proofs.Math.Option.{Option, none, some}
use native.Mathlib.Omega.{arith}
use Rattle.std.proofs.Math.ListN.{length, take, set, length-set, length-append}
use Rattle.std.proofs.Math.Seq.{get_or-set_other, get_or-drop, take-set-le}
use borrow.Author.Tests.{eqb-true, lt-ltb, le-ltb}
use Rattle.definition.specs.Rows.{fold, mem, first, or_else, append, intersection}
use Rattle.definition.specs.Names.{Name}
use Rattle.definition.specs.Chart.{Chart, Names}
use Rattle.follower.specs.Selection.{choice, add_once, choose, atomic_states, candidates, is_that, chooses, chooser}
use Rattle.accepted.specs.Sound.{Sound}
use Rattle.theory.specs.Disjoint.{choice_facts, that_is}
use Rattle.laws.specs.Bools.{no, clash, or_elim, or_left, or_right, bool_case, not_so}
use Rattle.laws.specs.Sets.{mem_head, mem_one}
use Rattle.laws.specs.Lists.{mem_app}
use Rattle.chart.specs.Within.{Within}
use Rattle.rowset.specs.declared.RowSet.{RowSet}
use Rattle.rowset.specs.Member.{rows_of}
use Rattle.rowset.specs.Search.{rest_from, rest_all}
use Rattle.matching.specs.Climbed.{Climbs, Covers, climb_fresh, climb_choice, climb_nothing}
use Rattle.matching.specs.Chosen.{AreChosen, list_of, list_length, list_push, atomic_rows, atomic_states_lem, candidates_done}
use Rattle.matching.specs.Ready.{AddedOnce}

-- ---- the places behind the first 256 items

abbrev pub choosers_in : List ℕ → List ℕ
choosers_in items = drop 256 items

-- by says of each transition of the list who chose it
pub record ChosenBy (f : ℕ → ℕ) (ts by : List ℕ) : Type 0 where
  pub at : (t : ℕ) → mem t ts ≡ true → get_or by t 0 ≡ f t

unfoldable pub note_of : List ℕ → Option ℕ → ℕ → List ℕ
note_of items none i = items
note_of items (some t) i = set items (256 + t) i

-- the items once row i's choice has joined a list that had len of them and has n
unfoldable pub noted : List ℕ → Option ℕ → ℕ → ℕ → ℕ → List ℕ
noted items o len n i = cond (ltb len n) (note_of items o i) items

-- a choice is a number that has a place
pub record Placed (items : List ℕ) (o : Option ℕ) : Type 0 where
  pub at : (t : ℕ) → o ≡ some t → 256 + t < length items

-- ---- what note_choice is given, and what it makes

pub record NoteReady (items : List ℕ) (len : ℕ) (o : Option ℕ) : Type 0 where
  pub placed : Placed items o
  pub room : len < length items

-- the choice at the end of the list, and row i at its place
unfoldable pub joined : List ℕ → ℕ → Option ℕ → ℕ → List ℕ
joined items len none i = items
joined items len (some t) i = set (set items len t) (256 + t) i

unfoldable pub grown : ℕ → Option ℕ → ℕ
grown len none = len
grown len (some t) = len + 1

pub record Noted (items : List ℕ) (len : ℕ) (o : Option ℕ) (i : ℕ) (after : List ℕ) (n : ℕ) : Type 0 where
  pub is : after ≡ joined items len o i
  pub count : n ≡ grown len o

-- the place is there once the choice has joined
pub note_place : (items : List ℕ) (len : ℕ) (o : Option ℕ) (t : ℕ) → NoteReady items len o → o ≡ some t → 256 + t < length (set items len t)
note_place items len o t h e =
    let m : 256 + t < length items = h.placed.at t e in
    let s : length (set items len t) ≡ length items = length-set items len t in
    omega arith

pub note_nothing : (items : List ℕ) (len : ℕ) (o : Option ℕ) (i : ℕ) → o ≡ none → Noted items len o i items len
unfolding joined grown
note_nothing items len o i e = rw e (record { is = refl; count = refl })

pub note_one : (items : List ℕ) (len : ℕ) (o : Option ℕ) (i t : ℕ) → o ≡ some t → Noted items len o i (set (set items len t) (256 + t) i) (len + 1)
unfolding joined grown
note_one items len o i t e = rw e (record { is = refl; count = refl })

-- ---- what is noted, by how the list has grown

module _ (items : List ℕ) (o : Option ℕ) (len n i : ℕ) where
  pub noted_same : (len < n → ⊥) → items ≡ noted items o len n i
  unfolding noted
  noted_same h = sym (rw (le-ltb len n (omega arith)))

  pub noted_none : o ≡ none → items ≡ noted items o len n i
  unfolding noted note_of
  noted_none e = rw e (go (ltb len n))
    where
      go : (b : Bool) → items ≡ cond b items items
      go true = refl
      go false = refl

  pub noted_new : (t : ℕ) → len < n → o ≡ some t → set items (256 + t) i ≡ noted items o len n i
  unfolding noted note_of
  noted_new t l e = sym (rw (lt-ltb len n l, e))

  pub noted_length : length (noted items o len n i) ≡ length items
  unfolding noted note_of
  noted_length = go (ltb len n) o
    where
      go : (b : Bool) (o : Option ℕ) → length (cond b (note_of items o i) items) ≡ length items
      go true none = refl
      go true (some t) = length-set items (256 + t) i
      go false o = refl

  -- the transitions in front stay
  pub noted_list : (m : ℕ) → m ≤ 256 → list_of (noted items o len n i) m ≡ list_of items m
  unfolding noted note_of list_of
  noted_list m l = go (ltb len n) o
    where
      go : (b : Bool) (o : Option ℕ) → take m (cond b (note_of items o i) items) ≡ take m items
      go true none = refl
      go true (some t) = take-set-le m items (256 + t) i (omega arith)
      go false o = refl

pub noted_as : (items final : List ℕ) (o : Option ℕ) (len n i : ℕ) → final ≡ noted items o len n i → n ≤ 256 → list_of final n ≡ list_of items n
noted_as items final o len n i e l = ap (λ (xs : List ℕ). list_of xs n) e ∙ noted_list items o len n i n l

-- ---- the pass over the active atomic states

module _ (c : Chart) (names : Names) (conf : List ℕ) (event : Option Name) where
  -- the first of the rows that chose t
  unfoldable first_of : List ℕ → ℕ → ℕ
  first_of rows t = or_else (first (chooses c names conf event t) rows) 0

  -- of a transition that was chosen, its place says who chose it first; of another, the rows to come will say
  pub record Choosing (active : RowSet) (items ts : List ℕ) (k : ℕ) : Type 0 where
    known : (t : ℕ) → mem t ts ≡ true → get_or items (256 + t) 0 ≡ first_of (rows_of active) t
    coming : (t : ℕ) → mem t ts ≡ false → first_of (rows_of active) t ≡ first_of (rest_from (rows_of active) k) t

  pub choosing_begin : (active : RowSet) (items ts : List ℕ) → ts ≡ [] → Choosing active items ts 0
  unfolding mem
  choosing_begin active items ts e =
      record { known = λ t m. absurd (no (rw e at m)); coming = λ t m. ap (λ (xs : List ℕ). first_of xs t) (sym (rest_all (rows_of active))) }

  -- a row that chose another transition, or none
  other : (r t : ℕ) (rest : List ℕ) (o : Option ℕ) → choice c names conf event r ≡ o → is_that t o ≡ false → first_of (r ∷ rest) t ≡ first_of rest t
  unfolding first_of first chooses
  other r t rest o e h = rw (e, h)

  own : (r t : ℕ) (rest : List ℕ) → choice c names conf event r ≡ some t → first_of (r ∷ rest) t ≡ r
  unfolding first_of first chooses or_else
  own r t rest e = rw (that_is t (choice c names conf event r) e)

  -- row r's turn: its choice joins the items, then the row is noted
  module _ (active : RowSet) (items ts : List ℕ) (k r : ℕ) (rest : rest_from (rows_of active) k ≡ r ∷ rest_from (rows_of active) (r + 1)) (v : Choosing active items ts k) where
    coming_on : (t : ℕ) (o : Option ℕ) → choice c names conf event r ≡ o → mem t ts ≡ false → is_that t o ≡ false →
        first_of (rows_of active) t ≡ first_of (rest_from (rows_of active) (r + 1)) t
    coming_on t o e m h = v.coming t m ∙ ap (λ (xs : List ℕ). first_of xs t) rest ∙ other r t (rest_from (rows_of active) (r + 1)) o e h

    module _ (joined : List ℕ) (len n : ℕ) (few : len < 256) (behind : (j : ℕ) → len < j → get_or joined j 0 ≡ get_or items j 0) where
      kept : (t : ℕ) → mem t ts ≡ true → get_or joined (256 + t) 0 ≡ first_of (rows_of active) t
      kept t m = behind (256 + t) (omega arith) ∙ v.known t m

      pub choosing_turn : (o : Option ℕ) (after : List ℕ) → choice c names conf event r ≡ o → Placed joined o → length ts ≡ len → length after ≡ n → after ≡ add_once ts o →
          Choosing active (noted joined o len n r) after (r + 1)
      unfolding add_once append is_that
      choosing_turn none after e p l m q =
          let w = ap length q in
          rw (q, ← noted_same joined none len n r (λ h. omega arith)) (record { known = kept; coming = λ t z. coming_on t none e z refl })
      choosing_turn (some u) after e p l m q =
          bool_case (mem u ts)
          (λ h. let z : after ≡ ts = q ∙ rw h in let w = ap length z in
          rw (z, ← noted_same joined (some u) len n r (λ g. omega arith))
          (record { known = kept; coming = λ t y. coming_on t (some u) e y (not_so (eqb t u) (λ g. clash _ h (rw (← eqb-true t u g) y))) }))
          (λ h. let z : after ≡ ts ++ (u ∷ []) = q ∙ rw h in let w : length after ≡ length ts + 1 = ap length z ∙ length-append ts (u ∷ []) in
          rw (z, ← noted_new joined (some u) len n r u (omega arith) refl)
          (record {
            known = λ t y. or_elim (mem t ts) (mem t (u ∷ []))
                (λ g. get_or-set_other joined (256 + u) (256 + t) r 0 (λ s. let d : t ≡ u = omega arith in clash _ g (rw d h)) ∙ kept t g)
                (λ g. let s : t ≡ u = mem_one t u g in rw s (get_or-set_same joined (256 + u) r 0 (p.at u refl) ∙
                sym (v.coming u h ∙ ap (λ (xs : List ℕ). first_of xs u) rest ∙ own r u (rest_from (rows_of active) (r + 1)) e)))
                (sym (mem_app t ts (u ∷ [])) ∙ y);
            coming = λ t y. coming_on t (some u) e
                (not_so (mem t ts) (λ g. no (sym (sym (or_left (mem t ts) (mem t (u ∷ [])) g) ∙ sym (mem_app t ts (u ∷ [])) ∙ y))))
                (not_so (eqb t u) (λ g. no (sym (sym (or_right (mem t ts) (mem t (u ∷ [])) (rw (eqb-true t u g) (mem_head u []))) ∙ sym (mem_app t ts (u ∷ [])) ∙ y))));
          }))

  pub choosing_noted : (active : RowSet) (items joined final : List ℕ) (len n k r : ℕ) (o : Option ℕ) → rest_from (rows_of active) k ≡ r ∷ rest_from (rows_of active) (r + 1) →
      Choosing active items (list_of items len) k → AddedOnce items len o joined n → length items ≡ 768 → len < 256 → choice c names conf event r ≡ o → Placed joined o →
      final ≡ noted joined o len n r → Choosing active final (list_of final n) (r + 1)
  choosing_noted active items joined final len n k r o rest v a s l e p q =
      let m = a.most in
      let z = a.room in
      rw (noted_as joined final o len n r q (omega arith), q)
      (choosing_turn active items (list_of items len) k r rest v joined len n l a.behind o (list_of joined n) e p (list_length items len (omega arith)) (list_length joined n (omega arith)) a.is)

  -- row r's climb: what it chose joins, and the row is noted
  module _ (active : RowSet) (items : List ℕ) (len k r : ℕ) (rest : rest_from (rows_of active) k ≡ r ∷ rest_from (rows_of active) (r + 1)) (v : Choosing active items (list_of items len) k) (s : length items ≡ 768) (l : len < 256) (p : Placed items (choice c names conf event r)) (before rows : List ℕ) (w : Covers c names conf event before (list_of items len)) where
    -- the items after, how many of them are in the list, and the rows climbed
    pub record Joins (after : List ℕ) (n : ℕ) : Type 0 where
      pub is : list_of after n ≡ add_once (list_of items len) (choice c names conf event r)
      pub room : length after ≡ 768
      pub most : n ≤ len + 1
      pub choosing : Choosing active after (list_of after n) (r + 1)

    joins_nothing : Climbs c names conf event before r none rows → Joins items len
    joins_nothing h =
        let e : list_of items len ≡ add_once (list_of items len) (choice c names conf event r) = climb_nothing c names conf event before (list_of items len) r none rows w h refl in
        let a : AddedOnce items len (choice c names conf event r) items len = record { is = e; room = refl; most = omega arith; behind = λ j g. refl } in
        record {
          is = e;
          room = s;
          most = omega arith;
          choosing = choosing_noted active items items items len len k r (choice c names conf event r) rest v a s l refl p (noted_same items (choice c names conf event r) len len r (λ g. omega arith));
        }

    joins_one : (t : ℕ) → Climbs c names conf event before r (some t) rows → Joins (set (set items len t) (256 + t) r) (len + 1)
    unfolding add_once
    joins_one t h =
        let e : choice c names conf event r ≡ some t = climb_choice c names conf event before (list_of items len) r (some t) rows w h t refl in
        let m : mem t (list_of items len) ≡ false = climb_fresh c names conf event before (list_of items len) r (some t) rows w h t refl in
        let q : length (set items len t) ≡ length items = length-set items len t in
        let f : list_of (set items len t) (len + 1) ≡ add_once (list_of items len) (some t) = list_push items len t (omega arith) ∙ rw m refl in
        let a : AddedOnce items len (some t) (set items len t) (len + 1) =
        record { is = f; room = q; most = omega arith; behind = λ j g. get_or-set_other items len j t 0 (λ z. omega arith) } in
        let b : Placed (set items len t) (some t) = record { at = λ u z. let x = p.at u (e ∙ z) in omega arith } in
        let d : set (set items len t) (256 + t) r ≡ noted (set items len t) (some t) len (len + 1) r = noted_new (set items len t) (some t) len (len + 1) r t (omega arith) refl in
        record {
          is = noted_as (set items len t) (set (set items len t) (256 + t) r) (some t) len (len + 1) r d (omega arith) ∙ f ∙ ap (add_once (list_of items len)) (sym e);
          room = length-set (set items len t) (256 + t) r ∙ q ∙ s;
          most = omega arith;
          choosing = choosing_noted active items (set items len t) (set (set items len t) (256 + t) r) len (len + 1) k r (some t) rest v a s l e b d;
        }

    pub joins : (o : Option ℕ) (after : List ℕ) (n : ℕ) → Climbs c names conf event before r o rows → Noted items len o r after n → Joins after n
    unfolding joined grown
    joins none after n h z = rw (z.is, z.count) (joins_nothing h)
    joins (some t) after n h z = rw (z.is, z.count) (joins_one t h)

-- ---- what the contract says

-- the candidates, and who chose each
pub record AreChosenBy (c : Chart) (names : Names) (conf : List ℕ) (event : Option Name) (items : List ℕ) (n : ℕ) : Type 0 where
  pub chosen : AreChosen c.transitions (candidates c names conf event) items n
  pub choosers : ChosenBy (chooser c names conf event) (candidates c names conf event) (choosers_in items)

module _ (c : Chart) (g : Sound c) (names : Names) (conf : List ℕ) (event : Option Name) where
  pub choosing_done : (atoms : List ℕ) (active : RowSet) (items : List ℕ) (n k : ℕ) → Within c.rows conf → atoms ≡ atomic_rows c → rows_of active ≡ intersection conf atoms →
      list_of items n ≡ fold (choose c names conf event) [] (rows_of active) → length items ≡ 768 → n ≤ 256 → Choosing c names conf event active items (list_of items n) k →
      AreChosenBy c names conf event items n
  unfolding chooser first_of
  choosing_done atoms active items n k w e f h l m v =
      let d = candidates_done c g names conf event atoms (rows_of active) items n w e f h l m in
      let a : rows_of active ≡ atomic_states c conf = f ∙ ap (intersection conf) e ∙ atomic_states_lem c conf w in
      record { chosen = d; choosers = record { at = λ t y. get_or-drop 256 items t 0 ∙ v.known t (rw d.is y) ∙ rw a } }

  -- a choice is a transition of the chart, and there are at most 512
  pub choice_placed : (items : List ℕ) (i : ℕ) (o : Option ℕ) → length items ≡ 768 → c.transitions ≤ 512 → o ≡ choice c names conf event i → Placed items o
  choice_placed items i o l m e = record { at = λ t q. let h = (choice_facts c names conf event g.tree i t (sym e ∙ q)).0 in omega arith }

  pub note_ready : (items : List ℕ) (len i : ℕ) (o : Option ℕ) (before ts rows : List ℕ) → length items ≡ 768 → len < 256 → c.transitions ≤ 512 → Covers c names conf event before ts →
      Climbs c names conf event before i o rows → NoteReady items len o
  note_ready items len i o before ts rows l s m v k = record {
    placed = record { at = λ t q. (choice_placed items i (choice c names conf event i) l m refl).at t (climb_choice c names conf event before ts i o rows v k t q) };
    room = omega arith;
  }
