-- The walk from tag to tag, with the spots as a stack: what is left of the facts.
use Rattle.std.specs.Prelude.{◌≡◌, Bool, true, false, ◌&&◌, eqb, length, set}
use Rattle.std.proofs.Math.Path.{refl, sym, ap}
use Rattle.std.proofs.Common.{◌∙◌, add-one, length-set, eq-eqb, ne_eqb}
use Rattle.std.proofs.Math.Bool.{not}
use mathlib.Core.List.{List, ◌∷◌, ◌++◌}
use Prim.Native.Nat.{ℕ, zero, suc, ◌+◌, ◌*◌, ◌^◌, ◌≤◌, ◌<◌}
use native.Mathlib.Omega.{arith}
use Rattle.marks.specs.declared.Walk.{Walk}
use Rattle.marks.specs.Grouped.{shape_of}
use Rattle.reading.specs.Tags.{Part, Markup, Shape, opening, empty, closing}
use Rattle.reading.specs.Faults.{event_word, cond_word, states}
use Rattle.reading.specs.Content.{Spot, rest, Turn, turn, Fact, end_facts, facts_from}
use Rattle.tags.specs.Cells.{stated_in}
use Rattle.turns.specs.declared.SpotCells.{SpotCells}
use Rattle.turns.specs.declared.TurnCells.{TurnCells}
use Rattle.turns.specs.declared.Turning.{Turning}
use Rattle.turns.specs.Spots.{spot_as, spots_in, rest_depth, rest_spots, TopIs, StoreRoom, stored, stored_spots, TurnRoom, Same, TurnIs}

-- ---- the stack behind a start tag

rest_below : (d : ℕ) → rest_depth d ≤ d
rest_below d = omega arith

pub record EnterRoom (spots : List ℕ) (d : ℕ) (t : TurnCells) : Type 0 where
  pub room : d * 2 + 4 ≤ length spots
  pub most : length spots ≤ 16388
  pub inside_what : t.inside.what < 65536
  pub inside_number : t.inside.number < 65536
  pub around_what : t.around.what < 65536
  pub around_number : t.around.number < 65536

abbrev entered : Bool → Spot → Spot → List Spot → List Spot
entered true i a st = i ∷ a ∷ st
entered false i a st = a ∷ st

pub record Entered (spots spots' : List ℕ) (d s : ℕ) (t : TurnCells) (r : ℕ) : Type 0 where
  pub few : r ≤ rest_depth d + 2
  pub are : spots_in spots' r ≡ entered (eqb s 0) (spot_as t.inside) (spot_as t.around) (spots_in spots (rest_depth d))

module _ (spots : List ℕ) (d : ℕ) (t : TurnCells) (h : EnterRoom spots d t) (base : ℕ) (b : base ≡ rest_depth d) where
  below : base ≤ d
  below = let l = rest_below d in omega arith

  pub enter_one : base + 1 < 2 ^ 64
  enter_one = let l = below in let r = h.room in let m = h.most in omega arith

  pub enter_two : base + 2 < 2 ^ 64
  enter_two = let l = below in let r = h.room in let m = h.most in omega arith

  pub enter_around : StoreRoom spots base t.around
  enter_around = let l = below in let r = h.room in let m = h.most in record { room = omega arith; few = omega arith; what_fits = h.around_what; number_fits = h.around_number }

  module _ (spots' : List ℕ) (q : spots' ≡ stored spots base t.around) where
    long : length spots' ≡ length spots
    long = ap length q ∙ length-set (set spots (base * 2) t.around.what) (base * 2 + 1) t.around.number ∙ length-set spots (base * 2) t.around.what

    pub enter_inside : StoreRoom spots' (base + 1) t.inside
    enter_inside = let l = below in let r = h.room in let m = h.most in let e = long in record { room = omega arith; few = omega arith; what_fits = h.inside_what; number_fits = h.inside_number }

    around_spots : spots_in spots' (suc base) ≡ spot_as t.around ∷ spots_in spots (rest_depth d)
    around_spots =
        let l = below in let r = h.room in
        ap (λ (c : List ℕ). spots_in c (suc base)) q ∙ stored_spots spots base t.around (omega arith) ∙ ap (λ (n : ℕ). spot_as t.around ∷ spots_in spots n) b

    pub enter_empty : (s : ℕ) → (s ≡ 0 → ⊥) → Entered spots spots' d s t (base + 1)
    enter_empty s f =
        record {
          few = omega arith;
          are = ap (spots_in spots') (add-one base) ∙ around_spots ∙ sym (ap (λ (z : Bool). entered z (spot_as t.inside) (spot_as t.around) (spots_in spots (rest_depth d))) (ne_eqb s 0 f));
        }

    pub enter_opening : (s : ℕ) (spots'' : List ℕ) → s ≡ 0 → spots'' ≡ stored spots' (base + 1) t.inside → Entered spots spots'' d s t (base + 2)
    enter_opening s spots'' e p =
        let l = below in let r = h.room in let n = long in
        let two : base + 2 ≡ suc (base + 1) = omega arith in
        record {
          few = omega arith;
          are =
              ap (spots_in spots'') two ∙ ap (λ (c : List ℕ). spots_in c (suc (base + 1))) p ∙ stored_spots spots' (base + 1) t.inside (omega arith) ∙
              ap (λ (k : ℕ). spot_as t.inside ∷ spots_in spots' k) (add-one base) ∙ ap (λ (l : List Spot). spot_as t.inside ∷ l) around_spots ∙
              sym (ap (λ (z : Bool). entered z (spot_as t.inside) (spot_as t.around) (spots_in spots (rest_depth d))) (eq-eqb s 0 e));
        }

-- ---- one tag

-- what a tag says in its spot
abbrev pub shape_facts : Shape → Turn → Spot → ℕ → List Fact
shape_facts opening t s e = t.facts
shape_facts empty t s e = t.facts ++ end_facts t.inside e
shape_facts closing t s e = end_facts s e

abbrev pub tag_facts : List (List ℕ) → Spot → ℕ → ℕ → Markup → List Fact
tag_facts ids s n m t = shape_facts t.shape (turn ids s n m t.element t.parts) s t.element

pub record TagRoom (cells spots : List ℕ) (t : Turning) : Type 0 where
  pub cells_room : length cells ≡ 22
  pub room : t.depth * 2 + 4 ≤ length spots
  pub most : length spots ≤ 16388
  pub rows_fit : t.rows ≤ 32768
  pub transitions_fit : t.transitions ≤ 32768

pub record TagTurned (cells spots spots' : List ℕ) (t : Turning) (next : Walk) (s e : ℕ) (r : Turning) : Type 0 where
  pub walk_is : r.walk ≡ next
  pub number_fits : r.spot.number < 65536
  pub deep : r.depth ≤ rest_depth t.depth + 2
  pub rows_fit : r.rows ≤ t.rows + 1
  pub transitions_fit : r.transitions ≤ t.transitions + 1
  pub facts : (ids : List (List ℕ)) (at : ℕ) (ps : List Part) (ts : List Markup) → stated_in cells 29 ≡ states event_word ps → stated_in cells 30 ≡ states cond_word ps →
      facts_from ids (spots_in spots t.depth) t.rows t.transitions ((record { at = at; shape = shape_of s; element = e; parts = ps }) ∷ ts) ≡
      tag_facts ids (spot_as r.spot) t.rows t.transitions (record { at = at; shape = shape_of s; element = e; parts = ps }) ++
      facts_from ids (spots_in spots' r.depth) r.rows r.transitions ts

module _ (cells spots : List ℕ) (t : Turning) (h : TagRoom cells spots t) (next : Walk) (s e : ℕ) (spot : SpotCells) (top-is : TopIs spots t.depth spot) where
  pub turn_top : (t.depth * 2 ≤ length spots) × (length spots ≤ 16388)
  turn_top = let r = h.room in (omega arith, h.most)

  pub turn_closing : (d : ℕ) → 2 ≤ s → d ≡ rest_depth t.depth → TagTurned cells spots spots t next s e (record { walk = next; depth = d; rows = t.rows; transitions = t.transitions; spot = spot })
  unfolding facts_from
  turn_closing d l q =
      record {
        walk_is = refl;
        number_fits = top-is.number_fits;
        deep = omega arith;
        rows_fit = omega arith;
        transitions_fit = omega arith;
        facts = λ ids at ps ts a b. by ids at ps ts s l;
      }
    where
      by : (ids : List (List ℕ)) (at : ℕ) (ps : List Part) (ts : List Markup) (k : ℕ) → 2 ≤ k →
          facts_from ids (spots_in spots t.depth) t.rows t.transitions ((record { at = at; shape = shape_of k; element = e; parts = ps }) ∷ ts) ≡
          tag_facts ids (spot_as spot) t.rows t.transitions (record { at = at; shape = shape_of k; element = e; parts = ps }) ++ facts_from ids (spots_in spots d) t.rows t.transitions ts
      by ids at ps ts zero l = absurd (omega arith)
      by ids at ps ts (suc zero) l = absurd (omega arith)
      by ids at ps ts (suc (suc k)) l =
          ap (λ (x : Spot). end_facts x e ++ facts_from ids (rest (spots_in spots t.depth)) t.rows t.transitions ts) (sym top-is.is) ∙
          ap (λ (st : List Spot). end_facts (spot_as spot) e ++ facts_from ids st t.rows t.transitions ts) (rest_spots spots t.depth ∙ ap (spots_in spots) (sym q))

  pub turn_room : TurnRoom spot t.rows t.transitions
  turn_room = record { what_fits = top-is.what_fits; number_fits = top-is.number_fits; rows_fit = h.rows_fit; transitions_fit = h.transitions_fit }

  module _ (plain : Bool) (u : TurnCells) (turned : TurnIs spot t.rows t.transitions e plain u) where
    pub turn_enter : EnterRoom spots t.depth u
    turn_enter =
        record { room = h.room; most = h.most; inside_what = turned.small.inside_what; inside_number = turned.small.inside_number; around_what = turned.small.around_what; around_number = turned.small.around_number }

    pub turn_start : (d : ℕ) (spots' : List ℕ) (x y : Bool) → s < 2 → plain ≡ (not x && not y) → x ≡ stated_in cells 29 → y ≡ stated_in cells 30 → Entered spots spots' t.depth s u d →
        TagTurned cells spots spots' t next s e (record { walk = next; depth = d; rows = u.rows; transitions = u.transitions; spot = spot })
    unfolding facts_from
    turn_start d spots' x y l p' i j en =
        record {
          walk_is = refl;
          number_fits = top-is.number_fits;
          deep = en.few;
          rows_fit = turned.small.rows_fit;
          transitions_fit = turned.small.transitions_fit;
          facts = λ ids at ps ts a b. by ids at ps ts (turned.is ids ps (p' ∙ ap (λ (z : Bool). not z && not y) i ∙ ap (λ (z : Bool). not (stated_in cells 29) && not z) j ∙ ap (λ (z : Bool). not z && not (stated_in cells 30)) a ∙ ap (λ (z : Bool). not (states event_word ps) && not z) b)) s refl l;
        }
      where
        by : (ids : List (List ℕ)) (at : ℕ) (ps : List Part) (ts : List Markup) → Same u (turn ids (spot_as spot) t.rows t.transitions e ps) → (k : ℕ) → s ≡ k → k < 2 →
            facts_from ids (spots_in spots t.depth) t.rows t.transitions ((record { at = at; shape = shape_of k; element = e; parts = ps }) ∷ ts) ≡
            tag_facts ids (spot_as spot) t.rows t.transitions (record { at = at; shape = shape_of k; element = e; parts = ps }) ++ facts_from ids (spots_in spots' d) u.rows u.transitions ts
        by ids at ps ts same zero g l =
            let st = spots_in spots t.depth in
            let v = turn ids (spot_as spot) t.rows t.transitions e ps in
            let stack : v.inside ∷ v.around ∷ rest st ≡ spots_in spots' d =
            ap (λ (i : Spot). i ∷ v.around ∷ rest st) (sym same.inside_is) ∙ ap (λ (a : Spot). spot_as u.inside ∷ a ∷ rest st) (sym same.around_is) ∙
            ap (λ (l : List Spot). spot_as u.inside ∷ spot_as u.around ∷ l) (rest_spots spots t.depth) ∙
            sym (en.are ∙ ap (λ (z : Bool). entered z (spot_as u.inside) (spot_as u.around) (spots_in spots (rest_depth t.depth))) (eq-eqb s 0 g)) in
            ap (λ (x : Spot). let w = turn ids x t.rows t.transitions e ps in w.facts ++ facts_from ids (w.inside ∷ w.around ∷ rest st) w.rows w.transitions ts) (sym top-is.is) ∙
            ap (λ (l : List Spot). v.facts ++ facts_from ids l v.rows v.transitions ts) stack ∙
            ap (λ (n : ℕ). v.facts ++ facts_from ids (spots_in spots' d) n v.transitions ts) (sym same.rows_are) ∙
            ap (λ (n : ℕ). v.facts ++ facts_from ids (spots_in spots' d) u.rows n ts) (sym same.transitions_are)
        by ids at ps ts same (suc zero) g l =
            let st = spots_in spots t.depth in
            let v = turn ids (spot_as spot) t.rows t.transitions e ps in
            let other : s ≡ 0 → ⊥ = λ x. omega arith in
            let stack : v.around ∷ rest st ≡ spots_in spots' d =
            ap (λ (a : Spot). a ∷ rest st) (sym same.around_is) ∙ ap (λ (l : List Spot). spot_as u.around ∷ l) (rest_spots spots t.depth) ∙
            sym (en.are ∙ ap (λ (z : Bool). entered z (spot_as u.inside) (spot_as u.around) (spots_in spots (rest_depth t.depth))) (ne_eqb s 0 other)) in
            ap (λ (x : Spot). let w = turn ids x t.rows t.transitions e ps in w.facts ++ end_facts w.inside e ++ facts_from ids (w.around ∷ rest st) w.rows w.transitions ts) (sym top-is.is) ∙
            ap (λ (l : List Spot). v.facts ++ end_facts v.inside e ++ facts_from ids l v.rows v.transitions ts) stack ∙
            ap (λ (n : ℕ). v.facts ++ end_facts v.inside e ++ facts_from ids (spots_in spots' d) n v.transitions ts) (sym same.rows_are) ∙
            ap (λ (n : ℕ). v.facts ++ end_facts v.inside e ++ facts_from ids (spots_in spots' d) u.rows n ts) (sym same.transitions_are)
        by ids at ps ts same (suc (suc k)) g l = absurd (omega arith)
