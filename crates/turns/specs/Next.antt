-- What is left of the facts behind each tag.
use Rattle.std.proofs.Math.Path.{◌≡◌, refl, sym, ap}
use Rattle.std.proofs.Common.{subst, ◌∙◌, arith}
use Rattle.std.proofs.Math.Bool.{true, false}
use mathlib.Core.List.{List, [], ◌∷◌, ◌++◌}
use Rattle.std.specs.Prelude.{ℕ, zero, suc, ◌+◌, ◌≤◌, ◌<◌, length}
use Rattle.marks.specs.declared.Mark.{Mark}
use Rattle.marks.specs.declared.Mark.TheVariants.{Nothing, Valued, Tagged}
use Rattle.marks.specs.declared.Walk.{Walk}
use Rattle.marks.specs.Marks.{is_mark}
use Rattle.marks.specs.Walks.{Standing}
use Rattle.marks.specs.Grouped.{shape_of}
use Rattle.reading.specs.Tags.{Part}
use Rattle.reading.specs.Content.{Fact, facts_from}
use Rattle.tags.specs.Cells.{is_value_mark, Stated}
use Rattle.tags.specs.Tags.{tags_left, tagged, NextTag}
use Rattle.turns.specs.declared.Turning.{Turning}
use Rattle.turns.specs.Spots.{spot_as, spots_in, rest_depth}
use Rattle.turns.specs.Turns.{tag_facts, TagRoom, TagTurned}

-- the facts of the tags that are left
abbrev pub facts_left : List (List ℕ) → List ℕ → List ℕ → List ℕ → Turning → List Fact
facts_left ids text levels spots t = facts_from ids (spots_in spots t.depth) t.rows t.transitions (tags_left text levels t.walk)

pub record TurnAt (text levels cells spots : List ℕ) (t : Turning) : Type 0 where
  pub standing : Standing text levels t.walk
  pub cells_room : length cells ≡ 22
  pub spots_room : length spots ≡ 16388
  -- each spot around the innermost has a start tag of its own before it, and a tag has four bytes (crate weights)
  pub deep : rest_depth t.depth + length (tags_left text levels t.walk) ≤ 8192
  pub rows_fit : t.rows ≤ t.walk.index
  pub transitions_fit : t.transitions ≤ t.walk.index

pub record NextTurn (text levels levels' cells spots spots' : List ℕ) (t r : Turning) : Type 0 where
  pub turn_at : is_mark r.walk.mark ≡ true → TurnAt text levels' cells spots' r
  pub further : is_mark r.walk.mark ≡ true → t.walk.index < r.walk.index
  pub no_value : is_value_mark r.walk.mark ≡ false
  pub number_fits : is_mark r.walk.mark ≡ true → r.spot.number < 65536
  pub parts : List Part
  pub stated : Stated text cells parts
  pub tags : (a s e : ℕ) → r.walk.mark ≡ Tagged a s e →
      tags_left text levels t.walk ≡ (record { at = a; shape = shape_of s; element = e; parts = parts }) ∷ tags_left text levels' r.walk
  pub none : is_mark r.walk.mark ≡ false → (ids : List (List ℕ)) → facts_left ids text levels spots t ≡ []
  pub more : (ids : List (List ℕ)) (a s e : ℕ) → r.walk.mark ≡ Tagged a s e →
      facts_left ids text levels spots t ≡
      tag_facts ids (spot_as r.spot) t.rows t.transitions (record { at = a; shape = shape_of s; element = e; parts = parts }) ++ facts_left ids text levels' spots' r

abbrev pub stayed : Turning → Walk → Turning
stayed t next = record { walk = next; depth = t.depth; rows = t.rows; transitions = t.transitions; spot = t.spot }

rest_few : (d : ℕ) → d ≤ rest_depth d + 1
rest_few zero = omega arith
rest_few (suc d) = omega arith

rest_deeper : (d n : ℕ) → d ≤ n + 1 → rest_depth d ≤ n
rest_deeper zero n h = omega arith
rest_deeper (suc d) n h = omega arith

module _ (text levels cells₀ spots : List ℕ) (t : Turning) (at : TurnAt text levels cells₀ spots t) (levels' cells : List ℕ) (next : Walk) (tag : NextTag text levels levels' cells t.walk next) where
  stays : (r : Turning) → r ≡ stayed t next → is_mark next.mark ≡ false → NextTurn text levels levels' cells spots spots t r
  unfolding facts_from
  stays r q m =
      rw q
      (record {
        turn_at = λ e. absurd (let x : true ≡ false = sym e ∙ m in let z : ◌≡◌ {A = ℕ} 0 1 = cc in omega arith);
        further = tag.further;
        no_value = tag.no_value;
        number_fits = λ e. absurd (let x : true ≡ false = sym e ∙ m in let z : ◌≡◌ {A = ℕ} 0 1 = cc in omega arith);
        parts = tag.parts;
        stated = tag.stated;
        tags = λ a s e g. absurd (let x : true ≡ false = sym (ap is_mark g) ∙ m in let z : ◌≡◌ {A = ℕ} 0 1 = cc in omega arith);
        none = λ e ids. ap (facts_from ids (spots_in spots t.depth) t.rows t.transitions) (tag.left ∙ no_tag next.mark m);
        more = λ ids a s e g. absurd (let x : true ≡ false = sym (ap is_mark g) ∙ m in let z : ◌≡◌ {A = ℕ} 0 1 = cc in omega arith);
      })
    where
      no_tag : (k : Mark) → is_mark k ≡ false → tagged k tag.parts (tags_left text levels' next) ≡ []
      no_tag Nothing e = refl
      no_tag (Valued e w a b) q = absurd (let z : ◌≡◌ {A = ℕ} 0 1 = cc in omega arith)
      no_tag (Tagged a s e) q = absurd (let z : ◌≡◌ {A = ℕ} 0 1 = cc in omega arith)

  pub turn_other : ((a s e : ℕ) → next.mark ≡ Tagged a s e → ⊥) → (r : Turning) → r ≡ stayed t next → NextTurn text levels levels' cells spots spots t r
  turn_other x r q = by next.mark refl
    where
      by : (m : Mark) → next.mark ≡ m → NextTurn text levels levels' cells spots spots t r
      by Nothing g = stays r q (ap is_mark g)
      by (Valued e w a b) g = absurd (let v : true ≡ false = sym (ap is_value_mark g) ∙ tag.no_value in let z : ◌≡◌ {A = ℕ} 0 1 = cc in omega arith)
      by (Tagged a s e) g = absurd (x a s e g)

  module _ (a s e : ℕ) (g : next.mark ≡ Tagged a s e) where
    beyond : t.walk.index < next.index
    beyond = tag.further (ap is_mark g)

    fewer : length (tags_left text levels t.walk) ≡ suc (length (tags_left text levels' next))
    fewer = ap length (tag.left ∙ ap (λ (k : Mark). tagged k tag.parts (tags_left text levels' next)) g)

    pub tag_room : TagRoom cells spots t
    tag_room =
        let b = beyond in let i = tag.standing.within in let l = tag.standing.short in let d = at.deep in let f = fewer in let g = rest_few t.depth in let x = at.rows_fit in let y = at.transitions_fit in let r = at.spots_room in
        record { cells_room = tag.stated.room; room = omega arith; most = omega arith; rows_fit = omega arith; transitions_fit = omega arith }

    pub turn_tag : (spots' : List ℕ) (r : Turning) → length spots' ≡ length spots → TagTurned cells spots spots' t next s e r → NextTurn text levels levels' cells spots spots' t r
    turn_tag spots' r same-long u =
        let b = beyond in let w = at.deep in let o = fewer in let x = at.rows_fit in let y = at.transitions_fit in
        let p = u.deep in let n = u.rows_fit in let m = u.transitions_fit in
        let i : r.walk.index ≡ next.index = ap (λ (k : Walk). k.index) u.walk_is in
        let v = rest_deeper r.depth (rest_depth t.depth + 1) (omega arith) in
        let same : length (tags_left text levels' r.walk) ≡ length (tags_left text levels' next) = ap (λ (k : Walk). length (tags_left text levels' k)) u.walk_is in
        record {
          turn_at = λ f.
              record {
                standing = rw u.walk_is tag.standing;
                cells_room = tag.stated.room;
                spots_room = same-long ∙ at.spots_room;
                deep = omega arith;
                rows_fit = omega arith;
                transitions_fit = omega arith;
              };
          further = λ f. omega arith;
          no_value = rw u.walk_is tag.no_value;
          number_fits = λ f. u.number_fits;
          parts = tag.parts;
          stated = tag.stated;
          tags = λ a' s' e' g'.
              tag.left ∙ ap (λ (k : Mark). tagged k tag.parts (tags_left text levels' next)) (sym (ap (λ (k : Walk). k.mark) u.walk_is) ∙ g') ∙
              ap (λ (k : Walk). (record { at = a'; shape = shape_of s'; element = e'; parts = tag.parts }) ∷ tags_left text levels' k) (sym u.walk_is);
          none = λ f ids. absurd (let z1 : true ≡ false = sym (ap is_mark (ap (λ (k : Walk). k.mark) u.walk_is ∙ g)) ∙ f in let z : ◌≡◌ {A = ℕ} 0 1 = cc in omega arith);
          more = λ ids a' s' e' g'. by ids a' s' e' (sym (ap (λ (k : Walk). k.mark) u.walk_is ∙ g) ∙ g');
        }
      where
        here : (ids : List (List ℕ)) → facts_left ids text levels spots t ≡
            tag_facts ids (spot_as r.spot) t.rows t.transitions (record { at = a; shape = shape_of s; element = e; parts = tag.parts }) ++ facts_left ids text levels' spots' r
        here ids =
            ap (facts_from ids (spots_in spots t.depth) t.rows t.transitions) (tag.left ∙ ap (λ (k : Mark). tagged k tag.parts (tags_left text levels' next)) g) ∙
            u.facts ids a tag.parts (tags_left text levels' next) (tag.stated.there 29 (omega arith) (omega arith)) (tag.stated.there 30 (omega arith) (omega arith)) ∙
            ap
            (λ (k : Walk).
            tag_facts ids (spot_as r.spot) t.rows t.transitions (record { at = a; shape = shape_of s; element = e; parts = tag.parts }) ++
            facts_from ids (spots_in spots' r.depth) r.rows r.transitions (tags_left text levels' k))
            (sym u.walk_is)

        by : (ids : List (List ℕ)) (a' s' e' : ℕ) → Tagged a s e ≡ Tagged a' s' e' → facts_left ids text levels spots t ≡
            tag_facts ids (spot_as r.spot) t.rows t.transitions (record { at = a'; shape = shape_of s'; element = e'; parts = tag.parts }) ++ facts_left ids text levels' spots' r
        by ids a' s' e' q = let i : a ≡ a' = cc in let j : s ≡ s' = cc in let k : e ≡ e' = cc in
            subst (λ (x : ℕ). facts_left ids text levels spots t ≡ tag_facts ids (spot_as r.spot) t.rows t.transitions (record { at = x; shape = shape_of s'; element = e'; parts = tag.parts }) ++ facts_left ids text levels' spots' r) i
            (subst (λ (x : ℕ). facts_left ids text levels spots t ≡ tag_facts ids (spot_as r.spot) t.rows t.transitions (record { at = a; shape = shape_of x; element = e'; parts = tag.parts }) ++ facts_left ids text levels' spots' r) j
            (subst (λ (x : ℕ). facts_left ids text levels spots t ≡ tag_facts ids (spot_as r.spot) t.rows t.transitions (record { at = a; shape = shape_of s; element = x; parts = tag.parts }) ++ facts_left ids text levels' spots' r) k (here ids)))
