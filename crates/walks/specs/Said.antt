-- What a tag says in its spot, and the end of an if behind it.
use Rattle.std.specs.Prelude.{◌≡◌, Bool, true, false, not, ◌&&◌, cond, List, [], ◌∷◌, ◌++◌, ℕ, zero, suc, ◌≤◌, ◌<◌, eqb, length}
use Rattle.std.proofs.Math.Path.{refl}
use Rattle.std.proofs.Common.{sym, ap, subst, ◌∙◌, append-nil, arith, eqb-true, ne_eqb}
use Rattle.marks.specs.Walks.{beginning, begin_stands}
use Rattle.marks.specs.Grouped.{shape_of}
use Rattle.reading.specs.Tags.{Part, tags_of}
use Rattle.reading.specs.Faults.{event_word, cond_word, states}
use Rattle.reading.specs.Content.{Block, Spot, Fact, action_fact, end_if, end_facts, facts_from, turn}
use Rattle.weights.specs.Paid.{text_tags}
use Rattle.tags.specs.Cells.{stated_in}
use Rattle.tags.specs.Tags.{tags_begin}
use Rattle.turns.specs.declared.SpotCells.{SpotCells}
use Rattle.turns.specs.declared.Turning.{Turning}
use Rattle.turns.specs.Spots.{spot_as, spots_in}
use Rattle.turns.specs.Turns.{tag_facts}
use Rattle.turns.specs.Next.{TurnAt, facts_left}
use Rattle.facts.specs.declared.Said.{Said}
use Rattle.facts.specs.declared.Said.TheVariants.{Nothing}
use Rattle.facts.specs.Facts.{part_of, block_of_lem, said_facts, number_in, SaidBy, ends}

-- ---- where a walk begins

abbrev pub beginning_turn : Turning
beginning_turn = record { walk = beginning; depth = 0; rows = 0; transitions = 0; spot = record { what = 0; number = 0 } }

-- what every walk has to work with
pub record WalkRoom (text levels cells spots : List ℕ) : Type 0 where
  pub short : length text ≤ 32768
  pub deep : length levels ≡ 32768
  pub cells_room : length cells ≡ 22
  pub spots_room : length spots ≡ 16388

pub begin_at : (text levels cells spots : List ℕ) → WalkRoom text levels cells spots → TurnAt text levels cells spots beginning_turn
begin_at text levels cells spots h =
    let n = text_tags text in let s = h.short in let l = ap length (tags_begin text levels) in
    record {
      standing = begin_stands text levels h.short h.deep;
      cells_room = h.cells_room;
      spots_room = h.spots_room;
      deep = omega arith;
      rows_fit = omega arith;
      transitions_fit = omega arith;
    }

-- all facts are left
pub begin_left : (ids : List (List ℕ)) (text levels spots : List ℕ) → facts_left ids text levels spots beginning_turn ≡ facts_from ids [] 0 0 (tags_of text)
unfolding spots_in
begin_left ids text levels spots = ap (facts_from ids [] 0 0) (tags_begin text levels)

-- ---- one tag

abbrev pub end_said : SpotCells → ℕ → ℕ → List Fact
end_said spot s e = cond (ends s e) (action_fact (record { part = part_of spot.what; owner = spot.number }) end_if ∷ []) []

pub record TagSaid (cells : List ℕ) (spot : SpotCells) (s e : ℕ) (r : Said) : Type 0 where
  pub within : number_in r ≤ spot.number
  pub is : (ids : List (List ℕ)) (n m at : ℕ) (ps : List Part) → stated_in cells 29 ≡ states event_word ps → stated_in cells 30 ≡ states cond_word ps →
      tag_facts ids (spot_as spot) n m (record { at = at; shape = shape_of s; element = e; parts = ps }) ≡ said_facts ids e ps r ++ end_said spot s e

-- the end of an if is an action of the block that the if stands in
end_of : (spot : SpotCells) (e : ℕ) → end_facts (spot_as spot) e ≡ cond (eqb e 12) (action_fact (record { part = part_of spot.what; owner = spot.number }) end_if ∷ []) []
end_of spot e = ap (λ (b : Block). cond (eqb e 12) (action_fact b end_if ∷ []) []) (block_of_lem spot.what spot.number)

inside_if : (ids : List (List ℕ)) (spot : Spot) (n m e : ℕ) (ps : List Part) → end_facts (turn ids spot n m e ps).inside e ≡ end_facts spot e
inside_if ids spot n m e ps = by (eqb e 12) refl
  where
    at_12 : (turn ids spot n m 12 ps).inside ≡ spot
    at_12 = unfold turn in refl

    by : (z : Bool) → eqb e 12 ≡ z → end_facts (turn ids spot n m e ps).inside e ≡ end_facts spot e
    by true q = ap (λ (x : Spot). end_facts x e) (subst (λ (d : ℕ). (turn ids spot n m d ps).inside ≡ spot) (sym (eqb-true e 12 q)) at_12)
    by false q = rw q refl

module _ (cells : List ℕ) (spot : SpotCells) (s e : ℕ) where
  pub said_end : 2 ≤ s → TagSaid cells spot s e Nothing
  said_end h = record { within = omega arith; is = λ ids n m at ps a b. by ids n m at ps s h }
    where
      by : (ids : List (List ℕ)) (n m at : ℕ) (ps : List Part) (k : ℕ) → 2 ≤ k →
          tag_facts ids (spot_as spot) n m (record { at = at; shape = shape_of k; element = e; parts = ps }) ≡ end_said spot k e
      by ids n m at ps zero l = absurd (omega arith)
      by ids n m at ps (suc zero) l = absurd (omega arith)
      by ids n m at ps (suc (suc k)) l =
          end_of spot e ∙
          sym (ap (λ (z : Bool). cond (not z && eqb e 12) (action_fact (record { part = part_of spot.what; owner = spot.number }) end_if ∷ []) []) (ne_eqb (suc (suc k)) 0 (λ x. omega arith)))

  pub said_start : (x y : Bool) (r : Said) → s < 2 → x ≡ stated_in cells 29 → y ≡ stated_in cells 30 → SaidBy spot e (not x && not y) r → TagSaid cells spot s e r
  said_start x y r h i j said =
      record {
        within = said.within;
        is = λ ids n m at ps a b. by ids n m at ps (said.is ids n m ps (ap (λ (z : Bool). not z && not y) (i ∙ a) ∙ ap (λ (z : Bool). not (states event_word ps) && not z) (j ∙ b))) s h;
      }
    where
      by : (ids : List (List ℕ)) (n m at : ℕ) (ps : List Part) → (turn ids (spot_as spot) n m e ps).facts ≡ said_facts ids e ps r → (k : ℕ) → k < 2 →
          tag_facts ids (spot_as spot) n m (record { at = at; shape = shape_of k; element = e; parts = ps }) ≡ said_facts ids e ps r ++ end_said spot k e
      by ids n m at ps q zero l = q ∙ sym (append-nil (said_facts ids e ps r))
      by ids n m at ps q (suc zero) l =
          ap (λ (fs : List Fact). fs ++ end_facts (turn ids (spot_as spot) n m e ps).inside e) q ∙
          ap (λ (fs : List Fact). said_facts ids e ps r ++ fs) (inside_if ids (spot_as spot) n m e ps ∙ end_of spot e)
      by ids n m at ps q (suc (suc k)) l = absurd (omega arith)
