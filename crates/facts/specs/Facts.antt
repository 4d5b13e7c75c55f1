-- What a tag says, as its element and its spot tell.
use Rattle.std.specs.Prelude.{◌≡◌, Bool, true, not, ◌&&◌, ◌||◌, List, [], ◌∷◌, ℕ, zero, suc, ◌-◌, ◌≤◌, ◌<◌}
use Rattle.std.proofs.Math.Path.{refl, ap}
use Rattle.std.proofs.Common.{sym, subst, ◌∙◌, arith}
use Rattle.std.proofs.Math.Bool.{false}
use Rattle.std.proofs.Math.Dec.{eqb}
use borrow.Author.Tests.{le-leb, lt-leb, eqb-true, not-true, not-false}
use Rattle.reading.specs.Tags.{Part}
use Rattle.reading.specs.Faults.{names_in, id_word, initial_word, event_word, cond_word, target_word, states, value_of}
use Rattle.reading.specs.Content.{Block, block_of, is_internal, kind_in, rows_in, condition_in, act_in, Fact, row_fact, list_fact, transition_fact, action_fact, is_default, turn}
use Rattle.turns.specs.declared.SpotCells.{SpotCells}
use Rattle.turns.specs.Spots.{spot_by, spot_as, row_of_lem, wants_of, is_plain}
use Rattle.facts.specs.declared.Said.{Said}
use Rattle.facts.specs.declared.Said.TheVariants.{Nothing, Row, List as ListOf, Transition, Action}

-- ---- the facts of a start tag with these parts

abbrev pub said_facts : List (List ℕ) → ℕ → List Part → Said → List Fact
said_facts ids e ps Nothing = []
said_facts ids e ps (Row q) = row_fact (kind_in e ps) q (value_of id_word ps) (rows_in ids (value_of initial_word ps)) ∷ []
said_facts ids e ps (ListOf i) = list_fact i (rows_in ids (value_of target_word ps)) ∷ []
said_facts ids e ps (Transition i) =
    transition_fact i (names_in (value_of event_word ps)) (condition_in ids ps) (is_internal ps) (rows_in ids (value_of target_word ps)) ∷ []
said_facts ids e ps (Action p i) = action_fact (record { part = p; owner = i }) (act_in ids e ps) ∷ []

abbrev pub part_of : ℕ → ℕ
part_of zero = 0
part_of (suc zero) = 0
part_of (suc (suc p)) = p

pub part_none : (w : ℕ) → w < 2 → 0 ≡ part_of w
part_none zero h = refl
part_none (suc zero) h = refl
part_none (suc (suc p)) h = absurd (omega arith)

pub part_some : (w : ℕ) → 2 ≤ w → w - 2 ≡ part_of w
part_some zero h = absurd (omega arith)
part_some (suc zero) h = absurd (omega arith)
part_some (suc (suc p)) h = omega arith

pub block_of_lem : (w i : ℕ) → block_of (spot_by w i) ≡ record { part = part_of w; owner = i }
block_of_lem zero i = refl
block_of_lem (suc zero) i = refl
block_of_lem (suc (suc p)) i = refl

abbrev pub block_only : ℕ → Bool
block_only e = eqb e 5 || eqb e 7 || eqb e 8

-- the row or transition of what is said, 0 of nothing
abbrev pub number_in : Said → ℕ
number_in Nothing = 0
number_in (Row q) = q
number_in (ListOf i) = i
number_in (Transition i) = i
number_in (Action p i) = i

pub record SaidBy (s : SpotCells) (e : ℕ) (p : Bool) (r : Said) : Type 0 where
  pub within : number_in r ≤ s.number
  pub is : (ids : List (List ℕ)) (n m : ℕ) (ps : List Part) → p ≡ is_plain ps → (turn ids (spot_as s) n m e ps).facts ≡ said_facts ids e ps r

module _ (s : SpotCells) (e : ℕ) (p : Bool) where
  pub said_row : e ≤ 4 → SaidBy s e p (Row s.number)
  unfolding turn
  said_row h =
      record {
        within = omega arith;
        is = λ ids n m ps q.
            rw (le-leb e 4 h) (ap (λ (i : ℕ). row_fact (kind_in e ps) i (value_of id_word ps) (rows_in ids (value_of initial_word ps)) ∷ []) (row_of_lem s.what s.number));
      }

  pub said_none : (z : Bool) → z ≡ block_only e → z ≡ true → SaidBy s e p Nothing
  said_none z b t = record { within = omega arith; is = λ ids n m ps q. by ids n m ps (eqb e 5) (eqb e 7) refl refl (sym b ∙ t) }
    where
      at_5 : (ids : List (List ℕ)) (n m : ℕ) (ps : List Part) → (turn ids (spot_as s) n m 5 ps).facts ≡ []
      at_5 ids n m ps = unfold turn in refl

      at_7 : (ids : List (List ℕ)) (n m : ℕ) (ps : List Part) → (turn ids (spot_as s) n m 7 ps).facts ≡ []
      at_7 ids n m ps = unfold turn in refl

      at_8 : (ids : List (List ℕ)) (n m : ℕ) (ps : List Part) → (turn ids (spot_as s) n m 8 ps).facts ≡ []
      at_8 ids n m ps = unfold turn in refl

      by : (ids : List (List ℕ)) (n m : ℕ) (ps : List Part) (x y : Bool) → eqb e 5 ≡ x → eqb e 7 ≡ y → (eqb e 5 || eqb e 7 || eqb e 8) ≡ true → (turn ids (spot_as s) n m e ps).facts ≡ []
      by ids n m ps true y i j k = subst (λ (d : ℕ). (turn ids (spot_as s) n m d ps).facts ≡ []) (sym (eqb-true e 5 i)) (at_5 ids n m ps)
      by ids n m ps false true i j k = subst (λ (d : ℕ). (turn ids (spot_as s) n m d ps).facts ≡ []) (sym (eqb-true e 7 j)) (at_7 ids n m ps)
      by ids n m ps false false i j k = subst (λ (d : ℕ). (turn ids (spot_as s) n m d ps).facts ≡ []) (sym (eqb-true e 8 (rw (i, j) at k))) (at_8 ids n m ps)

  module _ (z : Bool) (b : z ≡ block_only e) (f : z ≡ false) (h : 4 < e) (entering : Bool) (en : entering ≡ eqb e 11) where
    no_block : (x y w : Bool) → (x || y || w) ≡ false → (x ≡ false) × (y ≡ false) × (w ≡ false)
    no_block true y w q = absurd (let k : ◌≡◌ {A = ℕ} 0 1 = cc in omega arith)
    no_block false true w q = absurd (let k : ◌≡◌ {A = ℕ} 0 1 = cc in omega arith)
    no_block false false true q = absurd (let k : ◌≡◌ {A = ℕ} 0 1 = cc in omega arith)
    no_block false false false q = (refl, refl, refl)

    others : (eqb e 5 ≡ false) × (eqb e 7 ≡ false) × (eqb e 8 ≡ false)
    others = no_block (eqb e 5) (eqb e 7) (eqb e 8) (sym b ∙ f)

    pub said_action : (part : ℕ) → not (eqb e 6 || entering) ≡ true → part ≡ part_of s.what → SaidBy s e p (Action part s.number)
    unfolding turn
    said_action part q g =
        let o = others in
        let still : (eqb e 6 || eqb e 11) ≡ false = ap (λ (x : Bool). eqb e 6 || x) (sym en) ∙ not-true (eqb e 6 || entering) q in
        record {
          within = omega arith;
          is = λ ids n m ps k.
              rw (lt-leb e 4 h, o.0, o.1, o.2, still)
              (ap (λ (d : Block). action_fact d (act_in ids e ps) ∷ []) (block_of_lem s.what s.number ∙ ap (λ (d : ℕ). record { part = d; owner = s.number }) (sym g)));
        }

    default_is : (ps : List Part) → p ≡ is_plain ps → is_default (spot_as s) e ps ≡ (entering || (eqb s.what 1 && p))
    default_is ps k =
        rw (en, k, wants_of s.what s.number) (ap (λ (x : Bool). eqb e 11 || x) (assoc (eqb s.what 1) (not (states event_word ps)) (not (states cond_word ps))))
      where
        assoc : (x y w : Bool) → (x && y && w) ≡ (x && (y && w))
        assoc true y w = refl
        assoc false y w = refl

    module _ (moves : not (eqb e 6 || entering) ≡ false) where
      moving : (eqb e 6 || eqb e 11) ≡ true
      moving = ap (λ (x : Bool). eqb e 6 || x) (sym en) ∙ not-false (eqb e 6 || entering) moves

      pub said_list : (entering || (eqb s.what 1 && p)) ≡ true → SaidBy s e p (ListOf s.number)
      unfolding turn
      said_list d =
          let o = others in
          record {
            within = omega arith;
            is = λ ids n m ps k.
                rw (lt-leb e 4 h, o.0, o.1, o.2, moving, default_is ps k ∙ d) (ap (λ (i : ℕ). list_fact i (rows_in ids (value_of target_word ps)) ∷ []) (row_of_lem s.what s.number));
          }

      pub said_transition : (entering || (eqb s.what 1 && p)) ≡ false → SaidBy s e p (Transition s.number)
      unfolding turn
      said_transition d =
          let o = others in
          record {
            within = omega arith;
            is = λ ids n m ps k.
                rw (lt-leb e 4 h, o.0, o.1, o.2, moving, default_is ps k ∙ d)
                (ap
                (λ (i : ℕ).
                transition_fact i (names_in (value_of event_word ps)) (condition_in ids ps) (is_internal ps) (rows_in ids (value_of target_word ps)) ∷ [])
                (row_of_lem s.what s.number));
          }

-- ---- the end of an if

abbrev pub ends : ℕ → ℕ → Bool
ends s e = not (eqb s 0) && eqb e 12
