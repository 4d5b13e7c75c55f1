-- The effects of a block, action by action.
use Rattle.std.specs.Prelude.{◌≡◌, refl, true, false, ℕ, suc, ◌+◌, ◌≤◌, ◌<◌, leb, ltb, get_or}
use Rattle.std.proofs.Math.Path.{ap, subst}
use Rattle.std.proofs.Common.{sym, ◌∙◌, add-one, ltb-true, leb-true}
use mathlib.Core.List.{List, [], ◌∷◌, ◌++◌, append-nil}
use native.Mathlib.Omega.{arith}
use Rattle.std.proofs.Math.ListN.{length, drop, drop_of_length-le}
use Rattle.std.proofs.Math.Seq.{drop-cons}
use Rattle.definition.specs.declared.Action.{Action}
use Rattle.definition.specs.declared.Action.TheVariants.{Raise, Host, If, ElseIf, Else, End, Send, Cancel}
use Rattle.definition.specs.declared.Reach.{Reach}
use Rattle.definition.specs.declared.Reach.TheVariants.{Live}
use Rattle.definition.specs.Rows.{all}
use Rattle.definition.specs.Tables.{most_actions, most_delay, row_count, name_count}
use Rattle.definition.specs.Rules.{optional_below}
use Rattle.follower.specs.Blocks.{Effect, after, perform, perform_if, performed_from, performed}
use Rattle.laws.specs.Bools.{and3}
use Rattle.laws.specs.Maps.{all_at}
use Rattle.tables.specs.Ranges.{InTables, optional_small}
use Rattle.tables.specs.Actions.{fits_number}
use Rattle.tables.specs.Parts.{actions_of, BlockOf}
use Rattle.effects.specs.declared.Tally.{Tally}
use Rattle.effects.specs.Trace.{Places, Wrote, Room}
use Rattle.effects.specs.Writing.{Writing, writing_begin, writing_turn, writing_end, writing_length, writing_joins, wrote_both, room_left, room_first, room_next}
use Rattle.effects.specs.Kinds.{ActionFits}
use Rattle.effects.specs.Branches.{is_branch, depth_of, plain_count, plain_effects, plain_next, plain_stop, performed_split, one_deeper}

-- action k of a block
abbrev pub action_in : List ℕ → ℕ → Action
action_in b k = get_or (actions_of b) k (Raise 0)

-- the actions of a block are few, and each fits an entry of the trace or asks for a row
pub record ActionsFit (b : List ℕ) : Type 0 where
  pub fits : (k : ℕ) → k < length (actions_of b) → ActionFits (action_in b k)
  pub few : length (actions_of b) ≤ most_actions

number_small : (numbers : List ℕ) (x : Action) → InTables numbers → fits_number numbers x ≡ true → ActionFits x
unfolding fits_number
number_small numbers (Raise n) h e =
    let l : n < name_count numbers = ltb-true _ _ e in let m = h.sized.counts.names in record { fits = omega arith; delay = omega arith; id = omega arith }
number_small numbers (Host n) h e = record { fits = leb-true _ _ e; delay = omega arith; id = omega arith }
number_small numbers (If i) h e =
    let l : i < row_count numbers = ltb-true _ _ e in let m = h.sized.counts.rows in record { fits = omega arith; delay = omega arith; id = omega arith }
number_small numbers (ElseIf i) h e =
    let l : i < row_count numbers = ltb-true _ _ e in let m = h.sized.counts.rows in record { fits = omega arith; delay = omega arith; id = omega arith }
number_small numbers Else h e = record { fits = omega arith; delay = omega arith; id = omega arith }
number_small numbers End h e = record { fits = omega arith; delay = omega arith; id = omega arith }
number_small numbers (Send n delay id) h e =
    let p = and3 (ltb n (name_count numbers)) (leb delay most_delay) (optional_below (name_count numbers) id) e in
    let l : n < name_count numbers = ltb-true _ _ p.0 in
    let m = h.sized.counts.names in
    record { fits = omega arith; delay = leb-true _ _ p.1; id = optional_small (name_count numbers) id (omega arith) p.2 }
number_small numbers (Cancel n) h e =
    let l : n < name_count numbers = ltb-true _ _ e in let m = h.sized.counts.names in record { fits = omega arith; delay = omega arith; id = omega arith }

-- ---- ahead of the first if

-- of the n actions of a block, those before k are performed, and none of them is an if
pub record Plainly (b : List ℕ) (old new : Places) (t r : Tally) (n k : ℕ) : Type 0 where
  pub size : n ≡ length (actions_of b)
  pub block : ActionsFit b
  pub room : Room t (plain_effects (actions_of b))
  pub writes : Writing old new t r (plain_effects (actions_of b)) (plain_effects (drop k (actions_of b)))
  pub count : plain_count (actions_of b) ≡ k + plain_count (drop k (actions_of b))

pub plainly_begin : (b : List ℕ) (old : Places) (t : Tally) (n : ℕ) → n ≡ length (actions_of b) → ActionsFit b → Room t (plain_effects (actions_of b)) → Plainly b old old t t n 0
plainly_begin b old t n e f m = record { size = e; block = f; room = m; writes = writing_begin old t _ _ refl; count = omega arith }

module _ (b : List ℕ) (old new : Places) (t r : Tally) (n k : ℕ) (p : Plainly b old new t r n k) where
  pub plainly_length : length new.trace ≡ length old.trace
  plainly_length = writing_length old new t r _ _ p.writes

  pub plainly_joins : length new.joins ≡ length old.joins
  plainly_joins = writing_joins old new t r _ _ p.writes

  -- the block has no if
  pub plainly_end : n ≤ k → Wrote old new t r (plain_effects (actions_of b)) × (k ≡ plain_count (actions_of b))
  unfolding plain_effects plain_count
  plainly_end l =
      let e = p.size in
      let g : length (actions_of b) ≤ k = omega arith in
      let q : drop k (actions_of b) ≡ [] = drop_of_length-le (actions_of b) g in
      let c = p.count in
      let z = ap plain_count q in
      (writing_end old new t r _ _ (ap plain_effects q) p.writes, omega arith)

  module _ (l : k < n) where
    pub plainly_inside : k < length (actions_of b)
    plainly_inside = let e = p.size in omega arith

    rest_is : drop k (actions_of b) ≡ action_in b k ∷ drop (k + 1) (actions_of b)
    rest_is = rw (add-one k) (drop-cons (actions_of b) k (Raise 0) plainly_inside)

    -- action k is one
    pub plainly_stop : (x : Action) → x ≡ action_in b k → is_branch x ≡ true → Wrote old new t r (plain_effects (actions_of b)) × (k ≡ plain_count (actions_of b))
    plainly_stop x e h =
        let s = plain_stop (action_in b k) (drop (k + 1) (actions_of b)) (rw (← e) h) in
        let c = p.count in
        let z = ap plain_count rest_is ∙ s.1 in
        (writing_end old new t r _ _ (ap plain_effects rest_is ∙ s.0) p.writes, omega arith)

    module _ (x : Action) (e : x ≡ action_in b k) (h : is_branch x ≡ false) where
      plain_rest : (plain_effects (drop k (actions_of b)) ≡ perform (action_in b k) ++ plain_effects (drop (k + 1) (actions_of b))) × (plain_count (drop k (actions_of b)) ≡ suc (plain_count (drop (k + 1) (actions_of b))))
      plain_rest = rw rest_is (plain_next (action_in b k) (drop (k + 1) (actions_of b)) (rw (← e) h))

      pub plainly_fits : ActionFits x
      plainly_fits = rw e (p.block.fits k plainly_inside)

      pub plainly_room : Room r (perform x)
      plainly_room = rw e (room_first r (perform (action_in b k)) _ (subst (Room r) plain_rest.0 (room_left old new t r _ _ p.room p.writes)))

      pub plainly_turn : (newer : Places) (s : Tally) → Wrote new newer r s (perform x) → Plainly b old newer t s n (k + 1)
      plainly_turn newer s w =
          let c = p.count in
          let z = plain_rest.1 in
          record {
            size = p.size;
            block = p.block;
            room = p.room;
            writes = writing_turn old new t r _ (perform (action_in b k)) _ _ newer s plain_rest.0 p.writes (rw (← e) w);
            count = omega arith;
          }

-- ---- from the first if on

-- of the n actions of a block, those from start up to k are seen, and performed where they are not passed over
pub record Branching (active b : List ℕ) (start : ℕ) (old new : Places) (t r : Tally) (reach : Reach) (n k : ℕ) : Type 0 where
  pub size : n ≡ length (actions_of b)
  pub block : ActionsFit b
  pub room : Room t (performed_from active Live (drop start (actions_of b)))
  pub writes : Writing old new t r (performed_from active Live (drop start (actions_of b))) (performed_from active reach (drop k (actions_of b)))
  pub depth : depth_of reach ≤ k

pub branching_begin : (active b : List ℕ) (start : ℕ) (old : Places) (t : Tally) (n : ℕ) → n ≡ length (actions_of b) → ActionsFit b →
    Room t (performed_from active Live (drop start (actions_of b))) → Branching active b start old old t t Live n start
branching_begin active b start old t n e f m = record { size = e; block = f; room = m; writes = writing_begin old t _ _ refl; depth = omega arith }

module _ (active b : List ℕ) (start : ℕ) (old new : Places) (t r : Tally) (reach : Reach) (n k : ℕ) (p : Branching active b start old new t r reach n k) where
  pub branching_length : length new.trace ≡ length old.trace
  branching_length = writing_length old new t r _ _ p.writes

  pub branching_joins : length new.joins ≡ length old.joins
  branching_joins = writing_joins old new t r _ _ p.writes

  pub branching_end : n ≤ k → Wrote old new t r (performed_from active Live (drop start (actions_of b)))
  unfolding performed_from
  branching_end l =
      let e = p.size in
      let g : length (actions_of b) ≤ k = omega arith in
      writing_end old new t r _ _ (ap (performed_from active reach) (drop_of_length-le (actions_of b) g)) p.writes

  module _ (l : k < n) (x : Action) (e : x ≡ action_in b k) where
    inside : k < length (actions_of b)
    inside = let q = p.size in omega arith

    seen_next : performed_from active reach (drop k (actions_of b)) ≡ perform_if reach (action_in b k) ++ performed_from active (after active (action_in b k) reach) (drop (k + 1) (actions_of b))
    unfolding performed_from
    seen_next = rw (add-one k, drop-cons (actions_of b) k (Raise 0) inside)

    pub branching_fits : ActionFits x
    branching_fits = rw e (p.block.fits k inside)

    pub branching_low : depth_of reach < most_actions
    branching_low = let d = p.depth in let q = p.size in let f = p.block.few in omega arith

    pub branching_room : Room r (perform_if reach x)
    branching_room = rw e (room_first r (perform_if reach (action_in b k)) _ (subst (Room r) seen_next (room_left old new t r _ _ p.room p.writes)))

    pub branching_turn : (newer : Places) (s : Tally) (far : Reach) → Wrote new newer r s (perform_if reach x) → far ≡ after active x reach → Branching active b start old newer t s far n (k + 1)
    branching_turn newer s far w q =
        let d = p.depth in
        let o = one_deeper active (action_in b k) reach in
        let z : far ≡ after active (action_in b k) reach = q ∙ ap (λ (y : Action). after active y reach) e in
        rw z (record {
          size = p.size;
          block = p.block;
          room = p.room;
          writes = writing_turn old new t r _ (perform_if reach (action_in b k)) _ _ newer s seen_next p.writes (rw (← e) w);
          depth = omega arith;
        })

pub branching_inside : (b : List ℕ) (n k : ℕ) → n ≡ length (actions_of b) → k < n → k < length (actions_of b)
branching_inside b n k e l = omega arith

-- ---- both: a block, while the rows that are meant are active

pub plain_room : (active : List ℕ) (xs : List Action) (t : Tally) → Room t (performed active xs) → Room t (plain_effects xs)
plain_room active xs t m = room_first t (plain_effects xs) (performed_from active Live (drop (plain_count xs) xs)) (subst (Room t) (performed_split active xs) m)

module _ (meant : List ℕ) (xs : List Action) (old new : Places) (t r : Tally) (k : ℕ) (w : Wrote old new t r (plain_effects xs)) (e : k ≡ plain_count xs) where
  -- it has no if
  pub all_plain : k ≡ length xs → Wrote old new t r (performed meant xs)
  unfolding performed_from
  all_plain q =
      let g : length xs ≤ plain_count xs = omega arith in
      let z : drop (plain_count xs) xs ≡ [] = drop_of_length-le xs g in
      subst (Wrote old new t r) (sym (performed_split meant xs ∙ ap {B = List Effect} (λ ys. plain_effects xs ++ performed_from meant Live ys) z ∙ append-nil (plain_effects xs))) w

  module _ (active : List ℕ) (h : active ≡ meant) where
    pub rest_room : Room t (performed meant xs) → Room r (performed_from active Live (drop k xs))
    rest_room m = rw (h, e) (room_next old new t r (plain_effects xs) (performed_from meant Live (drop (plain_count xs) xs)) (subst (Room t) (performed_split meant xs) m) w)

    pub rest_wrote : (newer : Places) (s : Tally) → Wrote new newer r s (performed_from active Live (drop k xs)) → Wrote old newer t s (performed meant xs)
    rest_wrote newer s v =
        subst (Wrote old newer t s) (sym (performed_split meant xs)) (wrote_both old new newer t r s (plain_effects xs) (performed_from meant Live (drop (plain_count xs) xs)) w (rw (h, e) at v))

-- the rest of one, where the rows that are meant are worked out
module _ (active meant : List ℕ) (xs : List Action) (h : active ≡ meant) where
  pub meant_room : (t : Tally) → Room t (performed_from meant Live xs) → Room t (performed_from active Live xs)
  meant_room t m = rw h m

  pub meant_wrote : (old new : Places) (t r : Tally) → Wrote old new t r (performed_from active Live xs) → Wrote old new t r (performed_from meant Live xs)
  meant_wrote old new t r w = rw h at w

-- a block that was read from the tables, for the actions xs
block_fits_lem : (numbers : List ℕ) (xs : List Action) (b : List ℕ) → BlockOf numbers xs b → InTables numbers → ActionsFit b
block_fits_lem numbers xs b h i = record {
  fits = λ k l. number_small numbers _ i (all_at (fits_number numbers) (actions_of b) (Raise 0) (ap (all (fits_number numbers)) h.is ∙ h.fits) k l);
  few = let q = ap {B = ℕ} length h.is in let s = h.short in omega arith;
}

module _ (active numbers : List ℕ) (xs : List Action) (b : List ℕ) (h : BlockOf numbers xs b) where
  pub block_asked : (t : Tally) → InTables numbers → Room t (performed active xs) → ActionsFit b × Room t (performed active (actions_of b))
  block_asked t i m = (
    block_fits_lem numbers xs b h i,
    subst (λ (ys : List Action). Room t (performed active ys)) (sym h.is) m,
  )

  pub block_wrote : (old new : Places) (t r : Tally) → Wrote old new t r (performed active (actions_of b)) → Wrote old new t r (performed active xs)
  block_wrote old new t r w = subst (λ (ys : List Action). Wrote old new t r (performed active ys)) h.is w

  -- the actions ahead of its first if
  pub ahead_asked : (t : Tally) → InTables numbers → Room t (performed active xs) → ActionsFit b × Room t (plain_effects (actions_of b))
  ahead_asked t i m = let q = block_asked t i m in (q.0, plain_room active (actions_of b) t q.1)

  module _ (old new : Places) (t r : Tally) (k : ℕ) (w : Wrote old new t r (plain_effects (actions_of b))) (e : k ≡ plain_count (actions_of b)) where
    pub ahead_all : k ≡ length (actions_of b) → Wrote old new t r (performed active xs)
    ahead_all q = block_wrote old new t r (all_plain active (actions_of b) old new t r k w e q)

    -- the others, where the block is read again
    module _ (rows : List ℕ) (g : rows ≡ active) (a : List ℕ) (j : BlockOf numbers xs a) where
      read_alike : actions_of b ≡ actions_of a
      read_alike = h.is ∙ sym j.is

      pub behind_asked : InTables numbers → Room t (performed active xs) → ActionsFit a × Room r (performed_from rows Live (drop k (actions_of a)))
      behind_asked i m = (
        block_fits_lem numbers xs a j i,
        subst (λ (ys : List Action). Room r (performed_from rows Live (drop k ys))) read_alike (rest_room active (actions_of b) old new t r k w e rows g (block_asked t i m).1),
      )

      pub behind_wrote : (newer : Places) (s : Tally) → Wrote new newer r s (performed_from rows Live (drop k (actions_of a))) → Wrote old newer t s (performed active xs)
      behind_wrote newer s v =
          block_wrote old newer t s (rest_wrote active (actions_of b) old new t r k w e rows g newer s (subst (λ (ys : List Action). Wrote new newer r s (performed_from rows Live (drop k ys))) (sym read_alike) v))
