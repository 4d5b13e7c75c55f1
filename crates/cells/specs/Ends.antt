-- The cells of transitions that say where their descriptors, targets and blocks stand, by the places behind the bins.
use Rattle.std.specs.Prelude.{◌≡◌, refl, Bool, true, false, List, ℕ, ◌+◌, ◌*◌, ◌-◌, ◌≤◌, ◌<◌, eqb, length, get_or}
use Rattle.std.proofs.Common.{sym, ap, subst, ◌∙◌, arith, eqb-true}
use Rattle.std.proofs.lemmas.Bool.{eqb-false}
use Rattle.cells.specs.Starts.{table_base, PartRoom, entries_in, PartLaid}
use Rattle.cells.specs.Parts.{blocks, CellsRoom, part_room, moved}

pub record TransitionRoom (out next : List ℕ) (n t r : ℕ) : Type 0 where
  pub cells : CellsRoom out next n t
  pub below : r < t

abbrev pub transition_at : ℕ → ℕ → ℕ → ℕ
transition_at n r k = 6 + n * 11 + r * 9 + k

pub record TransitionIn (out next : List ℕ) (n t r : ℕ) : Type 0 where
  pub descriptor : get_or out (transition_at n r 1) 0 ≡ entries_in (table_base n t) next (n * 2 + t) (n * 2 + t + r) 1
  pub descriptors : get_or out (transition_at n r 2) 0 ≡ entries_in (table_base n t) next (n * 2 + t + r) (n * 2 + t + r + 1) 1
  pub target : get_or out (transition_at n r 5) 0 ≡ entries_in (table_base n t) next 0 (n * 2 + r) 1
  pub targets : get_or out (transition_at n r 6) 0 ≡ entries_in (table_base n t) next (n * 2 + r) (n * 2 + r + 1) 1
  pub block : get_or out (transition_at n r 7) 0 ≡ entries_in (table_base n t) next (blocks n t) (blocks n t + n * 3 + r) 4
  pub many : get_or out (transition_at n r 8) 0 ≡ entries_in (table_base n t) next (blocks n t + n * 3 + r) (blocks n t + n * 3 + r + 1) 4

-- source, condition and type stand as they stood
pub record OwnKept (out out' : List ℕ) (n r : ℕ) : Type 0 where
  pub source : get_or out' (transition_at n r 0) 0 ≡ get_or out (transition_at n r 0) 0
  pub condition : get_or out' (transition_at n r 3) 0 ≡ get_or out (transition_at n r 3) 0
  pub type : get_or out' (transition_at n r 4) 0 ≡ get_or out (transition_at n r 4) 0

pub record TransitionLaid (out out' next : List ℕ) (n t r : ℕ) : Type 0 where
  pub size : length out' ≡ length out
  pub is : TransitionIn out' next n t r
  pub own : OwnKept out out' n r
  pub before : (j : ℕ) → j < transition_at n r 1 → get_or out' j 0 ≡ get_or out j 0
  pub behind : (j : ℕ) → transition_at n r 9 ≤ j → get_or out' j 0 ≡ get_or out j 0

module _ (out next : List ℕ) (n t r : ℕ) (p : TransitionRoom out next n t r) where
  pub descriptor_room : PartRoom out next (table_base n t) (6 + n * 11 + r * 9 + 1) (n * 2 + t) (n * 2 + t + r) (n * 2 + t + r + 1) 1
  descriptor_room =
      let b = p.below in
      part_room out next n t p.cells out refl (6 + n * 11 + r * 9 + 1) (n * 2 + t) (n * 2 + t + r) (n * 2 + t + r + 1) 1
      (omega arith) (omega arith) (omega arith) (omega arith) (omega arith)

  module _ (o1 : List ℕ) (a : PartLaid out o1 next (table_base n t) (6 + n * 11 + r * 9 + 1) (n * 2 + t) (n * 2 + t + r) (n * 2 + t + r + 1) 1) where
    pub target_room : PartRoom o1 next (table_base n t) (6 + n * 11 + r * 9 + 5) 0 (n * 2 + r) (n * 2 + r + 1) 1
    target_room =
        let b = p.below in
        part_room out next n t p.cells o1 a.size (6 + n * 11 + r * 9 + 5) 0 (n * 2 + r) (n * 2 + r + 1) 1 (omega arith) (omega arith) (omega arith) (omega arith) (omega arith)

    module _ (o2 : List ℕ) (b : PartLaid o1 o2 next (table_base n t) (6 + n * 11 + r * 9 + 5) 0 (n * 2 + r) (n * 2 + r + 1) 1) where
      pub block_room : PartRoom o2 next (table_base n t) (6 + n * 11 + r * 9 + 7) (blocks n t) (blocks n t + n * 3 + r) (blocks n t + n * 3 + r + 1) 4
      block_room =
          let l = p.below in
          part_room out next n t p.cells o2 (b.size ∙ a.size) (6 + n * 11 + r * 9 + 7) (blocks n t) (blocks n t + n * 3 + r) (blocks n t + n * 3 + r + 1) 4
          (omega arith) (omega arith) (omega arith) (omega arith) (omega arith)

      pub transition_laid : (o3 : List ℕ) → PartLaid o2 o3 next (table_base n t) (6 + n * 11 + r * 9 + 7) (blocks n t) (blocks n t + n * 3 + r) (blocks n t + n * 3 + r + 1) 4 →
          TransitionLaid out o3 next n t r
      transition_laid o3 d =
          record {
            size = d.size ∙ b.size ∙ a.size;
            is =
                record {
                  descriptor = later 1 (omega arith) ∙ a.start;
                  descriptors = later 2 (omega arith) ∙ at_next 1 o1 ∙ a.count;
                  target = latest 5 (omega arith) ∙ b.start;
                  targets = latest 6 (omega arith) ∙ at_next 5 o2 ∙ b.count;
                  block = d.start;
                  many = at_next 7 o3 ∙ d.count;
                };
            own = record { source = before (transition_at n r 0) (omega arith); condition = middle 3 (omega arith) (omega arith); type = middle 4 (omega arith) (omega arith) };
            before = before;
            behind = λ j l. d.others j (λ q. omega arith) (λ q. omega arith) ∙ b.others j (λ q. omega arith) (λ q. omega arith) ∙ a.others j (λ q. omega arith) (λ q. omega arith);
          }
        where
          at_next : (k : ℕ) (o : List ℕ) → get_or o (transition_at n r (k + 1)) 0 ≡ get_or o (transition_at n r k + 1) 0
          at_next k o = let s : transition_at n r (k + 1) ≡ transition_at n r k + 1 = omega arith in ap (λ (j : ℕ). get_or o j 0) s

          before : (j : ℕ) → j < transition_at n r 1 → get_or o3 j 0 ≡ get_or out j 0
          before j l = d.others j (λ q. omega arith) (λ q. omega arith) ∙ b.others j (λ q. omega arith) (λ q. omega arith) ∙ a.others j (λ q. omega arith) (λ q. omega arith)

          latest : (k : ℕ) → k < 7 → get_or o3 (transition_at n r k) 0 ≡ get_or o2 (transition_at n r k) 0
          latest k l = d.others (transition_at n r k) (λ q. omega arith) (λ q. omega arith)

          later : (k : ℕ) → k < 5 → get_or o3 (transition_at n r k) 0 ≡ get_or o1 (transition_at n r k) 0
          later k l = latest k (omega arith) ∙ b.others (transition_at n r k) (λ q. omega arith) (λ q. omega arith)

          middle : (k : ℕ) → 2 < k → k < 5 → get_or o3 (transition_at n r k) 0 ≡ get_or out (transition_at n r k) 0
          middle k l m = later k m ∙ a.others (transition_at n r k) (λ q. omega arith) (λ q. omega arith)

-- the cells of another transition keep
pub transition_kept : (out out' next : List ℕ) (n t r : ℕ) → TransitionIn out next n t r → ((k : ℕ) → k < 9 → get_or out' (transition_at n r k) 0 ≡ get_or out (transition_at n r k) 0) →
    TransitionIn out' next n t r
transition_kept out out' next n t r i f =
    record {
      descriptor = f 1 (omega arith) ∙ i.descriptor;
      descriptors = f 2 (omega arith) ∙ i.descriptors;
      target = f 5 (omega arith) ∙ i.target;
      targets = f 6 (omega arith) ∙ i.targets;
      block = f 7 (omega arith) ∙ i.block;
      many = f 8 (omega arith) ∙ i.many;
    }

-- ---- all transitions

pub record TransitionsLaid (out out' next : List ℕ) (n t : ℕ) : Type 0 where
  pub size : length out' ≡ length out
  pub transitions : (r : ℕ) → r < t → TransitionIn out' next n t r
  pub own : (r : ℕ) → r < t → OwnKept out out' n r
  pub before : (j : ℕ) → j < 6 + n * 11 → get_or out' j 0 ≡ get_or out j 0
  pub behind : (j : ℕ) → table_base n t ≤ j → get_or out' j 0 ≡ get_or out j 0

pub record TransitionsLaying (out₀ next : List ℕ) (n t : ℕ) (out : List ℕ) (r : ℕ) : Type 0 where
  pub cells : CellsRoom out₀ next n t
  pub below : r ≤ t
  pub size : length out ≡ length out₀
  pub transitions : (q : ℕ) → q < r → TransitionIn out next n t q
  pub own : (q : ℕ) → q < t → OwnKept out₀ out n q
  pub before : (j : ℕ) → j < 6 + n * 11 → get_or out j 0 ≡ get_or out₀ j 0
  pub behind : (j : ℕ) → table_base n t ≤ j → get_or out j 0 ≡ get_or out₀ j 0

pub transitions_begin : (out next : List ℕ) (n t : ℕ) → CellsRoom out next n t → TransitionsLaying out next n t out 0
transitions_begin out next n t c =
    record {
      cells = c;
      below = omega arith;
      size = refl;
      transitions = λ j l. absurd (omega arith);
      own = λ j l. record { source = refl; condition = refl; type = refl };
      before = λ j l. refl;
      behind = λ j l. refl;
    }

pub own_after : (o o' o'' : List ℕ) (n q : ℕ) → OwnKept o' o'' n q → OwnKept o o' n q → OwnKept o o'' n q
own_after o o' o'' n q a b = record { source = a.source ∙ b.source; condition = a.condition ∙ b.condition; type = a.type ∙ b.type }

pub own_by : (o o' : List ℕ) (n q : ℕ) → ((k : ℕ) → k < 9 → get_or o' (transition_at n q k) 0 ≡ get_or o (transition_at n q k) 0) → OwnKept o o' n q
own_by o o' n q f = record { source = f 0 (omega arith); condition = f 3 (omega arith); type = f 4 (omega arith) }

module _ (out₀ next : List ℕ) (n t : ℕ) (out : List ℕ) (r : ℕ) (w : TransitionsLaying out₀ next n t out r) where
  pub transitions_room_lem : r < t → TransitionRoom out next n t r
  transitions_room_lem h = record { cells = moved out₀ out next n t w.size w.cells; below = h }

  module _ (out' : List ℕ) (h : r < t) (x : TransitionLaid out out' next n t r) where
    other : (q : ℕ) → (q ≡ r → ⊥) → (k : ℕ) → k < 9 → get_or out' (transition_at n q k) 0 ≡ get_or out (transition_at n q k) 0
    other q f k l = sides (eqb (q - r) 0) refl
      where
        sides : (z : Bool) → eqb (q - r) 0 ≡ z → get_or out' (transition_at n q k) 0 ≡ get_or out (transition_at n q k) 0
        sides true e = let u = eqb-true (q - r) 0 e in let s : q < r = omega arith in x.before (transition_at n q k) (omega arith)
        sides false e = let u = eqb-false (q - r) 0 e in let s : r < q = omega arith in x.behind (transition_at n q k) (omega arith)

    pub transitions_turn : TransitionsLaying out₀ next n t out' (r + 1)
    transitions_turn =
        record {
          cells = w.cells;
          below = omega arith;
          size = x.size ∙ w.size;
          transitions = λ j l. by j l (eqb j r) refl;
          own = λ j l. own_after out₀ out out' n j (near j (eqb j r) refl) (w.own j l);
          before = λ j l. x.before j (omega arith) ∙ w.before j l;
          behind = λ j l. x.behind j (omega arith) ∙ w.behind j l;
        }
      where
        by : (j : ℕ) → j < r + 1 → (z : Bool) → eqb j r ≡ z → TransitionIn out' next n t j
        by j l true q = subst (λ (y : ℕ). TransitionIn out' next n t y) (sym (eqb-true j r q)) x.is
        by j l false q = transition_kept out out' next n t j (w.transitions j (less (eqb-false j r q))) (other j (eqb-false j r q))
          where
            less : (j ≡ r → ⊥) → j < r
            less f = omega arith

        near : (j : ℕ) (z : Bool) → eqb j r ≡ z → OwnKept out out' n j
        near j true q = subst (λ (y : ℕ). OwnKept out out' n y) (sym (eqb-true j r q)) x.own
        near j false q = own_by out out' n j (other j (eqb-false j r q))

  pub transitions_end : t ≤ r → TransitionsLaid out₀ out next n t
  transitions_end h = record { size = w.size; transitions = λ j l. w.transitions j (omega arith); own = w.own; before = w.before; behind = w.behind }
