-- The spots that tags stand in, as numbers; what stands inside a start tag and around it.
use Rattle.std.proofs.Math.Path.{◌≡◌, refl, ap}
use Rattle.std.proofs.Common.{sym, subst, ◌∙◌, arith, length-set, get_or-set_same, get_or-set_other, ne_eqb, le-leb, eqb-true}
use Rattle.std.specs.Prelude.{Bool, not, ◌&&◌, ◌||◌, cond, List, [], ◌∷◌, ℕ, zero, suc, ◌+◌, ◌*◌, ◌-◌, ◌≤◌, ◌<◌, eqb, length, get_or, set}
use Rattle.std.proofs.Math.Bool.{true, false}
use Rattle.std.proofs.lemmas.Bool.{lt-leb, not-true, not-false}
use Rattle.reading.specs.Tags.{Part}
use Rattle.reading.specs.Faults.{event_word, cond_word, states}
use Rattle.reading.specs.Content.{Spot, in_row, in_block, row_of, wants, settled, top, rest, Turn, is_default, turn}
use Rattle.turns.specs.declared.SpotCells.{SpotCells}
use Rattle.turns.specs.declared.TurnCells.{TurnCells}

abbrev pub spot_by : ℕ → ℕ → Spot
spot_by zero i = in_row i false
spot_by (suc zero) i = in_row i true
spot_by (suc (suc p)) i = in_block (record { part = p; owner = i })

abbrev pub spot_as : SpotCells → Spot
spot_as s = spot_by s.what s.number

pub row_of_lem : (w i : ℕ) → row_of (spot_by w i) ≡ i
row_of_lem zero i = refl
row_of_lem (suc zero) i = refl
row_of_lem (suc (suc p)) i = refl

pub wants_of : (w i : ℕ) → wants (spot_by w i) ≡ eqb w 1
wants_of zero i = refl
wants_of (suc zero) i = refl
wants_of (suc (suc p)) i = sym (ne_eqb (suc (suc p)) 1 (λ e. omega arith))

settled_of : (w i : ℕ) → settled (spot_by w i) ≡ spot_by (cond (eqb w 1) 0 w) i
settled_of zero i = refl
settled_of (suc zero) i = refl
settled_of (suc (suc p)) i = sym (ap (λ (z : Bool). spot_by (cond z 0 (suc (suc p))) i) (ne_eqb (suc (suc p)) 1 (λ e. omega arith)))

-- ---- the stack: two cells for each spot, the innermost last

unfoldable pub spots_in : List ℕ → ℕ → List Spot
spots_in cells zero = []
spots_in cells (suc d) = spot_by (get_or cells (d * 2) 0) (get_or cells (d * 2 + 1) 0) ∷ spots_in cells d

abbrev pub rest_depth : ℕ → ℕ
rest_depth d = d - 1

pub rest_spots : (cells : List ℕ) (d : ℕ) → rest (spots_in cells d) ≡ spots_in cells (rest_depth d)
unfolding spots_in
rest_spots cells zero = refl
rest_spots cells (suc d) = ap (spots_in cells) (one d)
  where
    one : (d : ℕ) → d ≡ suc d - 1
    one d = omega arith

pub record TopIs (cells : List ℕ) (d : ℕ) (s : SpotCells) : Type 0 where
  pub is : spot_as s ≡ top (spots_in cells d)
  pub what_fits : s.what < 65536
  pub number_fits : s.number < 65536

pub top_none : (cells : List ℕ) (d : ℕ) → d ≡ 0 → TopIs cells d (record { what = 0; number = 65535 })
unfolding spots_in
top_none cells d e = record { is = sym (ap (λ (n : ℕ). top (spots_in cells n)) e); what_fits = omega arith; number_fits = omega arith }

pub top_some : (cells : List ℕ) (d a b : ℕ) → (d ≡ 0 → ⊥) → a ≡ get_or cells ((d - 1) * 2) 0 → b ≡ get_or cells ((d - 1) * 2 + 1) 0 → a < 65536 → b < 65536 → TopIs cells d (record { what = a; number = b })
unfolding spots_in
top_some cells zero a b f p q x y = absurd (f refl)
top_some cells (suc d) a b f p q x y =
    let one : suc d - 1 ≡ d = omega arith in
    record {
      is = ap (λ (n : ℕ). spot_by n b) (p ∙ ap (λ (n : ℕ). get_or cells (n * 2) 0) one) ∙ ap (spot_by (get_or cells (d * 2) 0)) (q ∙ ap (λ (n : ℕ). get_or cells (n * 2 + 1) 0) one);
      what_fits = x;
      number_fits = y;
    }

pub record StoreRoom (cells : List ℕ) (at : ℕ) (s : SpotCells) : Type 0 where
  pub room : at * 2 + 1 < length cells
  pub few : at < 65536
  pub what_fits : s.what < 65536
  pub number_fits : s.number < 65536

abbrev pub stored : List ℕ → ℕ → SpotCells → List ℕ
stored cells at s = set (set cells (at * 2) s.what) (at * 2 + 1) s.number

pub store_so : (cells : List ℕ) (at : ℕ) (s : SpotCells) (a b : ℕ) → a ≡ s.what → b ≡ s.number → set (set cells (at * 2) a) (at * 2 + 1) b ≡ stored cells at s
store_so cells at s a b p q = rw (p, q) refl

-- what stands below stays
spots_alike : (cells cells' : List ℕ) (d : ℕ) → ((c : ℕ) → c < d * 2 → get_or cells' c 0 ≡ get_or cells c 0) → spots_in cells' d ≡ spots_in cells d
unfolding spots_in
spots_alike cells cells' zero h = refl
spots_alike cells cells' (suc d) h =
    rw (h (d * 2) (omega arith), h (d * 2 + 1) (omega arith), spots_alike cells cells' d (λ c l. h c (omega arith))) refl

pub stored_spots : (cells : List ℕ) (at : ℕ) (s : SpotCells) → at * 2 + 1 < length cells → spots_in (stored cells at s) (suc at) ≡ spot_as s ∷ spots_in cells at
unfolding spots_in
stored_spots cells at s room =
    let low : get_or (stored cells at s) (at * 2) 0 ≡ s.what =
    get_or-set_other (set cells (at * 2) s.what) (at * 2 + 1) (at * 2) s.number 0 (λ e. omega arith) ∙ get_or-set_same cells (at * 2) s.what 0 (omega arith) in
    let high : get_or (stored cells at s) (at * 2 + 1) 0 ≡ s.number =
    get_or-set_same (set cells (at * 2) s.what) (at * 2 + 1) s.number 0 (let l = length-set cells (at * 2) s.what in omega arith) in
    let below : spots_in (stored cells at s) at ≡ spots_in cells at =
    spots_alike cells (stored cells at s) at
    (λ c l. get_or-set_other (set cells (at * 2) s.what) (at * 2 + 1) c s.number 0 (λ e. omega arith) ∙ get_or-set_other cells (at * 2) c s.what 0 (λ e. omega arith)) in
    rw (low, high, below) refl

-- ---- one start tag

pub record TurnRoom (s : SpotCells) (n m : ℕ) : Type 0 where
  pub what_fits : s.what < 65536
  pub number_fits : s.number < 65536
  pub rows_fit : n ≤ 32768
  pub transitions_fit : m ≤ 32768

-- the numbers say what the definition says
pub record Same (r : TurnCells) (t : Turn) : Type 0 where
  pub inside_is : spot_as r.inside ≡ t.inside
  pub around_is : spot_as r.around ≡ t.around
  pub rows_are : r.rows ≡ t.rows
  pub transitions_are : r.transitions ≡ t.transitions

pub record Small (n m : ℕ) (r : TurnCells) : Type 0 where
  pub inside_what : r.inside.what < 65536
  pub inside_number : r.inside.number < 65536
  pub around_what : r.around.what < 65536
  pub around_number : r.around.number < 65536
  pub rows_fit : r.rows ≤ n + 1
  pub transitions_fit : r.transitions ≤ m + 1

abbrev pub is_plain : List Part → Bool
is_plain ps = not (states event_word ps) && not (states cond_word ps)

pub record TurnIs (s : SpotCells) (n m e : ℕ) (plain : Bool) (r : TurnCells) : Type 0 where
  pub small : Small n m r
  pub is : (ids : List (List ℕ)) (ps : List Part) → plain ≡ is_plain ps → Same r (turn ids (spot_as s) n m e ps)

pub record TransitionTurn (s : SpotCells) (n m : ℕ) (entering plain : Bool) (r : TurnCells) : Type 0 where
  pub small : Small n m r
  pub is : (ids : List (List ℕ)) (e : ℕ) (ps : List Part) → entering ≡ eqb e 11 → (eqb e 6 || eqb e 11) ≡ true → plain ≡ is_plain ps → Same r (turn ids (spot_as s) n m e ps)

abbrev pub block_part : ℕ → ℕ
block_part e = cond (eqb e 5) 1 (cond (eqb e 7) 3 (cond (eqb e 8) 4 0))

pub part_initial : (e : ℕ) → e ≡ 5 → 1 ≡ block_part e
part_initial e q = sym (ap block_part q)

pub part_entry : (e : ℕ) → e ≡ 7 → 3 ≡ block_part e
part_entry e q = sym (ap block_part q)

pub part_exit : (e : ℕ) → e ≡ 8 → 4 ≡ block_part e
part_exit e q = sym (ap block_part q)

pub part_none : (e : ℕ) → (e ≡ 5 → ⊥) → (e ≡ 7 → ⊥) → (e ≡ 8 → ⊥) → 0 ≡ block_part e
part_none e a b c = rw (ne_eqb e 5 a, ne_eqb e 7 b, ne_eqb e 8 c) refl

-- ---- transitions

moving : (P : ℕ → Type 0) → P 6 → P 11 → (e : ℕ) → (eqb e 6 || eqb e 11) ≡ true → P e
moving P a b e q = by (eqb e 6) refl q
  where
    by : (z : Bool) → eqb e 6 ≡ z → (z || eqb e 11) ≡ true → P e
    by true x y = subst P (sym (eqb-true e 6 x)) a
    by false x y = subst P (sym (eqb-true e 11 y)) b

module _ (ids : List (List ℕ)) (s : SpotCells) (n m : ℕ) where
  default_is : (e : ℕ) (ps : List Part) (entering plain : Bool) → entering ≡ eqb e 11 → plain ≡ is_plain ps → is_default (spot_as s) e ps ≡ (entering || (eqb s.what 1 && plain))
  default_is e ps entering plain p q =
      rw (p, q, wants_of s.what s.number) (ap (λ (z : Bool). eqb e 11 || z) (assoc (eqb s.what 1) (not (states event_word ps)) (not (states cond_word ps))))
    where
      assoc : (a b c : Bool) → (a && b && c) ≡ (a && (b && c))
      assoc true b c = refl
      assoc false b c = refl

  abbrev Plain : Turn → Type 0
  Plain t = (t.inside ≡ in_block (record { part = 4; owner = m })) × (t.around ≡ spot_as s) × (t.rows ≡ n) × (t.transitions ≡ suc m)

  abbrev Default : Turn → Type 0
  Default t = (t.inside ≡ in_block (record { part = 3; owner = row_of (spot_as s) })) × (t.around ≡ settled (spot_as s)) × (t.rows ≡ n) × (t.transitions ≡ m)

  own : (ps : List Part) (e : ℕ) → (eqb e 6 || eqb e 11) ≡ true → is_default (spot_as s) e ps ≡ false → Plain (turn ids (spot_as s) n m e ps)
  unfolding turn
  own ps e q = moving (λ (k : ℕ). is_default (spot_as s) k ps ≡ false → Plain (turn ids (spot_as s) n m k ps)) (λ d. rw d (refl, refl, refl, refl)) (λ d. absurd (let z : ◌≡◌ {A = ℕ} 0 1 = cc in omega arith)) e q

  first : (ps : List Part) (e : ℕ) → (eqb e 6 || eqb e 11) ≡ true → is_default (spot_as s) e ps ≡ true → Default (turn ids (spot_as s) n m e ps)
  unfolding turn
  first ps e q = moving (λ (k : ℕ). is_default (spot_as s) k ps ≡ true → Default (turn ids (spot_as s) n m k ps)) (λ d. rw d (refl, refl, refl, refl)) (λ d. (refl, refl, refl, refl)) e q

module _ (s : SpotCells) (n m : ℕ) (room : TurnRoom s n m) (entering plain : Bool) where
  pub transition_own : not (entering || (eqb s.what 1 && plain)) ≡ true →
      TransitionTurn s n m entering plain (record { inside = record { what = 6; number = m }; around = s; rows = n; transitions = m + 1 })
  transition_own q =
      let a = room.what_fits in let b = room.number_fits in let c = room.transitions_fit in
      record {
        small = record { inside_what = omega arith; inside_number = omega arith; around_what = a; around_number = b; rows_fit = omega arith; transitions_fit = omega arith };
        is = λ ids e ps i k p.
            let t = own ids s n m ps e k (default_is ids s n m e ps entering plain i p ∙ not-true (entering || (eqb s.what 1 && plain)) q) in
            record { inside_is = sym t.0; around_is = sym t.1; rows_are = sym t.2; transitions_are = let x = t.3 in omega arith };
      }

  pub transition_default : (settled' : ℕ) → not (entering || (eqb s.what 1 && plain)) ≡ false → settled' ≡ cond (eqb s.what 1) 0 s.what →
      TransitionTurn s n m entering plain (record { inside = record { what = 5; number = s.number }; around = record { what = settled'; number = s.number }; rows = n; transitions = m })
  transition_default w q e' =
      let a = room.what_fits in let b = room.number_fits in
      record {
        small = record { inside_what = omega arith; inside_number = b; around_what = rw e' (below (eqb s.what 1)); around_number = b; rows_fit = omega arith; transitions_fit = omega arith };
        is = λ ids e ps i k p.
            let t = first ids s n m ps e k (default_is ids s n m e ps entering plain i p ∙ not-false (entering || (eqb s.what 1 && plain)) q) in
            record {
              inside_is = ap (λ (j : ℕ). in_block (record { part = 3; owner = j })) (sym (row_of_lem s.what s.number)) ∙ sym t.0;
              around_is = ap (λ (j : ℕ). spot_by j s.number) e' ∙ sym (settled_of s.what s.number) ∙ sym t.1;
              rows_are = sym t.2;
              transitions_are = sym t.3;
            };
      }
    where
      below : (z : Bool) → cond z 0 s.what < 65536
      below true = omega arith
      below false = room.what_fits

-- ---- all start tags

row_kind : (z : Bool) (n : ℕ) → spot_by (cond z 1 0) n ≡ in_row n z
row_kind true n = refl
row_kind false n = refl

module _ (ids : List (List ℕ)) (s : SpotCells) (n m e : ℕ) (ps : List Part) where
  row_turn_lem : (w : ℕ) → e ≤ 4 → w ≡ cond (eqb e 4) 1 0 → Same (record { inside = record { what = w; number = n }; around = s; rows = n + 1; transitions = m }) (turn ids (spot_as s) n m e ps)
  unfolding turn
  row_turn_lem w h q =
      rw (le-leb e 4 h)
      (record { inside_is = ap (λ (j : ℕ). spot_by j n) q ∙ row_kind (eqb e 4) n; around_is = refl; rows_are = omega arith; transitions_are = refl })

  abbrev Around : ℕ → Type 0
  Around w = Same (record { inside = record { what = w; number = s.number }; around = s; rows = n; transitions = m }) (turn ids (spot_as s) n m e ps)

  initial_turn : e ≡ 5 → Around 1
  unfolding turn
  initial_turn q = rw q (record { inside_is = ap (λ (j : ℕ). in_row j true) (sym (row_of_lem s.what s.number)); around_is = refl; rows_are = refl; transitions_are = refl })

  entry_turn : e ≡ 7 → Around 3
  unfolding turn
  entry_turn q = rw q (record { inside_is = ap (λ (j : ℕ). in_block (record { part = 1; owner = j })) (sym (row_of_lem s.what s.number)); around_is = refl; rows_are = refl; transitions_are = refl })

  exit_turn : e ≡ 8 → Around 4
  unfolding turn
  exit_turn q = rw q (record { inside_is = ap (λ (j : ℕ). in_block (record { part = 2; owner = j })) (sym (row_of_lem s.what s.number)); around_is = refl; rows_are = refl; transitions_are = refl })

  action_turn : 4 < e → eqb e 5 ≡ false → eqb e 7 ≡ false → eqb e 8 ≡ false → (eqb e 6 || eqb e 11) ≡ false → Around s.what
  unfolding turn
  action_turn h a b c d = rw (lt-leb e 4 h, a, b, c, d) (record { inside_is = refl; around_is = refl; rows_are = refl; transitions_are = refl })

  other_turn : (w : ℕ) → 4 < e → (eqb e 6 || eqb e 11) ≡ false → w ≡ cond (eqb (block_part e) 0) s.what (block_part e) → Around w
  other_turn w h d q = subst Around (sym q) (by (eqb e 5) (eqb e 7) (eqb e 8) refl refl refl)
    where
      by : (x y z : Bool) → eqb e 5 ≡ x → eqb e 7 ≡ y → eqb e 8 ≡ z → Around (cond (eqb (block_part e) 0) s.what (block_part e))
      by true y z i j k = rw i (initial_turn (eqb-true e 5 i))
      by false true z i j k = rw (i, j) (entry_turn (eqb-true e 7 j))
      by false false true i j k = rw (i, j, k) (exit_turn (eqb-true e 8 k))
      by false false false i j k = rw (i, j, k) (action_turn h i j k d)

module _ (s : SpotCells) (n m e : ℕ) (room : TurnRoom s n m) (plain : Bool) where
  pub turn_row : (w : ℕ) → e ≤ 4 → w ≡ cond (eqb e 4) 1 0 → TurnIs s n m e plain (record { inside = record { what = w; number = n }; around = s; rows = n + 1; transitions = m })
  turn_row w h q =
      let a = room.what_fits in let b = room.number_fits in let c = room.rows_fit in
      record {
        small = record { inside_what = rw q (below (eqb e 4)); inside_number = omega arith; around_what = a; around_number = b; rows_fit = omega arith; transitions_fit = omega arith };
        is = λ ids ps p. row_turn_lem ids s n m e ps w h q;
      }
    where
      below : (z : Bool) → cond z 1 0 < 65536
      below true = omega arith
      below false = omega arith

  pub turn_moving : (entering : Bool) (r : TurnCells) → entering ≡ eqb e 11 → (eqb e 6 || entering) ≡ true → TransitionTurn s n m entering plain r → TurnIs s n m e plain r
  turn_moving entering r q h t = record { small = t.small; is = λ ids ps p. t.is ids e ps q (ap (λ (z : Bool). eqb e 6 || z) (sym q) ∙ h) p }

  pub turn_other : (entering : Bool) (part w : ℕ) → 4 < e → entering ≡ eqb e 11 → (eqb e 6 || entering) ≡ false → part ≡ block_part e → w ≡ cond (eqb part 0) s.what part →
      TurnIs s n m e plain (record { inside = record { what = w; number = s.number }; around = s; rows = n; transitions = m })
  turn_other entering part w h q d b g =
      let a = room.what_fits in let c = room.number_fits in
      let now : w ≡ cond (eqb (block_part e) 0) s.what (block_part e) = g ∙ ap (λ (j : ℕ). cond (eqb j 0) s.what j) b in
      record {
        small = record { inside_what = rw now (below (eqb (block_part e) 0) (eqb e 5) (eqb e 7) (eqb e 8)); inside_number = c; around_what = a; around_number = c; rows_fit = omega arith; transitions_fit = omega arith };
        is = λ ids ps p. other_turn ids s n m e ps w h (ap (λ (z : Bool). eqb e 6 || z) (sym q) ∙ d) now;
      }
    where
      below : (z a b c : Bool) → cond z s.what (cond a 1 (cond b 3 (cond c 4 0))) < 65536
      below true a b c = room.what_fits
      below false true b c = omega arith
      below false false true c = omega arith
      below false false false true = omega arith
      below false false false false = omega arith
