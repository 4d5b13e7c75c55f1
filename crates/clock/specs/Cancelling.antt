-- Cancelling, place by place, the last first.
use Rattle.std.specs.Prelude.{◌≡◌, refl, Bool, cond, List, [], ◌∷◌, ◌++◌, get_or, take, drop}
use Rattle.std.proofs.Common.{sym, ap₂, ◌∙◌, append_assoc, append-nil, zero-add, length-drop, drop-cons, take_all}
use Rattle.std.proofs.Math.Path.{ap}
use Rattle.std.proofs.Math.Bool.{true, false}
use Prim.Native.Nat.{ℕ, zero, suc, ◌+◌, ◌-◌, ◌≤◌, ◌<◌}
use native.Mathlib.Omega.{arith}
use Rattle.std.proofs.Math.ListN.{length}
use Rattle.std.proofs.Math.Seq.{take-suc, drop-length}
use Rattle.definition.specs.declared.Mode.TheVariants.{Running}
use Rattle.definition.specs.Rows.{same}
use Rattle.definition.specs.Names.{Name, before_zero}
use Rattle.definition.specs.Tables.{name_at, slot_at}
use Rattle.follower.specs.Clock.{Timer, without, without_at}
use Rattle.laws.specs.Maps.{map_at}
use Rattle.laws.specs.Parts.{part_end}
use Rattle.queue.specs.Queues.{SlotInside}
use Rattle.clock.specs.Records.{number_at, timer_at, clock_in, clock_bytes, ClockHolds}
use Rattle.clock.specs.Spelled.{no_timer, fits_few, holds_length}
use Rattle.clock.specs.Tabled.{length_removed}
use Rattle.clock.specs.Left.{leaving, Left, left_ticks, left_pending, left_holds, count_read}

-- the send at place i of the record in these bytes
pub timer_read : (bytes : List ℕ) (i : ℕ) → i < length (clock_in bytes).pending → get_or (clock_in bytes).pending i no_timer ≡ timer_at bytes i
unfolding clock_in
timer_read bytes i l = map_at (timer_at bytes) (number_at bytes 8) 0 i no_timer (omega (arith, count_read bytes)) ∙ ap (timer_at bytes) (zero-add i)

-- ---- lists without one place

take_removed : (i : ℕ) (ss : List Timer) → take i (without_at i ss) ≡ take i ss
unfolding without_at
take_removed zero ss = refl
take_removed (suc i) [] = refl
take_removed (suc i) (s ∷ ss) = ap {B = List Timer} (λ r. s ∷ r) (take_removed i ss)

drop_removed : (i : ℕ) (ss : List Timer) → drop i (without_at i ss) ≡ drop (suc i) ss
unfolding without_at
drop_removed zero [] = refl
drop_removed zero (s ∷ ss) = refl
drop_removed (suc i) [] = refl
drop_removed (suc i) (s ∷ ss) = drop_removed i ss

without_one : (d : Bool) (s : Timer) (x a b : List Timer) → x ≡ a ++ b → cond d x (s ∷ x) ≡ cond d a (s ∷ a) ++ b
without_one true s x a b e = e
without_one false s x a b e = ap {B = List Timer} (λ r. s ∷ r) e

without_append : (id : Name) (a b : List Timer) → without id (a ++ b) ≡ without id a ++ without id b
unfolding without
without_append id [] b = refl
without_append id (s ∷ a) b = without_one (same s.id id) s (without id (a ++ b)) (without id a) (without id b) (without_append id a b)

-- ---- the loop, the last place first: the first i places are still to be looked at, in the record that began as old

pub record Cancels (old now : List ℕ) (id : Name) (i : ℕ) : Type 0 where
  pub holds : ClockHolds Running now
  pub most : i ≤ length (clock_in now).pending
  pub ticks : (clock_in now).ticks ≡ (clock_in old).ticks
  pub left : without id (clock_in old).pending ≡ without id (take i (clock_in now).pending) ++ drop i (clock_in now).pending

pub cancel_begin : (old : List ℕ) (id : Name) (n : ℕ) → ClockHolds Running old → n ≡ length (clock_in old).pending → Cancels old old id n
cancel_begin old id n h e =
    let ss : List Timer = (clock_in old).pending in
    let t : take n ss ≡ ss = take_all n ss (omega arith) in
    let d : drop n ss ≡ [] = ap (λ (k : ℕ). drop k ss) e ∙ drop-length ss in
    record { holds = h; most = omega arith; ticks = refl; left = rw (t, d) (sym (append-nil (without id ss))) }

module _ (old now : List ℕ) (id : Name) (i j : ℕ) (g : Cancels old now id i) (s : i ≡ suc j) where
  abbrev ss : List Timer
  ss = (clock_in now).pending

  inside : j < length ss
  inside = let m = g.most in omega arith

  front : take i ss ≡ take j ss ++ timer_at now j ∷ []
  front = ap (λ (k : ℕ). take k ss) s ∙ take-suc ss j no_timer inside ∙ ap (λ (t : Timer). take j ss ++ t ∷ []) (timer_read now j inside)

  behind : drop j ss ≡ timer_at now j ∷ drop i ss
  behind = drop-cons ss j no_timer inside ∙ ap₂ {C = List Timer} (λ (t : Timer) (k : ℕ). t ∷ drop k ss) (timer_read now j inside) (sym s)

  so_far : (b : Bool) → same (timer_at now j).id id ≡ b → without id (clock_in old).pending ≡ without id (take j ss) ++ (cond b [] (timer_at now j ∷ []) ++ drop i ss)
  unfolding without
  so_far b e =
      g.left ∙ rw (front, without_append id (take j ss) (timer_at now j ∷ []), e) (append_assoc (without id (take j ss)) (cond b [] (timer_at now j ∷ [])) (drop i ss))

  pub cancel_yes : (b : Bool) → b ≡ same (name_at (drop 2320 now) j) id → b ≡ true → (new : List ℕ) → Left now new (without_at j ss) → Cancels old new id j
  unfolding timer_at
  cancel_yes b e t new h =
      let q : (clock_in new).pending ≡ without_at j ss = left_pending now new (without_at j ss) h in
      let n : length (clock_in new).pending ≡ length ss - 1 = ap length q ∙ length_removed j ss inside in
      let l = inside in
      let d : drop (suc j) ss ≡ drop i ss = ap (λ (k : ℕ). drop k ss) (sym s) in
      record {
        holds = left_holds now new (without_at j ss) h;
        most = omega arith;
        ticks = left_ticks now new (without_at j ss) h ∙ g.ticks;
        left = so_far true (sym e ∙ t) ∙ rw (q, take_removed j ss, drop_removed j ss, d);
      }

  pub cancel_no : (b : Bool) → b ≡ same (name_at (drop 2320 now) j) id → b ≡ false → Cancels old now id j
  unfolding timer_at
  cancel_no b e f = let l = inside in record { holds = g.holds; most = omega arith; ticks = g.ticks; left = so_far false (sym e ∙ f) ∙ rw behind }

pub cancel_end : (old now : List ℕ) (id : Name) (i : ℕ) → Cancels old now id i → i ≤ 0 → Left old now (without id (clock_in old).pending)
unfolding without
cancel_end old now id i g l =
    let z : i ≡ 0 = omega arith in
    let s : without id (clock_in old).pending ≡ (clock_in now).pending = g.left ∙ rw z in
    let t = g.ticks in
    let k : clock_in now ≡ leaving old (without id (clock_in old).pending) = λ j. record { ticks = t j; pending = sym s j } in
    record { spells = g.holds.spells ∙ ap clock_bytes k; fits = rw k at g.holds.fits }

-- ---- what the calls ask for

pub pending_room : (bytes : List ℕ) (i : ℕ) → ClockHolds Running bytes → i < length (clock_in bytes).pending → (length bytes ≡ 4368) × (i < 32)
pending_room bytes i h l = let f = fits_few Running (clock_in bytes) h.fits in (holds_length Running bytes h, omega arith)

pub slot_inside_behind : (bytes : List ℕ) (a i : ℕ) → length bytes ≡ 4368 → a + 2048 ≤ 4368 → i < 32 → SlotInside (take (length bytes - a) (drop a bytes)) i
slot_inside_behind bytes a i n l m = record { inside = rw (part_end a bytes) (omega (arith, length-drop a bytes)) }

pub name_said : (bytes : List ℕ) (a i : ℕ) (n id : Name) (b : Bool) → n ≡ name_at (take (length bytes - a) (drop a bytes)) i → b ≡ same n id → b ≡ same (name_at (drop a bytes) i) id
name_said bytes a i n id b e h = h ∙ rw e (ap (λ (x : List ℕ). same (name_at x i) id) (part_end a bytes))

pub name_part : (slots slot : List ℕ) (i : ℕ) (r : Name) → slot ≡ slot_at slots i → r ≡ before_zero slot → r ≡ name_at slots i
unfolding name_at
name_part slots slot i r s e = e ∙ ap before_zero s
