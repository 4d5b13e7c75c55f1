-- Effects written piece by piece: what is still to be written, and that its counts fit.
use Rattle.std.specs.Prelude.{◌≡◌, refl, ℕ, ◌+◌, ◌^◌, ◌≤◌}
use Rattle.std.proofs.Math.Path.{ap, sym}
use Rattle.std.proofs.Common.{◌∙◌, arith, length-append}
use mathlib.Core.List.{List, [], ◌++◌, map, map-append, append-nil}
use Rattle.std.proofs.Math.ListN.{length}
use Rattle.std.proofs.lemmas.List.{length-map}
use Rattle.follower.specs.Blocks.{Effect, trace_no}
use Rattle.paths.specs.Timing.{all_times}
use Rattle.effects.specs.declared.Tally.{Tally}
use Rattle.effects.specs.Trace.{overwrite, overwrite_none, overwrite_length, overwrite_append, all_queues, queues_append, queues_few, times_append, times_few, tallies, notes, notes_none, notes_append, notes_size, Places, Wrote, Room, wrote_tally}

-- as Wrote, on the way: of es, left is still to be written
pub record Writing (old new : Places) (t r : Tally) (es left : List Effect) : Type 0 where
  pub trace : overwrite old.trace t.entries (map trace_no es) ≡ overwrite new.trace r.entries (map trace_no left)
  pub joins : notes old.joins t es ≡ notes new.joins r left
  pub entries : t.entries + length es ≡ r.entries + length left
  pub names : t.names + all_queues es ≡ r.names + all_queues left
  pub timers : t.timers + all_times es ≡ r.timers + all_times left

module _ (old new : Places) (t r : Tally) where
  pub writing_length : (es left : List Effect) → Writing old new t r es left → length new.trace ≡ length old.trace
  writing_length es left w =
      sym (overwrite_length new.trace r.entries (map trace_no left)) ∙ ap length (sym w.trace) ∙ overwrite_length old.trace t.entries (map trace_no es)

  pub writing_joins : (es left : List Effect) → Writing old new t r es left → length new.joins ≡ length old.joins
  writing_joins es left w = sym (notes_size new.joins r left) ∙ ap length (sym w.joins) ∙ notes_size old.joins t es

  -- written is what is left of nothing
  pub writing_end : (es left : List Effect) → left ≡ [] → Writing old new t r es left → Wrote old new t r es
  unfolding all_queues all_times
  writing_end es left e w =
      let n = w.entries in
      let q = w.names in
      let u = w.timers in
      let l = ap {B = ℕ} length e in
      let m = ap all_queues e in
      let v = ap all_times e in
      record {
        trace = sym (w.trace ∙ ap (λ (xs : List Effect). overwrite new.trace r.entries (map trace_no xs)) e ∙ overwrite_none new.trace r.entries);
        joins = sym (w.joins ∙ ap (notes new.joins r) e ∙ notes_none new.joins r);
        entries = omega arith;
        names = omega arith;
        timers = omega arith;
      }

  -- one more piece
  pub writing_turn : (es fs rest left : List Effect) (newer : Places) (s : Tally) → left ≡ fs ++ rest → Writing old new t r es left → Wrote new newer r s fs → Writing old newer t s es rest
  writing_turn es fs rest left newer s e w v =
      let n = w.entries in
      let q = w.names in
      let u = w.timers in
      let a = v.entries in
      let b = v.names in
      let d = v.timers in
      let l = ap {B = ℕ} length e ∙ length-append fs rest in
      let m = ap all_queues e ∙ queues_append fs rest in
      let k = ap all_times e ∙ times_append fs rest in
      record {
        trace =
            w.trace ∙ ap (λ (xs : List Effect). overwrite new.trace r.entries (map trace_no xs)) e ∙
            ap (overwrite new.trace r.entries) (map-append trace_no fs rest) ∙ overwrite_append new.trace r.entries (map trace_no fs) (map trace_no rest) ∙
            rw (length-map fs trace_no, ← v.entries, ← v.trace);
        joins =
            w.joins ∙ ap (notes new.joins r) e ∙ notes_append new.joins r fs rest ∙ ap (λ (xs : List ℕ). notes xs (tallies r fs) rest) (sym v.joins) ∙
            ap (λ (x : Tally). notes newer.joins x rest) (wrote_tally new newer r s fs v);
        entries = omega arith;
        names = omega arith;
        timers = omega arith;
      }

pub writing_begin : (old : Places) (t : Tally) (es left : List Effect) → es ≡ left → Writing old old t t es left
writing_begin old t es left e = record {
  trace = ap (λ (xs : List Effect). overwrite old.trace t.entries (map trace_no xs)) e;
  joins = ap (notes old.joins t) e;
  entries = ap (λ (xs : List Effect). t.entries + length xs) e;
  names = ap (λ (xs : List Effect). t.names + all_queues xs) e;
  timers = ap (λ (xs : List Effect). t.timers + all_times xs) e;
}

-- es, then fs
pub wrote_both : (old new newer : Places) (t r s : Tally) (es fs : List Effect) → Wrote old new t r es → Wrote new newer r s fs → Wrote old newer t s (es ++ fs)
wrote_both old new newer t r s es fs w v =
    writing_end old newer t s (es ++ fs) [] refl
    (writing_turn old new t r (es ++ fs) fs [] (fs ++ []) newer s refl
    (writing_turn old old t t (es ++ fs) es (fs ++ []) (es ++ fs) new r (ap {B = List Effect} (λ xs. es ++ xs) (sym (append-nil fs))) (writing_begin old t (es ++ fs) (es ++ fs) refl) w) v)

-- nothing written
pub wrote_none : (old : Places) (t : Tally) → Wrote old old t t []
wrote_none old t = writing_end old old t t [] [] refl (writing_begin old t [] [] refl)

-- the whole fits, so what is left does
pub room_left : (old new : Places) (t r : Tally) (es left : List Effect) → Room t es → Writing old new t r es left → Room r left
room_left old new t r es left m w =
    let n = w.entries in
    let q = w.names in
    let u = w.timers in
    let a = m.entries in
    let b = m.names in
    let d = m.timers in
    record { entries = omega arith; names = omega arith; timers = omega arith }

-- and so does its first piece
pub room_first : (t : Tally) (es fs : List Effect) → Room t (es ++ fs) → Room t es
room_first t es fs m =
    let a = m.entries in
    let b = m.names in
    let d = m.timers in
    let l = length-append es fs in
    let q = queues_append es fs in
    let u = times_append es fs in
    record { entries = omega arith; names = omega arith; timers = omega arith }

-- few effects have room
pub room_few : (t : Tally) (es : List Effect) → t.entries ≤ 2 ^ 61 → t.names ≤ 2 ^ 61 → t.timers ≤ 2 ^ 61 → length es ≤ 2 ^ 61 → Room t es
room_few t es a b c l = let q = queues_few es in let u = times_few es in record { entries = omega arith; names = omega arith; timers = omega arith }

-- what is left after the first piece fits
pub room_next : (old new : Places) (t r : Tally) (es fs : List Effect) → Room t (es ++ fs) → Wrote old new t r es → Room r fs
room_next old new t r es fs m w =
    let a = m.entries in
    let b = m.names in
    let d = m.timers in
    let n = w.entries in
    let q = w.names in
    let u = w.timers in
    let l = length-append es fs in
    let k = queues_append es fs in
    let x = times_append es fs in
    record { entries = omega arith; names = omega arith; timers = omega arith }
