-- The trace after effects were written: into it from its beginning, or into the part behind the entries that are there.
use Rattle.std.specs.Prelude.{◌≡◌, refl, Bool, true, false, ℕ, ◌+◌, ◌-◌, ◌*◌, ◌≤◌, get_or, take}
use Rattle.std.proofs.Math.Path.{sym, ap}
use Rattle.std.proofs.Common.{subst, ◌∙◌, zero-add, length-append, length-drop, take_all, drop_at, drop-drop, length-take-le}
use mathlib.Core.List.{List, [], ◌++◌, map, map-append, append_assoc, append-nil}
use native.Mathlib.Omega.{arith}
use Rattle.std.proofs.Math.ListN.{length, drop, length-map}
use Rattle.std.proofs.Math.Seq.{take_at, drop-length}
use Rattle.follower.specs.Blocks.{Effect, trace_no}
use Rattle.effects.specs.declared.Tally.{Tally}
use Rattle.paths.specs.Timing.{timers_of, all_times}
use Rattle.effects.specs.Trace.{all_queues, joins_of, joins_length, overwrite, overwrite_length, overwrite_inside, overwrite_empty, Places, Wrote, wrote_joins}
use Rattle.effects.specs.Notes.{joins_noted, window_noted}
use Rattle.state.specs.State.{trace_with}
use Rattle.rounds.specs.Calls.{room_in, shown_of, shown_count}

-- nothing counted yet
abbrev pub nothing : Tally
nothing = record { entries = 0; names = 0; timers = 0 }

-- ---- written from the beginning on

pub trace_length : (old : List ℕ) (es : List Effect) → length es ≤ length old → length (trace_with old es) ≡ length old
unfolding trace_with
trace_length old es l = omega (arith, length-append (map trace_no es) (drop (length es) old), length-map es trace_no, length-drop (length es) old)

-- what writing from the beginning on does to the trace
pub record Filled (old new : List ℕ) (t : Tally) (es : List Effect) : Type 0 where
  pub trace : new ≡ overwrite old 0 (map trace_no es)
  pub entries : t.entries ≡ 0 + length es

module _ (old new : List ℕ) (t : Tally) (es : List Effect) (l : length es ≤ length old) (w : Filled old new t es) where
  pub wrote_entries : t.entries ≡ length es
  wrote_entries = w.entries ∙ zero-add (length es)

  pub wrote_trace : new ≡ trace_with old es
  unfolding trace_with
  wrote_trace =
      let n = length-map es trace_no in
      let z : 0 + length (map trace_no es) ≡ length es = omega arith in
      w.trace ∙ overwrite_inside old 0 (map trace_no es) (omega arith) ∙ ap (λ (k : ℕ). map trace_no es ++ drop k old) z

  pub wrote_fit : t.entries ≤ length new
  wrote_fit = let n = wrote_entries in let m = ap {B = ℕ} length wrote_trace ∙ trace_length old es l in omega arith

  -- the entries are found at its beginning
  pub wrote_front : take t.entries new ≡ map trace_no es
  unfolding trace_with
  wrote_front = ap (take t.entries) wrote_trace ∙ take_at (map trace_no es) (drop (length es) old) t.entries (length-map es trace_no ∙ sym wrote_entries)

  pub wrote_size : t.entries ≡ length (take t.entries new)
  wrote_size = wrote_entries ∙ sym (ap {B = ℕ} length wrote_front ∙ length-map es trace_no)

-- ---- written into the part that is to be shown: all of it, or nothing of it

pub shown_low : (quiet : Bool) (n end : ℕ) → end ≡ shown_count quiet n → end ≤ n
shown_low true n end e = omega arith
shown_low false n end e = omega arith

pub shown_count_lem : (quiet : Bool) (es : List Effect) → length (shown_of quiet es) ≡ shown_count quiet (length es)
shown_count_lem true es = refl
shown_count_lem false es = refl

pub part_shown : (quiet : Bool) (old part : List ℕ) (t : Tally) (es : List Effect) (end : ℕ) → end ≡ shown_count quiet (length old) → length es ≤ room_in quiet (length old) → Filled (take end old) part t es →
    part ++ drop end old ≡ trace_with old (shown_of quiet es)
unfolding trace_with
part_shown true old part t es end e l w =
    let h : Filled [] part t es = subst (λ (k : ℕ). Filled (take k old) part t es) e w in
    ap (λ (k : ℕ). part ++ drop k old) e ∙ ap (λ (xs : List ℕ). xs ++ old) (h.trace ∙ overwrite_empty 0 (map trace_no es))
part_shown false old part t es end e l w =
    let whole : take end old ≡ old = take_all end old (omega arith) in
    ap (λ (k : ℕ). part ++ drop k old) e ∙ ap (λ (xs : List ℕ). part ++ xs) (drop-length old) ∙ append-nil part ∙ wrote_trace old part t es l (subst (λ (xs : List ℕ). Filled xs part t es) whole w)

-- ---- a draft: these effects were written into a place of its own, as far as it goes

pub record Drafted (draft : List ℕ) (t : Tally) (es : List Effect) : Type 0 where
  pub before : List ℕ
  pub wrote : Filled before draft t es

-- ---- the place of notes

-- nothing is passed over
pub record Unskipped (notes : List ℕ) : Type 0 where
  pub size : length notes ≡ 49
  pub none : get_or notes 32 0 ≡ 0

-- what joins, unless it is more than 32 names, and the first sends and cancels
pub record Noted (notes : List ℕ) (t : Tally) (es : List Effect) : Type 0 where
  pub size : length notes ≡ 49
  pub names : t.names ≡ all_queues es
  pub timers : t.timers ≡ all_times es
  pub joins : all_queues es ≤ 32 → take (all_queues es) notes ≡ joins_of es
  pub window : (w : ℕ) → w ≤ all_times es → w ≤ 8 → take (w * 2) (drop 33 notes) ≡ take (w * 2) (timers_of es)

module _ (notes : List ℕ) (t : Tally) (es : List Effect) (h : Noted notes t es) (few : t.names ≤ 32) where
  -- where they are no more, all that join are there
  pub joined_all : take t.names notes ≡ joins_of es
  joined_all = let n = h.names in ap (λ (k : ℕ). take k notes) n ∙ h.joins (omega arith)

  pub joined_in : t.names ≤ length notes
  joined_in = let n = h.size in omega arith

  pub joined_size : t.names ≡ length (take t.names notes)
  joined_size = let a = ap {B = ℕ} length joined_all in let b = joins_length es in let d = h.names in omega arith

-- all that a pass has written
module _ (old new : Places) (t : Tally) (es : List Effect) (w : Wrote old new nothing t es) where
  pub wrote_filled : Filled old.trace new.trace t es
  wrote_filled = record { trace = w.trace; entries = w.entries }

  pub wrote_drafted : Drafted new.trace t es
  wrote_drafted = record { before = old.trace; wrote = wrote_filled }

  -- and noted
  pub wrote_noted : Unskipped old.joins → Noted new.joins t es
  wrote_noted u =
      let n = w.names in
      let m = w.timers in
      record {
        size = wrote_joins old new nothing t es w ∙ u.size;
        names = omega arith;
        timers = omega arith;
        joins = joins_noted old new t es w (let l = u.size in omega arith);
        window = λ k l q.
            let n = u.none in
            let m = u.size in
            let z : get_or old.joins 32 0 * 2 ≡ 0 = omega arith in
            window_noted old new t es w (omega arith) k (omega arith) (omega arith) ∙ ap (λ (d : ℕ). take (k * 2) (drop d (timers_of es))) z;
      }

-- written a second time, counted the first
pub filled_again : (old new : Places) (t r : Tally) (es : List Effect) → Wrote old new nothing r es → t.entries ≡ 0 + length es → Filled old.trace new.trace t es
filled_again old new t r es w e = record { trace = w.trace; entries = e }

-- a draft that is whole is copied
pub draft_copied : (draft old new : List ℕ) (t : Tally) (es : List Effect) → Drafted draft t es → t.entries ≤ length draft → t.entries ≤ length old →
    new ≡ take t.entries draft ++ drop t.entries old → Filled old new t es
draft_copied draft old new t es h l m e =
    let n = h.wrote.entries in
    let size : length h.before ≡ length draft = sym (ap length h.wrote.trace ∙ overwrite_length h.before 0 (map trace_no es)) in
    let fits : length es ≤ length h.before = omega arith in
    let front : take t.entries draft ≡ map trace_no es = wrote_front h.before draft t es fits h.wrote in
    let k = length-map es trace_no in
    let z : 0 + length (map trace_no es) ≡ t.entries = omega arith in
    record {
      entries = h.wrote.entries;
      trace = e ∙ ap (λ (xs : List ℕ). xs ++ drop t.entries old) front ∙ sym (overwrite_inside old 0 (map trace_no es) (omega arith) ∙ ap (λ (j : ℕ). map trace_no es ++ drop j old) z);
    }

-- es, then fs
pub trace_both : (old : List ℕ) (es fs : List Effect) → trace_with old (es ++ fs) ≡ map trace_no es ++ trace_with (drop (length es) old) fs
unfolding trace_with
trace_both old es fs =
    rw (map-append trace_no es fs, length-append es fs, drop-drop (length fs) (length es) old) (append_assoc (map trace_no es) (map trace_no fs) (drop (length es + length fs) old))

-- ---- written behind the entries that are there

module _ (trace : List ℕ) (count : ℕ) (l : count ≤ length trace) where
  -- the part that is lent is all that is behind them
  pub part_behind : take (length trace - count) (drop count trace) ≡ drop count trace
  part_behind = take_all (length trace - count) (drop count trace) (omega (arith, length-drop count trace))

  pub part_length : length (drop count trace) ≡ length trace - count
  part_length = length-drop count trace

  -- and it is put back
  pub part_back : (part : List ℕ) → take count trace ++ (part ++ drop (length trace - count) (drop count trace)) ≡ take count trace ++ part
  part_back part =
      let e : count + (length trace - count) ≡ length trace = omega arith in
      ap (λ (xs : List ℕ). take count trace ++ (part ++ xs)) (drop-drop (length trace - count) count trace ∙ ap (λ (k : ℕ). drop k trace) e ∙ drop-length trace) ∙
      ap (λ (xs : List ℕ). take count trace ++ xs) (append-nil part)

  pub back_length : (part : List ℕ) → length part ≡ length trace - count → length (take count trace ++ part) ≡ length trace
  back_length part e = omega (arith, length-append (take count trace) part, length-take-le count trace l)

  module _ (es : List Effect) where
    written_is : take count trace ++ trace_with (drop count trace) es ≡ (take count trace ++ map trace_no es) ++ drop (length es) (drop count trace)
    unfolding trace_with
    written_is = sym (append_assoc (take count trace) (map trace_no es) (drop (length es) (drop count trace)))

    front_length : length (take count trace ++ map trace_no es) ≡ count + length es
    front_length = omega (arith, length-append (take count trace) (map trace_no es), length-take-le count trace l, length-map es trace_no)

    -- one round more
    pub written_both : (fs : List Effect) →
        take count trace ++ trace_with (drop count trace) (es ++ fs) ≡
        take (count + length es) (take count trace ++ trace_with (drop count trace) es) ++ trace_with (drop (count + length es) (take count trace ++ trace_with (drop count trace) es)) fs
    written_both fs =
        let front = take count trace ++ map trace_no es in
        let rest = drop (length es) (drop count trace) in
        rw (written_is, take_at front rest (count + length es) front_length, drop_at front rest (count + length es) front_length, trace_both (drop count trace) es fs)
        (sym (append_assoc (take count trace) (map trace_no es) (trace_with rest fs)))
