-- The trace, the notes and the counts, after a list of effects was written from a place on.
use Rattle.std.specs.Prelude.{◌≡◌, refl, Bool, true, false, cond, List, [], ◌∷◌, ◌++◌, map, ℕ, suc, ◌+◌, ◌-◌, ◌*◌, ◌^◌, ◌≤◌, leb, ltb, length, get_or, take, drop, set}
use Rattle.std.proofs.Common.{ap, sym, ◌∙◌, arith, length-append, length-set}
use Rattle.std.proofs.lemmas.List.Edits.{sets, sets-eq}
use Rattle.std.proofs.Math.Seq.{length-sets}
use Rattle.definition.specs.Rows.{flat}
use Rattle.definition.specs.Chart.{Chart, Names}
use Rattle.definition.specs.Tables.{no_number}
use Rattle.laws.specs.Lists.{flat_app}
use Rattle.follower.specs.Blocks.{Effect, exited, taken, entered, acted, raised, done, chosen, sent, cancelled, trace_no, queued}
use Rattle.paths.specs.Timing.{times, all_times}
use Rattle.effects.specs.declared.Tally.{Tally}

-- ---- numbers put into a list from a place on, each only where the list reaches

unfoldable pub overwrite : List ℕ → ℕ → List ℕ → List ℕ
overwrite old at xs = sets old at xs

pub overwrite_none : (old : List ℕ) (at : ℕ) → overwrite old at [] ≡ old
unfolding overwrite
overwrite_none old at = refl

pub overwrite_length : (old : List ℕ) (at : ℕ) (xs : List ℕ) → length (overwrite old at xs) ≡ length old
unfolding overwrite
overwrite_length old at xs = length-sets old at xs

pub overwrite_append : (old : List ℕ) (at : ℕ) (xs ys : List ℕ) → overwrite old at (xs ++ ys) ≡ overwrite (overwrite old at xs) (at + length xs) ys
unfolding overwrite
overwrite_append old at [] ys = let e : at ≡ at + 0 = omega arith in ap (λ (k : ℕ). sets old k ys) e
overwrite_append old at (x ∷ xs) ys =
    let e : suc at + length xs ≡ at + suc (length xs) = omega arith in
    overwrite_append (set old at x) (suc at) xs ys ∙ ap (λ (k : ℕ). sets (sets (set old at x) (suc at) xs) k ys) e

-- where all of them fit
pub overwrite_inside : (old : List ℕ) (at : ℕ) (xs : List ℕ) → at + length xs ≤ length old → overwrite old at xs ≡ take at old ++ xs ++ drop (at + length xs) old
unfolding overwrite
overwrite_inside old at xs h = sets-eq xs old at h

-- where there is no room, nothing changes
pub overwrite_empty : (at : ℕ) (xs : List ℕ) → overwrite [] at xs ≡ []
unfolding overwrite
overwrite_empty at [] = refl
overwrite_empty at (x ∷ xs) = overwrite_empty (suc at) xs

-- one number
pub overwrite_one : (old : List ℕ) (at x : ℕ) → overwrite old at (x ∷ []) ≡ set old at x
unfolding overwrite
overwrite_one old at x = refl

-- ---- the names that a list of effects puts into the internal queue: how many

unfoldable pub queues : Effect → ℕ
queues (exited i) = 0
queues (taken t) = 0
queues (entered i) = 0
queues (acted n) = 0
queues (raised n) = 1
queues (done i) = 1
queues (chosen i) = 0
queues (sent n delay id) = 0
queues (cancelled n) = 0

unfoldable pub all_queues : List Effect → ℕ
all_queues [] = 0
all_queues (e ∷ es) = queues e + all_queues es

pub queues_append : (es fs : List Effect) → all_queues (es ++ fs) ≡ all_queues es + all_queues fs
unfolding all_queues
queues_append [] fs = omega arith
queues_append (e ∷ es) fs = let h = queues_append es fs in omega arith

queued_length : (c : Chart) (names : Names) (e : Effect) → length (queued c names e) ≡ queues e
unfolding queued queues
queued_length c names (exited i) = refl
queued_length c names (taken t) = refl
queued_length c names (entered i) = refl
queued_length c names (acted n) = refl
queued_length c names (raised n) = refl
queued_length c names (done i) = refl
queued_length c names (chosen i) = refl
queued_length c names (sent n delay id) = refl
queued_length c names (cancelled n) = refl

-- whatever the names are
pub queues_all : (c : Chart) (names : Names) (es : List Effect) → length (flat (queued c names) es) ≡ all_queues es
unfolding all_queues flat
queues_all c names [] = refl
queues_all c names (e ∷ es) =
    let h = queues_all c names es in
    let k = queued_length c names e in
    let l = length-append (queued c names e) (flat (queued c names) es) in
    omega arith

-- an effect queues one name at most
queues_one : (e : Effect) → queues e ≤ 1
unfolding queues
queues_one (exited i) = omega arith
queues_one (taken t) = omega arith
queues_one (entered i) = omega arith
queues_one (acted n) = omega arith
queues_one (raised n) = omega arith
queues_one (done i) = omega arith
queues_one (chosen i) = omega arith
queues_one (sent n delay id) = omega arith
queues_one (cancelled n) = omega arith

pub queues_few : (es : List Effect) → all_queues es ≤ length es
unfolding all_queues
queues_few [] = omega arith
queues_few (e ∷ es) = let h = queues_few es in let k = queues_one e in omega arith

-- ---- the numbers of the effects that queue a name: what joins, in order

unfoldable pub joining : Effect → List ℕ
joining (exited i) = []
joining (taken t) = []
joining (entered i) = []
joining (acted n) = []
joining (raised n) = trace_no (raised n) ∷ []
joining (done i) = trace_no (done i) ∷ []
joining (chosen i) = []
joining (sent n delay id) = []
joining (cancelled n) = []

unfoldable pub joins_of : List Effect → List ℕ
joins_of es = flat joining es

pub joins_append : (es fs : List Effect) → joins_of (es ++ fs) ≡ joins_of es ++ joins_of fs
unfolding joins_of
joins_append es fs = flat_app joining es fs

pub joins_nil : joins_of [] ≡ []
unfolding joins_of flat
joins_nil = refl

joining_length : (e : Effect) → length (joining e) ≡ queues e
unfolding joining queues
joining_length (exited i) = refl
joining_length (taken t) = refl
joining_length (entered i) = refl
joining_length (acted n) = refl
joining_length (raised n) = refl
joining_length (done i) = refl
joining_length (chosen i) = refl
joining_length (sent n delay id) = refl
joining_length (cancelled n) = refl

pub joins_length : (es : List Effect) → length (joins_of es) ≡ all_queues es
unfolding joins_of all_queues flat
joins_length [] = refl
joins_length (e ∷ es) = let h : length (flat joining es) ≡ all_queues es = joins_length es in let k = joining_length e in let l = length-append (joining e) (flat joining es) in omega arith

-- ---- the sends and cancels of a list of effects: how many

pub times_append : (es fs : List Effect) → all_times (es ++ fs) ≡ all_times es + all_times fs
unfolding all_times
times_append [] fs = omega arith
times_append (e ∷ es) fs = let h = times_append es fs in omega arith

times_one : (e : Effect) → times e ≤ 1
unfolding times
times_one (exited i) = omega arith
times_one (taken t) = omega arith
times_one (entered i) = omega arith
times_one (acted n) = omega arith
times_one (raised n) = omega arith
times_one (done i) = omega arith
times_one (chosen i) = omega arith
times_one (sent n delay id) = omega arith
times_one (cancelled n) = omega arith

pub times_few : (es : List Effect) → all_times es ≤ length es
unfolding all_times
times_few [] = omega arith
times_few (e ∷ es) = let h = times_few es in let k = times_one e in omega arith

-- ---- the counts behind an effect, and behind a list of them

unfoldable pub tallied : Tally → Effect → Tally
tallied t e = record { entries = t.entries + 1; names = t.names + queues e; timers = t.timers + times e }

unfoldable pub tallies : Tally → List Effect → Tally
tallies t [] = t
tallies t (e ∷ es) = tallies (tallied t e) es

pub tallies_entries : (t : Tally) (es : List Effect) → (tallies t es).entries ≡ t.entries + length es
unfolding tallies tallied
tallies_entries t [] = omega arith
tallies_entries t (e ∷ es) = let h = tallies_entries (tallied t e) es in omega arith

pub tallies_names : (t : Tally) (es : List Effect) → (tallies t es).names ≡ t.names + all_queues es
unfolding tallies tallied all_queues
tallies_names t [] = omega arith
tallies_names t (e ∷ es) = let h = tallies_names (tallied t e) es in omega arith

pub tallies_timers : (t : Tally) (es : List Effect) → (tallies t es).timers ≡ t.timers + all_times es
unfolding tallies tallied all_times
tallies_timers t [] = omega arith
tallies_timers t (e ∷ es) = let h = tallies_timers (tallied t e) es in omega arith

pub same_tally : (r s : Tally) → r.entries ≡ s.entries → r.names ≡ s.names → r.timers ≡ s.timers → r ≡ s
same_tally r s a b c = ap (λ (k : ℕ). record { entries = k; names = r.names; timers = r.timers }) a ∙ ap (λ (k : ℕ). record { entries = s.entries; names = k; timers = r.timers }) b ∙ ap (λ (k : ℕ). record { entries = s.entries; names = s.names; timers = k }) c

-- ---- what a round notes in one place: in its first 32 cells what joins, in the next how many sends and cancels are passed over, and behind it two
-- numbers for each send or cancel from there on; each only where the place reaches

-- what joins as number k; more than 32 are refused
unfoldable pub join_at : List ℕ → ℕ → ℕ → List ℕ
join_at place k x = cond (ltb k 32) (set place k x) place

-- how many sends and cancels are passed over
abbrev pub skip_in : List ℕ → ℕ
skip_in place = get_or place 32 0

-- the two numbers of send or cancel number k
unfoldable pub timer_at : List ℕ → ℕ → ℕ → ℕ → List ℕ
timer_at place k a b = cond (leb (skip_in place) k) (set (set place (33 + (k - skip_in place) * 2) a) (34 + (k - skip_in place) * 2) b) place

-- (R-9)
unfoldable pub note : List ℕ → Tally → Effect → List ℕ
note place t (exited i) = place
note place t (taken u) = place
note place t (entered i) = place
note place t (acted n) = place
note place t (raised n) = join_at place t.names (trace_no (raised n))
note place t (done i) = join_at place t.names (trace_no (done i))
note place t (chosen i) = place
note place t (sent n delay id) = timer_at place t.timers (n * 65536 + id) delay
note place t (cancelled n) = timer_at place t.timers (no_number * 65536 + n) 0

-- one after the other
unfoldable pub notes : List ℕ → Tally → List Effect → List ℕ
notes place t [] = place
notes place t (e ∷ es) = notes (note place t e) (tallied t e) es

pub notes_none : (place : List ℕ) (t : Tally) → notes place t [] ≡ place
unfolding notes
notes_none place t = refl

pub notes_one : (place : List ℕ) (t : Tally) (e : Effect) → notes place t (e ∷ []) ≡ note place t e
unfolding notes
notes_one place t e = refl

pub notes_append : (place : List ℕ) (t : Tally) (es fs : List Effect) → notes place t (es ++ fs) ≡ notes (notes place t es) (tallies t es) fs
unfolding notes tallies
notes_append place t [] fs = refl
notes_append place t (e ∷ es) fs = notes_append (note place t e) (tallied t e) es fs

pub join_at_length : (place : List ℕ) (k x : ℕ) → length (join_at place k x) ≡ length place
unfolding join_at
join_at_length place k x = go (ltb k 32)
  where
    go : (b : Bool) → length (cond b (set place k x) place) ≡ length place
    go true = length-set place k x
    go false = refl

pub timer_at_length : (place : List ℕ) (k a b : ℕ) → length (timer_at place k a b) ≡ length place
unfolding timer_at
timer_at_length place k a b = go (leb (skip_in place) k) (33 + (k - skip_in place) * 2) (34 + (k - skip_in place) * 2)
  where
    go : (h : Bool) (i j : ℕ) → length (cond h (set (set place i a) j b) place) ≡ length place
    go true i j = length-set (set place i a) j b ∙ length-set place i a
    go false i j = refl

note_length : (place : List ℕ) (t : Tally) (e : Effect) → length (note place t e) ≡ length place
unfolding note
note_length place t (exited i) = refl
note_length place t (taken u) = refl
note_length place t (entered i) = refl
note_length place t (acted n) = refl
note_length place t (raised n) = join_at_length place t.names (trace_no (raised n))
note_length place t (done i) = join_at_length place t.names (trace_no (done i))
note_length place t (chosen i) = refl
note_length place t (sent n delay id) = timer_at_length place t.timers (n * 65536 + id) delay
note_length place t (cancelled n) = timer_at_length place t.timers (no_number * 65536 + n) 0

pub notes_size : (place : List ℕ) (t : Tally) (es : List Effect) → length (notes place t es) ≡ length place
unfolding notes
notes_size place t [] = refl
notes_size place t (e ∷ es) = notes_size (note place t e) (tallied t e) es ∙ note_length place t e

-- ---- the effects es, written into the places old from tally t on, give the places new and the tally r

-- what is written side by side; whatever else a round works out joins it here
pub record Places : Type 0 where
  pub trace : List ℕ
  pub joins : List ℕ

abbrev pub places : List ℕ → List ℕ → Places
places trace joins = record { trace = trace; joins = joins }

pub record Wrote (old new : Places) (t r : Tally) (es : List Effect) : Type 0 where
  pub trace : new.trace ≡ overwrite old.trace t.entries (map trace_no es)
  pub joins : new.joins ≡ notes old.joins t es
  pub entries : r.entries ≡ t.entries + length es
  pub names : r.names ≡ t.names + all_queues es
  pub timers : r.timers ≡ t.timers + all_times es

-- one effect that queues no name, sends and cancels nothing, written into a trace: whatever the notes are, they stay
pub record Shown (old new : List ℕ) (t r : Tally) (e : Effect) : Type 0 where
  pub wrote : (joins : List ℕ) → Wrote (places old joins) (places new joins) t r (e ∷ [])
  pub size : length new ≡ length old

-- the counts of es fit their words
pub record Room (t : Tally) (es : List Effect) : Type 0 where
  pub entries : t.entries + length es ≤ 2 ^ 62
  pub names : t.names + all_queues es ≤ 2 ^ 62
  pub timers : t.timers + all_times es ≤ 2 ^ 62

module _ (old new : Places) (t r : Tally) where
  pub wrote_length : (es : List Effect) → Wrote old new t r es → length new.trace ≡ length old.trace
  wrote_length es w = ap length w.trace ∙ overwrite_length old.trace t.entries (map trace_no es)

  pub wrote_joins : (es : List Effect) → Wrote old new t r es → length new.joins ≡ length old.joins
  wrote_joins es w = ap length w.joins ∙ notes_size old.joins t es

-- the counts behind what was written
pub wrote_tally : (old new : Places) (t r : Tally) (es : List Effect) → Wrote old new t r es → tallies t es ≡ r
wrote_tally old new t r es w =
    same_tally (tallies t es) r (tallies_entries t es ∙ sym w.entries) (tallies_names t es ∙ sym w.names) (tallies_timers t es ∙ sym w.timers)
