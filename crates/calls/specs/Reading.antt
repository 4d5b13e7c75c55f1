-- How the cells of a list of calls are read, and one call told.
use Rattle.std.specs.Prelude.{◌≡◌, Bool, true, false, ◌&&◌, List, [], ◌∷◌, ℕ, suc, ◌+◌, ◌-◌, ◌≤◌, ◌<◌, eqb, leb, length, get_or, take, drop}
use Rattle.std.proofs.Math.Path.{refl}
use Rattle.std.proofs.Common.{sym, ap, ◌∙◌, arith, drop-cons}
use borrow.Author.Tests.{leb-true, le-leb, lt-leb, ne_eqb}
use Rattle.definition.specs.declared.Answer.{Answer}
use Rattle.definition.specs.Answers.{answer_no, status_no}
use Rattle.follower.specs.Calls.{Call}
use Rattle.laws.specs.Bools.{and_left, and_right}
use Rattle.session.specs.declared.Session.{Session}
use Rattle.session.specs.declared.Clock.{Clock}
use Rattle.session.specs.Sessions.{start_of, start_effects, posted, post_of, run_of, run_effects, clocked_as, clock_of}
use Rattle.state.specs.State.{trace_with}
use Rattle.faithful.specs.Program.{Both, start_step, post_step, clock_step, run_step, call}
use Rattle.lent.specs.declared.StartedIn.{StartedIn}
use Rattle.lent.specs.declared.RanIn.{RanIn}
use Rattle.lent.specs.Places.{started_in, ran_in}
use Rattle.calls.specs.declared.cells.Cells.{Cells}
use Rattle.calls.specs.Calls.{most_rounds, is_kind, is_call, call_of, calls_of}
use Rattle.calls.specs.Performing.{Did}

-- ---- what is a call

module _ (kind a b size : ℕ) where
  pub kind_start : kind ≡ 0 → true ≡ is_kind kind a b size
  unfolding is_kind
  kind_start e = rw e

  pub kind_post : kind ≡ 1 → (leb a b && leb b size) ≡ is_kind kind a b size
  unfolding is_kind
  kind_post e = rw e

  pub kind_run : kind ≡ 2 → leb a most_rounds ≡ is_kind kind a b size
  unfolding is_kind
  kind_run e = rw e

  pub kind_clock : (kind ≡ 0 → ⊥) → (kind ≡ 1 → ⊥) → (kind ≡ 2 → ⊥) → eqb kind 3 ≡ is_kind kind a b size
  unfolding is_kind
  kind_clock n m l = rw (ne_eqb kind 0 n, ne_eqb kind 1 m, ne_eqb kind 2 l)

  -- a post's part is within the text
  pub post_part : is_kind kind a b size ≡ true → kind ≡ 1 → (a ≤ b) × (b ≤ size)
  post_part h e =
      let p : (leb a b && leb b size) ≡ true = kind_post e ∙ h in
      (leb-true a b (and_left (leb a b) (leb b size) p), leb-true b size (and_right (leb a b) (leb b size) p))

  pub run_rounds : is_kind kind a b size ≡ true → kind ≡ 2 → a ≤ most_rounds
  run_rounds h e = leb-true a most_rounds (kind_run e ∙ h)

module _ (kind room a b size left : ℕ) where
  pub call_no_window : left < room → false ≡ is_call kind room a b size left
  unfolding is_call
  call_no_window l = rw (lt-leb room left l)

  pub call_kind : room ≤ left → (k : Bool) → k ≡ is_kind kind a b size → k ≡ is_call kind room a b size left
  unfolding is_call
  call_kind l k e = rw (le-leb room left l) e

  pub call_fits : is_call kind room a b size left ≡ true → (room ≤ left) × (is_kind kind a b size ≡ true)
  unfolding is_call
  call_fits h = (leb-true room left (and_left (leb room left) (is_kind kind a b size) h), and_right (leb room left) (is_kind kind a b size) h)

-- ---- the calls from cell p on

abbrev pub cells_at : List ℕ → ℕ → Cells
cells_at cells p = record { kind = get_or cells p 0; room = get_or cells (p + 1) 0; a = get_or cells (p + 2) 0; b = get_or cells (p + 3) 0 }

-- one cell more
one : (cells : List ℕ) (p q : ℕ) → q ≡ suc p → p < length cells → drop p cells ≡ get_or cells p 0 ∷ drop q cells
one cells p q e l = rw e (drop-cons cells p 0 l)

module _ (cells text : List ℕ) (p : ℕ) where
  seven : p + 7 ≤ length cells →
      drop p cells ≡ get_or cells p 0 ∷ get_or cells (p + 1) 0 ∷ get_or cells (p + 2) 0 ∷ get_or cells (p + 3) 0 ∷ get_or cells (p + 4) 0 ∷ get_or cells (p + 5) 0 ∷ get_or cells (p + 6) 0 ∷ drop (p + 7) cells
  seven l =
      let e0 = one cells p (p + 1) (omega arith) (omega arith) in
      let e1 = one cells (p + 1) (p + 2) (omega arith) (omega arith) in
      let e2 = one cells (p + 2) (p + 3) (omega arith) (omega arith) in
      let e3 = one cells (p + 3) (p + 4) (omega arith) (omega arith) in
      let e4 = one cells (p + 4) (p + 5) (omega arith) (omega arith) in
      let e5 = one cells (p + 5) (p + 6) (omega arith) (omega arith) in
      let e6 = one cells (p + 6) (p + 7) (omega arith) (omega arith) in
      e0 ∙ ap (λ (r : List ℕ). get_or cells p 0 ∷ r)
      (e1 ∙ ap (λ (r : List ℕ). get_or cells (p + 1) 0 ∷ r)
      (e2 ∙ ap (λ (r : List ℕ). get_or cells (p + 2) 0 ∷ r)
      (e3 ∙ ap (λ (r : List ℕ). get_or cells (p + 3) 0 ∷ r)
      (e4 ∙ ap (λ (r : List ℕ). get_or cells (p + 4) 0 ∷ r)
      (e5 ∙ ap (λ (r : List ℕ). get_or cells (p + 5) 0 ∷ r) e6)))))

  abbrev pub fits_at : ℕ → Bool
  fits_at left = is_call (get_or cells p 0) (get_or cells (p + 1) 0) (get_or cells (p + 2) 0) (get_or cells (p + 3) 0) (length text) left

  -- as the code reads them
  pub fits_read : (x : Cells) (left : ℕ) (t b : Bool) → x ≡ cells_at cells p → t ≡ is_call x.kind x.room x.a x.b (length text) left → t ≡ b → fits_at left ≡ b
  fits_read x left t b e h q = sym (h ∙ ap (λ (y : Cells). is_call y.kind y.room y.a y.b (length text) left) e) ∙ q

  abbrev pub call_at : Call
  call_at = call_of (get_or cells p 0) (get_or cells (p + 1) 0) (get_or cells (p + 2) 0) (get_or cells (p + 3) 0) text

  module _ (left : ℕ) where
    pub calls_more : p + 7 ≤ length cells → fits_at left ≡ true → calls_of (drop p cells) text left ≡ call_at ∷ calls_of (drop (p + 7) cells) text (left - get_or cells (p + 1) 0)
    unfolding calls_of
    calls_more l h = rw (seven l, h)

    pub calls_none : p + 7 ≤ length cells → fits_at left ≡ false → calls_of (drop p cells) text left ≡ []
    unfolding calls_of
    calls_none l h = rw (seven l, h)

-- fewer than seven cells are no call
pub calls_short : (cells text : List ℕ) (left : ℕ) → length cells < 7 → calls_of cells text left ≡ []
unfolding calls_of
calls_short [] text left l = refl
calls_short (k ∷ []) text left l = refl
calls_short (k ∷ r ∷ []) text left l = refl
calls_short (k ∷ r ∷ a ∷ []) text left l = refl
calls_short (k ∷ r ∷ a ∷ b ∷ []) text left l = refl
calls_short (k ∷ r ∷ a ∷ b ∷ n ∷ []) text left l = refl
calls_short (k ∷ r ∷ a ∷ b ∷ n ∷ o ∷ []) text left l = refl
calls_short (k ∷ r ∷ a ∷ b ∷ n ∷ o ∷ m ∷ cells) text left l = absurd (omega arith)

-- ---- one call told

module _ (chart names : List ℕ) (s : Session) (y : Clock) (kind a b : ℕ) (text : List ℕ) where
  abbrev first : Both
  first = record { session = s; clock = y }

  pub started_did : (t : Session) (z : Clock) (r : StartedIn) (n : ℕ) (old after : List ℕ) → kind ≡ 0 →
      (started_in t z r ≡ start_of chart names (length old)) × (after ≡ trace_with old (start_effects chart names (length old))) → n ≡ answer_no r.answer →
      Did (call chart names first (call_of kind (length old) a b text)) old (record { session = t; clock = z }) (n ∷ 0 ∷ r.count ∷ []) after
  unfolding call call_of start_step
  started_did t z r n old after e d m =
      let q = d.0 in
      rw e (record {
        told = record { after = λ j. record { session = (q j).session; clock = (q j).clock }; result = rw m (λ j. answer_no (q j).answer ∷ 0 ∷ (q j).count ∷ []) };
        written = d.1;
      })

  pub posted_did : (t : Session) (r : Answer) (n : ℕ) (old : List ℕ) → kind ≡ 1 → posted t r ≡ post_of s chart names (take (b - a) (drop a text)) → n ≡ answer_no r →
      Did (call chart names first (call_of kind (length old) a b text)) old (record { session = t; clock = y }) (n ∷ 0 ∷ 0 ∷ []) old
  unfolding call call_of post_step
  posted_did t r n old e q m =
      rw e (record { told = record { after = λ j. record { session = (q j).session; clock = y }; result = rw m (λ j. answer_no (q j).answer ∷ 0 ∷ 0 ∷ []) }; written = refl })

  pub ran_did : (t : Session) (z : Clock) (r : RanIn) (n : ℕ) (old after : List ℕ) → kind ≡ 2 →
      (ran_in t z r ≡ run_of s y chart names a (length old)) × (after ≡ trace_with old (run_effects s y chart names a (length old))) → n ≡ status_no r.status →
      Did (call chart names first (call_of kind (length old) a b text)) old (record { session = t; clock = z }) (n ∷ r.rounds ∷ r.count ∷ []) after
  unfolding call call_of run_step
  ran_did t z r n old after e d m =
      let q = d.0 in
      rw e (record {
        told = record { after = λ j. record { session = (q j).session; clock = (q j).clock }; result = rw m (λ j. status_no (q j).status ∷ (q j).rounds ∷ (q j).count ∷ []) };
        written = d.1;
      })

  pub clocked_did : (t : Session) (z : Clock) (r : Answer) (n : ℕ) (old : List ℕ) → (kind ≡ 0 → ⊥) → (kind ≡ 1 → ⊥) → (kind ≡ 2 → ⊥) →
      clocked_as t z r ≡ clock_of s y chart names a → n ≡ answer_no r →
      Did (call chart names first (call_of kind (length old) a b text)) old (record { session = t; clock = z }) (n ∷ 0 ∷ 0 ∷ []) old
  unfolding call call_of clock_step
  clocked_did t z r n old e f g q m =
      rw (ne_eqb kind 0 e, ne_eqb kind 1 f, ne_eqb kind 2 g)
      (record { told = record { after = λ j. record { session = (q j).session; clock = (q j).clock }; result = rw m (λ j. answer_no (q j).answer ∷ 0 ∷ 0 ∷ []) }; written = refl })
