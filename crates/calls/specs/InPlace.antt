-- The loop over a list of calls, with the session in its three places and its clock record in a fourth.
use Rattle.std.specs.Prelude.{◌≡◌, refl, Bool, true, false, List, [], ℕ, ◌+◌, ◌*◌, ◌-◌, ◌/◌, ◌≤◌, ◌<◌, eqb, length, get_or}
use Rattle.std.proofs.Common.{sym, ap, ◌∙◌, arith, eqb-true}
use Rattle.laws.specs.Bools.{and4}
use Rattle.faithful.specs.Program.{Both, call, call_all}
use Rattle.lent.specs.declared.Checks.{Checks}
use Rattle.lent.specs.Places.{lengths_fit, places_fit, checks_of}
use Rattle.calls.specs.declared.cells.Cells.{Cells}
use Rattle.calls.specs.Calls.{is_kind, is_call, call_of, calls_of}
use Rattle.calls.specs.Performing.{both_in, last_of, cells_after, trace_after, Did, Performs, calls_in}
use Rattle.calls.specs.Follows.{performs}
use Rattle.calls.specs.Kept.{checks_after, call_checks}
use Rattle.calls.specs.Reading.{cells_at, fits_at, fits_read}
use Rattle.calls.specs.Turns.{lent, back, Left, left_begin, left_again, left_ends, left_stops}

-- what the first i calls left in the places, and what is known of session and record there
pub record LeftIn (numbers₀ internal₀ external₀ clock₀ chart names cells₀ text trace₀ numbers internal external clock cells trace : List ℕ) (k : Checks) (i used : ℕ) : Type 0 where
  pub left : Left (both_in numbers₀ internal₀ external₀ clock₀) chart names cells₀ text trace₀ (both_in numbers internal external clock) cells trace i used
  pub checks : k ≡ checks_of chart names (both_in numbers internal external clock).session (both_in numbers internal external clock).clock
  pub lengths : places_fit (length numbers) (length internal) (length external) (length clock) ≡ true

-- places of other lengths
pub none_performed : (fits : Bool) (first : Both) (chart names cells text trace : List ℕ) → fits ≡ false →
    Performs (calls_of (calls_in fits cells) text (length trace)) first chart names cells trace first 0 cells trace
unfolding calls_in calls_of call_all last_of cells_after trace_after
none_performed fits first chart names cells text trace e =
    rw e (performs [] first chart names cells trace first 0 cells trace refl (record { after = refl; told = refl; written = refl }))

pub all_performed : (fits : Bool) (first : Both) (chart names cells₀ text trace₀ : List ℕ) (last : Both) (count : ℕ) (cells trace : List ℕ) → fits ≡ true →
    Performs (calls_of cells₀ text (length trace₀)) first chart names cells₀ trace₀ last count cells trace →
    Performs (calls_of (calls_in fits cells₀) text (length trace₀)) first chart names cells₀ trace₀ last count cells trace
unfolding calls_in
all_performed fits first chart names cells₀ text trace₀ last count cells trace e h = rw e h

-- places that fit have one length
pub same_sizes : (a b c d a₁ b₁ c₁ d₁ : ℕ) → places_fit a b c d ≡ true → places_fit a₁ b₁ c₁ d₁ ≡ true → (a ≡ a₁) × (b ≡ b₁) × (c ≡ c₁) × (d ≡ d₁)
unfolding places_fit lengths_fit
same_sizes a b c d a₁ b₁ c₁ d₁ h g =
    let p = and4 (eqb a 1031) (eqb b 2048) (eqb c 2048) (eqb d 4368) h in
    let q = and4 (eqb a₁ 1031) (eqb b₁ 2048) (eqb c₁ 2048) (eqb d₁ 4368) g in (
      eqb-true _ _ p.0 ∙ sym (eqb-true _ _ q.0),
      eqb-true _ _ p.1 ∙ sym (eqb-true _ _ q.1),
      eqb-true _ _ p.2 ∙ sym (eqb-true _ _ q.2),
      eqb-true _ _ p.3 ∙ sym (eqb-true _ _ q.3),
    )

-- fewer calls are left
pub fewer_left : (n m i : ℕ) → m ≡ n → i < m / 7 → n / 7 - (i + 1) < n / 7 - i
fewer_left n m i e l = omega arith

same_fit : (a b c d a₁ b₁ c₁ d₁ : ℕ) → places_fit a b c d ≡ true → a₁ ≡ a → b₁ ≡ b → c₁ ≡ c → d₁ ≡ d → places_fit a₁ b₁ c₁ d₁ ≡ true
same_fit a b c d a₁ b₁ c₁ d₁ h p q r s = rw (p, q, r, s) h

module _ (numbers internal external clock chart names cells text trace : List ℕ) (k : Checks) where
  pub in_begin : k ≡ checks_of chart names (both_in numbers internal external clock).session (both_in numbers internal external clock).clock →
      places_fit (length numbers) (length internal) (length external) (length clock) ≡ true →
      LeftIn numbers internal external clock chart names cells text trace numbers internal external clock cells trace k 0 0
  in_begin e f = record { left = left_begin (both_in numbers internal external clock) chart names cells text trace; checks = e; lengths = f }

module _ (numbers₀ internal₀ external₀ clock₀ chart names cells₀ text trace₀ numbers internal external clock cells trace : List ℕ) (k : Checks) (i used : ℕ)
    (h : LeftIn numbers₀ internal₀ external₀ clock₀ chart names cells₀ text trace₀ numbers internal external clock cells trace k i used) where
  abbrev first : Both
  first = both_in numbers₀ internal₀ external₀ clock₀

  abbrev b : Both
  b = both_in numbers internal external clock

  abbrev end : ℕ
  end = used + get_or cells (i * 7 + 1) 0

  pub in_again : i < length cells / 7 → fits_at cells text (i * 7) (length trace - used) ≡ true → (numbers₁ internal₁ external₁ clock₁ told result after : List ℕ) →
      Did (call chart names b (call_of (get_or cells (i * 7) 0) (length (lent used (end - used) trace)) (get_or cells (i * 7 + 2) 0) (get_or cells (i * 7 + 3) 0) text)) (lent used (end - used) trace)
      (both_in numbers₁ internal₁ external₁ clock₁) told after →
      result ≡ told → length after ≡ length (lent used (end - used) trace) → (k₁ : Checks) → k₁ ≡ checks_after k (get_or cells (i * 7) 0) →
      length numbers₁ ≡ length numbers → length internal₁ ≡ length internal → length external₁ ≡ length external → length clock₁ ≡ length clock →
      LeftIn numbers₀ internal₀ external₀ clock₀ chart names cells₀ text trace₀ numbers₁ internal₁ external₁ clock₁ (back (i * 7 + 4) (i * 7 + 4 + 3 - (i * 7 + 4)) cells result) (back used (end - used) trace after) k₁
      (i + 1) end
  in_again test fits numbers₁ internal₁ external₁ clock₁ told result after d c z k₁ e ln li le lc = record {
    left = left_again first chart names cells₀ text trace₀ b cells trace i used h.left test fits (both_in numbers₁ internal₁ external₁ clock₁) result after (rw c d) z;
    checks = e ∙ call_checks chart names b k h.checks (get_or cells (i * 7) 0) _ (get_or cells (i * 7 + 2) 0) (get_or cells (i * 7 + 3) 0) text ∙
        ap (λ (x : Both). checks_of chart names x.session x.clock) (sym d.told.after);
    lengths = same_fit _ _ _ _ _ _ _ _ h.lengths ln li le lc;
  }

  -- the same as the code reads the cells of the call
  module _ (x : Cells) (q : x ≡ cells_at cells (i * 7)) where
    pub kind_read : is_kind (get_or cells (i * 7) 0) (get_or cells (i * 7 + 2) 0) (get_or cells (i * 7 + 3) 0) (length text) ≡ true → is_kind x.kind x.a x.b (length text) ≡ true
    kind_read = rw q (λ e. e)

    pub call_read : (t b : Bool) → t ≡ is_call x.kind x.room x.a x.b (length text) (length trace - used) → t ≡ b → fits_at cells text (i * 7) (length trace - used) ≡ b
    call_read t b e f = fits_read cells text (i * 7) x (length trace - used) t b q e f

    pub room_read : x.room ≡ get_or cells (i * 7 + 1) 0
    room_read = ap (λ (y : Cells). y.room) q

    pub in_read : i < length cells / 7 → fits_at cells text (i * 7) (length trace - used) ≡ true → (numbers₁ internal₁ external₁ clock₁ told result after : List ℕ) →
        Did (call chart names b (call_of x.kind (length (lent used (used + x.room - used) trace)) x.a x.b text)) (lent used (used + x.room - used) trace) (both_in numbers₁ internal₁ external₁ clock₁) told after →
        result ≡ told → length after ≡ length (lent used (used + x.room - used) trace) → (k₁ : Checks) → k₁ ≡ checks_after k x.kind →
        length numbers₁ ≡ length numbers → length internal₁ ≡ length internal → length external₁ ≡ length external → length clock₁ ≡ length clock →
        LeftIn numbers₀ internal₀ external₀ clock₀ chart names cells₀ text trace₀ numbers₁ internal₁ external₁ clock₁ (back (i * 7 + 4) (i * 7 + 4 + 3 - (i * 7 + 4)) cells result)
        (back used (used + x.room - used) trace after) k₁ (i + 1) (used + x.room)
    in_read = rw q in_again

  pub in_ends : length cells / 7 ≤ i → Performs (calls_of cells₀ text (length trace₀)) first chart names cells₀ trace₀ b i cells trace
  in_ends l = left_ends first chart names cells₀ text trace₀ b cells trace i used h.left l

  pub in_stops : i < length cells / 7 → fits_at cells text (i * 7) (length trace - used) ≡ false → Performs (calls_of cells₀ text (length trace₀)) first chart names cells₀ trace₀ b i cells trace
  in_stops l f = left_stops first chart names cells₀ text trace₀ b cells trace i used h.left l f
