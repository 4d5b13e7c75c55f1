-- The loop over a list of calls: what is left of the definition, after what is done, is the whole.
use Rattle.std.specs.Prelude.{◌≡◌, refl, true, false, ℕ, ◌+◌, ◌*◌, ◌-◌, ◌/◌, ◌≤◌, ◌<◌}
use Rattle.std.proofs.Math.Path.{sym, ap}
use Rattle.std.proofs.Common.{◌∙◌, zero-add, arith, length-append, length-take, length-drop, take_at, drop_at, take-add, length-take-le}
use mathlib.Core.List.{List, [], ◌∷◌, ◌++◌, append_assoc}
use Rattle.std.proofs.Math.Nat.{sub-zero}
use Rattle.std.proofs.Math.ListN.{length, get_or, take, drop, take-append-drop}
use Rattle.std.proofs.Math.Seq.{drop-drop, get_or-drop}
use Rattle.faithful.specs.Program.{Both, Step, call, call_all}
use Rattle.calls.specs.Calls.{is_kind, call_of, calls_of}
use Rattle.calls.specs.Performing.{last_of, report, cells_after, trace_after, Did, Gives, Performs}
use Rattle.calls.specs.Follows.{calls_length, performs}
use Rattle.calls.specs.Reading.{fits_at, call_at, calls_more, calls_none, calls_short, call_fits}

-- a part of a lent place from a on, and the whole when it is back
abbrev pub lent : ℕ → ℕ → List ℕ → List ℕ
lent a n old = take n (drop a old)

abbrev pub back : ℕ → ℕ → List ℕ → List ℕ → List ℕ
back a n old new = take a old ++ (new ++ drop n (drop a old))

module _ (old new : List ℕ) (a n : ℕ) (fits : a + n ≤ length old) (size : length new ≡ n) where
  head_length : length (take a old ++ new) ≡ a + n
  head_length = length-append (take a old) new ∙ rw (length-take-le a old (omega arith), size)

  pub back_length : length (back a n old new) ≡ length old
  back_length = rw (length-append, length-append, length-take-le a old (omega arith), size, length-drop, length-drop) (omega arith)

  pub back_before : take (a + n) (back a n old new) ≡ take a old ++ new
  back_before = rw (← append_assoc (take a old) new (drop n (drop a old))) (take_at (take a old ++ new) (drop n (drop a old)) (a + n) head_length)

  pub back_behind : drop (a + n) (back a n old new) ≡ drop n (drop a old)
  back_behind = rw (← append_assoc (take a old) new (drop n (drop a old))) (drop_at (take a old ++ new) (drop n (drop a old)) (a + n) head_length)

-- ---- one call more

-- from the steps that are left, with the first i performed and so many trace entries in their windows; cells and trace are what those left
pub record Going (first : Both) (whole : List Step) (cells₀ trace₀ : List ℕ) (b : Both) (rest : List Step) (cells trace : List ℕ) (i used : ℕ) : Type 0 where
  pub after : last_of first whole ≡ last_of b rest
  pub performed : length whole ≡ i + length rest
  pub told : cells_after whole cells₀ ≡ take (i * 7) cells ++ cells_after rest (drop (i * 7) cells)
  pub written : trace_after cells₀ whole trace₀ ≡ take used trace ++ trace_after (drop (i * 7) cells) rest (drop used trace)

-- the results of call i in its last three cells
module _ (cells result : List ℕ) (i : ℕ) (fits : i * 7 + 7 ≤ length cells) (size : length result ≡ 3) where
  abbrev pub with_result : List ℕ
  with_result = back (i * 7 + 4) 3 cells result

  next : (i + 1) * 7 ≡ i * 7 + 4 + 3
  next = omega arith

  pub result_before : take ((i + 1) * 7) with_result ≡ take (i * 7) cells ++ (take 4 (drop (i * 7) cells) ++ result)
  result_before =
      ap (λ (n : ℕ). take n with_result) next ∙ back_before cells result (i * 7 + 4) 3 (omega arith) size ∙ ap (λ (r : List ℕ). r ++ result) (take-add (i * 7) 4 cells) ∙
      append_assoc (take (i * 7) cells) (take 4 (drop (i * 7) cells)) result

  pub result_behind : drop ((i + 1) * 7) with_result ≡ drop 7 (drop (i * 7) cells)
  result_behind =
      let e : i * 7 + 4 + 3 ≡ i * 7 + 7 = omega arith in
      ap (λ (n : ℕ). drop n with_result) next ∙ back_behind cells result (i * 7 + 4) 3 (omega arith) size ∙ drop-drop 3 (i * 7 + 4) cells ∙ ap (λ (n : ℕ). drop n cells) e ∙
      sym (drop-drop 7 (i * 7) cells)

  pub result_length : length with_result ≡ length cells
  result_length = back_length cells result (i * 7 + 4) 3 (omega arith) size

module _ (first : Both) (whole : List Step) (cells₀ trace₀ : List ℕ) (b : Both) (x : Step) (rest : List Step) (cells trace : List ℕ) (i used room : ℕ)
    (g : Going first whole cells₀ trace₀ b (x ∷ rest) cells trace i used) (window : room ≡ get_or cells (i * 7 + 1) 0)
    (t : Both) (result after : List ℕ) (d : Did x (lent used room trace) t result after)
    (cells_fit : i * 7 + 7 ≤ length cells) (window_fits : used + room ≤ length trace) (size : length after ≡ room) where
  pub result_size : length result ≡ 3
  result_size = ap length d.told.result

  cells_turn : take (i * 7) cells ++ cells_after (x ∷ rest) (drop (i * 7) cells) ≡
      take ((i + 1) * 7) (with_result cells result i cells_fit result_size) ++ cells_after rest (drop ((i + 1) * 7) (with_result cells result i cells_fit result_size))
  unfolding cells_after
  cells_turn =
      let p = take (i * 7) cells in
      let q = take 4 (drop (i * 7) cells) in
      rw (result_before cells result i cells_fit result_size, result_behind cells result i cells_fit result_size, d.told.result)
      (sym (append_assoc p (q ++ report x) (cells_after rest (drop 7 (drop (i * 7) cells))) ∙
      ap (λ (r : List ℕ). p ++ r) (append_assoc q (report x) (cells_after rest (drop 7 (drop (i * 7) cells))))))

  trace_turn : take used trace ++ trace_after (drop (i * 7) cells) (x ∷ rest) (drop used trace) ≡
      take (used + room) (back used room trace after) ++ trace_after (drop ((i + 1) * 7) (with_result cells result i cells_fit result_size)) rest (drop (used + room) (back used room trace after))
  unfolding trace_after
  trace_turn =
      rw (result_behind cells result i cells_fit result_size, get_or-drop (i * 7) cells 1 0, ← window, back_before trace after used room window_fits size, back_behind trace after used room window_fits size, d.written)
      (sym (append_assoc (take used trace) (x.left (lent used room trace)) (trace_after (drop 7 (drop (i * 7) cells)) rest (drop room (drop used trace)))))

  pub going_turn : Going first whole cells₀ trace₀ t rest (with_result cells result i cells_fit result_size) (back used room trace after) (i + 1) (used + room)
  unfolding last_of
  going_turn = record {
    after = g.after ∙ rw d.told.after;
    performed = omega (arith, g.performed);
    told = g.told ∙ cells_turn;
    written = g.written ∙ trace_turn;
  }

-- ---- the loop

-- b, cells and trace are what the first i calls gave; the steps that are left are those of the cells and the trace behind them
pub record Left (first : Both) (chart names cells₀ text trace₀ : List ℕ) (b : Both) (cells trace : List ℕ) (i used : ℕ) : Type 0 where
  pub cells_in : i * 7 ≤ length cells
  pub windows_in : used ≤ length trace
  pub cells_size : length cells ≡ length cells₀
  pub trace_size : length trace ≡ length trace₀
  pub going : Going first (call_all chart names first (calls_of cells₀ text (length trace₀))) cells₀ trace₀ b (call_all chart names b (calls_of (drop (i * 7) cells) text (length trace - used))) cells trace i used

module _ (first : Both) (chart names cells₀ text trace₀ : List ℕ) where
  pub left_begin : Left first chart names cells₀ text trace₀ first cells₀ trace₀ 0 0
  left_begin = record {
    cells_in = omega arith;
    windows_in = omega arith;
    cells_size = refl;
    trace_size = refl;
    going = rw (sub-zero (length trace₀)) (record { after = refl; performed = sym (zero-add _); told = refl; written = refl });
  }

  module _ (b : Both) (cells trace : List ℕ) (i used : ℕ) (h : Left first chart names cells₀ text trace₀ b cells trace i used) where
    -- no call more
    pub left_done : calls_of (drop (i * 7) cells) text (length trace - used) ≡ [] →
        (i ≡ length (calls_of cells₀ text (length trace₀))) × Gives first cells₀ trace₀ (call_all chart names first (calls_of cells₀ text (length trace₀))) b cells trace
    unfolding call_all last_of cells_after trace_after
    left_done e =
        let g = rw e at h.going in (
          omega (arith, g.performed, calls_length chart names first (calls_of cells₀ text (length trace₀))),
          record { after = sym g.after; told = sym (g.told ∙ take-append-drop (i * 7) cells); written = sym (g.written ∙ take-append-drop used trace) },
        )

    -- one call more
    module _ (inside : i * 7 + 7 ≤ length cells) (fits : fits_at cells text (i * 7) (length trace - used) ≡ true)
        (room : ℕ) (window : room ≡ get_or cells (i * 7 + 1) 0) (t : Both) (result after : List ℕ)
        (d : Did (call chart names b (call_at cells text (i * 7))) (lent used room trace) t result after) (size : length after ≡ room) where
      pub left_turn : Left first chart names cells₀ text trace₀ t (back (i * 7 + 4) 3 cells result) (back used room trace after) (i + 1) (used + room)
      unfolding call_all
      left_turn =
          let f = call_fits _ _ _ _ _ _ fits in
          let wf : used + room ≤ length trace = omega (arith, h.windows_in, f.0, window) in
          let rs : length result ≡ 3 = ap length d.told.result in
          let cs = result_length cells result i inside rs in
          let ts = back_length trace after used room wf size in
          let x = call chart names b (call_at cells text (i * 7)) in
          let g = rw (calls_more cells text (i * 7) (length trace - used) inside fits) at h.going in
          let p : drop ((i + 1) * 7) (back (i * 7 + 4) 3 cells result) ≡ drop (i * 7 + 7) cells = result_behind cells result i inside rs ∙ drop-drop 7 (i * 7) cells in
          let r : length trace - (used + room) ≡ length trace - used - get_or cells (i * 7 + 1) 0 = omega (arith, window) in
          let w = going_turn first _ cells₀ trace₀ b x _ cells trace i used room g window t result after d inside wf size in
          record {
            cells_in = omega (arith, cs);
            windows_in = omega (arith, ts);
            cells_size = cs ∙ h.cells_size;
            trace_size = ts ∙ h.trace_size;
            going = rw (ts, p, r, d.told.after) (rw d.told.after at w);
          }

    -- the same as the code has it: parts by where they begin and end
    module _ (test : i < length cells / 7) (fits : fits_at cells text (i * 7) (length trace - used) ≡ true) where
      pub left_fits : (i * 7 + 7 ≤ length cells) × (used + get_or cells (i * 7 + 1) 0 ≤ length trace) ×
          (is_kind (get_or cells (i * 7) 0) (get_or cells (i * 7 + 2) 0) (get_or cells (i * 7 + 3) 0) (length text) ≡ true)
      left_fits = let f = call_fits _ _ _ _ _ _ fits in (omega arith, omega (arith, h.windows_in, f.0), f.1)

      abbrev end : ℕ
      end = used + get_or cells (i * 7 + 1) 0

      pub result_part : length (lent (i * 7 + 4) (i * 7 + 4 + 3 - (i * 7 + 4)) cells) ≡ 3
      result_part = let f = left_fits.0 in rw (length-take, length-drop) (omega arith)

      pub window_part : length (lent used (end - used) trace) ≡ get_or cells (i * 7 + 1) 0
      window_part = let f = left_fits.1 in rw (length-take, length-drop) (omega arith)

      pub left_again : (t : Both) (result after : List ℕ) →
          Did (call chart names b (call_of (get_or cells (i * 7) 0) (length (lent used (end - used) trace)) (get_or cells (i * 7 + 2) 0) (get_or cells (i * 7 + 3) 0) text)) (lent used (end - used) trace) t result after →
          length after ≡ length (lent used (end - used) trace) →
          Left first chart names cells₀ text trace₀ t (back (i * 7 + 4) (i * 7 + 4 + 3 - (i * 7 + 4)) cells result) (back used (end - used) trace after) (i + 1) end
      left_again t result after d z =
          let room = get_or cells (i * 7 + 1) 0 in
          let a : i * 7 + 4 + 3 - (i * 7 + 4) ≡ 3 = omega arith in
          let b : used + room - used ≡ room = omega arith in
          rw (a, b) (left_turn left_fits.0 fits room refl t result after (rw (window_part, b) at d) (z ∙ window_part))

    -- no call more
    pub left_ends : length cells / 7 ≤ i → Performs (calls_of cells₀ text (length trace₀)) first chart names cells₀ trace₀ b i cells trace
    left_ends l =
        let d = left_done (calls_short (drop (i * 7) cells) text _ (rw length-drop (omega arith))) in
        performs (calls_of cells₀ text (length trace₀)) first chart names cells₀ trace₀ b i cells trace d.0 d.1

    pub left_stops : i < length cells / 7 → fits_at cells text (i * 7) (length trace - used) ≡ false → Performs (calls_of cells₀ text (length trace₀)) first chart names cells₀ trace₀ b i cells trace
    left_stops l f =
        let d = left_done (calls_none cells text (i * 7) _ (omega arith) f) in
        performs (calls_of cells₀ text (length trace₀)) first chart names cells₀ trace₀ b i cells trace d.0 d.1
