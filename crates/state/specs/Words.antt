-- Sets of rows as words: a set of four words, and the history, a set for each of 256 rows.
use Rattle.std.specs.Prelude.{◌≡◌, refl, true, false, List, [], ◌∷◌, map, ℕ, zero, suc, ◌+◌, ◌*◌, ◌^◌, ◌≤◌, ◌<◌, ltb, length, get_or, take, drop}
use Rattle.std.proofs.Common.{sym, ◌∙◌, zero-add, add-zero, arith, length-take, length-drop, get_or-take, get_or-drop, take_all, length-take-le, ltb-true, ltb-false}
use Rattle.std.proofs.Math.Path.{ap}
use Rattle.std.proofs.Math.ListN.{get_or-eq_default}
use Rattle.std.proofs.lemmas.List.{replicate-append-replicate}
use Rattle.definition.specs.Rows.{from, mem, fold, union, is_set, nothing_at}
use Rattle.definition.specs.Compiled.{word, words}
use Rattle.follower.specs.Microstep.{stored_in}
use Rattle.laws.specs.Bools.{bool_case, no}
use Rattle.laws.specs.Lists.{set_ascends, set_below, ascends_set}
use Rattle.laws.specs.Orders.{union_none}
use Rattle.laws.specs.Cells.{cells, cell, blank, cells_ext, cells_length, cells_cut, cell_in, cell_behind, cells_none}
use Rattle.laws.specs.Maps.{map_length, map_at}
use Rattle.rowset.specs.declared.RowSet.{RowSet}
use Rattle.rowset.specs.Member.{rows_of, Fitting}
use Rattle.rowset.specs.Rows.{rows_read, words_of_rows, rows_empty, rows_set}
use Rattle.chart.specs.Ready.{row_set_at}
use Rattle.paths.specs.History.{stored_at}
use Rattle.state.specs.State.{history_words, rows_at}

-- ---- one set

pub words_length : (xs : List ℕ) → length (words xs) ≡ 4
unfolding words
words_length xs = refl

-- four words, as the set that they hold
abbrev pub four : RowSet → List ℕ
four s = s.w0 ∷ s.w1 ∷ s.w2 ∷ s.w3 ∷ []

four_of_lem : (ws : List ℕ) → length ws ≡ 4 → ws ≡ get_or ws 0 0 ∷ get_or ws 1 0 ∷ get_or ws 2 0 ∷ get_or ws 3 0 ∷ []
four_of_lem [] h = absurd (omega arith)
four_of_lem (a ∷ []) h = absurd (omega arith)
four_of_lem (a ∷ b ∷ []) h = absurd (omega arith)
four_of_lem (a ∷ b ∷ d ∷ []) h = absurd (omega arith)
four_of_lem (a ∷ b ∷ d ∷ e ∷ []) h = refl
four_of_lem (a ∷ b ∷ d ∷ e ∷ x ∷ ws) h = absurd (omega arith)

-- the set at a cell of four words
pub cell_set : (ws : List ℕ) (i : ℕ) → i * 4 + 4 ≤ length ws → cell 4 ws i ≡ four (row_set_at ws (i * 4))
unfolding row_set_at
cell_set ws i h =
    four_of_lem (cell 4 ws i) (length-take-le 4 (drop (i * 4) ws) (omega (arith, length-drop (i * 4) ws))) ∙
    rw (at 0 (omega arith), at 1 (omega arith), at 2 (omega arith), at 3 (omega arith), add-zero (i * 4))
  where
    at : (k : ℕ) → k < 4 → get_or (cell 4 ws i) k 0 ≡ get_or ws (i * 4 + k) 0
    at k l = get_or-take 4 (drop (i * 4) ws) k 0 l ∙ get_or-drop (i * 4) ws k 0

-- a cell that holds the words of a set
pub cell_rows : (ws : List ℕ) (i : ℕ) (xs : List ℕ) → i * 4 + 4 ≤ length ws → is_set 256 xs ≡ true → cell 4 ws i ≡ words xs → rows_of (row_set_at ws (i * 4)) ≡ xs
cell_rows ws i xs h s e =
    rows_read (row_set_at ws (i * 4)) xs (set_below 256 xs s) (sym e ∙ cell_set ws i h) ∙ union_none 0 xs (set_ascends 256 xs s)

-- a set is found again in its words
pub rows_again : (xs : List ℕ) → is_set 256 xs ≡ true → rows_at (words xs) 0 ≡ xs
unfolding rows_at words
rows_again xs s = cell_rows (words xs) 0 xs (omega arith) s refl

pub words_none : words [] ≡ blank 4
unfolding words word union fold
words_none = refl

pub none_set : (n : ℕ) → is_set n [] ≡ true
none_set n = ascends_set n [] tt (λ a m. absurd (no (unfold mem in m)))

-- no set past the end
set_past : (ws : List ℕ) (w : ℕ) → length ws ≤ w → rows_of (row_set_at ws w) ≡ []
unfolding row_set_at
set_past ws w h =
    ap rows_of (λ i. record { w0 = at w (omega arith) i; w1 = at (w + 1) (omega arith) i; w2 = at (w + 2) (omega arith) i; w3 = at (w + 3) (omega arith) i }) ∙ rows_empty
  where
    at : (k : ℕ) → length ws ≤ k → get_or ws k 0 ≡ 0
    at k l = get_or-eq_default ws 0 l

-- ---- the history

pub history_cells : (sets : List (List ℕ)) → history_words sets ≡ cells words 4 256 sets
unfolding history_words
history_cells sets = cells_cut words 4 words_length 256 1024 sets (omega arith)

pub history_length : (sets : List (List ℕ)) → length (history_words sets) ≡ 1024
history_length sets = ap length (history_cells sets) ∙ cells_length words 4 words_length 256 sets

history_cell : (sets : List (List ℕ)) (h : ℕ) → h < 256 → cell 4 (history_words sets) h ≡ words (stored_in sets h)
history_cell sets h l =
    ap (λ (ws : List ℕ). cell 4 ws h) (history_cells sets) ∙
    bool_case (ltb h (length sets)) (λ b. cell_in words 4 words_length 256 h sets [] l (ltb-true _ _ b))
    (λ b. let g : length sets ≤ h = ltb-false _ _ b in
    cell_behind words 4 words_length 256 h sets l g ∙ sym (ap words (get_or-eq_default sets [] g) ∙ words_none))

-- each history's set is found again in the words
pub stored_again : (sets : List (List ℕ)) → length sets ≤ 256 → ((h : ℕ) → is_set 256 (stored_in sets h) ≡ true) → (h : ℕ) → stored_at (history_words sets) h ≡ stored_in sets h
unfolding stored_at
stored_again sets short each h =
    bool_case (ltb h 256)
    (λ b. let l : h < 256 = ltb-true _ _ b in
    cell_rows (history_words sets) h (stored_in sets h) (rw (history_length sets) (omega arith)) (each h) (history_cell sets h l))
    (λ b. let g : 256 ≤ h = ltb-false _ _ b in
    set_past (history_words sets) (h * 4) (rw (history_length sets) (omega arith)) ∙ sym (get_or-eq_default sets [] (omega arith)))

-- ---- words that fit

-- every number is one of 64 bits
pub record Fits (ws : List ℕ) : Type 0 where
  pub fits : (k : ℕ) → get_or ws k 0 < 2 ^ 64

-- so is every number of a part
pub fits_part : (ws : List ℕ) (m n : ℕ) → Fits ws → Fits (take n (drop m ws))
fits_part ws m n f = record { fits = λ k. bool_case (ltb k n) (inside k) (outside k) }
  where
    inside : (k : ℕ) → ltb k n ≡ true → get_or (take n (drop m ws)) k 0 < 2 ^ 64
    inside k b = rw (get_or-take n (drop m ws) k 0 (ltb-true k n b), get_or-drop m ws k 0) (f.fits (m + k))

    outside : (k : ℕ) → ltb k n ≡ false → get_or (take n (drop m ws)) k 0 < 2 ^ 64
    outside k b =
        let l = ltb-false k n b in
        let past : length (take n (drop m ws)) ≤ k = rw length-take (omega arith) in
        let e : get_or (take n (drop m ws)) k 0 ≡ 0 = get_or-eq_default (take n (drop m ws)) 0 past in
        rw e (omega arith)

set_fits : (ws : List ℕ) (w : ℕ) → Fits ws → Fitting (row_set_at ws w)
unfolding row_set_at
set_fits ws w f = record { fit0 = f.fits w; fit1 = f.fits (w + 1); fit2 = f.fits (w + 2); fit3 = f.fits (w + 3) }

-- they are the words of the set that they hold
pub cell_again : (ws : List ℕ) (i : ℕ) → Fits ws → i * 4 + 4 ≤ length ws → words (rows_of (row_set_at ws (i * 4))) ≡ cell 4 ws i
cell_again ws i f h = words_of_rows (row_set_at ws (i * 4)) (set_fits ws (i * 4) f) ∙ sym (cell_set ws i h)

pub words_again : (ws : List ℕ) → Fits ws → length ws ≡ 4 → words (rows_at ws 0) ≡ ws
unfolding rows_at
words_again ws f h = cell_again ws 0 f (omega arith) ∙ take_all 4 ws (omega arith)

-- words that hold each history's set are the history's
pub history_written : (ws : List ℕ) (sets : List (List ℕ)) → Fits ws → length ws ≡ 1024 → ((h : ℕ) → h < 256 → stored_at ws h ≡ stored_in sets h) → ws ≡ history_words sets
unfolding stored_at
history_written ws sets f size each =
    cells_ext 4 256 ws (history_words sets) size (history_length sets)
    (λ h l. sym (cell_again ws h f (omega arith)) ∙ ap words (each h l) ∙ sym (history_cell sets h l))

-- the words of a history are those of the sets of the first rows exactly if no later one has a set
module _ (ws : List ℕ) (rows : ℕ) (f : Fits ws) (size : length ws ≡ 1024) (few : rows ≤ 256) where
  abbrev sets : List (List ℕ)
  sets = map (stored_at ws) (from rows 0)

  sets_at : (h : ℕ) → h < rows → stored_in sets h ≡ stored_at ws h
  sets_at h l = map_at (stored_at ws) rows 0 h [] l ∙ ap (stored_at ws) (zero-add h)

  sets_past : (h : ℕ) → rows ≤ h → stored_in sets h ≡ []
  sets_past h g = get_or-eq_default sets [] (rw (map_length (stored_at ws) rows 0) g)

  sets_set : (h : ℕ) → is_set 256 (stored_in sets h) ≡ true
  unfolding stored_at
  sets_set h =
      bool_case (ltb h rows) (λ b. ap (is_set 256) (sets_at h (ltb-true _ _ b)) ∙ rows_set (row_set_at ws (h * 4)))
      (λ b. ap (is_set 256) (sets_past h (ltb-false _ _ b)) ∙ none_set 256)

  pub history_blank : ws ≡ history_words sets → (h : ℕ) → rows ≤ h → stored_at ws h ≡ []
  history_blank e h g =
      ap (λ (x : List ℕ). stored_at x h) e ∙ stored_again sets (rw (map_length (stored_at ws) rows 0) few) sets_set h ∙ sets_past h g

  pub blank_history : ((h : ℕ) → rows ≤ h → h < 256 → stored_at ws h ≡ []) → ws ≡ history_words sets
  blank_history none =
      history_written ws sets f size
      (λ h l. bool_case (ltb h rows) (λ b. sym (sets_at h (ltb-true _ _ b)))
      (λ b. let g : rows ≤ h = ltb-false _ _ b in none h g l ∙ sym (sets_past h g)))

-- ---- zeros

blank_at : (n k : ℕ) → get_or (blank n) k 0 ≡ 0
blank_at zero k = refl
blank_at (suc n) zero = refl
blank_at (suc n) (suc k) = blank_at n k

pub none_stored : (n h : ℕ) → stored_at (blank n) h ≡ []
unfolding stored_at row_set_at
none_stored n h =
    ap rows_of (λ i. record { w0 = blank_at n (h * 4) i; w1 = blank_at n (h * 4 + 1) i; w2 = blank_at n (h * 4 + 2) i; w3 = blank_at n (h * 4 + 3) i }) ∙ rows_empty

-- the words of a history with nothing stored, for any number of rows
nothing_cells : (k n i : ℕ) → cells words 4 k (map nothing_at (from n i)) ≡ blank (k * 4)
unfolding from cells
nothing_cells zero n i = refl
nothing_cells (suc k) zero i = cells_none words 4 (suc k)
nothing_cells (suc k) (suc n) i =
    let e : 4 + k * 4 ≡ suc k * 4 = omega arith in
    rw (words_none, nothing_cells k n (suc i)) (replicate-append-replicate 4 (k * 4) 0 ∙ ap blank e)

pub history_none : (rows : ℕ) → blank 1024 ≡ history_words (map nothing_at (from rows 0))
history_none rows = sym (history_cells (map nothing_at (from rows 0)) ∙ nothing_cells 256 rows 0)
