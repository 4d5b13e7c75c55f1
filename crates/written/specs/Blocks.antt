-- The tags of a block, of a transition and of what stands in a row before its child rows may stand where they are written.
use Rattle.std.specs.Prelude.{◌≡◌, Bool, cond, eqb}
use Rattle.std.proofs.Math.Path.{refl}
use Rattle.std.proofs.Common.{sym, arith}
use Rattle.std.proofs.Math.Bool.{true, false}
use mathlib.Core.List.{List, [], ◌∷◌, ◌++◌}
use Rattle.std.proofs.Math.Option.{none, some}
use Prim.Native.Nat.{ℕ, zero, suc}
use Rattle.definition.specs.Rows.{is_empty}
use Rattle.definition.specs.Names.{is_name}
use Rattle.grammar.specs.Tables.{kinds, needed, opened, ends, bits, adds}
use Rattle.grammar.specs.Grammar.{has, added, is_complete, may_end, after, opens, kind_of}
use Rattle.reading.specs.Content.{Act, raises, hosts, if_in, elseif_in, otherwise, end_if, sends, cancels, Row}
use Rattle.reading.specs.Print.{number, id_of, is_end, is_if}
use Rattle.laws.specs.Bools.{no}
use Rattle.written.specs.Pieces.{Attr, Piece}
use Rattle.written.specs.Begins.{May, may_10_9, may_11_9, may_12_9, may_15_9, may_10_10, may_11_10, may_12_10, may_15_10, may_10_12, may_11_12, may_12_12, may_15_12, may_10_13, may_11_13, may_12_13, may_15_13, may_10_14, may_11_14, may_12_14, may_15_14, may_10_15, may_11_15, may_12_15, may_15_15, may_10_16, may_11_16, may_12_16, may_15_16, Follows, follows_9_0_0, follows_10_0_0, follows_12_0_0, follows_14_0_0, follows_15_0_2, follows_15_0_0, follows_15_4_0, follows_15_1_1, follows_15_5_1, follows_16_0_0, Ends, ends_15_12}
use Rattle.written.specs.Walks.{reads, Stated, none as no-attr, one}
use Rattle.written.specs.Walked.{Goes, starts, stands, shuts, Fits, over, then, fits_both, fits_one}
use Rattle.written.specs.Written.{attr, start_tag, empty_tag, end_tag, in_text, delay_attr, act_piece, empty_if, block_pieces, element_pieces}
use Rattle.written.specs.Sound.{AllOf, no_more, more, Ref, ActFits, balanced, BlockFits}
use Rattle.written.specs.Spelt.{Plain, plain_byte, name_is_spelt, spelt_plain}
use Rattle.written.specs.Values.{reads_free, reads_name, all_both}
use Rattle.written.specs.Numbers.{digits_plain}

-- the levels of blocks: of a transition, of onentry, of onexit, of an if
pub data BlockLevel : ℕ → Type 0 where
  of_transition_lem : BlockLevel 10
  of_entry : BlockLevel 11
  of_exit : BlockLevel 12
  of_if : BlockLevel 15

raise_may : (t : ℕ) → BlockLevel t → May t 9
raise_may t of_transition_lem = may_10_9
raise_may t of_entry = may_11_9
raise_may t of_exit = may_12_9
raise_may t of_if = may_15_9

log_may : (t : ℕ) → BlockLevel t → May t 10
log_may t of_transition_lem = may_10_10
log_may t of_entry = may_11_10
log_may t of_exit = may_12_10
log_may t of_if = may_15_10

if_may : (t : ℕ) → BlockLevel t → May t 12
if_may t of_transition_lem = may_10_12
if_may t of_entry = may_11_12
if_may t of_exit = may_12_12
if_may t of_if = may_15_12

else_may : (t : ℕ) → BlockLevel t → May t 13
else_may t of_transition_lem = may_10_13
else_may t of_entry = may_11_13
else_may t of_exit = may_12_13
else_may t of_if = may_15_13

elseif_may : (t : ℕ) → BlockLevel t → May t 14
elseif_may t of_transition_lem = may_10_14
elseif_may t of_entry = may_11_14
elseif_may t of_exit = may_12_14
elseif_may t of_if = may_15_14

send_may : (t : ℕ) → BlockLevel t → May t 15
send_may t of_transition_lem = may_10_15
send_may t of_entry = may_11_15
send_may t of_exit = may_12_15
send_may t of_if = may_15_15

cancel_may : (t : ℕ) → BlockLevel t → May t 16
cancel_may t of_transition_lem = may_10_16
cancel_may t of_entry = may_11_16
cancel_may t of_exit = may_12_16
cancel_may t of_if = may_15_16

unfoldable all : ℕ
unfolding kinds needed opened ends bits adds has added is_complete may_end after opens kind_of
all = 0

-- ---- values

apostrophe_plain : Plain 39
apostrophe_plain = plain_byte 39 (omega arith) (omega arith) (λ e. omega arith)

pub in_plain : (v : List ℕ) → is_name v ≡ true → AllOf Plain (73 ∷ 110 ∷ 40 ∷ 39 ∷ (v ++ 39 ∷ 41 ∷ []))
in_plain v h =
    more (plain_byte 73 (omega arith) (omega arith) (λ e. omega arith))
    (more (plain_byte 110 (omega arith) (omega arith) (λ e. omega arith))
    (more (plain_byte 40 (omega arith) (omega arith) (λ e. omega arith))
    (more apostrophe_plain (all_both (spelt_plain v true (name_is_spelt v h)) (more apostrophe_plain (more (plain_byte 41 (omega arith) (omega arith) (λ e. omega arith)) no_more))))))

module _ (rs : List Row) (n : ℕ) (named : (i : ℕ) → Ref n i → is_name (id_of rs i) ≡ true) where
  in_reads : (i : ℕ) → Ref n i → reads 0 0 (in_text rs i) ≡ true
  in_reads i r = reads_free (in_text rs i) (in_plain (id_of rs i) (named i r))

  -- ---- actions but if and its end

  delay_stated : (x : ℕ) → Follows 15 x 1 → (d : ℕ) → Stated 15 x (delay_attr d) (cond (eqb d 0) x (added x 1))
  unfolding all
  delay_stated x f d = by (eqb d 0)
    where
      by : (z : Bool) → Stated 15 x (cond z [] (attr 1 (number d) ∷ [])) (cond z x (added x 1))
      by true = no-attr
      by false = one f (reads_free (number d) (digits_plain 10 d)) no-attr

  send_complete : (x : ℕ) (z : Bool) → has x 0 ≡ true → has (added x 1) 0 ≡ true → is_complete 15 (cond z x (added x 1)) ≡ true
  unfolding is_complete needed
  send_complete x true h g = h
  send_complete x false h g = g

  act_goes : (t : ℕ) (st : List ℕ) → BlockLevel t → (a : Act) → ActFits n a → is_if a ≡ false → is_end (a ∷ []) ≡ false → Goes t st (act_piece rs a) t st
  unfolding all
  act_goes t st l (raises m) f i e = stands (raise_may t l) (one follows_9_0_0 (reads_name m f) no-attr) refl refl
  act_goes t st l (hosts k) f i e = stands (log_may t l) (one follows_10_0_0 (reads_free (number k) (digits_plain 10 k)) no-attr) refl refl
  act_goes t st l (if_in j) f i e = absurd (no (sym i))
  act_goes t st l (elseif_in j) f i e = stands (elseif_may t l) (one follows_14_0_0 (in_reads j f) no-attr) refl refl
  act_goes t st l otherwise f i e = stands (else_may t l) no-attr refl refl
  act_goes t st l end_if f i e = absurd (no (sym e))
  act_goes t st l (sends m d none) (f, g) i e = stands (send_may t l) (one follows_15_0_0 (reads_name m f) (delay_stated 1 follows_15_1_1 d)) (send_complete 1 (eqb d 0) refl refl) refl
  act_goes t st l (sends m d (some j)) (f, g, h) i e =
      stands (send_may t l) (one follows_15_0_2 (reads_name j h) (one follows_15_4_0 (reads_name m f) (delay_stated 5 follows_15_5_1 d))) (send_complete 5 (eqb d 0) refl refl) refl
  act_goes t st l (cancels m) f i e = stands (cancel_may t l) (one follows_16_0_0 (reads_name m f) no-attr) refl refl

  -- ---- blocks

  -- k ifs are open in a block of level b: where the innermost stands
  pub data Inside (b : ℕ) (sb : List ℕ) : ℕ → ℕ → List ℕ → Type 0 where
    base : BlockLevel b → Inside b sb 0 b sb
    deeper : {k t : ℕ} {st : List ℕ} → Inside b sb k t st → Inside b sb (suc k) 15 (t ∷ st)

  level_of : {b : ℕ} {sb : List ℕ} {k t : ℕ} {st : List ℕ} → Inside b sb k t st → BlockLevel t
  level_of (base l) = l
  level_of (deeper i) = of_if

  -- the first is the end of an if that is written already, or nothing is
  abbrev Ready : Bool → ℕ → List Act → Type 0
  Ready false k acts = balanced k acts ≡ true
  Ready true k acts = (is_end acts ≡ true) × (balanced (suc k) acts ≡ true)

  if_goes : (t : ℕ) (st : List ℕ) → BlockLevel t → (i : ℕ) → Ref n i → Goes t st (start_tag 12 (attr 0 (in_text rs i) ∷ [])) 15 (t ∷ st)
  unfolding all
  if_goes t st l i r = starts (if_may t l) (one follows_12_0_0 (in_reads i r) no-attr) refl

  empty_if_goes : (t : ℕ) (st : List ℕ) → BlockLevel t → (i : ℕ) → Ref n i → Goes t st (empty_if rs i) t st
  unfolding all
  empty_if_goes t st l i r = stands (if_may t l) (one follows_12_0_0 (in_reads i r) no-attr) refl refl

  module _ (b : ℕ) (sb : List ℕ) where
    block_fits_lem : (skip : Bool) (acts : List Act) (k t : ℕ) (st : List ℕ) → Inside b sb k t st → AllOf (ActFits n) acts → Ready skip k acts → Fits t st (block_pieces rs skip acts) b sb
    unfolding block_pieces balanced
    block_fits_lem false [] k t st (base l) no_more r = over
    block_fits_lem false [] k t st (deeper i) no_more r = absurd (no r)
    block_fits_lem true [] k t st i no_more (e, r) = absurd (no e)
    block_fits_lem true (raises m ∷ rest) k t st i (more f g) (e, r) = absurd (no e)
    block_fits_lem true (hosts m ∷ rest) k t st i (more f g) (e, r) = absurd (no e)
    block_fits_lem true (if_in j ∷ rest) k t st i (more f g) (e, r) = absurd (no e)
    block_fits_lem true (elseif_in j ∷ rest) k t st i (more f g) (e, r) = absurd (no e)
    block_fits_lem true (otherwise ∷ rest) k t st i (more f g) (e, r) = absurd (no e)
    block_fits_lem true (end_if ∷ rest) k t st i (more f g) (e, r) = block_fits_lem false rest k t st i g r
    block_fits_lem true (sends m d j ∷ rest) k t st i (more f g) (e, r) = absurd (no e)
    block_fits_lem true (cancels m ∷ rest) k t st i (more f g) (e, r) = absurd (no e)
    block_fits_lem false (raises m ∷ rest) k t st i (more f g) r = then (act_goes t st (level_of i) (raises m) f refl refl) (block_fits_lem false rest k t st i g r)
    block_fits_lem false (hosts m ∷ rest) k t st i (more f g) r = then (act_goes t st (level_of i) (hosts m) f refl refl) (block_fits_lem false rest k t st i g r)
    block_fits_lem false (if_in j ∷ rest) k t st i (more f g) r = by (is_end rest) refl (λ e. block_fits_lem true rest k t st i g (e, r)) (block_fits_lem false rest (suc k) 15 (t ∷ st) (deeper i) g r)
      where
        by : (z : Bool) → is_end rest ≡ z → (is_end rest ≡ true → Fits t st (block_pieces rs true rest) b sb) → Fits 15 (t ∷ st) (block_pieces rs false rest) b sb →
            Fits t st (cond z (empty_if rs j ∷ block_pieces rs true rest) (start_tag 12 (attr 0 (in_text rs j) ∷ []) ∷ block_pieces rs false rest)) b sb
        by true e s u = then (empty_if_goes t st (level_of i) j f) (s e)
        by false e s u = then (if_goes t st (level_of i) j f) u
    block_fits_lem false (elseif_in j ∷ rest) k t st i (more f g) r = then (act_goes t st (level_of i) (elseif_in j) f refl refl) (block_fits_lem false rest k t st i g r)
    block_fits_lem false (otherwise ∷ rest) k t st i (more f g) r = then (act_goes t st (level_of i) otherwise f refl refl) (block_fits_lem false rest k t st i g r)
    block_fits_lem false (end_if ∷ rest) zero t st i (more f g) r = absurd (no r)
    block_fits_lem false (end_if ∷ rest) (suc k) t st (deeper i) (more f g) r = then (shuts ends_15_12) (block_fits_lem false rest k _ _ i g r)
    block_fits_lem false (sends m d none ∷ rest) k t st i (more f g) r = then (act_goes t st (level_of i) (sends m d none) f refl refl) (block_fits_lem false rest k t st i g r)
    block_fits_lem false (sends m d (some j) ∷ rest) k t st i (more f g) r = then (act_goes t st (level_of i) (sends m d (some j)) f refl refl) (block_fits_lem false rest k t st i g r)
    block_fits_lem false (cancels m ∷ rest) k t st i (more f g) r = then (act_goes t st (level_of i) (cancels m) f refl refl) (block_fits_lem false rest k t st i g r)

  -- a block's tags stand in its element and lead back to it
  pub block_stands : (t : ℕ) (st : List ℕ) → BlockLevel t → (acts : List Act) → BlockFits n acts → Fits t st (block_pieces rs false acts) t st
  block_stands t st l acts f = block_fits_lem t st false acts 0 t st (base l) f.each f.closed

-- ---- elements

pub element_stands : (t e f y : ℕ) (st : List ℕ) (xs : List Attr) (inside : List Piece) → May t e → Stated e 0 xs y → is_complete e y ≡ true → may_end (opens e y) ≡ true → Ends (opens e y) f →
    Fits (opens e y) (after t e ∷ st) inside (opens e y) (after t e ∷ st) → Fits t st (element_pieces e f xs inside) (after t e) st
element_stands t e f y st xs inside m s c d n g = by (is_empty inside)
  where
    by : (z : Bool) → Fits t st (cond z (empty_tag e xs ∷ []) (start_tag e xs ∷ (inside ++ end_tag f ∷ []))) (after t e) st
    by true = fits_one (stands m s c d)
    by false = then (starts m s c) (fits_both g (fits_one (shuts n)))
