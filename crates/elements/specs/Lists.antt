-- The list of a row: in an element of its own, or in an attribute.
use Rattle.std.specs.Prelude.{◌≡◌, Bool, true, false, not, ◌||◌, cond, List, [], ◌∷◌, ◌++◌, map, ℕ, zero, suc, ◌+◌, ◌<◌, eqb, leb, length, drop}
use Rattle.std.proofs.Math.Path.{refl, ap}
use Rattle.std.proofs.Common.{sym, ◌∙◌, arith, eqb-true, le-leb}
use Rattle.std.proofs.Math.ListN.{length-drop}
use Rattle.std.proofs.Math.Seq.{length-take-le}
use Rattle.std.proofs.lemmas.Bool.{eqb-false}
use Rattle.definition.specs.declared.Kind.{Kind}
use Rattle.definition.specs.Chart.{is_history}
use Rattle.definition.specs.Rows.{is_empty, from}
use Rattle.definition.specs.Tables.{row_count, reference_count, reference_base, kind_of, kind_at, row_cell, part, references_at, list_at}
use Rattle.laws.specs.Bools.{no, and_false, bool_case}
use Rattle.tables.specs.Ranges.{RowIn, RowsIn, row_fits, layout}
use Rattle.tables.specs.Parts.{Listed}
use Rattle.reading.specs.Content.{Row}
use Rattle.reading.specs.Layout.{content, acts_at, row_back}
use Rattle.reading.specs.Print.{quoted, spaced, given, block_text, ids_text, is_history_kind, is_element_list, default_text, list_text, initial_text}
use Rattle.written.specs.Sound.{AllOf, Ref}
use Rattle.written.specs.AcceptedRows as accepted
use Rattle.spell.specs.Laid.{Laid, laid_as, laid_none, laid_then}
use Rattle.spell.specs.Ready.{RowReady}
use Rattle.spell.specs.declared.lists.Items.TheVariants.{Rows}
use Rattle.spell.specs.Lists.{item, ListReady}
use Rattle.spell.specs.Blocks.{BlockReady, closing}
use Rattle.elements.specs.Filled.{rows_ready}

pub record DefaultReady (numbers names : List ℕ) (i : ℕ) : Type 0 where
  pub row : RowReady numbers names i
  pub some : row_cell numbers i 8 ≡ 0 → ⊥

none_left : {A : Type 0} (l : List A) → length l ≡ 0 → is_empty l ≡ true
unfolding is_empty
none_left [] e = refl
none_left (x ∷ l) e = absurd (omega arith)

some_left : {A : Type 0} (l : List A) → (length l ≡ 0 → ⊥) → is_empty l ≡ false
unfolding is_empty
some_left [] d = absurd (d refl)
some_left (x ∷ l) d = refl

pub history_kind : (n : ℕ) → is_history (kind_of n) ≡ leb 4 n
history_kind zero = refl
history_kind (suc zero) = refl
history_kind (suc (suc zero)) = refl
history_kind (suc (suc (suc zero))) = refl
history_kind (suc (suc (suc (suc zero)))) = refl
history_kind (suc (suc (suc (suc (suc n))))) = sym (le-leb 4 (suc (suc (suc (suc (suc n))))) (omega arith))

module _ (numbers names : List ℕ) (i : ℕ) (h : RowReady numbers names i) where
  abbrev back : Row
  back = row_back numbers names i

  abbrev rows : List Row
  rows = (content numbers names).rows

  pub row_in_lem : RowIn numbers i
  row_in_lem = record { tables = h.ready.tables; below = h.below }

  -- ---- how long the list is

  list_length : length (list_at numbers i) ≡ row_cell numbers i 8
  unfolding list_at references_at part layout
  list_length =
      let f = (row_fits numbers i row_in_lem).list in let z = h.ready.tables.sized.size in
      length-take-le (row_cell numbers i 8) (drop (reference_base numbers + row_cell numbers i 7) numbers) (omega (arith, length-drop (reference_base numbers + row_cell numbers i 7) numbers))

  list_is : back.list ≡ list_at numbers i
  unfolding row_back list_at
  list_is = refl

  block_is : back.block ≡ acts_at numbers names (row_cell numbers i 9) (row_cell numbers i 10)
  unfolding row_back
  block_is = refl

  kind_is : back.kind ≡ row_cell numbers i 0
  unfolding row_back
  kind_is = refl

  no_list : row_cell numbers i 8 ≡ 0 → is_empty back.list ≡ true
  no_list e = ap is_empty list_is ∙ none_left (list_at numbers i) (list_length ∙ e)

  some_list : (row_cell numbers i 8 ≡ 0 → ⊥) → is_empty back.list ≡ false
  some_list d = ap is_empty list_is ∙ some_left (list_at numbers i) (λ q. d (sym list_length ∙ q))

  no_block : row_cell numbers i 10 ≡ 0 → is_empty back.block ≡ true
  unfolding acts_at from is_empty
  no_block e = ap is_empty block_is ∙ rw e

  some_block : (row_cell numbers i 10 ≡ 0 → ⊥) → is_empty back.block ≡ false
  some_block d = ap is_empty block_is ∙ by (row_cell numbers i 10) d
    where
      by : (k : ℕ) → (k ≡ 0 → ⊥) → is_empty (acts_at numbers names (row_cell numbers i 9) k) ≡ false
      by zero q = absurd (q refl)
      by (suc k) q = unfold acts_at from is_empty in refl

  -- which of them are empty, as tests of the cells
  pub list_empty : is_empty (row_back numbers names i).list ≡ eqb (row_cell numbers i 8) 0
  list_empty = bool_case (eqb (row_cell numbers i 8) 0) (λ e. no_list (eqb-true _ _ e) ∙ sym e) (λ e. some_list (eqb-false _ _ e) ∙ sym e)

  pub block_empty : is_empty (row_back numbers names i).block ≡ eqb (row_cell numbers i 10) 0
  block_empty = bool_case (eqb (row_cell numbers i 10) 0) (λ e. no_block (eqb-true _ _ e) ∙ sym e) (λ e. some_block (eqb-false _ _ e) ∙ sym e)

  -- the kind that the writer read says whether the row is a history
  history : (kind : Kind) (b : Bool) → kind ≡ kind_at numbers i → b ≡ is_history kind → is_history_kind back.kind ≡ b
  unfolding kind_at
  history kind b e q = ap is_history_kind kind_is ∙ sym (history_kind (row_cell numbers i 0)) ∙ ap is_history (sym e) ∙ sym q

  -- ---- the list and its block

  refs : (k : ℕ) → k < row_count numbers → AllOf (Ref (row_count numbers)) (row_back numbers names k).list
  refs zero l = (accepted.root_fits numbers names h.ready.accepted).list
  refs (suc k) l = (accepted.row_fits numbers names h.ready.accepted k l).list

  pub list_ready : (l : List ℕ) → Listed (RowsIn numbers) (reference_count numbers) (list_at numbers i) l → ListReady numbers names Rows l
  list_ready l k = rows_ready numbers names h.ready (reference_count numbers) (list_at numbers i) l (rw list_is at (refs i h.below)) k

  pub block_ready : (start count : ℕ) → start ≡ row_cell numbers i 9 → count ≡ row_cell numbers i 10 → BlockReady numbers names start count
  block_ready start count s c = let f = (row_fits numbers i row_in_lem).block.inside in record { ready = h.ready; inside = omega arith }

  abbrev word : List ℕ
  word = 116 ∷ 114 ∷ 97 ∷ 110 ∷ 115 ∷ 105 ∷ 116 ∷ 105 ∷ 111 ∷ 110 ∷ []

  abbrev target : List ℕ
  target = 32 ∷ 116 ∷ 97 ∷ 114 ∷ 103 ∷ 101 ∷ 116 ∷ 61 ∷ []

  abbrev ids : List ℕ → List ℕ
  ids l = spaced (map (item numbers names Rows) l)

  default_laid : (row_cell numbers i 8 ≡ 0 → ⊥) → (l : List ℕ) (start count : ℕ) → Listed (RowsIn numbers) (reference_count numbers) (list_at numbers i) l → start ≡ row_cell numbers i 9 → count ≡ row_cell numbers i 10 →
      {place o1 o2 out : List ℕ} {from a1 a2 at : ℕ} → Laid (60 ∷ word) place from o1 a1 → Laid (given target (ids l)) o1 a1 o2 a2 →
      Laid (closing word (block_text (content numbers names).rows (acts_at numbers names start count))) o2 a2 out at → Laid (default_text (content numbers names).rows (row_back numbers names i)) place from out at
  default_laid d l start count k s c p q r = laid_as shape (laid_then (laid_then p (laid_as (sym stated) q)) (laid_as (rw (s, c)) r))
    where
      same : ids (list_at numbers i) ≡ ids l
      same = ap ids (sym k.is)

      full : is_empty (ids l) ≡ false
      full = (list_ready l k).filled ∙ some_left l (λ e. d (sym list_length ∙ ap length (sym k.is) ∙ e))

      stated : given target (ids l) ≡ target ++ quoted (ids (list_at numbers i))
      stated = rw full (ap (λ (v : List ℕ). target ++ quoted v) (sym same))

      shape : default_text rows back ≡ (60 ∷ word) ++ (target ++ quoted (ids (list_at numbers i))) ++ closing word (block_text rows (acts_at numbers names (row_cell numbers i 9) (row_cell numbers i 10)))
      shape = unfold row_back list_at in refl

  -- ---- as an element

  abbrev listed : List ℕ
  listed = list_text rows back

  -- under either kind
  either : {A : Type 0} (z : Bool) (x y w : A) → x ≡ w → y ≡ w → cond z x y ≡ w
  either true x y w e f = e
  either false x y w e f = f

  -- by what the writer read: how long the list is, the kind, and how long the block is
  module _ (many : ℕ) (m : many ≡ row_cell numbers i 8) where
    pub row_list_none : many ≡ 0 → {out : List ℕ} {at : ℕ} → Laid (list_text (content numbers names).rows (row_back numbers names i)) out at out at
    row_list_none e = laid_as (either (is_history_kind back.kind) _ _ [] (rw (no_list (sym m ∙ e))) (rw (no_list (sym m ∙ e)))) laid_none

    pub initial_none : many ≡ 0 → {out : List ℕ} {at : ℕ} → Laid (initial_text (content numbers names).rows (row_back numbers names i)) out at out at
    initial_none e = laid_as (either (is_history_kind back.kind || is_element_list back) _ _ [] refl (empty back.list (no_list (sym m ∙ e)))) laid_none
      where
        empty : (l : List ℕ) → is_empty l ≡ true → given (32 ∷ 105 ∷ 110 ∷ 105 ∷ 116 ∷ 105 ∷ 97 ∷ 108 ∷ 61 ∷ []) (ids_text rows l) ≡ []
        empty [] q = unfold spaced is_empty in refl
        empty (x ∷ l) q = absurd (no (unfold is_empty in q))

    module _ (d : many ≡ 0 → ⊥) where
      pub row_list_ready : DefaultReady numbers names i
      row_list_ready = record { row = h; some = λ q. d (m ∙ q) }

      module _ (kind : Kind) (k : kind ≡ kind_at numbers i) (past : Bool) (z : past ≡ is_history kind) where
        pub initial_history : past ≡ true → {out : List ℕ} {at : ℕ} → Laid (initial_text (content numbers names).rows (row_back numbers names i)) out at out at
        initial_history l = laid_as (rw (history kind past k z ∙ l)) laid_none

        module _ (l : past ≡ false) (held : ℕ) (b : held ≡ row_cell numbers i 10) where
          pub initial_element : (held ≡ 0 → ⊥) → {out : List ℕ} {at : ℕ} → Laid (initial_text (content numbers names).rows (row_back numbers names i)) out at out at
          initial_element f = laid_as (rw (history kind past k z ∙ l, some_list (λ q. d (m ∙ q)), some_block (λ q. f (b ∙ q)))) laid_none

          pub initial_some : held ≡ 0 → (g : List ℕ) → Listed (RowsIn numbers) (reference_count numbers) (list_at numbers i) g → {place out : List ℕ} {from at : ℕ} →
              Laid (given (32 ∷ 105 ∷ 110 ∷ 105 ∷ 116 ∷ 105 ∷ 97 ∷ 108 ∷ 61 ∷ []) (spaced (map (item numbers names Rows) g))) place from out at →
              Laid (initial_text (content numbers names).rows (row_back numbers names i)) place from out at
          initial_some e g s p =
              laid_as (rw (history kind past k z ∙ l, no_block (sym b ∙ e), and_false (not (is_empty back.list)))
              (ap (λ (x : List ℕ). given (32 ∷ 105 ∷ 110 ∷ 105 ∷ 116 ∷ 105 ∷ 97 ∷ 108 ∷ 61 ∷ []) (ids x)) (list_is ∙ sym s.is))) p

-- ---- the transition to the list

module _ (numbers names : List ℕ) (i : ℕ) (h : DefaultReady numbers names i) where
  pub default_list : (l : List ℕ) → Listed (RowsIn numbers) (reference_count numbers) (list_at numbers i) l → ListReady numbers names Rows l
  default_list = list_ready numbers names i h.row

  pub default_block_lem : (start count : ℕ) → start ≡ row_cell numbers i 9 → count ≡ row_cell numbers i 10 → BlockReady numbers names start count
  default_block_lem = block_ready numbers names i h.row

  pub default_whole : (l : List ℕ) (start count : ℕ) → Listed (RowsIn numbers) (reference_count numbers) (list_at numbers i) l → start ≡ row_cell numbers i 9 → count ≡ row_cell numbers i 10 →
      {place o1 o2 out : List ℕ} {from a1 a2 at : ℕ} → Laid (60 ∷ 116 ∷ 114 ∷ 97 ∷ 110 ∷ 115 ∷ 105 ∷ 116 ∷ 105 ∷ 111 ∷ 110 ∷ []) place from o1 a1 →
      Laid (given (32 ∷ 116 ∷ 97 ∷ 114 ∷ 103 ∷ 101 ∷ 116 ∷ 61 ∷ []) (spaced (map (item numbers names Rows) l))) o1 a1 o2 a2 →
      Laid (closing (116 ∷ 114 ∷ 97 ∷ 110 ∷ 115 ∷ 105 ∷ 116 ∷ 105 ∷ 111 ∷ 110 ∷ []) (block_text (content numbers names).rows (acts_at numbers names start count))) o2 a2 out at →
      Laid (default_text (content numbers names).rows (row_back numbers names i)) place from out at
  default_whole = default_laid numbers names i h.row h.some

  -- as an element
  module _ (kind : Kind) (k : kind ≡ kind_at numbers i) (past : Bool) (z : past ≡ is_history kind) where
    pub row_list_history : past ≡ true → {place out : List ℕ} {from at : ℕ} → Laid (default_text (content numbers names).rows (row_back numbers names i)) place from out at →
        Laid (list_text (content numbers names).rows (row_back numbers names i)) place from out at
    row_list_history l p = laid_as (rw (history numbers names i h.row kind past k z ∙ l, some_list numbers names i h.row h.some)) p

    module _ (l : past ≡ false) (held : ℕ) (b : held ≡ row_cell numbers i 10) where
      pub row_list_plain : held ≡ 0 → {out : List ℕ} {at : ℕ} → Laid (list_text (content numbers names).rows (row_back numbers names i)) out at out at
      row_list_plain e = laid_as (rw (history numbers names i h.row kind past k z ∙ l, no_block numbers names i h.row (sym b ∙ e), and_false (not (is_empty (row_back numbers names i).list)))) laid_none

      pub row_list_element : (held ≡ 0 → ⊥) → {place o1 o2 out : List ℕ} {from a1 a2 at : ℕ} →
          Laid (60 ∷ 105 ∷ 110 ∷ 105 ∷ 116 ∷ 105 ∷ 97 ∷ 108 ∷ 62 ∷ []) place from o1 a1 → Laid (default_text (content numbers names).rows (row_back numbers names i)) o1 a1 o2 a2 →
          Laid (60 ∷ 47 ∷ 105 ∷ 110 ∷ 105 ∷ 116 ∷ 105 ∷ 97 ∷ 108 ∷ 62 ∷ []) o2 a2 out at → Laid (list_text (content numbers names).rows (row_back numbers names i)) place from out at
      row_list_element f p q r =
          laid_as (rw (history numbers names i h.row kind past k z ∙ l, some_list numbers names i h.row h.some, some_block numbers names i h.row (λ q. f (b ∙ q)))) (laid_then (laid_then p q) r)
