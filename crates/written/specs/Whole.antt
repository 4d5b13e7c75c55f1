-- Reading what was written gives the content that was written: "Reading what was written gives an equal chart." (R-4, 4.3)
use Rattle.std.specs.Prelude.{◌≡◌, Bool, true, false, ◌||◌, cond, ℕ, zero, suc, ◌≤◌, ◌<◌, ◌+◌, length}
use Rattle.std.proofs.Math.Path.{refl, ap}
use Rattle.std.proofs.Common.{sym, ◌∙◌, subst, arith, le-leb}
use mathlib.Core.List.{List, [], ◌∷◌, ◌++◌, append-nil}
use Rattle.std.proofs.Math.Option.{none}
use Rattle.definition.specs.Rows.{same, flat}
use Rattle.definition.specs.Names.{is_name}
use Rattle.definition.specs.Tables.{no_number}
use Rattle.grammar.specs.declared.Place.TheVariants.{Content as Between}
use Rattle.grammar.specs.Grammar.{live, run, start, accepts, is_text, in_grammar}
use Rattle.reading.specs.Tags.{tags_from, tags_of}
use Rattle.reading.specs.Faults.{ids_of, is_among, tag_faults, faults, least, first_fault}
use Rattle.reading.specs.Content.{Row, Content, facts_from, content_from, content_of, place_of, row_named}
use Rattle.reading.specs.Print.{id_of, print}
use Rattle.laws.specs.Bools.{bool_case}
use Rattle.laws.specs.Lists.{same_self}
use Rattle.written.specs.Pieces.{tags_at, draft}
use Rattle.written.specs.Walked.{Fits, text_run, text_tags}
use Rattle.written.specs.Written.{pieces}
use Rattle.written.specs.Sound.{AllOf, no_more, more, Ref, Shaped, RowFits, TransitionFits}
use Rattle.written.specs.Printed.{print_text}
use Rattle.written.specs.Laid.{Laid, laid_out, lays}
use Rattle.written.specs.Stand.{pieces_fit}
use Rattle.written.specs.BlockSays.{Known}
use Rattle.written.specs.RowsSaid.{pieces_said}
use Rattle.written.specs.Order.{Ordered, content_again}
use Rattle.written.specs.Noted.{Notes}
use Rattle.written.specs.RowsNoted.{row_ids, pieces_noted}

-- no two rows have the same id
pub record Differ (rs : List Row) : Type 0 where
  pub only : (i j : ℕ) → i < length rs → j < length rs → same (id_of rs i) (id_of rs j) ≡ true → i ≡ j

-- what the content of an accepted chart is like
pub record Sound (c : Content) : Type 0 where
  pub root : Row
  pub others : List Row
  pub rows_are : c.rows ≡ root ∷ others
  pub root_kind : root.kind ≡ 0
  pub root_parent : root.parent ≡ no_number
  pub laid : Laid (0 ∷ []) 1 others
  pub root_fits : RowFits (length c.rows) root
  pub rows_fit : AllOf (RowFits (length c.rows)) others
  pub transitions_fit : AllOf (TransitionFits (length c.rows)) c.transitions
  pub ordered : Ordered (length c.rows) 0 c.transitions
  pub few : length c.rows ≤ 65535
  pub differ : Differ others

-- ---- ids

shaped_named : (k : ℕ) (r : Row) → 1 ≤ k → Shaped k r → is_name r.id ≡ true
shaped_named zero r h s = absurd (omega arith)
shaped_named (suc zero) r h (d, b) = d
shaped_named (suc (suc zero)) r h (d, l, b) = d
shaped_named (suc (suc (suc zero))) r h (d, l, b) = d
shaped_named (suc (suc (suc (suc zero)))) r h (d, l) = d
shaped_named (suc (suc (suc (suc (suc zero))))) r h (d, l) = d
shaped_named (suc (suc (suc (suc (suc (suc k)))))) r h s = absurd s

ids_named : (n : ℕ) (rs : List Row) (path : List ℕ) (i : ℕ) → Laid path i rs → AllOf (RowFits n) rs → (j : ℕ) → j < length rs → is_name (id_of rs j) ≡ true
unfolding id_of
ids_named n [] path i laid_out no_more j h = absurd (let z : j < 0 = h in omega arith)
ids_named n (r ∷ rs) path i (lays up k e d) (more f g) zero h = shaped_named r.kind r k f.shaped
ids_named n (r ∷ rs) path i (lays up k e d) (more f g) (suc j) h = ids_named n rs (i ∷ r.parent ∷ up) (suc i) d g j (let z : suc j < suc (length rs) = h in omega arith)

one_further : (r : Row) (rs : List Row) (i j : ℕ) → same (id_of rs i) (id_of rs j) ≡ true → same (id_of (r ∷ rs) (suc i)) (id_of (r ∷ rs) (suc j)) ≡ true
unfolding id_of
one_further r rs i j e = e

differ_rest : (r : Row) (rs : List Row) → Differ (r ∷ rs) → Differ rs
differ_rest r rs d =
    record {
      only =
          λ (i j : ℕ) (h : i < length rs) (k : j < length rs) (e : same (id_of rs i) (id_of rs j) ≡ true).
          let q : suc i ≡ suc j = d.only (suc i) (suc j) (higher i h) (higher j k) (one_further r rs i j e) in
          omega arith;
    }
  where
    higher : (i : ℕ) → i < length rs → suc i < suc (length rs)
    higher i h = omega arith

id_first : (r : Row) (rs : List Row) → place_of (id_of (r ∷ rs) 0) (row_ids (r ∷ rs)) ≡ 0
id_first r rs = shown ∙ ap (λ (z : Bool). cond z 0 (suc (place_of r.id (row_ids rs)))) (same_self r.id)
  where
    shown : place_of (id_of (r ∷ rs) 0) (row_ids (r ∷ rs)) ≡ cond (same r.id r.id) 0 (suc (place_of r.id (row_ids rs)))
    shown = unfold id_of row_ids place_of in refl

id_later : (r : Row) (rs : List Row) (j : ℕ) → same (id_of rs j) r.id ≡ false → place_of (id_of (r ∷ rs) (suc j)) (row_ids (r ∷ rs)) ≡ suc (place_of (id_of rs j) (row_ids rs))
id_later r rs j h = shown ∙ ap (λ (z : Bool). cond z 0 (suc (place_of (id_of rs j) (row_ids rs)))) h
  where
    shown : place_of (id_of (r ∷ rs) (suc j)) (row_ids (r ∷ rs)) ≡ cond (same (id_of rs j) r.id) 0 (suc (place_of (id_of rs j) (row_ids rs)))
    shown = unfold id_of row_ids place_of in refl

-- an id is found where it stands
id_place : (rs : List Row) → Differ rs → (j : ℕ) → j < length rs → place_of (id_of rs j) (row_ids rs) ≡ j
id_place [] d j h = absurd (let z : j < 0 = h in omega arith)
id_place (r ∷ rs) d zero h = id_first r rs
id_place (r ∷ rs) d (suc j) h = bool_case (same (id_of rs j) r.id) (λ e. absurd (twice (d.only (suc j) 0 h low (as_rows e)))) (λ e. id_later r rs j e ∙ ap suc (id_place rs (differ_rest r rs d) j (let z : suc j < suc (length rs) = h in omega arith)))
  where
    low : 0 < suc (length rs)
    low = omega arith

    twice : suc j ≡ 0 → ⊥
    twice e = omega arith

    as_rows : same (id_of rs j) r.id ≡ true → same (id_of (r ∷ rs) (suc j)) (id_of (r ∷ rs) 0) ≡ true
    as_rows e = unfold id_of in e

id_among : (rs : List Row) (j : ℕ) → j < length rs → is_among (id_of rs j) (row_ids rs) ≡ true
unfolding id_of row_ids is_among
id_among [] j h = absurd (let z : j < 0 = h in omega arith)
id_among (r ∷ rs) zero h = rw (same_self r.id)
id_among (r ∷ rs) (suc j) h = by (same (id_of rs j) r.id) (id_among rs j (let z : suc j < suc (length rs) = h in omega arith))
  where
    by : (z : Bool) → is_among (id_of rs j) (row_ids rs) ≡ true → (z || is_among (id_of rs j) (row_ids rs)) ≡ true
    by true e = refl
    by false e = e

-- a reference is to one of the rows behind the root
past_root : {A : Type 0} (r : Row) (rs : List Row) (n i : ℕ) → n ≡ length (r ∷ rs) → Ref n i → ((j : ℕ) → i ≡ suc j → j < length rs → A) → A
past_root r rs n zero e f k = absurd (let z = f.above in omega arith)
past_root r rs n (suc j) e f k = k j refl (let z : suc j < n = f.below in let y : n ≡ suc (length rs) = e in omega arith)

module _ (c : Content) (s : Sound c) where
  abbrev ids : List (List ℕ)
  ids = row_ids s.others

  abbrev count : ℕ
  count = length c.rows

  id_of_lem : (i : ℕ) → id_of c.rows (suc i) ≡ id_of s.others i
  id_of_lem i = ap (λ (l : List Row). id_of l (suc i)) s.rows_are ∙ unfold id_of in refl

  lengths : count ≡ length (s.root ∷ s.others)
  lengths = ap (length {A = Row}) s.rows_are

  named : (i : ℕ) → Ref count i → is_name (id_of c.rows i) ≡ true
  named i r = past_root s.root s.others count i lengths r (λ (j : ℕ) (e : i ≡ suc j) (h : j < length s.others). ap (λ (x : ℕ). is_name (id_of c.rows x)) e ∙ ap is_name (id_of_lem j) ∙ ids_named count s.others (0 ∷ []) 1 s.laid s.rows_fit j h)

  found : (i : ℕ) → Ref count i → row_named ids (id_of c.rows i) ≡ i
  found i r =
      past_root s.root s.others count i lengths r
      (λ (j : ℕ) (e : i ≡ suc j) (h : j < length s.others). ap (λ (x : ℕ). row_named ids (id_of c.rows x)) e ∙ ap (row_named ids) (id_of_lem j) ∙ ap suc (id_place s.others s.differ j h) ∙ sym e)

  among : (i : ℕ) → Ref count i → is_among (id_of c.rows i) ids ≡ true
  among i r =
      past_root s.root s.others count i lengths r
      (λ (j : ℕ) (e : i ≡ suc j) (h : j < length s.others). ap (λ (x : ℕ). is_among (id_of c.rows x) ids) e ∙ ap (λ (v : List ℕ). is_among v ids) (id_of_lem j) ∙ id_among s.others j h)

  known : Known c.rows ids count
  known = record { named = named; found = found }

  pub all_fit : AllOf (RowFits count) c.rows
  all_fit = subst (AllOf (RowFits count)) (sym s.rows_are) (more s.root_fits s.rows_fit)

  small : 1 + length s.others ≤ 65535
  small = let a = s.few in let b : count ≡ suc (length s.others) = lengths in omega arith

  fit : Fits 0 [] (pieces c) 1 []
  fit = pieces_fit c count named s.transitions_fit s.root s.others s.rows_are s.root_kind s.laid s.root_fits s.rows_fit small

  notes : Notes ids (pieces c) ids
  notes = pieces_noted c ids count named among s.transitions_fit s.root s.others s.rows_are s.root_kind s.laid s.root_fits s.rows_fit

  -- the tags read are those that were written
  pub written_tags : tags_of (print c) ≡ tags_at 0 (pieces c)
  unfolding tags_of
  written_tags = ap (λ (l : List ℕ). tags_from start (draft 0 48 [] 0 []) 0 l) (print_text c all_fit) ∙ text_tags fit 0 48 0 0

  -- what is written is of the grammar
  pub written_text : is_text (print c) ≡ true
  written_text = shown ∙ ap accepts (ap (run start) (print_text c all_fit) ∙ text_run fit) ∙ ended
    where
      shown : is_text (print c) ≡ accepts (run start (print c))
      shown = unfold is_text in refl

      ended : accepts (live Between 1 []) ≡ true
      ended = unfold accepts in refl

  pub written_grammar : length (print c) ≤ 32768 → in_grammar (print c) ≡ true
  unfolding in_grammar
  written_grammar h = rw (le-leb (length (print c)) 32768 h, written_text)

  ids_read : ids_of (tags_at 0 (pieces c)) ≡ ids
  ids_read = ap ids_of (sym (append-nil (tags_at 0 (pieces c)))) ∙ notes.noted 0 [] ∙ ap (λ (l : List (List ℕ)). ids ++ l) none_more ∙ append-nil ids
    where
      none_more : ids_of [] ≡ []
      none_more = unfold ids_of in refl

  -- and has no fault
  pub written_faultless : first_fault (tags_of (print c)) ≡ none
  written_faultless = ap first_fault written_tags ∙ shown ∙ ap (λ (l : List (List ℕ)). least (flat (tag_faults l) (tags_at 0 (pieces c)))) ids_read ∙ ap least (notes.faultless 0) ∙ ended
    where
      shown : first_fault (tags_at 0 (pieces c)) ≡ least (flat (tag_faults (ids_of (tags_at 0 (pieces c)))) (tags_at 0 (pieces c)))
      shown = unfold first_fault faults in refl

      ended : least [] ≡ none
      ended = unfold least in refl

  -- "Reading what was written gives an equal chart."
  pub written_content : content_of (tags_of (print c)) ≡ c
  written_content =
      ap content_of written_tags ∙ shown ∙ ap (λ (l : List (List ℕ)). content_from (facts_from l [] 0 0 (tags_at 0 (pieces c)))) ids_read ∙
      ap content_from (pieces_said c ids count known s.transitions_fit s.root s.others s.rows_are s.root_parent s.laid s.root_fits s.rows_fit 0) ∙ content_again c count all_fit s.ordered
    where
      shown : content_of (tags_at 0 (pieces c)) ≡ content_from (facts_from (ids_of (tags_at 0 (pieces c))) [] 0 0 (tags_at 0 (pieces c)))
      shown = unfold content_of in refl

-- "two documents read to equal charts exactly when they are written alike" (4.4): contents that are written alike are equal
pub written_alike : (c d : Content) → Sound c → Sound d → print c ≡ print d → c ≡ d
written_alike c d s u e = sym (written_content c s) ∙ ap (λ (t : List ℕ). content_of (tags_of t)) e ∙ written_content d u

-- "writing twice changes nothing" (4.4)
pub written_twice : (c : Content) → Sound c → print (content_of (tags_of (print c))) ≡ print c
written_twice c s = ap print (written_content c s)
