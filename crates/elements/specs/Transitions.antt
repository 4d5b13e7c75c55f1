-- A transition, attribute by attribute.
use Rattle.std.specs.Prelude.{◌≡◌, Bool, true, false, not, cond, List, [], ◌∷◌, ◌++◌, map, ℕ, ◌<◌}
use Rattle.std.proofs.Math.Path.{refl, sym}
use Rattle.std.proofs.Common.{ap, ap₂, ◌∙◌, append_assoc, append-nil, arith, eq-eqb, ne_eqb}
use Rattle.std.proofs.lemmas.Bool.{not-true, not-false}
use Rattle.definition.specs.Tables.{no_number, most_targets, most_descriptors, row_count, transition_count, transition_cell, events_at, targets_at, condition_at, internal_at}
use Rattle.tables.specs.Ranges.{TransitionIn, RowsIn, NamesIn, transition_fits_lem, condition_below}
use Rattle.tables.specs.Parts.{Listed}
use Rattle.reading.specs.Faults.{internal}
use Rattle.reading.specs.Layout.{content, acts_at, transition_back}
use Rattle.reading.specs.Print.{quoted, spaced, given, condition, condition_text, block_text, transition_text}
use Rattle.written.specs.Sound.{AllOf, Ref}
use Rattle.written.specs.AcceptedTransitions as accepted
use Rattle.spell.specs.Laid.{Laid, laid_as, laid_none, laid_then}
use Rattle.spell.specs.Ready.{Ready, RowReady}
use Rattle.spell.specs.declared.lists.Items.TheVariants.{Names, Rows}
use Rattle.spell.specs.Lists.{item, ListReady}
use Rattle.spell.specs.Blocks.{BlockReady, closing}
use Rattle.elements.specs.Filled.{names_ready, rows_ready}

pub record TransitionReady (numbers names : List ℕ) (t : ℕ) : Type 0 where
  pub ready : Ready numbers names
  pub below : t < transition_count numbers

abbrev pub type_text : Bool → List ℕ
type_text b = cond b ((32 ∷ 116 ∷ 121 ∷ 112 ∷ 101 ∷ 61 ∷ []) ++ quoted internal) []

-- the lists and the block, as far as they are written
abbrev pub word : List ℕ
word = 116 ∷ 114 ∷ 97 ∷ 110 ∷ 115 ∷ 105 ∷ 116 ∷ 105 ∷ 111 ∷ 110 ∷ []

abbrev pub event_word : List ℕ
event_word = 32 ∷ 101 ∷ 118 ∷ 101 ∷ 110 ∷ 116 ∷ 61 ∷ []

abbrev pub target_word : List ℕ
target_word = 32 ∷ 116 ∷ 97 ∷ 114 ∷ 103 ∷ 101 ∷ 116 ∷ 61 ∷ []

abbrev pub event_text : List ℕ → List ℕ → ℕ → List ℕ
event_text numbers names t = given event_word (spaced (map (item numbers names Names) (events_at numbers t)))

abbrev pub target_text : List ℕ → List ℕ → ℕ → List ℕ
target_text numbers names t = given target_word (spaced (map (item numbers names Rows) (targets_at numbers t)))

abbrev pub rest_text : List ℕ → List ℕ → ℕ → List ℕ
rest_text numbers names t = closing word (block_text (content numbers names).rows (acts_at numbers names (transition_cell numbers t 7) (transition_cell numbers t 8)))

module _ (b is : Bool) (e : b ≡ is) where
  pub type_none : not b ≡ true → {out : List ℕ} {at : ℕ} → Laid (type_text is) out at out at
  type_none q = laid_as (ap type_text (sym e ∙ not-true b q)) laid_none

  pub type_some : not b ≡ false → {place out : List ℕ} {from at : ℕ} → Laid (type_text true) place from out at → Laid (type_text is) place from out at
  type_some q l = laid_as (ap type_text (sym e ∙ not-false b q)) l

module _ (numbers names : List ℕ) (t : ℕ) (h : TransitionReady numbers names t) where
  pub transition_in_lem : TransitionIn numbers t
  transition_in_lem = record { tables = h.ready.tables; below = h.below }

  -- ---- the condition

  module _ (i : ℕ) (e : i ≡ transition_cell numbers t 3) where
    pub test_none : i ≡ no_number → {out : List ℕ} {at : ℕ} → Laid (condition_text (content numbers names).rows (condition_at numbers t)) out at out at
    unfolding condition_at
    test_none q = laid_as (rw (eq-eqb (transition_cell numbers t 3) no_number (sym e ∙ q))) laid_none

    pub test_row : (i ≡ no_number → ⊥) → RowReady numbers names i
    test_row d = record { ready = h.ready; below = condition_below numbers t i transition_in_lem e d }

    pub test_some : (i ≡ no_number → ⊥) → {place out : List ℕ} {from at : ℕ} → Laid ([] ++ condition (content numbers names).rows i ++ []) place from out at →
        Laid (condition_text (content numbers names).rows (condition_at numbers t)) place from out at
    unfolding condition_at
    test_some d l =
        laid_as (rw (ne_eqb (transition_cell numbers t 3) no_number (λ q. d (e ∙ q)), sym e) (sym (append-nil (condition (content numbers names).rows i)))) l

  -- ---- the lists and the block

  pub events_ready : (l : List ℕ) → Listed (NamesIn numbers) most_descriptors (events_at numbers t) l → ListReady numbers names Names l
  events_ready l k = names_ready numbers names h.ready most_descriptors (events_at numbers t) l k

  refs : AllOf (Ref (row_count numbers)) (targets_at numbers t)
  unfolding targets_at transition_back
  refs = (accepted.transition_fits_lem numbers names h.ready.accepted t h.below).targets

  pub targets_ready : (l : List ℕ) → Listed (RowsIn numbers) most_targets (targets_at numbers t) l → ListReady numbers names Rows l
  targets_ready l k = rows_ready numbers names h.ready most_targets (targets_at numbers t) l refs k

  pub block_ready : (start count : ℕ) → start ≡ transition_cell numbers t 7 → count ≡ transition_cell numbers t 8 → BlockReady numbers names start count
  block_ready start count s c = let f = (transition_fits_lem numbers t transition_in_lem).block.inside in record { ready = h.ready; inside = omega arith }

  pub events_laid : (l : List ℕ) → Listed (NamesIn numbers) most_descriptors (events_at numbers t) l → {place out : List ℕ} {from at : ℕ} →
      Laid (given event_word (spaced (map (item numbers names Names) l))) place from out at → Laid (event_text numbers names t) place from out at
  events_laid l k p = laid_as (ap (λ (x : List ℕ). given event_word (spaced (map (item numbers names Names) x))) (sym k.is)) p

  pub targets_laid : (l : List ℕ) → Listed (RowsIn numbers) most_targets (targets_at numbers t) l → {place out : List ℕ} {from at : ℕ} →
      Laid (given target_word (spaced (map (item numbers names Rows) l))) place from out at → Laid (target_text numbers names t) place from out at
  targets_laid l k p = laid_as (ap (λ (x : List ℕ). given target_word (spaced (map (item numbers names Rows) x))) (sym k.is)) p

  pub rest_laid : (start count : ℕ) → start ≡ transition_cell numbers t 7 → count ≡ transition_cell numbers t 8 → {place out : List ℕ} {from at : ℕ} →
      Laid (closing word (block_text (content numbers names).rows (acts_at numbers names start count))) place from out at → Laid (rest_text numbers names t) place from out at
  rest_laid start count s c p =
      laid_as (ap₂ (λ (x y : ℕ). closing word (block_text (content numbers names).rows (acts_at numbers names x y))) (sym s) (sym c)) p

-- ---- all of it

module _ (numbers names : List ℕ) (t : ℕ) where
  shape : transition_text (content numbers names).rows (transition_back numbers names t) ≡
      ((60 ∷ []) ++ word) ++ (type_text (internal_at numbers t) ++ event_text numbers names t ++ condition_text (content numbers names).rows (condition_at numbers t) ++ target_text numbers names t) ++ rest_text numbers names t
  unfolding transition_text transition_back events_at targets_at condition_at internal_at
  shape = refl

  regroup : (a b c d e f : List ℕ) → a ++ (b ++ c ++ d ++ e) ++ f ≡ a ++ b ++ c ++ d ++ e ++ f
  regroup a b c d e f = simp append_assoc

  pub transition_laid : {place o1 o2 o3 o4 o5 out : List ℕ} {from a1 a2 a3 a4 a5 at : ℕ} →
      Laid (60 ∷ word) place from o1 a1 → Laid (type_text (internal_at numbers t)) o1 a1 o2 a2 → Laid (event_text numbers names t) o2 a2 o3 a3 →
      Laid (condition_text (content numbers names).rows (condition_at numbers t)) o3 a3 o4 a4 → Laid (target_text numbers names t) o4 a4 o5 a5 → Laid (rest_text numbers names t) o5 a5 out at →
      Laid (transition_text (content numbers names).rows (transition_back numbers names t)) place from out at
  transition_laid p q r u v w =
      laid_as
      (shape ∙ regroup ((60 ∷ []) ++ word) (type_text (internal_at numbers t)) (event_text numbers names t) (condition_text (content numbers names).rows (condition_at numbers t)) (target_text numbers names t) (rest_text numbers names t))
      (laid_then (laid_then (laid_then (laid_then (laid_then p q) r) u) v) w)
