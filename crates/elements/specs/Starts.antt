-- The start tag of a row.
use Rattle.std.specs.Prelude.{◌≡◌, refl, Bool, true, false, not, cond, List, [], ◌∷◌, ◌++◌, ℕ, zero, suc, ◌≤◌, eqb}
use Rattle.std.proofs.Math.Path.{sym}
use Rattle.std.proofs.Common.{ap, ◌∙◌, append_assoc, arith, eq-eqb, ne_eqb}
use Rattle.std.proofs.lemmas.Bool.{not-true, not-false}
use Rattle.definition.specs.declared.Kind.{Kind}
use Rattle.definition.specs.declared.Kind.TheVariants.{Root, State, Parallel, Final, Shallow, Deep}
use Rattle.definition.specs.Chart.{kind_no, is_root}
use Rattle.definition.specs.Rows.{is_empty}
use Rattle.definition.specs.Tables.{no_number, kind_of, kind_at, row_cell, name_at}
use Rattle.tables.specs.Ranges.{row_fits}
use Rattle.reading.specs.Faults.{deep}
use Rattle.reading.specs.Content.{Row}
use Rattle.reading.specs.Layout.{content, row_back}
use Rattle.reading.specs.Print.{quoted, given, kind_name, initial_text, attributes_of}
use Rattle.spell.specs.Laid.{Laid, laid_as, laid_none, laid_then}
use Rattle.spell.specs.Ready.{RowReady, id_below}
use Rattle.elements.specs.Filled.{name_filled}

abbrev pub root_text : ℕ → List ℕ
root_text k = cond (eqb k 0) (32 ∷ 120 ∷ 109 ∷ 108 ∷ 110 ∷ 115 ∷ 61 ∷ 34 ∷ 104 ∷ 116 ∷ 116 ∷ 112 ∷ 58 ∷ 47 ∷ 47 ∷ 119 ∷ 119 ∷ 119 ∷ 46 ∷ 119 ∷ 51 ∷ 46 ∷ 111 ∷ 114 ∷ 103 ∷ 47 ∷ 50 ∷ 48 ∷ 48 ∷ 53 ∷ 47 ∷ 48 ∷ 55 ∷ 47 ∷ 115 ∷ 99 ∷ 120 ∷ 109 ∷ 108 ∷ 34 ∷ 32 ∷ 118 ∷ 101 ∷ 114 ∷ 115 ∷ 105 ∷ 111 ∷ 110 ∷ 61 ∷ 34 ∷ 49 ∷ 46 ∷ 48 ∷ 34 ∷ []) []

abbrev pub deep_text : ℕ → List ℕ
deep_text k = cond (eqb k 5) ((32 ∷ 116 ∷ 121 ∷ 112 ∷ 101 ∷ 61 ∷ []) ++ quoted deep) []

abbrev pub id_text : Row → List ℕ
id_text r = given (32 ∷ 105 ∷ 100 ∷ 61 ∷ []) r.id

-- without its end
abbrev pub start_text : List Row → Row → List ℕ
start_text rs r = 60 ∷ (kind_name r.kind ++ attributes_of rs r)

-- ---- kinds

-- the kind of a cell has the cell's number, or both are past the last
pub kind_name_of : (n : ℕ) → kind_name (kind_no (kind_of n)) ≡ kind_name n
kind_name_of zero = refl
kind_name_of (suc zero) = refl
kind_name_of (suc (suc zero)) = refl
kind_name_of (suc (suc (suc zero))) = refl
kind_name_of (suc (suc (suc (suc zero)))) = refl
kind_name_of (suc (suc (suc (suc (suc n))))) = refl

kind_no_of : (n : ℕ) → n ≤ 5 → kind_no (kind_of n) ≡ n
kind_no_of zero h = refl
kind_no_of (suc zero) h = refl
kind_no_of (suc (suc zero)) h = refl
kind_no_of (suc (suc (suc zero))) h = refl
kind_no_of (suc (suc (suc (suc zero)))) h = refl
kind_no_of (suc (suc (suc (suc (suc zero))))) h = refl
kind_no_of (suc (suc (suc (suc (suc (suc n)))))) h = absurd (omega arith)

module _ (k : Kind) where
  module _ (b : Bool) (e : b ≡ is_root k) where
    pub root_none : not b ≡ true → {out : List ℕ} {at : ℕ} → Laid (root_text (kind_no k)) out at out at
    root_none q = laid_as (rw (sym e ∙ not-true b q)) laid_none

    pub root_some : not b ≡ false → {place out : List ℕ} {from at : ℕ} → Laid (root_text 0) place from out at → Laid (root_text (kind_no k)) place from out at
    root_some q l = laid_as (rw (sym e ∙ not-false b q)) l

pub deep_none : (k : Kind) → (k ≡ Deep → ⊥) → {out : List ℕ} {at : ℕ} → Laid (deep_text (kind_no k)) out at out at
deep_none Root d = laid_none
deep_none State d = laid_none
deep_none Parallel d = laid_none
deep_none Final d = laid_none
deep_none Shallow d = laid_none
deep_none Deep d = absurd (d refl)

module _ (numbers names : List ℕ) (i : ℕ) (h : RowReady numbers names i) where
  module _ (n : ℕ) (e : n ≡ row_cell numbers i 2) where
    pub row_id_none : n ≡ no_number → {out : List ℕ} {at : ℕ} → Laid (id_text (row_back numbers names i)) out at out at
    unfolding row_back is_empty
    row_id_none q = laid_as (rw (eq-eqb (row_cell numbers i 2) no_number (sym e ∙ q))) laid_none

    pub row_id_some : (n ≡ no_number → ⊥) → {place a b out : List ℕ} {from j k at : ℕ} → Laid (32 ∷ 105 ∷ 100 ∷ 61 ∷ 34 ∷ []) place from a j → Laid (name_at names n) a j b k → Laid (34 ∷ []) b k out at →
        Laid (id_text (row_back numbers names i)) place from out at
    row_id_some d p q r = laid_as (ap (given (32 ∷ 105 ∷ 100 ∷ 61 ∷ [])) named ∙ rw (name_filled numbers names h.ready n (id_below numbers names i h n e d))) (laid_then (laid_then p q) r)
      where
        named : (row_back numbers names i).id ≡ name_at names n
        named = unfold row_back in rw (ne_eqb (row_cell numbers i 2) no_number (λ q. d (e ∙ q))) (ap (name_at names) (sym e))

  regroup : (a b c d e : List ℕ) → 60 ∷ (a ++ (b ++ c ++ d ++ e)) ≡ (60 ∷ []) ++ a ++ b ++ c ++ d ++ e
  regroup a b c d e = simp append_assoc

  pub start_laid : (k : Kind) → k ≡ kind_at numbers i → {place o1 o2 o3 o4 o5 out : List ℕ} {from a1 a2 a3 a4 a5 at : ℕ} → Laid (60 ∷ []) place from o1 a1 → Laid (kind_name (kind_no k)) o1 a1 o2 a2 → Laid (root_text (kind_no k)) o2 a2 o3 a3 →
      Laid (id_text (row_back numbers names i)) o3 a3 o4 a4 → Laid (initial_text (content numbers names).rows (row_back numbers names i)) o4 a4 o5 a5 → Laid (deep_text (kind_no k)) o5 a5 out at →
      Laid (start_text (content numbers names).rows (row_back numbers names i)) place from out at
  start_laid k e p q r s t u =
      laid_as (regroup (kind_name (row_back numbers names i).kind) (root_text (row_back numbers names i).kind) _ _ (deep_text (row_back numbers names i).kind))
      (laid_then (laid_then (laid_then (laid_then (laid_then p (laid_as (ap kind_name here) q)) (laid_as (ap root_text here) r)) s) t) (laid_as (ap deep_text here) u))
    where
      here : (row_back numbers names i).kind ≡ kind_no k
      here = unfold row_back kind_at in sym (ap kind_no e ∙ kind_no_of (row_cell numbers i 0) (row_fits numbers i (record { tables = h.ready.tables; below = h.below })).kind)
