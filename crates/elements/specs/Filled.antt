-- No name of an accepted chart is empty, so a list is written exactly where it names something.
use Rattle.std.specs.Prelude.{◌≡◌, true, ℕ, zero, suc, ◌<◌, eqb, length, get_or}
use Rattle.std.proofs.Math.Path.{refl}
use Rattle.std.proofs.Common.{sym, ap, ◌∙◌, arith}
use Rattle.std.proofs.Math.Bool.{false}
use mathlib.Core.List.{List, [], ◌∷◌, ◌++◌, map}
use borrow.Author.Tests.{eqb-false, ne_eqb, not-true}
use Rattle.definition.specs.Rows.{is_empty, same}
use Rattle.definition.specs.Names.{is_name, is_descriptor, bare}
use Rattle.definition.specs.Tables.{no_number, row_count, name_count, row_cell, name_at, id_at}
use Rattle.laws.specs.Bools.{no}
use Rattle.reading.specs.Print.{id_of, spaced}
use Rattle.reading.specs.Layout.{content}
use Rattle.written.specs.Sound.{AllOf, no_more, more, Ref}
use Rattle.written.specs.AcceptedTransitions.{name_fits}
use Rattle.written.specs.AcceptedRows.{id_parts_of}
use Rattle.tables.specs.Ranges.{RowsIn, NamesIn}
use Rattle.tables.specs.Parts.{Listed}
use Rattle.spell.specs.Ready.{Ready, RowReady, id_is, id_below}
use Rattle.spell.specs.declared.lists.Items.TheVariants.{Names, Rows}
use Rattle.spell.specs.Lists.{item, ListReady}

descriptor_filled : (d : List ℕ) → is_descriptor d ≡ true → is_empty d ≡ false
unfolding is_descriptor same bare is_name is_empty
descriptor_filled [] h = absurd (no h)
descriptor_filled (b ∷ bs) h = refl

module _ (numbers names : List ℕ) (h : Ready numbers names) where
  pub name_filled : (n : ℕ) → n < name_count numbers → is_empty (name_at names n) ≡ false
  name_filled n l = descriptor_filled (name_at names n) (name_fits numbers names h.accepted n l)

  id_filled : (i : ℕ) → Ref (row_count numbers) i → is_empty (id_of (content numbers names).rows i) ≡ false
  id_filled zero r = let a = r.above in absurd (omega arith)
  id_filled (suc i) r =
      ap is_empty (id_is numbers names (suc i) row ∙ rw (ne_eqb (row_cell numbers (suc i) 2) no_number other)) ∙ name_filled (row_cell numbers (suc i) 2) (id_below numbers names (suc i) row (row_cell numbers (suc i) 2) refl other)
    where
      row : RowReady numbers names (suc i)
      row = record { ready = h; below = r.below }

      other : row_cell numbers (suc i) 2 ≡ no_number → ⊥
      other = eqb-false (row_cell numbers (suc i) 2) no_number (unfold id_at in not-true (eqb (id_at numbers (suc i)) no_number) (id_parts_of numbers names h.accepted i r.below).0)

  -- a list whose first name is not empty
  list_filled : (f : ℕ → List ℕ) (l : List ℕ) → ((k : ℕ) → k < length l → is_empty (f (get_or l k 0)) ≡ false) → is_empty (spaced (map f l)) ≡ is_empty l
  unfolding spaced is_empty
  list_filled f [] g = refl
  list_filled f (x ∷ []) g = g 0 (omega arith)
  list_filled f (x ∷ y ∷ l) g = by (f x)
    where
      by : (n : List ℕ) → is_empty (n ++ 32 ∷ spaced (f y ∷ map f l)) ≡ false
      by [] = refl
      by (b ∷ bs) = refl

  pub names_ready : (most : ℕ) (xs l : List ℕ) → Listed (NamesIn numbers) most xs l → ListReady numbers names Names l
  names_ready most xs l k =
      record {
        items = record { ready = h; inside = k.within.low };
        filled = list_filled (item numbers names Names) l (λ j b. name_filled (get_or l j 0) (k.within.low j b));
      }

  all_at : (n : ℕ) (l : List ℕ) → AllOf (Ref n) l → (k : ℕ) → k < length l → Ref n (get_or l k 0)
  all_at n [] no_more k b = absurd (omega arith)
  all_at n (x ∷ l) (more f g) zero b = f
  all_at n (x ∷ l) (more f g) (suc k) b = all_at n l g k (omega arith)

  pub rows_ready : (most : ℕ) (xs l : List ℕ) → AllOf (Ref (row_count numbers)) xs → Listed (RowsIn numbers) most xs l → ListReady numbers names Rows l
  rows_ready most xs l refs k =
      record {
        items = record { ready = h; inside = k.within.low };
        filled = list_filled (item numbers names Rows) l (λ j b. id_filled (get_or l j 0) (all_at (row_count numbers) l (rw (sym k.is) at refs) j b));
      }
