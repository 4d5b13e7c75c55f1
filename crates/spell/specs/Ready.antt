-- What the rules let one read of an accepted chart's tables to write it: names and rows by their numbers.
use Rattle.std.specs.Prelude.{◌≡◌, cond, List, [], ◌∷◌, ◌++◌, map, ℕ, zero, suc, ◌+◌, ◌<◌, eqb, length}
use Rattle.std.proofs.Common.{sym, ◌∙◌, append_assoc, eq-eqb, ne_eqb}
use Rattle.std.proofs.Math.Path.{ap}
use native.Mathlib.Omega.{arith}
use Rattle.definition.specs.declared.Answer.TheVariants.{Done}
use Rattle.definition.specs.Rows.{from}
use Rattle.definition.specs.Names.{before_zero}
use Rattle.definition.specs.Tables.{no_number, row_count, name_count, row_cell, name_at}
use Rattle.definition.specs.Rules.{compiled_size, keeps_rules, optional_below}
use Rattle.accepted.specs.Sound.{accepted_rule1}
use Rattle.tables.specs.Ranges.{InTables, SlotsIn, SlotIn, rule1_tables, rule1_slots, slot_in_lem, row_fits, optional_below_lem}
use Rattle.tables.specs.Parts.{SlotOf}
use Rattle.reading.specs.Content.{Row}
use Rattle.reading.specs.Layout.{row_back, content}
use Rattle.reading.specs.Print.{id_of, condition}
use Rattle.spell.specs.Laid.{Laid, laid_as, laid_none, laid_five}

pub record Ready (numbers names : List ℕ) : Type 0 where
  pub accepted : keeps_rules numbers names ≡ Done
  pub tables : InTables numbers
  pub slots : SlotsIn numbers names

pub record RowReady (numbers names : List ℕ) (i : ℕ) : Type 0 where
  pub ready : Ready numbers names
  pub below : i < row_count numbers

pub record NameReady (names : List ℕ) (n : ℕ) : Type 0 where
  pub slot : SlotIn names n
  pub small : n < 65536

-- an accepted chart can be written
pub ready : (numbers names : List ℕ) → keeps_rules numbers names ≡ Done → Ready numbers names
ready numbers names h =
    record {
      accepted = h;
      tables = rule1_tables numbers names (compiled_size numbers) (length names) (accepted_rule1 numbers names h);
      slots = rule1_slots numbers names (compiled_size numbers) (length names) (accepted_rule1 numbers names h);
    }

module _ (numbers names : List ℕ) (h : Ready numbers names) where
  pub name_ready : (n : ℕ) → n < name_count numbers → NameReady names n
  name_ready n l = let c = h.tables.sized.counts.names in record { slot = slot_in_lem numbers names n h.slots l; small = omega arith }

-- a name from its slot
pub name_laid : (names : List ℕ) (n : ℕ) (slot part : List ℕ) → SlotOf names n slot → part ≡ before_zero slot → {place out : List ℕ} {from at : ℕ} → Laid part place from out at → Laid (name_at names n) place from out at
unfolding name_at
name_laid names n slot part s e l = laid_as (ap before_zero (sym s.is) ∙ sym e) l

-- ---- the id of a row

id_at_lem : (f : ℕ → Row) (k i j : ℕ) → j < k → id_of (map f (from k i)) j ≡ (f (i + j)).id
unfolding from id_of
id_at_lem f zero i j l = absurd (omega arith)
id_at_lem f (suc k) i zero l = ap (λ (x : ℕ). (f x).id) (plus i)
  where
    plus : (a : ℕ) → a ≡ a + 0
    plus a = omega arith
id_at_lem f (suc k) i (suc j) l = id_at_lem f k (suc i) j (omega arith) ∙ ap (λ (x : ℕ). (f x).id) (shift i j)
  where
    shift : (a b : ℕ) → suc a + b ≡ a + suc b
    shift a b = omega arith

module _ (numbers names : List ℕ) (i : ℕ) (h : RowReady numbers names i) where
  pub id_is : id_of (content numbers names).rows i ≡ cond (eqb (row_cell numbers i 2) no_number) [] (name_at names (row_cell numbers i 2))
  unfolding content row_back
  id_is = id_at_lem (row_back numbers names) (row_count numbers) 0 i h.below ∙ ap (λ (x : ℕ). (row_back numbers names x).id) (zero_more i)
    where
      zero_more : (k : ℕ) → 0 + k ≡ k
      zero_more k = omega arith

  module _ (n : ℕ) (e : n ≡ row_cell numbers i 2) where
    pub id_none : n ≡ no_number → {out : List ℕ} {at : ℕ} → Laid (id_of (content numbers names).rows i) out at out at
    id_none q = laid_as (id_is ∙ rw (eq-eqb (row_cell numbers i 2) no_number (sym e ∙ q))) laid_none

    pub id_below : (n ≡ no_number → ⊥) → n < name_count numbers
    id_below d = optional_below_lem (name_count numbers) n (ap (λ (x : ℕ). optional_below (name_count numbers) x) e ∙ (row_fits numbers i (record { tables = h.ready.tables; below = h.below })).id) d

    pub id_ready : (n ≡ no_number → ⊥) → NameReady names n
    id_ready d = name_ready numbers names h.ready n (id_below d)

    pub id_laid : (n ≡ no_number → ⊥) → {place out : List ℕ} {from at : ℕ} → Laid (name_at names n) place from out at → Laid (id_of (content numbers names).rows i) place from out at
    id_laid d l = laid_as (id_is ∙ rw (ne_eqb (row_cell numbers i 2) no_number (λ q. d (e ∙ q))) (ap (name_at names) (sym e))) l

-- ---- a condition

pub condition_laid : (rs : List Row) (i : ℕ) (before behind : List ℕ) {place o1 o2 o3 o4 out : List ℕ} {from a1 a2 a3 a4 at : ℕ} → Laid before place from o1 a1 → Laid (32 ∷ 99 ∷ 111 ∷ 110 ∷ 100 ∷ 61 ∷ 34 ∷ 73 ∷ 110 ∷ 40 ∷ 39 ∷ []) o1 a1 o2 a2 →
    Laid (id_of rs i) o2 a2 o3 a3 → Laid (39 ∷ 41 ∷ 34 ∷ []) o3 a3 o4 a4 → Laid behind o4 a4 out at → Laid (before ++ condition rs i ++ behind) place from out at
condition_laid rs i before behind p q r s t = laid_five p q r s t _ (simp append_assoc)
