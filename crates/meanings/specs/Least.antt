-- "12 with the byte offset of the first fault" (1.7): a fault stands there, and none before it.
use Rattle.std.specs.Prelude.{◌≡◌, refl, Bool, true, false, cond, List, [], ◌∷◌, ℕ, ◌≤◌, leb}
use Rattle.std.proofs.Common.{sym, ap, subst, ◌∙◌, arith, leb-true, leb-false}
use Rattle.std.proofs.Math.Option.{Option, none, some}
use Rattle.definition.specs.Rows.{mem}
use Rattle.laws.specs.Bools.{no}
use Rattle.laws.specs.Sets.{mem_head}
use Rattle.laws.specs.Lists.{mem_cases, mem_tail}
use Rattle.reading.specs.Tags.{Markup}
use Rattle.reading.specs.Faults.{faults, smaller, least, first_fault}

-- a is one of the numbers, and none is smaller
pub record IsLeast (xs : List ℕ) (a : ℕ) : Type 0 where
  pub stands : mem a xs ≡ true
  pub first : (b : ℕ) → mem b xs ≡ true → a ≤ b

none_in : (b : ℕ) → mem b [] ≡ true → ⊥
unfolding mem
none_in b h = no h

abbrev Found : List ℕ → Option ℕ → Type 0
Found xs none = xs ≡ []
Found xs (some a) = IsLeast xs a

found : (xs : List ℕ) → Found xs (least xs)
unfolding least
found [] = refl
found (x ∷ xs) = by (least xs) (found xs)
  where
    alone : xs ≡ [] → IsLeast (x ∷ xs) x
    alone e = record { stands = mem_head x xs; first = λ b h. subst (λ (ys : List ℕ). mem b (x ∷ ys) ≡ true → x ≤ b) (sym e) (single b) h }
      where
        single : (b : ℕ) → mem b (x ∷ []) ≡ true → x ≤ b
        single b h = mem_cases b x [] (λ e. omega arith) (λ g. absurd (none_in b g)) h

    both : (a : ℕ) → IsLeast xs a → (z : Bool) → leb x a ≡ z → IsLeast (x ∷ xs) (cond z x a)
    both a l true q = let m = leb-true x a q in record { stands = mem_head x xs; first = λ b h. mem_cases b x xs (λ e. omega arith) (λ g. let k = l.first b g in omega arith) h }
    both a l false q =
        let m = leb-false x a q in
        record { stands = mem_tail x a xs l.stands; first = λ b h. mem_cases b x xs (λ e. omega arith) (λ g. l.first b g) h }

    by : (o : Option ℕ) → Found xs o → IsLeast (x ∷ xs) (smaller x o)
    by none e = alone e
    by (some a) l = both a l (leb x a) refl

-- a text of the grammar in which no first fault is found has none
pub first_none : (ts : List Markup) → first_fault ts ≡ none → faults ts ≡ []
unfolding first_fault
first_none ts e = subst (Found (faults ts)) e (found (faults ts))

pub first_least : (ts : List Markup) (at : ℕ) → first_fault ts ≡ some at → IsLeast (faults ts) at
unfolding first_fault
first_least ts at e = subst (Found (faults ts)) e (found (faults ts))
