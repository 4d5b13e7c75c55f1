-- A text without faults: each value that a tag states exists.
use Rattle.std.proofs.Math.Path.{◌≡◌, refl}
use Rattle.std.proofs.Common.{arith, eqb-true}
use Rattle.std.specs.Prelude.{Bool, not, ◌&&◌, ◌||◌, cond, ℕ}
use Rattle.std.proofs.Math.Bool.{true, false}
use mathlib.Core.List.{List, [], ◌∷◌, ◌++◌}
use Rattle.std.proofs.Math.Option.{none}
use Rattle.std.proofs.Math.Dec.{eqb}
use Rattle.definition.specs.Rows.{flat}
use Rattle.reading.specs.Tags.{Part, Markup}
use Rattle.reading.specs.Faults.{fault_if, is_closing, is_row_tag, id_word, label_word, delay_word, cond_word, states, value_of, plain, is_decimal, is_condition, condition_fault, ids_of, part_faults, tag_faults, faults, least, first_fault}

left_nil : (xs ys : List ℕ) → xs ++ ys ≡ [] → xs ≡ []
left_nil [] ys e = refl
left_nil (x ∷ xs) ys e = absurd (let z : ◌≡◌ {A = ℕ} 0 1 = cc in omega arith)

right_nil : (xs ys : List ℕ) → xs ++ ys ≡ [] → ys ≡ []
right_nil [] ys e = e
right_nil (x ∷ xs) ys e = absurd (let z : ◌≡◌ {A = ℕ} 0 1 = cc in omega arith)

-- no tag has a fault
pub clean_text : (ts : List Markup) → first_fault ts ≡ none → flat (tag_faults (ids_of ts)) ts ≡ []
unfolding first_fault faults
clean_text ts e = by (flat (tag_faults (ids_of ts)) ts) e
  where
    by : (xs : List ℕ) → least xs ≡ none → xs ≡ []
    by [] q = refl
    by (x ∷ xs) q = absurd (let z : ◌≡◌ {A = ℕ} 0 1 = unfold least in cc in omega arith)

module _ (ids : List (List ℕ)) where
  abbrev missing : Markup → List ℕ
  missing t = fault_if (not (is_closing t.shape) && is_row_tag t.element && not (states id_word t.parts)) t.at

  pub clean_parts : (t : Markup) (ts : List Markup) → flat (tag_faults ids) (t ∷ ts) ≡ [] → flat (part_faults ids) t.parts ≡ []
  unfolding flat tag_faults
  clean_parts t ts e = right_nil (missing t) (flat (part_faults ids) t.parts) (left_nil (tag_faults ids t) (flat (tag_faults ids) ts) e)

  pub clean_rest : (t : Markup) (ts : List Markup) → flat (tag_faults ids) (t ∷ ts) ≡ [] → flat (tag_faults ids) ts ≡ []
  unfolding flat
  clean_rest t ts e = right_nil (tag_faults ids t) (flat (tag_faults ids) ts) e

  -- what holds of the first part of a word holds of the value
  first_part : (w : ℕ) (Q : List ℕ → Type 0) → ((p : Part) → p.word ≡ w → part_faults ids p ≡ [] → Q p.bytes) → (ps : List Part) → flat (part_faults ids) ps ≡ [] → states w ps ≡ true → Q (value_of w ps)
  unfolding flat states value_of
  first_part w Q f [] e s = absurd (let z : ◌≡◌ {A = ℕ} 0 1 = cc in omega arith)
  first_part w Q f (p ∷ ps) e s =
      by (eqb p.word w) refl s (first_part w Q f ps (right_nil (part_faults ids p) (flat (part_faults ids) ps) e)) (left_nil (part_faults ids p) (flat (part_faults ids) ps) e)
    where
      by : (z : Bool) → eqb p.word w ≡ z → (z || states w ps) ≡ true → (states w ps ≡ true → Q (value_of w ps)) → part_faults ids p ≡ [] → Q (cond z p.bytes (value_of w ps))
      by true q h g k = f p (eqb-true p.word w q) k
      by false q h g k = g h

  no_fault : (b : Bool) (at : ℕ) → fault_if (not b) at ≡ [] → b ≡ true
  no_fault true at e = refl
  no_fault false at e = absurd (let z : ◌≡◌ {A = ℕ} 0 1 = cc in omega arith)

  label_fault : (p : Part) → p.word ≡ label_word → part_faults ids p ≡ [] → fault_if (not (is_decimal 65535 (plain p.bytes))) p.from ≡ []
  unfolding part_faults
  label_fault p q e = rw q at e

  delay_fault : (p : Part) → p.word ≡ delay_word → part_faults ids p ≡ [] → fault_if (not (is_decimal 4294967295 (plain p.bytes))) p.from ≡ []
  unfolding part_faults
  delay_fault p q e = rw q at e

  cond_fault : (p : Part) → p.word ≡ cond_word → part_faults ids p ≡ [] → condition_fault ids p.from p.bytes ≡ []
  unfolding part_faults
  cond_fault p q e = rw q at e

  pub clean_label : (ps : List Part) → flat (part_faults ids) ps ≡ [] → states label_word ps ≡ true → is_decimal 65535 (plain (value_of label_word ps)) ≡ true
  clean_label = first_part label_word (λ (v : List ℕ). is_decimal 65535 (plain v) ≡ true) label
    where
      label : (p : Part) → p.word ≡ label_word → part_faults ids p ≡ [] → is_decimal 65535 (plain p.bytes) ≡ true
      label p q e = no_fault (is_decimal 65535 (plain p.bytes)) p.from (label_fault p q e)

  pub clean_delay : (ps : List Part) → flat (part_faults ids) ps ≡ [] → states delay_word ps ≡ true → is_decimal 4294967295 (plain (value_of delay_word ps)) ≡ true
  clean_delay = first_part delay_word (λ (v : List ℕ). is_decimal 4294967295 (plain v) ≡ true) (λ p q e. no_fault (is_decimal 4294967295 (plain p.bytes)) p.from (delay_fault p q e))

  pub clean_cond : (ps : List Part) → flat (part_faults ids) ps ≡ [] → states cond_word ps ≡ true → is_condition (value_of cond_word ps) ≡ true
  clean_cond = first_part cond_word (λ (v : List ℕ). is_condition v ≡ true) (λ p q e. by p (is_condition p.bytes) refl (cond_fault p q e))
    where
      by : (p : Part) (z : Bool) → is_condition p.bytes ≡ z → condition_fault ids p.from p.bytes ≡ [] → is_condition p.bytes ≡ true
      by p true q e = q
      by p false q e = absurd (let k = rw q at e in let z : ◌≡◌ {A = ℕ} 0 1 = cc in omega arith)
