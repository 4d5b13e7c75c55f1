-- One bit of one word is set: one row more.
use Rattle.std.specs.Prelude.{◌≡◌, Bool, true, false, ◌||◌}
use Rattle.std.proofs.Math.Path.{refl, sym, ap}
use Rattle.std.proofs.Common.{◌∙◌, arith, eqb-true, eq-eqb, ne_eqb}
use Prim.Native.Nat.{ℕ, zero, suc, ◌+◌, ◌-◌, ◌*◌, ◌/◌, ◌%◌, ◌^◌, ◌≤◌, ◌<◌}
use Rattle.std.specs.Int.Bits.{bit_or}
use Rattle.std.proofs.Math.Dec.{eqb}
use Rattle.definition.specs.Rows.{insert}
use Rattle.laws.specs.Bools.{eq_case, both_ways}
use Rattle.laws.specs.Sets.{ascends_ext, ascends_insert, mem_insert}
use Rattle.rowset.specs.declared.RowSet.{RowSet}
use Rattle.rowset.specs.Member.{bit, word_of, member, rows_of}
use Rattle.rowset.specs.Bits.{bit_or_lem, bit_power, one_shl}
use Rattle.rowset.specs.Rows.{mem_rows, ascends_rows}

module _ (s t : RowSet) (q j k : ℕ) (low : j < 64) (at : k ≡ q * 64 + j) (here : word_of t q ≡ bit_or (word_of s q) (2 ^ j)) (others : (p : ℕ) → (p ≡ q → ⊥) → word_of t p ≡ word_of s p) where
  same_row : (m : ℕ) → m / 64 ≡ q → eqb (m % 64) j ≡ eqb m k
  same_row m e =
      both_ways (eqb (m % 64) j) (eqb m k) (λ h. let g : m % 64 ≡ j = eqb-true (m % 64) j h in eq-eqb m k (omega arith))
      (λ h. let g : m ≡ k = eqb-true m k h in eq-eqb (m % 64) j (omega arith))

  flip : (a b : Bool) → (a || b) ≡ (b || a)
  flip true true = refl
  flip true false = refl
  flip false true = refl
  flip false false = refl

  set_member : (m : ℕ) → member t m ≡ (eqb m k || member s m)
  unfolding member
  set_member m =
      eq_case (m / 64) q
      (λ e. ap (λ (w : ℕ). bit w (m % 64)) (ap (word_of t) e ∙ here) ∙ bit_or_lem (word_of s q) (2 ^ j) (m % 64) ∙ flip (bit (word_of s q) (m % 64)) (bit (2 ^ j) (m % 64)) ∙
      ap (λ (b : Bool). b || bit (word_of s q) (m % 64)) (bit_power j (m % 64) ∙ same_row m e) ∙ ap (λ (w : ℕ). eqb m k || bit w (m % 64)) (ap (word_of s) (sym e)))
      (λ n. ap (λ (w : ℕ). bit w (m % 64)) (others (m / 64) n) ∙ sym (ap (λ (b : Bool). b || bit (word_of s (m / 64)) (m % 64)) (ne_eqb m k (λ g. n (omega arith)))))

  set_rows : rows_of t ≡ insert k (rows_of s)
  set_rows =
      ascends_ext 0 0 (rows_of t) (insert k (rows_of s)) (ascends_rows t) (ascends_insert k (rows_of s) (ascends_rows s))
      (λ m. mem_rows t m ∙ set_member m ∙ ap (λ (b : Bool). eqb m k || b) (sym (mem_rows s m)) ∙ sym (mem_insert m k (rows_of s)))

module _ (s : RowSet) (k : ℕ) where
  pub with0 : k < 64 → rows_of (record { w0 = bit_or s.w0 ((1 * 2 ^ k) % 2 ^ 64); w1 = s.w1; w2 = s.w2; w3 = s.w3 }) ≡ insert k (rows_of s)
  unfolding word_of
  with0 h = set_rows s (record { w0 = bit_or s.w0 ((1 * 2 ^ k) % 2 ^ 64); w1 = s.w1; w2 = s.w2; w3 = s.w3 }) 0 k k h (omega arith) (ap (bit_or s.w0) (one_shl k h)) go
    where
      go : (p : ℕ) → (p ≡ 0 → ⊥) → word_of (record { w0 = bit_or s.w0 ((1 * 2 ^ k) % 2 ^ 64); w1 = s.w1; w2 = s.w2; w3 = s.w3 }) p ≡ word_of s p
      go zero n = absurd (n refl)
      go (suc zero) n = refl
      go (suc (suc zero)) n = refl
      go (suc (suc (suc zero))) n = refl
      go (suc (suc (suc (suc p)))) n = refl

  pub with1 : 64 ≤ k → k < 128 → rows_of (record { w0 = s.w0; w1 = bit_or s.w1 ((1 * 2 ^ (k - 64)) % 2 ^ 64); w2 = s.w2; w3 = s.w3 }) ≡ insert k (rows_of s)
  unfolding word_of
  with1 l h = set_rows s (record { w0 = s.w0; w1 = bit_or s.w1 ((1 * 2 ^ (k - 64)) % 2 ^ 64); w2 = s.w2; w3 = s.w3 }) 1 (k - 64) k (omega arith) (omega arith) (ap (bit_or s.w1) (one_shl (k - 64) (omega arith))) go
    where
      go : (p : ℕ) → (p ≡ 1 → ⊥) → word_of (record { w0 = s.w0; w1 = bit_or s.w1 ((1 * 2 ^ (k - 64)) % 2 ^ 64); w2 = s.w2; w3 = s.w3 }) p ≡ word_of s p
      go zero n = refl
      go (suc zero) n = absurd (n refl)
      go (suc (suc zero)) n = refl
      go (suc (suc (suc zero))) n = refl
      go (suc (suc (suc (suc p)))) n = refl

  pub with2 : 128 ≤ k → k < 192 → rows_of (record { w0 = s.w0; w1 = s.w1; w2 = bit_or s.w2 ((1 * 2 ^ (k - 128)) % 2 ^ 64); w3 = s.w3 }) ≡ insert k (rows_of s)
  unfolding word_of
  with2 l h = set_rows s (record { w0 = s.w0; w1 = s.w1; w2 = bit_or s.w2 ((1 * 2 ^ (k - 128)) % 2 ^ 64); w3 = s.w3 }) 2 (k - 128) k (omega arith) (omega arith) (ap (bit_or s.w2) (one_shl (k - 128) (omega arith))) go
    where
      go : (p : ℕ) → (p ≡ 2 → ⊥) → word_of (record { w0 = s.w0; w1 = s.w1; w2 = bit_or s.w2 ((1 * 2 ^ (k - 128)) % 2 ^ 64); w3 = s.w3 }) p ≡ word_of s p
      go zero n = refl
      go (suc zero) n = refl
      go (suc (suc zero)) n = absurd (n refl)
      go (suc (suc (suc zero))) n = refl
      go (suc (suc (suc (suc p)))) n = refl

  pub with3 : 192 ≤ k → k < 256 → rows_of (record { w0 = s.w0; w1 = s.w1; w2 = s.w2; w3 = bit_or s.w3 ((1 * 2 ^ (k - 192)) % 2 ^ 64) }) ≡ insert k (rows_of s)
  unfolding word_of
  with3 l h = set_rows s (record { w0 = s.w0; w1 = s.w1; w2 = s.w2; w3 = bit_or s.w3 ((1 * 2 ^ (k - 192)) % 2 ^ 64) }) 3 (k - 192) k (omega arith) (omega arith) (ap (bit_or s.w3) (one_shl (k - 192) (omega arith))) go
    where
      go : (p : ℕ) → (p ≡ 3 → ⊥) → word_of (record { w0 = s.w0; w1 = s.w1; w2 = s.w2; w3 = bit_or s.w3 ((1 * 2 ^ (k - 192)) % 2 ^ 64) }) p ≡ word_of s p
      go zero n = refl
      go (suc zero) n = refl
      go (suc (suc zero)) n = refl
      go (suc (suc (suc zero))) n = absurd (n refl)
      go (suc (suc (suc (suc p)))) n = refl
