-- The keys of what a tag says.
use Rattle.std.specs.Prelude.{◌≡◌, refl, Bool, cond, List, ℕ, zero, suc, ◌+◌, ◌*◌, ◌-◌, ◌≤◌, ◌<◌, ltb, length, get_or}
use Rattle.std.proofs.Common.{sym, ap, ◌∙◌, arith, lt-ltb, le-ltb}
use Rattle.std.proofs.Math.ListN.{get_or-eq_default}
use Rattle.facts.specs.declared.Said.{Said}
use Rattle.facts.specs.declared.Said.TheVariants.{Nothing, Row, List as ListOf, Transition, Action}
use Rattle.items.specs.Items.{list_key, element_key, target_key, descriptor_key, row_block_key, block_key, bin_count, key_of_block}
use Rattle.walks.specs.declared.sources.Counts.{Counts}
use Rattle.walks.specs.declared.keys.Keys.{Keys}

-- how many rows and transitions there can be
pub record Few (n t : ℕ) : Type 0 where
  pub rows : n ≤ 32768
  pub transitions : t ≤ 32768

pub rank_none : (ranks : List ℕ) (m : ℕ) → length ranks ≤ m → 0 ≡ get_or ranks m 0
rank_none ranks m h = sym (get_or-eq_default ranks 0 h)

module _ (n t : ℕ) where
  pub list_here : (i : ℕ) → i < n → i * 2 ≡ cond (ltb i n) (list_key i) (bin_count n t)
  list_here i h = ap (λ (z : Bool). cond z (list_key i) (bin_count n t)) (sym (lt-ltb i n h))

  pub list_none : (i r : ℕ) → n ≤ i → r ≡ bin_count n t → r ≡ cond (ltb i n) (list_key i) (bin_count n t)
  list_none i r h q = q ∙ ap (λ (z : Bool). cond z (list_key i) (bin_count n t)) (sym (le-ltb i n h))

  pub element_here : (i : ℕ) → i < n → i * 2 + 1 ≡ cond (ltb i n) (element_key i) (bin_count n t)
  element_here i h = ap (λ (z : Bool). cond z (element_key i) (bin_count n t)) (sym (lt-ltb i n h))

  pub element_none : (i r : ℕ) → n ≤ i → r ≡ bin_count n t → r ≡ cond (ltb i n) (element_key i) (bin_count n t)
  element_none i r h q = q ∙ ap (λ (z : Bool). cond z (element_key i) (bin_count n t)) (sym (le-ltb i n h))

  pub target_here : (r : ℕ) → r < t → n * 2 + r ≡ cond (ltb r t) (target_key n r) (bin_count n t)
  target_here r h = ap (λ (z : Bool). cond z (target_key n r) (bin_count n t)) (sym (lt-ltb r t h))

  pub target_none : (r k : ℕ) → t ≤ r → k ≡ bin_count n t → k ≡ cond (ltb r t) (target_key n r) (bin_count n t)
  target_none r k h q = q ∙ ap (λ (z : Bool). cond z (target_key n r) (bin_count n t)) (sym (le-ltb r t h))

  pub descriptor_here : (r : ℕ) → r < t → n * 2 + t + r ≡ cond (ltb r t) (descriptor_key n t r) (bin_count n t)
  descriptor_here r h = ap (λ (z : Bool). cond z (descriptor_key n t r) (bin_count n t)) (sym (lt-ltb r t h))

  pub descriptor_none : (r k : ℕ) → t ≤ r → k ≡ bin_count n t → k ≡ cond (ltb r t) (descriptor_key n t r) (bin_count n t)
  descriptor_none r k h q = q ∙ ap (λ (z : Bool). cond z (descriptor_key n t r) (bin_count n t)) (sym (le-ltb r t h))

  -- ---- blocks

  module _ (ranks : List ℕ) where
    pub block_nowhere : (part o r : ℕ) → part ≡ 0 → r ≡ bin_count n t → r ≡ key_of_block n t ranks part o
    block_nowhere part o r e q = q ∙ sym (ap (λ (p : ℕ). key_of_block n t ranks p o) e)

    of_transition_lem : (part o : ℕ) → 3 < part → key_of_block n t ranks part o ≡ cond (ltb (get_or ranks o 0) t) (block_key n t (get_or ranks o 0)) (bin_count n t)
    of_transition_lem zero o h = absurd (omega arith)
    of_transition_lem (suc zero) o h = absurd (omega arith)
    of_transition_lem (suc (suc zero)) o h = absurd (omega arith)
    of_transition_lem (suc (suc (suc zero))) o h = absurd (omega arith)
    of_transition_lem (suc (suc (suc (suc p)))) o h = refl

    of_row : (part o : ℕ) → (part ≡ 0 → ⊥) → part ≤ 3 → key_of_block n t ranks part o ≡ cond (ltb o n) (row_block_key n t o (part - 1)) (bin_count n t)
    of_row zero o f h = absurd (f refl)
    of_row (suc zero) o f h = refl
    of_row (suc (suc zero)) o f h = refl
    of_row (suc (suc (suc zero))) o f h = refl
    of_row (suc (suc (suc (suc p)))) o f h = absurd (omega arith)

    pub block_here : (part o r : ℕ) → 3 < part → r ≡ get_or ranks o 0 → r < t → n * 2 + t + t + n * 3 + r ≡ key_of_block n t ranks part o
    block_here part o r h q l =
        sym (of_transition_lem part o h ∙ ap (λ (x : ℕ). cond (ltb x t) (block_key n t x) (bin_count n t)) (sym q) ∙ ap (λ (z : Bool). cond z (block_key n t r) (bin_count n t)) (lt-ltb r t l))

    pub block_none : (part o r k : ℕ) → 3 < part → r ≡ get_or ranks o 0 → t ≤ r → k ≡ bin_count n t → k ≡ key_of_block n t ranks part o
    block_none part o r k h q l e =
        e ∙
        sym (of_transition_lem part o h ∙ ap (λ (x : ℕ). cond (ltb x t) (block_key n t x) (bin_count n t)) (sym q) ∙ ap (λ (z : Bool). cond z (block_key n t r) (bin_count n t)) (le-ltb r t l))

    pub row_block_here : (part o : ℕ) → (part ≡ 0 → ⊥) → part ≤ 3 → o < n → n * 2 + t + t + (o * 3 + (part - 1)) ≡ key_of_block n t ranks part o
    row_block_here part o f h l = sym (of_row part o f h ∙ ap (λ (z : Bool). cond z (row_block_key n t o (part - 1)) (bin_count n t)) (lt-ltb o n l))

    pub row_block_none : (part o r : ℕ) → (part ≡ 0 → ⊥) → part ≤ 3 → n ≤ o → r ≡ bin_count n t → r ≡ key_of_block n t ranks part o
    row_block_none part o r f h l q = q ∙ sym (of_row part o f h ∙ ap (λ (z : Bool). cond z (row_block_key n t o (part - 1)) (bin_count n t)) (le-ltb o n l))

-- ---- what a tag says

abbrev pub key_of : ℕ → ℕ → List ℕ → ℕ → ℕ → Said → ℕ
key_of n t ranks i m Nothing = bin_count n t
key_of n t ranks i m (Row q) = cond (ltb i n) (list_key i) (bin_count n t)
key_of n t ranks i m (ListOf j) = cond (ltb j n) (element_key j) (bin_count n t)
key_of n t ranks i m (Transition s) = cond (ltb (get_or ranks m 0) t) (target_key n (get_or ranks m 0)) (bin_count n t)
key_of n t ranks i m (Action b o) = key_of_block n t ranks b o

abbrev pub other_of : ℕ → ℕ → List ℕ → ℕ → Said → ℕ
other_of n t ranks m Nothing = bin_count n t
other_of n t ranks m (Row q) = bin_count n t
other_of n t ranks m (ListOf j) = bin_count n t
other_of n t ranks m (Transition s) = cond (ltb (get_or ranks m 0) t) (descriptor_key n t (get_or ranks m 0)) (bin_count n t)
other_of n t ranks m (Action b o) = bin_count n t

pub record KeysAre (n t : ℕ) (ranks : List ℕ) (c : Counts) (said : Said) (r : Keys) : Type 0 where
  pub key_is : r.key ≡ key_of n t ranks c.rows c.transitions said
  pub other_is : r.other ≡ other_of n t ranks c.transitions said

module _ (n t : ℕ) (ranks : List ℕ) (c : Counts) (said : Said) (z : ℕ) (e : z ≡ bin_count n t) where
  pub keys_none : said ≡ Nothing → KeysAre n t ranks c said (record { key = z; other = z })
  keys_none q = record { key_is = e ∙ sym (ap (key_of n t ranks c.rows c.transitions) q); other_is = e ∙ sym (ap (other_of n t ranks c.transitions) q) }

  pub keys_row : (i k : ℕ) → said ≡ Row i → k ≡ cond (ltb c.rows n) (list_key c.rows) (bin_count n t) → KeysAre n t ranks c said (record { key = k; other = z })
  keys_row i k q h = record { key_is = h ∙ sym (ap (key_of n t ranks c.rows c.transitions) q); other_is = e ∙ sym (ap (other_of n t ranks c.transitions) q) }

  pub keys_list : (j k : ℕ) → said ≡ ListOf j → k ≡ cond (ltb j n) (element_key j) (bin_count n t) → KeysAre n t ranks c said (record { key = k; other = z })
  keys_list j k q h = record { key_is = h ∙ sym (ap (key_of n t ranks c.rows c.transitions) q); other_is = e ∙ sym (ap (other_of n t ranks c.transitions) q) }

  pub keys_action : (b o k : ℕ) → said ≡ Action b o → k ≡ key_of_block n t ranks b o → KeysAre n t ranks c said (record { key = k; other = z })
  keys_action b o k q h = record { key_is = h ∙ sym (ap (key_of n t ranks c.rows c.transitions) q); other_is = e ∙ sym (ap (other_of n t ranks c.transitions) q) }

  pub keys_transition : (s r k l : ℕ) → said ≡ Transition s → r ≡ get_or ranks c.transitions 0 → k ≡ cond (ltb r t) (target_key n r) (bin_count n t) →
      l ≡ cond (ltb r t) (descriptor_key n t r) (bin_count n t) → KeysAre n t ranks c said (record { key = k; other = l })
  keys_transition s r k l q i f g =
      record {
        key_is = f ∙ ap (λ (x : ℕ). cond (ltb x t) (target_key n x) (bin_count n t)) i ∙ sym (ap (key_of n t ranks c.rows c.transitions) q);
        other_is = g ∙ ap (λ (x : ℕ). cond (ltb x t) (descriptor_key n t x) (bin_count n t)) i ∙ sym (ap (other_of n t ranks c.transitions) q);
      }
