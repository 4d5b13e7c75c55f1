-- Names as places in a text: two numbers for each, where it begins and how long it is. Behind them the names stand in trees by their hashes (Trees).
use Rattle.std.specs.Prelude.{◌≡◌, refl, Bool, true, false, List, [], ◌∷◌, ◌++◌, ℕ, zero, suc, ◌+◌, ◌*◌, ◌-◌, ◌≤◌, ◌<◌, length, get_or, take, drop}
use Rattle.std.proofs.Common.{sym, ap, ◌∙◌, arith, length-drop, get_or-take, get_or-drop, length-take-le}
use Rattle.definition.specs.Rows.{same}
use Rattle.laws.specs.Lists.{same_eq}
use Rattle.values.specs.Trees.{keys, tag_of, Grown}

unfoldable pub id_at : List ℕ → List ℕ → ℕ → List ℕ
id_at text ids k = take (get_or ids (k * 2 + 1) 0) (drop (get_or ids (k * 2) 0) text)

-- the n ids from number k on
unfoldable pub ids_from : List ℕ → List ℕ → ℕ → ℕ → List (List ℕ)
ids_from text ids zero k = []
ids_from text ids (suc n) k = id_at text ids k ∷ ids_from text ids n (suc k)

pub ids_length : (text ids : List ℕ) (n k : ℕ) → length (ids_from text ids n k) ≡ n
unfolding ids_from
ids_length text ids zero k = refl
ids_length text ids (suc n) k = ap suc (ids_length text ids n (suc k))

-- ids whose numbers are the same are the same
pub ids_alike : (text ids ids' : List ℕ) (n k : ℕ) → ((c : ℕ) → c < (k + n) * 2 → get_or ids' c 0 ≡ get_or ids c 0) → ids_from text ids' n k ≡ ids_from text ids n k
unfolding ids_from id_at
ids_alike text ids ids' zero k h = refl
ids_alike text ids ids' (suc n) k h =
    rw (h (k * 2) (omega arith), h (k * 2 + 1) (omega arith), ids_alike text ids ids' n (suc k) (λ c l. h c (omega arith))) refl

pub ids_snoc : (text ids : List ℕ) (n k : ℕ) → ids_from text ids (suc n) k ≡ ids_from text ids n k ++ id_at text ids (k + n) ∷ []
unfolding ids_from
ids_snoc text ids zero k = ap (λ (j : ℕ). id_at text ids j ∷ []) (plus k)
  where
    plus : (j : ℕ) → j ≡ j + 0
    plus j = omega arith
ids_snoc text ids (suc n) k =
    ap (λ (l : List (List ℕ)). id_at text ids k ∷ l) (ids_snoc text ids n (suc k) ∙ ap (λ (j : ℕ). ids_from text ids n (suc k) ++ id_at text ids j ∷ []) (shift k n))
  where
    shift : (a b : ℕ) → suc a + b ≡ a + suc b
    shift a b = omega arith

-- ---- the trees behind them

-- where the numbers of the keys begin; those of the names stand before it, three for each
abbrev pub end_of : List ℕ → ℕ
end_of ids = length ids - keys

unfoldable pub head_at : List ℕ → ℕ → ℕ
head_at ids h = get_or ids (end_of ids + h) 0

unfoldable pub next_at : List ℕ → ℕ → ℕ → ℕ
next_at ids zero s = 0
next_at ids (suc k) s = get_or ids (end_of ids - suc k * 3 + s) 0

unfoldable pub tag_at : List ℕ → ℕ → ℕ
tag_at ids k = get_or ids (end_of ids - suc k * 3 + 2) 0

-- n names, all in trees
pub record Index (text ids : List ℕ) (n : ℕ) : Type 0 where
  pub short : length text ≤ 32768
  pub few : n ≤ 32768
  pub room : n * 5 + 1024 ≤ length ids
  pub inside : (k : ℕ) → k < n → get_or ids (k * 2) 0 + get_or ids (k * 2 + 1) 0 ≤ length text
  pub tags : (k : ℕ) → k < n → tag_at ids k ≡ tag_of (id_at text ids k)
  pub grown : Grown (id_at text ids) (head_at ids) (next_at ids) n

-- there are n of them, and each stands in the text; the trees may have more
pub record Noted (text ids : List ℕ) (n : ℕ) : Type 0 where
  pub short : length text ≤ 32768
  pub few : n ≤ 32768
  pub room : n * 2 ≤ length ids
  pub inside : (k : ℕ) → k < n → get_or ids (k * 2) 0 + get_or ids (k * 2 + 1) 0 ≤ length text
  pub all : ℕ
  pub past : n ≤ all
  pub index : Index text ids all

pub noted_of : (text ids : List ℕ) (n all : ℕ) → n ≤ all → Index text ids all → Noted text ids n
noted_of text ids n all l i =
    let f = i.few in let r = i.room in
    record { short = i.short; few = omega arith; room = omega arith; inside = λ k h. i.inside k (omega arith); all = all; past = l; index = i }

pub noted_all : (text ids : List ℕ) (n : ℕ) → Index text ids n → Noted text ids n
noted_all text ids n i = noted_of text ids n n (omega arith) i

-- ---- a name and a part of a text: most differ in length or in the last byte

module _ (text name : List ℕ) (at to : ℕ) (order : at ≤ to) (inside : to ≤ length text) where
  not_so : (b : Bool) → (b ≡ true → ⊥) → false ≡ b
  not_so true h = absurd (h refl)
  not_so false h = refl

  long_so : length (take (to - at) (drop at text)) ≡ to - at
  long_so = length-take-le (to - at) (drop at text) (simp length-drop (omega arith))

  pub other_length : (to - at ≡ length name → ⊥) → false ≡ same name (take (to - at) (drop at text))
  other_length d = not_so (same name (take (to - at) (drop at text))) (λ e. d (sym long_so ∙ ap (λ (l : List ℕ). length l) (sym (same_eq name (take (to - at) (drop at text)) e))))

  pub other_last : 0 < to - at → (get_or text (to - 1) 0 ≡ get_or name (to - at - 1) 0 → ⊥) → false ≡ same name (take (to - at) (drop at text))
  other_last h d = not_so (same name (take (to - at) (drop at text))) (λ e. d (sym (ap (λ (l : List ℕ). get_or l (to - at - 1) 0) (same_eq name (take (to - at) (drop at text)) e) ∙ get_or-take (to - at) (drop at text) (to - at - 1) 0 (omega arith) ∙ get_or-drop at text (to - at - 1) 0 ∙ ap (λ (n : ℕ). get_or text n 0) there)))
    where
      there : at + (to - at - 1) ≡ to - 1
      there = omega arith
