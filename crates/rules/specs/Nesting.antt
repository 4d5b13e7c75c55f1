-- The open ifs as one number: 1 and behind it a binary digit for each, the innermost last, 1 where its else was seen; 0 where the block is broken.
use Rattle.std.specs.Prelude.{◌≡◌, refl, Bool, true, false, ◌&&◌, cond, List, [], ◌∷◌, ℕ, ◌+◌, ◌*◌, ◌/◌, ◌%◌, ◌≤◌, ◌<◌, eqb, leb, ltb, length}
use Rattle.std.proofs.Math.Path.{sym}
use Rattle.std.proofs.Common.{◌∙◌, arith}
use borrow.Author.Tests.{eq-eqb, ne_eqb, lt-ltb, le-ltb, le-leb, ltb-true, eqb-true}
use Rattle.definition.specs.declared.Action.{Action}
use Rattle.definition.specs.declared.Action.TheVariants.{Raise, Host, If, ElseIf, Else, End, Send, Cancel}
use Rattle.definition.specs.Rows.{is_empty}
use Rattle.definition.specs.Tables.{most_nested}
use Rattle.definition.specs.Rules.{awaits_else, with_else, closed, nests}
use Rattle.laws.specs.Bools.{bool_case, and_right}

unfoldable pub step_no : ℕ → Action → ℕ
step_no n (Raise x) = n
step_no n (Host x) = n
step_no n (If i) = cond (ltb n 16) (n * 2) 0
step_no n (ElseIf i) = cond (leb 2 n && eqb (n % 2) 0) n 0
step_no n Else = cond (leb 2 n && eqb (n % 2) 0) (n + 1) 0
step_no n End = n / 2
step_no n (Send x delay id) = n
step_no n (Cancel x) = n

unfoldable pub nests_no : ℕ → List Action → Bool
nests_no n [] = eqb n 1
nests_no n (a ∷ rest) = nests_no (step_no n a) rest

abbrev digit : Bool → ℕ
digit true = 1
digit false = 0

unfoldable code : List Bool → ℕ
code [] = 1
code (b ∷ l) = code l * 2 + digit b

digit_low : (b : Bool) → digit b ≤ 1
digit_low true = omega arith
digit_low false = omega arith

some_code : (l : List Bool) → 1 ≤ code l
unfolding code
some_code [] = omega arith
some_code (b ∷ l) = let h = some_code l in omega arith

-- a broken block stays so
broken : (rest : List Action) → nests_no 0 rest ≡ false
unfolding nests_no step_no
broken [] = refl
broken (Raise x ∷ rest) = broken rest
broken (Host x ∷ rest) = broken rest
broken (If i ∷ rest) = broken rest
broken (ElseIf i ∷ rest) = broken rest
broken (Else ∷ rest) = broken rest
broken (End ∷ rest) = broken rest
broken (Send x delay id ∷ rest) = broken rest
broken (Cancel x ∷ rest) = broken rest

-- four levels are below 32, fewer below 16
low_four : (l : List Bool) → length l ≤ most_nested → ltb (code l) 16 ≡ ltb (length l) most_nested
unfolding code
low_four [] h = refl
low_four (a ∷ []) h = let p = digit_low a in lt-ltb (code (a ∷ [])) 16 (omega arith)
low_four (a ∷ (b ∷ [])) h = let p = digit_low a in let q = digit_low b in lt-ltb (code (a ∷ (b ∷ []))) 16 (omega arith)
low_four (a ∷ (b ∷ (c ∷ []))) h = let p = digit_low a in let q = digit_low b in let r = digit_low c in lt-ltb (code (a ∷ (b ∷ (c ∷ [])))) 16 (omega arith)
low_four (a ∷ (b ∷ (c ∷ (d ∷ [])))) h = le-ltb (code (a ∷ (b ∷ (c ∷ (d ∷ []))))) 16 (omega arith)
low_four (a ∷ (b ∷ (c ∷ (d ∷ (e ∷ l))))) h = absurd (omega arith)

-- the number's steps are the stack's
code_nests : (rest : List Action) (l : List Bool) → length l ≤ most_nested → nests_no (code l) rest ≡ nests l rest
unfolding nests_no step_no nests is_empty awaits_else with_else closed code
code_nests [] [] h = refl
code_nests [] (b ∷ l) h = let p = some_code l in ne_eqb (code l * 2 + digit b) 1 (omega arith)
code_nests (Raise x ∷ rest) l h = code_nests rest l h
code_nests (Host x ∷ rest) l h = code_nests rest l h
code_nests (Send x delay id ∷ rest) l h = code_nests rest l h
code_nests (Cancel x ∷ rest) l h = code_nests rest l h
code_nests (If i ∷ rest) l h =
    bool_case (ltb (length l) most_nested)
    (λ e. let q : ltb (code l) 16 ≡ true = low_four l h ∙ e in
    let z : code l * 2 ≡ code (false ∷ l) = omega arith in
    let m : length l < most_nested = ltb-true _ _ e in
    rw (q, e, z) (code_nests rest (false ∷ l) (omega arith)))
    (λ e. let q : ltb (code l) 16 ≡ false = low_four l h ∙ e in rw (q, e) (broken rest))
code_nests (ElseIf i ∷ rest) [] h = broken rest
code_nests (ElseIf i ∷ rest) (true ∷ l) h =
    let p = some_code l in
    let q : eqb ((code l * 2 + 1) % 2) 0 ≡ false = ne_eqb ((code l * 2 + 1) % 2) 0 (omega arith) in
    let r : leb 2 (code l * 2 + 1) ≡ true = le-leb 2 (code l * 2 + 1) (omega arith) in
    rw (r, q) (broken rest)
code_nests (ElseIf i ∷ rest) (false ∷ l) h =
    let p = some_code l in
    let q : eqb ((code l * 2 + 0) % 2) 0 ≡ true = eq-eqb ((code l * 2 + 0) % 2) 0 (omega arith) in
    let r : leb 2 (code l * 2 + 0) ≡ true = le-leb 2 (code l * 2 + 0) (omega arith) in
    rw (r, q) (code_nests rest (false ∷ l) h)
code_nests (Else ∷ rest) [] h = broken rest
code_nests (Else ∷ rest) (true ∷ l) h =
    let p = some_code l in
    let q : eqb ((code l * 2 + 1) % 2) 0 ≡ false = ne_eqb ((code l * 2 + 1) % 2) 0 (omega arith) in
    let r : leb 2 (code l * 2 + 1) ≡ true = le-leb 2 (code l * 2 + 1) (omega arith) in
    rw (r, q) (broken rest)
code_nests (Else ∷ rest) (false ∷ l) h =
    let p = some_code l in
    let q : eqb ((code l * 2 + 0) % 2) 0 ≡ true = eq-eqb ((code l * 2 + 0) % 2) 0 (omega arith) in
    let r : leb 2 (code l * 2 + 0) ≡ true = le-leb 2 (code l * 2 + 0) (omega arith) in
    let z : code l * 2 + 0 + 1 ≡ code l * 2 + 1 = omega arith in
    rw (r, q, z) (code_nests rest (true ∷ l) h)
code_nests (End ∷ rest) [] h = broken rest
code_nests (End ∷ rest) (b ∷ l) h =
    let p = digit_low b in
    let z : (code l * 2 + digit b) / 2 ≡ code l = omega arith in
    rw z (code_nests rest l (omega arith))

-- no if is open at first
pub nests_begin : (block : List Action) → nests [] block ≡ nests_no 1 block
unfolding code
nests_begin block = sym (code_nests block [] (omega arith))

pub step_low : (n : ℕ) (a : Action) → n < 32 → step_no n a < 32
unfolding step_no
step_low n (Raise x) h = h
step_low n (Host x) h = h
step_low n (Send x delay id) h = h
step_low n (Cancel x) h = h
step_low n (If i) h = bool_case (ltb n 16) (λ e. let l : n < 16 = ltb-true _ _ e in rw e (omega arith)) (λ e. rw e (omega arith))
step_low n (ElseIf i) h = bool_case (leb 2 n && eqb (n % 2) 0) (λ e. rw e h) (λ e. rw e (omega arith))
step_low n Else h =
    bool_case (leb 2 n && eqb (n % 2) 0)
    (λ e. let q : n % 2 ≡ 0 = eqb-true (n % 2) 0 (and_right (leb 2 n) _ e) in rw e (omega arith)) (λ e. rw e (omega arith))
step_low n End h = omega arith

-- ---- the arms of a step

module _ (n : ℕ) (a : Action) (x : ℕ) where
  pub at_raise : a ≡ Raise x → n ≡ step_no n a
  unfolding step_no
  at_raise e = sym (rw e)

  pub at_host : a ≡ Host x → n ≡ step_no n a
  unfolding step_no
  at_host e = sym (rw e)

  pub at_if_lem : a ≡ If x → n < 16 → n * 2 ≡ step_no n a
  unfolding step_no
  at_if_lem e l = sym (rw (e, lt-ltb n 16 l))

  pub at_fifth : a ≡ If x → 16 ≤ n → 0 ≡ step_no n a
  unfolding step_no
  at_fifth e l = sym (rw (e, le-ltb n 16 l))

  pub at_elseif : (b : Bool) → a ≡ ElseIf x → (leb 2 n && eqb (n % 2) 0) ≡ b → cond b n 0 ≡ step_no n a
  unfolding step_no
  at_elseif b e q = sym (rw (e, q))

module _ (n : ℕ) (a : Action) where
  pub at_else_lem : (b : Bool) → a ≡ Else → (leb 2 n && eqb (n % 2) 0) ≡ b → cond b (n + 1) 0 ≡ step_no n a
  unfolding step_no
  at_else_lem b e q = sym (rw (e, q))

  pub at_end_lem : a ≡ End → n / 2 ≡ step_no n a
  unfolding step_no
  at_end_lem e = sym (rw e)

pub at_send : (n : ℕ) (a : Action) (x delay id : ℕ) → a ≡ Send x delay id → n ≡ step_no n a
unfolding step_no
at_send n a x delay id e = sym (rw e)

pub at_cancel : (n : ℕ) (a : Action) (x : ℕ) → a ≡ Cancel x → n ≡ step_no n a
unfolding step_no
at_cancel n a x e = sym (rw e)
