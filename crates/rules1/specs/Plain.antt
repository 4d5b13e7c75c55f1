-- A descriptor that no star ends is a name, so its first byte and its length say whether it is an id.
use Rattle.std.specs.Prelude.{◌≡◌, refl, Bool, true, false, not, ◌&&◌, ◌||◌, [], ◌∷◌, ℕ, ◌-◌, ◌≤◌, ◌<◌, eqb, leb, length, get_or}
use Rattle.std.proofs.Common.{sym, ap, ◌∙◌, arith, eqb-true, leb-true, le-leb}
use Rattle.std.proofs.lemmas.Bool.{eqb-false}
use Rattle.definition.specs.Rows.{all, same, mem}
use Rattle.definition.specs.Names.{Name, between, is_letter, is_name_byte, is_full, tokens, is_name, star, dot_star, bare, is_descriptor, done_name, starts_well, is_id}
use Rattle.laws.specs.Bools.{no, both_ways, bool_case, not_so, and_right, and3, or_elim}
use Rattle.laws.specs.Lists.{same_eq, all_mem, mem_tail}
use Rattle.laws.specs.Sets.{mem_head}
use Rattle.names.specs.Spelling.{done_length}

unfoldable pub starts_id : ℕ → Bool
starts_id b = is_letter b || eqb b 95

-- the last byte
abbrev last_of : Name → ℕ
last_of [] = 0
last_of (b ∷ []) = b
last_of (b ∷ d ∷ bs) = last_of (d ∷ bs)

last_read : (b : ℕ) (bs : Name) → get_or (b ∷ bs) (length bs) 0 ≡ last_of (b ∷ bs)
last_read b [] = refl
last_read b (d ∷ bs) = last_read d bs

last_in_lem : (b : ℕ) (bs : Name) → mem (last_of (b ∷ bs)) (b ∷ bs) ≡ true
last_in_lem b [] = mem_head b []
last_in_lem b (d ∷ bs) = mem_tail b (last_of (d ∷ bs)) (d ∷ bs) (last_in_lem d bs)

-- a star is no name byte
starred : (b : ℕ) (bs : Name) → last_of (b ∷ bs) ≡ 42 → is_name (b ∷ bs) ≡ false
unfolding is_name is_name_byte is_letter
starred b bs e =
    not_so (is_name (b ∷ bs)) (λ h.
    let k = and3 (between 1 63 (length (b ∷ bs))) (all is_name_byte (b ∷ bs)) (all is_full (tokens (b ∷ bs))) h in
    no (all_mem is_name_byte (b ∷ bs) k.1 42 (rw e at (last_in_lem b bs))))

bare_whole : (b : ℕ) (bs : Name) → (last_of (b ∷ bs) ≡ 42 → ⊥) → bare (b ∷ bs) ≡ b ∷ bs
unfolding bare
bare_whole b [] d = bool_case (same (b ∷ []) dot_star) (λ e. absurd (unlike e)) (λ e. rw e)
  where
    unlike : same (b ∷ []) dot_star ≡ true → ⊥
    unlike e = let q : length (b ∷ []) ≡ length dot_star = ap length (same_eq (b ∷ []) dot_star e) in omega arith
bare_whole b (x ∷ bs) d =
    bool_case (same (b ∷ x ∷ bs) dot_star) (λ e. absurd (d (ap last_of (same_eq (b ∷ x ∷ bs) dot_star e))))
    (λ e. rw e (ap {B = Name} (λ r. b ∷ r) (bare_whole x bs d)))

plain : (b : ℕ) (bs : Name) → is_descriptor (b ∷ bs) ≡ true → (last_of (b ∷ bs) ≡ 42 → ⊥) → is_name (b ∷ bs) ≡ true
unfolding is_descriptor
plain b bs h d =
    or_elim (same (b ∷ bs) star) (is_name (bare (b ∷ bs))) (λ e. absurd (d (ap last_of (same_eq (b ∷ bs) star e))))
    (λ e. sym (ap is_name (bare_whole b bs d)) ∙ e) (and_right (leb (length (b ∷ bs)) 63) _ h)

name_unless : (b : ℕ) (bs : Name) → is_descriptor (b ∷ bs) ≡ true → is_name (b ∷ bs) ≡ not (eqb (last_of (b ∷ bs)) 42)
name_unless b bs h =
    bool_case (eqb (last_of (b ∷ bs)) 42) (λ e. rw e (starred b bs (eqb-true _ _ e))) (λ e. rw e (plain b bs h (eqb-false _ _ e)))

long_enough : (n : Name) → leb (length (done_name n)) 63 ≡ leb (length n) 52
long_enough n =
    let l = done_length n in
    both_ways (leb (length (done_name n)) 63) (leb (length n) 52)
    (λ h. let k : length (done_name n) ≤ 63 = leb-true _ _ h in le-leb (length n) 52 (omega arith))
    (λ h. let k : length n ≤ 52 = leb-true _ _ h in le-leb (length (done_name n)) 63 (omega arith))

-- the tests in the order of the code
pub plain_id : (n : Name) (k : ℕ) (b : Bool) → is_descriptor n ≡ true → k ≡ length n → 0 < k → b ≡ starts_id (get_or n 0 0) →
    (not (eqb (get_or n (k - 1) 0) 42) && b && leb k 52) ≡ is_id n
unfolding is_id starts_well starts_id
plain_id [] k b h e d f = absurd (omega arith)
plain_id (x ∷ xs) k b h e d f =
    let q : k - 1 ≡ length xs = omega arith in
    rw (q, last_read x xs, f, e, name_unless x xs h, long_enough (x ∷ xs))

pub none_id : (n : Name) → length n ≡ 0 → false ≡ is_id n
unfolding is_id is_name
none_id [] e = refl
none_id (x ∷ xs) e = absurd (omega arith)
