-- The fingerprint of a compiled chart: its numbers and then the bytes of its names, each added to the sum so far and the sum multiplied by 2^40 + 2^8 + 1, modulo 2^64.
use Rattle.std.specs.Prelude.{◌≡◌, ℕ, ◌+◌, ◌*◌, ◌/◌, ◌%◌, List, [], ◌∷◌, fold}
use Rattle.std.proofs.Math.Path.{refl}
use Rattle.std.proofs.Common.{sym, ap, ◌∙◌, div-add-mod', arith}
use Rattle.std.proofs.Math.Nat.{mod-add-mod, add-mod-mod, add-mul-mod_self_right}

unfoldable pub mix : ℕ → ℕ → ℕ
mix sum x = (sum + x) * 1099511628033 % 18446744073709551616

unfoldable pub mix_all : ℕ → List ℕ → ℕ
mix_all sum [] = sum
mix_all sum (x ∷ xs) = mix_all (mix sum x) xs

unfoldable pub fingerprint : List ℕ → List ℕ → ℕ
fingerprint numbers names = mix_all (mix_all 14695981039346656037 numbers) names

-- ---- as the code computes it

abbrev all : ℕ
all = 18446744073709551616

abbrev factor : ℕ
factor = 1099511628033

-- a sum of three, two of them cut
summed : (a b y : ℕ) → ((a % all + b % all) % all + y) % all ≡ (a + y + b) % all
summed a b y =
    let p : a % all + b % all + y ≡ a % all + (b % all + y) = omega arith in
    let q : a + (b % all + y) ≡ a + y + b % all = omega arith in
    mod-add-mod (a % all + b % all) all y ∙ ap (λ (n : ℕ). n % all) p ∙ mod-add-mod a all (b % all + y) ∙ ap (λ (n : ℕ). n % all) q ∙ add-mod-mod (a + y) b all

-- a product of what was cut
multiplied : (s : ℕ) → s % all * factor % all ≡ s * factor % all
multiplied s =
    let e : s % all * factor + s / all * factor * all ≡ s * factor = let d = div-add-mod' s all in omega arith in
    sym (add-mul-mod_self_right (s % all * factor) (s / all * factor) all) ∙ ap (λ (n : ℕ). n % all) e

pub mixed : (sum x y z r : ℕ) → y ≡ (sum + x) % all → z ≡ (y * 1099511627776 % all + y * 256 % all) % all → r ≡ (z + y) % all → r ≡ mix sum x
unfolding mix
mixed sum x y z r a b c =
    let e : y * 1099511627776 + y + y * 256 ≡ y * factor = omega arith in
    c ∙ ap (λ (n : ℕ). (n + y) % all) b ∙ summed (y * 1099511627776) (y * 256) y ∙ ap (λ (n : ℕ). n % all) e ∙ ap (λ (n : ℕ). n * factor % all) a ∙ multiplied (sum + x)

-- the sum of a list as a fold
pub folded : (sum : ℕ) (xs : List ℕ) → fold mix sum xs ≡ mix_all sum xs
unfolding mix_all
folded sum [] = refl
folded sum (x ∷ xs) = folded (mix sum x) xs

-- the number as two folds, over the numbers and then over the names' bytes
pub fingerprint_of_folds : (numbers names : List ℕ) (r : ℕ) → r ≡ fold mix (fold mix 14695981039346656037 numbers) names → r ≡ fingerprint numbers names
unfolding fingerprint
fingerprint_of_folds numbers names r e =
    e ∙ ap (λ (n : ℕ). fold mix n names) (folded 14695981039346656037 numbers) ∙ folded (mix_all 14695981039346656037 numbers) names
