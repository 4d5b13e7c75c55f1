-- Runs of the grammar over a word: a family of places that reads a word byte by byte comes to its end.
use Rattle.std.specs.Prelude.{◌≡◌, Bool, ◌&&◌, ◌||◌, cond, ℕ, zero, suc, ◌+◌, ◌*◌, ◌<◌, get_or, drop}
use Rattle.std.proofs.Math.Path.{refl, ap}
use Rattle.std.proofs.Common.{sym, subst, ◌∙◌, arith, get_or-drop, drop-drop}
use Rattle.std.proofs.Math.Bool.{true, false}
use mathlib.Core.List.{List, [], ◌∷◌, ◌++◌}
use Rattle.std.proofs.Math.Dec.{eqb}
use borrow.Author.Tests.{eqb-true, eqb-false}
use Rattle.grammar.specs.declared.Place.{Place}
use Rattle.grammar.specs.declared.Step.TheVariants.{Go}
use Rattle.grammar.specs.Tables.{words}
use Rattle.grammar.specs.Grammar.{is_char, word_byte, step_of, State, dead, live, next, run}

pub run_append : (s : State) (xs ys : List ℕ) → run s (xs ++ ys) ≡ run (run s xs) ys
unfolding run
run_append s [] ys = refl
run_append s (x ∷ xs) ys = run_append (next s x) xs ys

pub stays_dead : (xs : List ℕ) → run dead xs ≡ dead
unfolding run next
stays_dead [] = refl
stays_dead (x ∷ xs) = stays_dead xs

-- ---- tools

pub no : false ≡ true → ⊥
no e = let z : ◌≡◌ {A = ℕ} 0 1 = cc in omega arith

pub and_left : (a b : Bool) → (a && b) ≡ true → a ≡ true
and_left true b e = refl
and_left false b e = e

pub and_right : (a b : Bool) → (a && b) ≡ true → b ≡ true
and_right true b e = e
and_right false b e = cc

pub both : (a b : Bool) → a ≡ true → b ≡ true → (a && b) ≡ true
both a b e f = rw (e, f)

-- by cases on a test
pub choose : {A : Type 0} (P : A → Type 0) (b : Bool) (x y : A) → (b ≡ true → P x) → (b ≡ false → P y) → P (cond b x y)
choose P true x y h k = h refl
choose P false x y h k = k refl

-- what holds of each number below n, given one by one
unfoldable pub AllBelow : (ℕ → Type 0) → ℕ → Type 0
AllBelow P zero = ◌≡◌ {A = ℕ} 0 0
AllBelow P (suc n) = AllBelow P n × P n

at_last : (P : ℕ → Type 0) (t n : ℕ) (b : Bool) → eqb t n ≡ b → P n → (eqb t n ≡ false → P t) → P t
at_last P t n true e p k = subst P (sym (eqb-true t n e)) p
at_last P t n false e p k = k e

pub each : (P : ℕ → Type 0) (n : ℕ) → AllBelow P n → (t : ℕ) → t < n → P t
unfolding AllBelow
each P zero a t h = absurd (omega arith)
each P (suc n) a t h = at_last P t n (eqb t n) refl a.1 (λ e. let d = eqb-false t n e in each P n a.0 t (differ d))
  where
    differ : (t ≡ n → ⊥) → t < n
    differ d = omega arith

-- ---- words

unfoldable pub until_zero : List ℕ → List ℕ
until_zero [] = []
until_zero (b ∷ bs) = cond (eqb b 0) [] (b ∷ until_zero bs)

unfoldable ok_bytes : List ℕ → Bool
ok_bytes [] = true
ok_bytes (b ∷ bs) = (eqb b 0 || is_char b) && ok_bytes bs

words_ok : ok_bytes words ≡ true
unfolding words is_char ok_bytes
words_ok = refl

ok_drop : (i : ℕ) (xs : List ℕ) → ok_bytes xs ≡ true → ok_bytes (drop i xs) ≡ true
unfolding ok_bytes
ok_drop zero xs e = e
ok_drop (suc i) [] e = e
ok_drop (suc i) (b ∷ bs) e = ok_drop i bs (and_right (eqb b 0 || is_char b) (ok_bytes bs) e)

-- the rest of the word w behind k bytes
unfoldable pub rest : ℕ → ℕ → List ℕ
rest w k = until_zero (drop (w * 11 + k) words)

head_is : (w k : ℕ) (xs : List ℕ) → drop (w * 11 + k) words ≡ xs → word_byte w k ≡ get_or xs 0 0
unfolding word_byte
head_is w k xs e = sym (ap (λ (l : List ℕ). get_or l 0 0) (sym e) ∙ get_or-drop (w * 11 + k) words 0 0 ∙ ap (λ (n : ℕ). get_or words n 0) (plus_zero (w * 11 + k)))
  where
    plus_zero : (n : ℕ) → n + 0 ≡ n
    plus_zero n = omega arith

tail_is : (w k b : ℕ) (bs : List ℕ) → drop (w * 11 + k) words ≡ b ∷ bs → drop (w * 11 + (k + 1)) words ≡ bs
tail_is w k b bs e = ap (λ (n : ℕ). drop n words) (assoc (w * 11) k) ∙ sym (drop-drop 1 (w * 11 + k) words) ∙ ap (λ (l : List ℕ). drop 1 l) e
  where
    assoc : (a c : ℕ) → a + (c + 1) ≡ a + c + 1
    assoc a c = omega arith

-- a family of places that reads the word w, byte by byte, comes to its end
pub record WordRead (P : ℕ → Place) (t w : ℕ) (st : List ℕ) (k : ℕ) (xs : List ℕ) : Type 0 where
  pub m : ℕ
  pub ran : run (live (P k) t st) xs ≡ live (P m) t st
  pub ended : word_byte w m ≡ 0

module _ (P : ℕ → Place) (t w : ℕ) (st : List ℕ) (goes : (k : ℕ) → step_of (P k) t (word_byte w k) ≡ Go (P (k + 1)) t) where
  pub one : (k b : ℕ) → word_byte w k ≡ b → is_char b ≡ true → next (live (P k) t st) b ≡ live (P (k + 1)) t st
  unfolding next
  one k b e ch = rw (ch, ← e, goes k)

  read_word : (xs : List ℕ) (k : ℕ) → drop (w * 11 + k) words ≡ xs → ok_bytes xs ≡ true → WordRead P t w st k (until_zero xs)
  unfolding run until_zero ok_bytes
  read_word [] k e ok = record { m = k; ran = refl; ended = head_is w k [] e }
  read_word (b ∷ bs) k e ok = by (eqb b 0) refl (read_word bs (k + 1) (tail_is w k b bs e) (and_right (eqb b 0 || is_char b) (ok_bytes bs) ok))
    where
      by : (z : Bool) → eqb b 0 ≡ z → WordRead P t w st (k + 1) (until_zero bs) → WordRead P t w st k (cond z [] (b ∷ until_zero bs))
      by true z r = record { m = k; ran = refl; ended = head_is w k (b ∷ bs) e ∙ eqb-true b 0 z }
      by false z r =
          let ch : is_char b ≡ true = (rw z at (and_left (eqb b 0 || is_char b) (ok_bytes bs) ok)) in
          record { m = r.m; ran = ap (λ (s : State). run s (until_zero bs)) (one k b (head_is w k (b ∷ bs) e) ch) ∙ r.ran; ended = r.ended }

  pub word_read : (k : ℕ) → WordRead P t w st k (rest w k)
  unfolding rest
  word_read k = read_word (drop (w * 11 + k) words) k refl (ok_drop (w * 11 + k) words words_ok)
