-- Two machines that get the same inputs: a relation of their states that every step keeps holds at every step of every list of inputs. The step
-- is proved each time, the law over whole lists once.
use Rattle.std.specs.Prelude.{◌≡◌, List, [], ◌∷◌}

-- every element passes
abbrev pub Every : {A : Type 0} → (A → Type 0) → List A → Type 0
Every P [] = Unit {0}
Every P (x ∷ xs) = P x × Every P xs

-- two lists of one length, their elements related place by place
abbrev pub Pairwise : {A B : Type 0} → (A → B → Type 0) → List A → List B → Type 0
Pairwise Q [] [] = Unit {0}
Pairwise Q [] (y ∷ ys) = ⊥
Pairwise Q (x ∷ xs) [] = ⊥
Pairwise Q (x ∷ xs) (y ∷ ys) = Q x y × Pairwise Q xs ys

-- what a machine answers to inputs, one after the other, each from the state that the answer before left
pub record Answers {S X A : Type 0} (step : S → X → A) (next : A → S) (all : S → List X → List A) : Type 0 where
  pub stop : (s : S) → all s [] ≡ []
  pub go : (s : S) (x : X) (xs : List X) → all s (x ∷ xs) ≡ step s x ∷ all (next (step s x)) xs

module _ {S T X A B : Type 0} {f : S → X → A} {g : T → X → B} {leave : A → S} {leave' : B → T} {all : S → List X → List A} {all' : T → List X → List B}
    (a : Answers f leave all) (b : Answers g leave' all') (R : S → T → Type 0) (Q : A → B → Type 0)
    (step : (s : S) (t : T) (x : X) → R s t → Q (f s x) (g t x) × R (leave (f s x)) (leave' (g t x))) where
  pub simulation : (xs : List X) (s : S) (t : T) → R s t → Pairwise Q (all s xs) (all' t xs)
  simulation [] s t r = rw (a.stop s, b.stop t) tt
  simulation (x ∷ xs) s t r =
      let d = step s t x r in
      rw (a.go s x xs, b.go t x xs) (d.0, simulation xs (leave (f s x)) (leave' (g t x)) d.1)

module _ {A B : Type 0} {Q : A → B → Type 0} where
  -- what each pair gives of its first
  pub every_first : (P : A → Type 0) → ((x : A) (y : B) → Q x y → P x) → (xs : List A) (ys : List B) → Pairwise Q xs ys → Every P xs
  every_first P h [] [] q = tt
  every_first P h [] (y ∷ ys) q = absurd q
  every_first P h (x ∷ xs) [] q = absurd q
  every_first P h (x ∷ xs) (y ∷ ys) q = (h x y q.0, every_first P h xs ys q.1)

  -- and of the pair
  pub pairwise_map : (P : A → B → Type 0) → ((x : A) (y : B) → Q x y → P x y) → (xs : List A) (ys : List B) → Pairwise Q xs ys → Pairwise P xs ys
  pairwise_map P h [] [] q = tt
  pairwise_map P h [] (y ∷ ys) q = absurd q
  pairwise_map P h (x ∷ xs) [] q = absurd q
  pairwise_map P h (x ∷ xs) (y ∷ ys) q = (h x y q.0, pairwise_map P h xs ys q.1)
