-- What a list of numbers holds from a place on, and the cells of actions read back.
use Rattle.std.specs.Prelude.{◌≡◌, refl, List, [], ◌∷◌, ◌++◌, ℕ, zero, suc, ◌<◌, ◌+◌, length, get_or, take, drop}
use Rattle.std.proofs.Common.{sym, ap, ◌∙◌, subst, append_assoc, append-nil, arith, get_or-drop, drop-drop}

-- from place p on the list holds ys
pub record Holds (xs : List ℕ) (p : ℕ) (ys : List ℕ) : Type 0 where
  pub rest : List ℕ
  pub is : drop p xs ≡ ys ++ rest

pub drop_all : {A : Type 0} (ys zs : List A) → drop (length ys) (ys ++ zs) ≡ zs
drop_all [] zs = refl
drop_all (y ∷ ys) zs = drop_all ys zs

pub take_all : {A : Type 0} (ys zs : List A) → take (length ys) (ys ++ zs) ≡ ys
take_all [] zs = refl
take_all (y ∷ ys) zs = ap (λ (l : List _). y ∷ l) (take_all ys zs)

get_d_left : (ys zs : List ℕ) (k : ℕ) → k < length ys → get_or (ys ++ zs) k 0 ≡ get_or ys k 0
get_d_left [] zs k h = absurd (let l : k < 0 = h in omega arith)
get_d_left (y ∷ ys) zs zero h = refl
get_d_left (y ∷ ys) zs (suc k) h = get_d_left ys zs k (let l : suc k < suc (length ys) = h in omega arith)

pub holds_whole : (xs : List ℕ) → Holds xs 0 xs
holds_whole xs = record { rest = []; is = sym (append-nil xs) }

pub holds_left : {xs : List ℕ} {p : ℕ} (ys zs : List ℕ) → Holds xs p (ys ++ zs) → Holds xs p ys
holds_left ys zs h = record { rest = zs ++ h.rest; is = h.is ∙ append_assoc ys zs h.rest }

pub holds_right : {xs : List ℕ} {p : ℕ} (ys zs : List ℕ) → Holds xs p (ys ++ zs) → Holds xs (p + length ys) zs
holds_right {xs = xs} {p = p} ys zs h = record { rest = h.rest; is = sym (drop-drop (length ys) p xs) ∙ ap (drop (length ys)) (h.is ∙ append_assoc ys zs h.rest) ∙ drop_all ys (zs ++ h.rest) }

-- the same at the same place
pub holds_at : {xs ys : List ℕ} (p q : ℕ) → p ≡ q → Holds xs p ys → Holds xs q ys
holds_at {xs = xs} {ys = ys} p q e h = subst (λ (k : ℕ). Holds xs k ys) e h

pub held_cell : {xs ys : List ℕ} {p : ℕ} → Holds xs p ys → (k : ℕ) → k < length ys → get_or xs (p + k) 0 ≡ get_or ys k 0
held_cell {xs = xs} {ys = ys} {p = p} h k l = sym (get_or-drop p xs k 0) ∙ ap (λ (z : List ℕ). get_or z k 0) h.is ∙ get_d_left ys h.rest k l

pub held_part : {xs ys : List ℕ} {p : ℕ} → Holds xs p ys → take (length ys) (drop p xs) ≡ ys
held_part {ys = ys} h = ap (take (length ys)) h.is ∙ take_all ys h.rest
