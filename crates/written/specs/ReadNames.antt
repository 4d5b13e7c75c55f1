-- The tables that are read from what was written of an accepted chart keep rule 2.
use Rattle.std.specs.Prelude.{◌≡◌, Bool, true, false, ◌&&◌, ◌||◌, cond, List, [], ◌∷◌, ◌++◌, map, ℕ, zero, suc, ◌≤◌, ◌<◌, ◌+◌, eqb, length, take, drop, replicate}
use Rattle.std.proofs.Math.Path.{refl}
use Rattle.std.proofs.Common.{sym, ap, ◌∙◌, subst, zero-add, arith}
use Rattle.std.proofs.Math.Option.{none, some}
use Rattle.definition.specs.Rows.{from, flat, all}
use Rattle.definition.specs.Names.{is_name, is_descriptor, before_zero, from_zero, zeros_after}
use Rattle.definition.specs.Tables.{no_number, action_count, action_cell, action_of, action_at, slot_at, name_at, slot_of}
use Rattle.definition.specs.Rules.{slot_fits, raise_fits, action_named}
use Rattle.reading.specs.Content.{Act, sends}
use Rattle.reading.specs.Layout.{names_of, act_of, acts_at}
use Rattle.laws.specs.Bools.{and_true}
use Rattle.lay.specs.Sizes.{slot_size_lem}
use Rattle.written.specs.Sound.{AllOf, no_more, more, ActFits, DescriptorFits}
use Rattle.written.specs.Held.{take_all}
use Rattle.written.specs.SlotNames.{Lit, slots_drop, slot_name}

-- ---- slots

zeros_all : (n k : ℕ) → all (eqb 0) (take n (replicate k 0)) ≡ true
unfolding all
zeros_all zero k = refl
zeros_all (suc n) zero = refl
zeros_all (suc n) (suc k) = zeros_all n k

zeros_after_lem : (n k : ℕ) → zeros_after (take n (replicate k 0)) ≡ true
unfolding zeros_after from_zero
zeros_after_lem zero k = unfold all in refl
zeros_after_lem (suc n) zero = unfold all in refl
zeros_after_lem (suc n) (suc k) = zeros_all (suc n) (suc k)

cut_zeros : (v : List ℕ) (n k : ℕ) → AllOf Lit v → zeros_after (take n (v ++ replicate k 0)) ≡ true
unfolding zeros_after from_zero
cut_zeros [] n k no_more = zeros_after_lem n k
cut_zeros (b ∷ bs) zero k (more f g) = unfold all in refl
cut_zeros (b ∷ bs) (suc n) k (more f g) = rw f.lit (cut_zeros bs n k g)

slot_zeros : (v : List ℕ) → AllOf Lit v → zeros_after (slot_of v) ≡ true
unfolding slot_of
slot_zeros v f = cut_zeros v 64 64 f

-- the slot of number k
record Slot (slots : List (List ℕ)) (k : ℕ) : Type 0 where
  pub name : List ℕ
  pub behind : List (List ℕ)
  pub is : drop k slots ≡ name ∷ behind

slot_of_lem : {P : List ℕ → Type 0} (slots : List (List ℕ)) (k : ℕ) → k < length slots → AllOf P slots → (s : Slot slots k) × P s.name
slot_of_lem [] k l no_more = absurd (let z : k < 0 = l in omega arith)
slot_of_lem (v ∷ slots) zero l (more f g) = (record { name = v; behind = slots; is = refl }, f)
slot_of_lem (v ∷ slots) (suc k) l (more f g) =
    let r = slot_of_lem slots k (let z : suc k < suc (length slots) = l in omega arith) g in
    (record { name = r.0.name; behind = r.0.behind; is = r.0.is }, r.1)

slot_at_lem : (slots : List (List ℕ)) (k : ℕ) → k < length slots → (s : Slot slots k) → slot_at (names_of slots) k ≡ slot_of s.name
unfolding slot_at names_of
slot_at_lem slots k l s =
    ap (take 64) (slots_drop k slots (omega arith) ∙ ap (flat slot_of) s.is ∙ shown) ∙ ap (λ (n : ℕ). take n (slot_of s.name ++ flat slot_of s.behind)) (sym (slot_size_lem s.name)) ∙
    take_all (slot_of s.name) (flat slot_of s.behind)
  where
    shown : flat slot_of (s.name ∷ s.behind) ≡ slot_of s.name ++ flat slot_of s.behind
    shown = unfold flat in refl

-- a name that a slot can hold
pub record Held (v : List ℕ) : Type 0 where
  pub fits : DescriptorFits v
  pub short : length v ≤ 63
  pub lit : AllOf Lit v

pub slots_fit_lem : (slots : List (List ℕ)) → AllOf Held slots → (k : ℕ) → k < length slots → slot_fits (names_of slots) k ≡ true
unfolding slot_fits name_at
slots_fit_lem slots f k l =
    let r = slot_of_lem slots k l f in
    let e = slot_at_lem slots k l r.0 in
    and_true (zeros_after (slot_at (names_of slots) k)) (is_descriptor (before_zero (slot_at (names_of slots) k))) (ap zeros_after e ∙ slot_zeros r.0.name r.1.lit)
    (ap (λ (x : List ℕ). is_descriptor (before_zero x)) e ∙ ap is_descriptor (slot_name r.0.name r.1.lit r.1.short) ∙ r.1.fits)

-- ---- actions

raise_fits_lem : (names : List ℕ) (n k x y z : ℕ) → ActFits n (act_of (name_at names) k x y z) → raise_fits names (action_of k x y z) ≡ true
unfolding raise_fits
raise_fits_lem names n zero x y z f = f
raise_fits_lem names n (suc zero) x y z f = refl
raise_fits_lem names n (suc (suc zero)) x y z f = refl
raise_fits_lem names n (suc (suc (suc zero))) x y z f = refl
raise_fits_lem names n (suc (suc (suc (suc zero)))) x y z f = refl
raise_fits_lem names n (suc (suc (suc (suc (suc zero))))) x y z f = refl
raise_fits_lem names n (suc (suc (suc (suc (suc (suc zero)))))) x y z f = by (eqb z no_number) f
  where
    by : (b : Bool) → ActFits n (sends (name_at names x) y (cond b none (some (name_at names z)))) → (is_name (name_at names x) && (b || is_name (name_at names z))) ≡ true
    by true (e, d) = and_true (is_name (name_at names x)) true e refl
    by false (e, d, i) = and_true (is_name (name_at names x)) (is_name (name_at names z)) e i
raise_fits_lem names n (suc (suc (suc (suc (suc (suc (suc k))))))) x y z f = f

pub all_mapped_at : {A : Type 0} {P : A → Type 0} (g : ℕ → A) (n i k : ℕ) → k < n → AllOf P (map g (from n i)) → P (g (i + k))
unfolding from
all_mapped_at g zero i k l f = absurd (omega arith)
all_mapped_at {P = P} g (suc n) i zero l (more f h) = subst (λ (x : ℕ). P (g x)) (plus i) f
  where
    plus : (a : ℕ) → a ≡ a + 0
    plus a = omega arith
all_mapped_at {P = P} g (suc n) i (suc k) l (more f h) = subst (λ (x : ℕ). P (g x)) (shift i k) (all_mapped_at g n (suc i) k (omega arith) h)
  where
    shift : (a b : ℕ) → suc a + b ≡ a + suc b
    shift a b = omega arith

-- tables whose blocks, read as one, are actions that fit
pub actions_named : (numbers names : List ℕ) (n : ℕ) (acts : List Act) → action_count numbers ≡ length acts → acts_at numbers names 0 (length acts) ≡ acts → AllOf (ActFits n) acts → (a : ℕ) → a < action_count numbers → action_named numbers names a ≡ true
unfolding action_named action_at acts_at
actions_named numbers names n acts e b f a l =
    raise_fits_lem names n (action_cell numbers a 0) (action_cell numbers a 1) (action_cell numbers a 2) (action_cell numbers a 3)
    (subst (λ (x : ℕ). ActFits n (look x)) (zero-add a) (all_mapped_at look (length acts) 0 a (omega arith) (subst (AllOf (ActFits n)) (sym b) f)))
  where
    look : ℕ → Act
    look a = act_of (name_at names) (action_cell numbers a 0) (action_cell numbers a 1) (action_cell numbers a 2) (action_cell numbers a 3)
