-- The names of a text, one slot behind the other.
use Rattle.std.specs.Prelude.{◌≡◌, refl, length}
use Rattle.std.proofs.Common.{sym, ◌∙◌, add-one, length-append, length-drop, take_at, drop-drop}
use Rattle.std.proofs.Math.Path.{ap}
use mathlib.Core.List.{List, [], ◌++◌, append_assoc, append-nil}
use Prim.Native.Nat.{ℕ, suc, ◌+◌, ◌*◌, ◌-◌, ◌^◌, ◌≤◌, ◌<◌}
use native.Mathlib.Omega.{arith}
use Rattle.std.proofs.Math.ListN.{get_or, take, drop}
use Rattle.std.proofs.Math.Seq.{drop-append-add}
use Rattle.definition.specs.Tables.{slot_of}
use Rattle.definition.specs.Rows.{flat}
use Rattle.reading.specs.Layout.{names_of}
use Rattle.values.specs.Ids.{id_at, ids_from, Noted}
use Rattle.lay.specs.Sizes.{slot_size_lem}

-- ---- one slot

pub record SlotRoom (place : List ℕ) (at : ℕ) : Type 0 where
  pub room : at + 64 ≤ length place
  pub fits : at < 4294967296

abbrev pub slot_laid : List ℕ → ℕ → List ℕ → List ℕ
slot_laid place at name = take at place ++ slot_of name ++ drop (at + 64) place

-- ---- all slots

pub record NamesRoom (text slots : List ℕ) (n : ℕ) (place : List ℕ) : Type 0 where
  pub noted : Noted text slots n
  pub room : n * 64 ≤ length place

pub record Naming (text slots : List ℕ) (n : ℕ) (place₀ place : List ℕ) (k : ℕ) : Type 0 where
  pub names_room_lem : NamesRoom text slots n place₀
  pub few : n ≤ 32768
  pub cells : n * 2 ≤ length slots
  pub below : k ≤ n
  pub size : length place ≡ length place₀
  pub before : List ℕ
  pub before_long : length before ≡ k * 64
  pub is : place ≡ before ++ drop (k * 64) place₀
  pub left : names_of (ids_from text slots n 0) ≡ before ++ names_of (ids_from text slots (n - k) k)

pub names_begin : (text slots : List ℕ) (n : ℕ) (place : List ℕ) → NamesRoom text slots n place → Naming text slots n place place 0
names_begin text slots n place r =
    let all : n ≡ n - 0 = omega arith in
    record {
      names_room_lem = r;
      few = r.noted.few;
      cells = r.noted.room;
      below = omega arith;
      size = refl;
      before = [];
      before_long = refl;
      is = refl;
      left = ap (λ (m : ℕ). names_of (ids_from text slots m 0)) all;
    }

module _ (text slots : List ℕ) (n : ℕ) (place₀ place : List ℕ) (k : ℕ) (w : Naming text slots n place₀ place k) where
  pub names_low : k < n → k * 2 < length slots
  names_low h = let c = w.cells in omega arith

  pub names_high : k < n → k * 2 + 1 < length slots
  names_high h = let c = w.cells in omega arith

  pub names_slot : k < n → SlotRoom place (k * 64)
  names_slot h = let r = w.names_room_lem.room in let s = w.size in let f = w.few in record { room = omega arith; fits = omega arith }

  module _ (at long : ℕ) (h : k < n) (a : at ≡ get_or slots (k * 2) 0) (b : long ≡ get_or slots (k * 2 + 1) 0) where
    pub names_fits : at + long < 2 ^ 64
    names_fits = let i = w.names_room_lem.noted.inside k h in let s = w.names_room_lem.noted.short in omega arith

    pub names_inside : at + long ≤ length text
    names_inside = let i = w.names_room_lem.noted.inside k h in omega arith

    name_is : take (at + long - at) (drop at text) ≡ id_at text slots k
    unfolding id_at
    name_is =
        let all : at + long - at ≡ get_or slots (k * 2 + 1) 0 = omega arith in
        ap (λ (m : ℕ). take m (drop at text)) all ∙ ap (λ (m : ℕ). take (get_or slots (k * 2 + 1) 0) (drop m text)) a

    next : names_of (ids_from text slots (n - k) k) ≡ slot_of (id_at text slots k) ++ names_of (ids_from text slots (n - (k + 1)) (k + 1))
    unfolding ids_from names_of flat
    next =
        let more : n - k ≡ suc (n - (k + 1)) = omega arith in
        ap (λ (m : ℕ). names_of (ids_from text slots m k)) more ∙ ap (λ (j : ℕ). slot_of (id_at text slots k) ++ names_of (ids_from text slots (n - (k + 1)) j)) (sym (add-one k))

    pub names_turn : (place' : List ℕ) → place' ≡ slot_laid place (k * 64) (take (at + long - at) (drop at text)) → Naming text slots n place₀ place' (k + 1)
    names_turn place' e =
        let slot = slot_of (id_at text slots k) in
        let old = w.before in
        let l = w.before_long in let z = slot_size_lem (id_at text slots k) in let r = w.names_room_lem.room in
        let front : take (k * 64) place ≡ old = ap (take (k * 64)) w.is ∙ take_at old (drop (k * 64) place₀) (k * 64) l in
        let at_end_lem : k * 64 + 64 ≡ length old + 64 = omega arith in
        let on : k * 64 + 64 ≡ (k + 1) * 64 = omega arith in
        let back : drop (k * 64 + 64) place ≡ drop ((k + 1) * 64) place₀ =
        ap (drop (k * 64 + 64)) w.is ∙ ap (λ (m : ℕ). drop m (old ++ drop (k * 64) place₀)) at_end_lem ∙ drop-append-add old (drop (k * 64) place₀) 64 ∙ drop-drop 64 (k * 64) place₀ ∙
        ap (λ (m : ℕ). drop m place₀) on in
        let now : place' ≡ old ++ slot ++ drop ((k + 1) * 64) place₀ =
        e ∙ ap (λ (x : List ℕ). x ++ slot_of (take (at + long - at) (drop at text)) ++ drop (k * 64 + 64) place) front ∙
        ap (λ (x : List ℕ). old ++ slot_of x ++ drop (k * 64 + 64) place) name_is ∙ ap (λ (x : List ℕ). old ++ slot ++ x) back in
        let both = length-append old slot in
        let whole = length-append (old ++ slot) (drop ((k + 1) * 64) place₀) in
        let rest = length-drop ((k + 1) * 64) place₀ in
        let s = ap length now in
        record {
          names_room_lem = w.names_room_lem;
          few = w.few;
          cells = w.cells;
          below = omega arith;
          size = omega arith;
          before = old ++ slot;
          before_long = omega arith;
          is = now;
          left = w.left ∙ ap (λ (x : List ℕ). old ++ x) next ∙ sym (append_assoc old slot (names_of (ids_from text slots (n - (k + 1)) (k + 1))));
        }

  pub names_end : n ≤ k → place ≡ names_of (ids_from text slots n 0) ++ drop (n * 64) place₀
  unfolding ids_from names_of flat
  names_end h =
      let b = w.below in
      let e : k ≡ n = omega arith in
      let none : n - k ≡ 0 = omega arith in
      let all : names_of (ids_from text slots n 0) ≡ w.before = w.left ∙ ap (λ (m : ℕ). w.before ++ names_of (ids_from text slots m k)) none ∙ append-nil w.before in
      w.is ∙ ap (λ (m : ℕ). w.before ++ drop (m * 64) place₀) e ∙ ap (λ (x : List ℕ). x ++ drop (n * 64) place₀) (sym all)
