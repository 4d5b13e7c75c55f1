-- Where bins begin, once they are full: each behind the one before it. A part of a table is a start and a count in entries of so many cells each.
use Rattle.std.specs.Prelude.{◌≡◌, refl, List, ℕ, zero, suc, ◌+◌, ◌*◌, ◌-◌, ◌/◌, ◌≤◌, ◌<◌, length, get_or, set}
use Rattle.std.proofs.Common.{ap, ◌∙◌, arith, length-set, get_or-set_same, get_or-set_other}

-- within rule 1
pub record Few (n t : ℕ) : Type 0 where
  pub rows : n ≤ 256
  pub transitions : t ≤ 512

-- where the tables behind those of n rows and t transitions begin
abbrev pub table_base : ℕ → ℕ → ℕ
table_base n t = 6 + n * 11 + t * 9

-- next holds the place behind each bin
unfoldable pub start_in : ℕ → List ℕ → ℕ → ℕ
start_in base next zero = base
start_in base next (suc k) = get_or next k 0

pub start_first : (base : ℕ) (next : List ℕ) (k : ℕ) → k ≡ 0 → base ≡ start_in base next k
unfolding start_in
start_first base next zero h = refl
start_first base next (suc k) h = absurd (omega arith)

pub start_behind : (base : ℕ) (next : List ℕ) (k x r : ℕ) → (k ≡ 0 → ⊥) → x ≡ get_or next (k - 1) 0 → r ≡ x → r ≡ start_in base next k
unfolding start_in
start_behind base next zero x r h e q = absurd (h refl)
start_behind base next (suc k) x r h e q = let d : suc k - 1 ≡ k = omega arith in q ∙ e ∙ ap (λ (j : ℕ). get_or next j 0) d

-- the first so many bins stand one behind the other
pub record Rising (base : ℕ) (next : List ℕ) (bins : ℕ) : Type 0 where
  pub there : bins ≤ length next
  pub up : (k : ℕ) → k < bins → start_in base next k ≤ start_in base next (suc k)

rises : (base : ℕ) (next : List ℕ) (bins : ℕ) → Rising base next bins → (a d : ℕ) → a + d ≤ bins → start_in base next a ≤ start_in base next (a + d)
rises base next bins r a zero h = let e : a + 0 ≡ a = omega arith in let s = ap (start_in base next) e in omega arith
rises base next bins r a (suc d) h =
    let g = rises base next bins r a d (omega arith) in
    let u = r.up (a + d) (omega arith) in
    let e : a + suc d ≡ suc (a + d) = omega arith in
    let s = ap (start_in base next) e in
    omega arith

pub starts_rise : (base : ℕ) (next : List ℕ) (bins : ℕ) → Rising base next bins → (a b : ℕ) → a ≤ b → b ≤ bins → start_in base next a ≤ start_in base next b
starts_rise base next bins r a b h l =
    let e : a + (b - a) ≡ b = omega arith in
    let g = rises base next bins r a (b - a) (omega arith) in
    let s = ap (start_in base next) e in
    omega arith

-- ---- a part of a table

-- how many entries, of so many cells each, stand in the bins from one up to another
abbrev pub entries_in : ℕ → List ℕ → ℕ → ℕ → ℕ → ℕ
entries_in base next from to width = (start_in base next to - start_in base next from) / width

pub record EntriesRoom (next : List ℕ) (base from to width : ℕ) : Type 0 where
  pub rising : Rising base next to
  pub before : from ≤ to
  pub some : 0 < width

module _ (next : List ℕ) (base from to width : ℕ) (p : EntriesRoom next base from to width) where
  pub entries_from : from ≤ length next
  entries_from = let b = p.before in let l = p.rising.there in omega arith

  pub entries_before : (x y : ℕ) → x ≡ start_in base next from → y ≡ start_in base next to → x ≤ y
  entries_before x y a b = let g = starts_rise base next to p.rising from to p.before (to_itself to) in omega arith
    where
      to_itself : (k : ℕ) → k ≤ k
      to_itself k = omega arith

  pub entries_are : (x y : ℕ) → x ≡ start_in base next from → y ≡ start_in base next to → (y - x) / width ≡ entries_in base next from to width
  entries_are x y a b = ap (λ (k : ℕ). (k - x) / width) b ∙ ap (λ (k : ℕ). (start_in base next to - k) / width) a

pub record PartRoom (out next : List ℕ) (base at first from to width : ℕ) : Type 0 where
  pub room : at + 1 < length out
  pub small : at < 4294967296
  pub rising : Rising base next to
  pub behind : first ≤ from
  pub before : from ≤ to
  pub some : 0 < width

pub record PartLaid (out out' next : List ℕ) (base at first from to width : ℕ) : Type 0 where
  pub size : length out' ≡ length out
  pub start : get_or out' at 0 ≡ entries_in base next first from width
  pub count : get_or out' (at + 1) 0 ≡ entries_in base next from to width
  pub others : (j : ℕ) → (j ≡ at → ⊥) → (j ≡ at + 1 → ⊥) → get_or out' j 0 ≡ get_or out j 0

-- fewer bins stand one behind the other too
pub rising_less : (base : ℕ) (next : List ℕ) (a b : ℕ) → Rising base next b → a ≤ b → Rising base next a
rising_less base next a b r h = let l = r.there in record { there = omega arith; up = λ k i. r.up k (omega arith) }

module _ (out next : List ℕ) (base at first from to width : ℕ) (p : PartRoom out next base at first from to width) where
  pub part_start : EntriesRoom next base first from width
  part_start = record { rising = rising_less base next from to p.rising p.before; before = p.behind; some = p.some }

  pub part_count : EntriesRoom next base from to width
  part_count = record { rising = p.rising; before = p.before; some = p.some }

  pub part_laid : (x y : ℕ) → x ≡ entries_in base next first from width → y ≡ entries_in base next from to width →
      PartLaid out (set (set out at x) (at + 1) y) next base at first from to width
  part_laid x y a b =
      let r = p.room in
      let l = length-set out at x in
      record {
        size = length-set (set out at x) (at + 1) y ∙ l;
        start = get_or-set_other (set out at x) (at + 1) at y 0 (λ q. omega arith) ∙ get_or-set_same out at x 0 (omega arith) ∙ a;
        count = get_or-set_same (set out at x) (at + 1) y 0 (omega arith) ∙ b;
        others = λ j f g. get_or-set_other (set out at x) (at + 1) j y 0 g ∙ get_or-set_other out at j x 0 f;
      }
