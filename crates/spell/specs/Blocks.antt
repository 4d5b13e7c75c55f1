-- Blocks, action by action; an if with nothing inside and its end go together.
use Rattle.std.specs.Prelude.{◌≡◌, Bool, true, cond, List, [], ◌∷◌, ◌++◌, eqb, ltb}
use Rattle.std.proofs.Math.Path.{refl, ap₂}
use Rattle.std.proofs.Common.{sym, ap, ◌∙◌, append-nil, add-one}
use Rattle.std.proofs.Math.Bool.{false, ◌&&◌}
use Prim.Native.Nat.{ℕ, zero, suc, ◌+◌, ◌-◌, ◌≤◌, ◌<◌}
use native.Mathlib.Omega.{arith}
use borrow.Author.Tests.{eqb-true, eq-eqb, ne_eqb, lt-ltb, le-ltb, ltb-true}
use Rattle.definition.specs.Rows.{from, is_empty}
use Rattle.definition.specs.Tables.{action_count, action_cell, name_at}
use Rattle.laws.specs.Bools.{and3}
use Rattle.tables.specs.Ranges.{Sized}
use Rattle.std.proofs.Math.Option.{none, some}
use Rattle.reading.specs.Content.{Act, Row, raises, hosts, if_in, elseif_in, otherwise, end_if, sends, cancels}
use Rattle.reading.specs.Layout.{act_of, acts_at, content}
use Rattle.reading.specs.Print.{condition, act_text, is_if, is_end, row_of_if, block_from, block_text, element, block_element}
use Rattle.spell.specs.Laid.{Laid, laid_as, laid_none, laid_then, Left, left_begin, left_turn, left_end}
use Rattle.spell.specs.Ready.{Ready, RowReady}
use Rattle.spell.specs.Actions.{act_at, ActionReady, if_row}

-- action a is an if, and the next one, before action n, its end
unfoldable pub is_hollow : List ℕ → ℕ → ℕ → Bool
is_hollow numbers a n = eqb (action_cell numbers a 0) 2 && ltb (a + 1) n && eqb (action_cell numbers (a + 1) 0) 5

pub record HollowReady (numbers : List ℕ) (a n : ℕ) : Type 0 where
  pub sized : Sized numbers
  pub here : a < n
  pub inside : n ≤ action_count numbers

module _ (numbers : List ℕ) (a n x : ℕ) (e : x ≡ action_cell numbers a 0) where
  pub hollow_other : (x ≡ 2 → ⊥) → false ≡ is_hollow numbers a n
  unfolding is_hollow
  hollow_other d = rw (ne_eqb (action_cell numbers a 0) 2 (λ q. d (e ∙ q)))

  pub hollow_last : x ≡ 2 → n ≤ a + 1 → false ≡ is_hollow numbers a n
  unfolding is_hollow
  hollow_last q l = rw (eq-eqb (action_cell numbers a 0) 2 (sym e ∙ q), le-ltb (a + 1) n l)

  pub hollow_next : x ≡ 2 → a + 1 < n → (y : ℕ) → y ≡ action_cell numbers (a + 1) 0 → eqb y 5 ≡ is_hollow numbers a n
  unfolding is_hollow
  hollow_next q l y f = rw (eq-eqb (action_cell numbers a 0) 2 (sym e ∙ q), lt-ltb (a + 1) n l, f)

-- ---- a block

pub record BlockReady (numbers names : List ℕ) (start count : ℕ) : Type 0 where
  pub ready : Ready numbers names
  pub inside : start + count ≤ action_count numbers

-- which kinds are an if, and its end
if_kind : (nm : ℕ → List ℕ) (k x y z : ℕ) → is_if (act_of nm k x y z) ≡ eqb k 2
if_kind nm zero x y z = refl
if_kind nm (suc zero) x y z = refl
if_kind nm (suc (suc zero)) x y z = refl
if_kind nm (suc (suc (suc zero))) x y z = refl
if_kind nm (suc (suc (suc (suc zero)))) x y z = refl
if_kind nm (suc (suc (suc (suc (suc zero))))) x y z = refl
if_kind nm (suc (suc (suc (suc (suc (suc zero)))))) x y z = refl
if_kind nm (suc (suc (suc (suc (suc (suc (suc k))))))) x y z = sym (ne_eqb (suc (suc (suc (suc (suc (suc (suc k))))))) 2 (λ q. absurd (omega arith)))

end_kind : (nm : ℕ → List ℕ) (k x y z : ℕ) (more : List Act) → is_end (act_of nm k x y z ∷ more) ≡ eqb k 5
end_kind nm zero x y z more = refl
end_kind nm (suc zero) x y z more = refl
end_kind nm (suc (suc zero)) x y z more = refl
end_kind nm (suc (suc (suc zero))) x y z more = refl
end_kind nm (suc (suc (suc (suc zero)))) x y z more = refl
end_kind nm (suc (suc (suc (suc (suc zero))))) x y z more = refl
end_kind nm (suc (suc (suc (suc (suc (suc zero)))))) x y z more = refl
end_kind nm (suc (suc (suc (suc (suc (suc (suc k))))))) x y z more = sym (ne_eqb (suc (suc (suc (suc (suc (suc (suc k))))))) 5 (λ q. absurd (omega arith)))

module _ (numbers names : List ℕ) where
  abbrev rows : List Row
  rows = (content numbers names).rows

  -- the text of the actions from a on, before action n
  abbrev pub rest : ℕ → ℕ → List ℕ
  rest a n = block_from (content numbers names).rows false (acts_at numbers names a (n - a))

  acts_more : (a k : ℕ) → acts_at numbers names a (suc k) ≡ act_at numbers names a ∷ acts_at numbers names (suc a) k
  unfolding acts_at from
  acts_more a k = refl

  -- one action, however the next looks
  one : (act : Act) (more : List Act) → (is_if act && is_end more) ≡ false → block_from rows false (act ∷ more) ≡ act_text rows act ++ block_from rows false more
  unfolding block_from
  one act more e = rw e

  two : (act end : Act) (more : List Act) → (is_if act && is_end (end ∷ more)) ≡ true →
      block_from rows false (act ∷ end ∷ more) ≡ (60 ∷ 105 ∷ 102 ∷ []) ++ condition rows (row_of_if act) ++ (47 ∷ 62 ∷ []) ++ block_from rows false more
  unfolding block_from
  two act end more e = rw e

  joined : (x y : Bool) → (x && y) ≡ (x && true && y)
  joined true y = refl
  joined false y = refl

  last : (x y : Bool) → (x && false) ≡ (x && false && y)
  last true y = refl
  last false y = refl

  no_end : (a : ℕ) → is_end (acts_at numbers names a 0) ≡ false
  unfolding acts_at from
  no_end a = refl

  -- the definition's two tests are the writer's
  is_pair : (a k : ℕ) → (is_if (act_at numbers names a) && is_end (acts_at numbers names (suc a) k)) ≡ is_hollow numbers a (a + suc k)
  unfolding is_hollow
  is_pair a zero =
      ap₂ ◌&&◌ (if_kind (name_at names) (action_cell numbers a 0) _ _ _) (no_end (suc a)) ∙ last (eqb (action_cell numbers a 0) 2) (eqb (action_cell numbers (a + 1) 0) 5) ∙
      rw (le-ltb (a + 1) (a + 1) (omega arith))
  is_pair a (suc k) =
      ap₂ ◌&&◌ (if_kind (name_at names) (action_cell numbers a 0) _ _ _) (ap is_end (acts_more (suc a) k) ∙ end_kind (name_at names) (action_cell numbers (suc a) 0) _ _ _ (acts_at numbers names (suc (suc a)) k)) ∙
      joined (eqb (action_cell numbers a 0) 2) (eqb (action_cell numbers (suc a) 0) 5) ∙ rw (add-one a, lt-ltb (suc a) (a + suc (suc k)) (omega arith))

  pub record Blocking (start count : ℕ) (place : List ℕ) (from : ℕ) (out : List ℕ) (at a : ℕ) : Type 0 where
    pub block : BlockReady numbers names start count
    pub above : start ≤ a
    pub below : a ≤ start + count
    pub left : Left (block_text (content numbers names).rows (acts_at numbers names start count)) place from (rest a (start + count)) out at

  pub block_begin : (start count : ℕ) (place : List ℕ) (from : ℕ) → BlockReady numbers names start count → Blocking start count place from place from start
  block_begin start count place from h =
      let e : start + count - start ≡ count = omega arith in
      record { block = h; above = omega arith; below = omega arith; left = rw e left_begin }

  module _ (start count : ℕ) (place : List ℕ) (from : ℕ) (out : List ℕ) (at a : ℕ) (h : Blocking start count place from out at a) where
    pub block_hollow : a < start + count → HollowReady numbers a (start + count)
    block_hollow l = let i = h.block.inside in record { sized = h.block.ready.tables.sized; here = l; inside = omega arith }

    pub block_action : a < start + count → ActionReady numbers names a
    block_action l = let i = h.block.inside in record { ready = h.block.ready; below = omega arith }

    kinds : is_hollow numbers a (start + count) ≡ true → (action_cell numbers a 0 ≡ 2) × (a + 1 < start + count)
    unfolding is_hollow
    kinds e =
        let k = and3 (eqb (action_cell numbers a 0) 2) (ltb (a + 1) (start + count)) (eqb (action_cell numbers (a + 1) 0) 5) e in
        (eqb-true (action_cell numbers a 0) 2 k.0, ltb-true (a + 1) (start + count) k.1)

    module _ (z : Bool) (e : z ≡ is_hollow numbers a (start + count)) where
      module _ (yes : z ≡ true) (i : ℕ) (q : i ≡ action_cell numbers a 1) where
        pub block_row : a < start + count → RowReady numbers names i
        block_row l = if_row numbers names a (block_action l) (kinds (sym e ∙ yes)).0 i q

        pub block_pair : a < start + count → {out' : List ℕ} {at' : ℕ} → Laid ((60 ∷ 105 ∷ 102 ∷ []) ++ condition (content numbers names).rows i ++ (47 ∷ 62 ∷ [])) out at out' at' → Blocking start count place from out' at' (a + 2)
        block_pair l p =
            let m = (kinds (sym e ∙ yes)).1 in let above = h.above in
            record { block = h.block; above = omega arith; below = omega arith; left = left_turn h.left paired p }
          where
            k : ℕ
            k = start + count - (a + 2)

            row : row_of_if (act_at numbers names a) ≡ i
            row = rw (kinds (sym e ∙ yes)).0 (sym q)

            pair : (is_if (act_at numbers names a) && is_end (act_at numbers names (suc a) ∷ acts_at numbers names (suc (suc a)) k)) ≡ true
            pair =
                let m = (kinds (sym e ∙ yes)).1 in
                let n : a + suc (suc k) ≡ start + count = omega arith in
                ap (λ (more : List Act). is_if (act_at numbers names a) && is_end more) (sym (acts_more (suc a) k)) ∙ is_pair a (suc k) ∙ ap (is_hollow numbers a) n ∙ sym e ∙ yes

            paired : rest a (start + count) ≡ (60 ∷ 105 ∷ 102 ∷ []) ++ condition rows i ++ (47 ∷ 62 ∷ []) ++ rest (a + 2) (start + count)
            paired =
                let m = (kinds (sym e ∙ yes)).1 in
                let n : start + count - a ≡ suc (suc k) = omega arith in
                let two-on : suc (suc a) ≡ a + 2 = omega arith in
                ap (λ (j : ℕ). block_from rows false (acts_at numbers names a j)) n ∙ ap (block_from rows false) (acts_more a (suc k) ∙ ap (λ (more : List Act). act_at numbers names a ∷ more) (acts_more (suc a) k)) ∙
                two (act_at numbers names a) (act_at numbers names (suc a)) (acts_at numbers names (suc (suc a)) k) pair ∙
                ap₂ (λ (r b : ℕ). (60 ∷ 105 ∷ 102 ∷ []) ++ condition rows r ++ (47 ∷ 62 ∷ []) ++ block_from rows false (acts_at numbers names b k)) row two-on

      pub block_one : z ≡ false → a < start + count → {out' : List ℕ} {at' : ℕ} → Laid (act_text (content numbers names).rows (act_at numbers names a)) out at out' at' → Blocking start count place from out' at' (a + 1)
      block_one other l p = let above = h.above in record { block = h.block; above = omega arith; below = omega arith; left = left_turn h.left single p }
        where
          k : ℕ
          k = start + count - (a + 1)

          single : rest a (start + count) ≡ act_text rows (act_at numbers names a) ++ rest (a + 1) (start + count)
          single =
              let n : start + count - a ≡ suc k = omega arith in
              let w : a + suc k ≡ start + count = omega arith in
              ap (λ (j : ℕ). block_from rows false (acts_at numbers names a j)) n ∙ ap (block_from rows false) (acts_more a k) ∙
              one (act_at numbers names a) (acts_at numbers names (suc a) k) (is_pair a k ∙ ap (is_hollow numbers a) w ∙ sym e ∙ other) ∙
              ap (λ (b : ℕ). act_text rows (act_at numbers names a) ++ block_from rows false (acts_at numbers names b k)) (sym (add-one a))

    pub block_end : start + count ≤ a → Laid (block_text (content numbers names).rows (acts_at numbers names start count)) place from out at
    unfolding block_from acts_at from
    block_end l = left_end h.left (let n : start + count - a ≡ 0 = omega arith in rw n)

-- ---- elements with a block

act_some : (rs : List Row) (act : Act) (more : List ℕ) → is_empty (act_text rs act ++ more) ≡ false
unfolding act_text is_empty
act_some rs (raises n) more = refl
act_some rs (hosts k) more = refl
act_some rs (if_in i) more = refl
act_some rs (elseif_in i) more = refl
act_some rs otherwise more = refl
act_some rs end_if more = refl
act_some rs (sends n d none) more = refl
act_some rs (sends n d (some i)) more = refl
act_some rs (cancels n) more = refl

block_some : (rs : List Row) (act : Act) (more : List Act) → is_empty (block_from rs false (act ∷ more)) ≡ false
unfolding block_from
block_some rs act more = by (is_if act && is_end more)
  where
    by : (z : Bool) → is_empty (cond z ((60 ∷ 105 ∷ 102 ∷ []) ++ condition rs (row_of_if act) ++ (47 ∷ 62 ∷ []) ++ block_from rs true more) (act_text rs act ++ block_from rs false more)) ≡ false
    by true = unfold is_empty in refl
    by false = act_some rs act (block_from rs false more)

-- what follows the attributes of an element
abbrev pub closing : List ℕ → List ℕ → List ℕ
closing name inside = cond (is_empty inside) (47 ∷ 62 ∷ []) ((62 ∷ []) ++ inside ++ (60 ∷ 47 ∷ []) ++ name ++ (62 ∷ []))

module _ (numbers names : List ℕ) (start count : ℕ) where
  abbrev text : List ℕ
  text = block_text (content numbers names).rows (acts_at numbers names start count)

  empty_block : count ≡ 0 → is_empty (acts_at numbers names start count) ≡ true
  unfolding acts_at from is_empty
  empty_block e = rw e

  full_block : (k : ℕ) → (k ≡ 0 → ⊥) → is_empty (acts_at numbers names start k) ≡ false
  unfolding acts_at from is_empty
  full_block zero d = absurd (d refl)
  full_block (suc k) d = refl

  empty_text : count ≡ 0 → is_empty text ≡ true
  unfolding acts_at from is_empty block_from
  empty_text e = rw e

  full_text : (k : ℕ) → (k ≡ 0 → ⊥) → is_empty (block_text (content numbers names).rows (acts_at numbers names start k)) ≡ false
  full_text zero d = absurd (d refl)
  full_text (suc k) d = ap (λ (acts : List Act). is_empty (block_text (content numbers names).rows acts)) (acts_more numbers names start k) ∙ block_some (content numbers names).rows (act_at numbers names start) _

  module _ (name : List ℕ) where
    pub inside_empty : count ≡ 0 → {place out : List ℕ} {from at : ℕ} → Laid (47 ∷ 62 ∷ []) place from out at → Laid (closing name text) place from out at
    inside_empty e l = laid_as (rw (empty_text e)) l

    pub inside_full : (count ≡ 0 → ⊥) → {place a b c d out : List ℕ} {from i j k m at : ℕ} → Laid (62 ∷ []) place from a i → Laid text a i b j → Laid (60 ∷ 47 ∷ []) b j c k → Laid name c k d m →
        Laid (62 ∷ []) d m out at → Laid (closing name text) place from out at
    inside_full d p q r s t = laid_as (rw (full_text count d)) (laid_then (laid_then (laid_then (laid_then p q) r) s) t)

    pub element_none : count ≡ 0 → {out : List ℕ} {at : ℕ} → Laid (block_element (content numbers names).rows name (acts_at numbers names start count)) out at out at
    element_none e = laid_as (rw (empty_block e)) laid_none

    pub element_some : (count ≡ 0 → ⊥) → {place a b out : List ℕ} {from i j at : ℕ} → Laid (60 ∷ []) place from a i → Laid name a i b j → Laid (closing name text) b j out at →
        Laid (block_element (content numbers names).rows name (acts_at numbers names start count)) place from out at
    element_some d p q r = laid_as (rw (full_block count d) regroup) (laid_then (laid_then p q) r)
      where
        regroup : element name [] text ≡ (60 ∷ []) ++ name ++ closing name text
        regroup = ap (λ (x : List ℕ). 60 ∷ (x ++ closing name text)) (append-nil name)
