-- Where a new name's number is to be written: its way through a tree ends there.
use Rattle.std.specs.Prelude.{◌≡◌, List}
use Rattle.std.proofs.Math.Path.{refl, sym, ap}
use Rattle.std.proofs.Common.{◌∙◌}
use Prim.Native.Nat.{ℕ, zero, suc, ◌+◌, ◌*◌, ◌-◌, ◌%◌, ◌≤◌, ◌<◌}
use native.Mathlib.Omega.{arith}
use Rattle.std.proofs.Math.ListN.{length, get_or}
use Rattle.values.specs.Trees.{hash_from, key_of, key_low, side_of, side_at, side_low, path_at, path_low}
use Rattle.values.specs.Ids.{id_at, end_of, head_at, next_at, Index}

-- some names of some text stand in the trees
pub record Planted (ids : List ℕ) : Type 0 where
  pub text : List ℕ
  pub n : ℕ
  pub index : Index text ids n

abbrev pub way_at : List ℕ → List ℕ → ℕ → ℕ
way_at ids v d = path_at (head_at ids) (next_at ids) v d

-- where the number that stands so deep on the name's way is written
unfoldable pub cell_at : List ℕ → List ℕ → ℕ → ℕ
cell_at ids v zero = end_of ids + key_of v
cell_at ids v (suc d) = end_of ids - way_at ids v d * 3 + side_at v d

pub record Free (ids v : List ℕ) (spot : ℕ) : Type 0 where
  pub free : get_or ids spot 0 ≡ 0
  pub steps : ℕ
  pub is : spot ≡ cell_at ids v steps
  pub before : (d : ℕ) → suc d ≡ steps → 0 < way_at ids v d

-- ---- the loop

pub record Going (ids v : List ℕ) (hash end spot x depth : ℕ) : Type 0 where
  pub planted : Planted ids
  pub end_is : end ≡ length ids - 1024
  pub hash_is : hash ≡ hash_from 0 v
  pub is : spot ≡ cell_at ids v depth
  pub x_is : x ≡ way_at ids v depth
  pub there : x ≡ get_or ids spot 0
  pub low : x ≤ planted.n
  pub deep : depth ≤ planted.n
  pub above : 0 < x → depth < x
  pub before : (d : ℕ) → suc d ≡ depth → 0 < way_at ids v d

pub planted_keys : (ids : List ℕ) → Planted ids → 1024 ≤ length ids
planted_keys ids w = let r = w.index.room in omega arith

module _ (ids v : List ℕ) (w : Planted ids) (end hash : ℕ) (e : end ≡ length ids - 1024) (k : hash ≡ hash_from 0 v) where
  key_is : hash % 1024 ≡ key_of v
  unfolding key_of
  key_is = ap (λ (h : ℕ). h % 1024) k

  pub go_head : end + hash % 1024 < length ids
  go_head = let r = w.index.room in let q = key_is in let l = key_low v in omega (arith, q, l)

  pub go_start : (x : ℕ) → x ≡ get_or ids (end + hash % 1024) 0 → Going ids v hash end (end + hash % 1024) x 0
  unfolding cell_at path_at head_at
  go_start x q =
      let s : end + hash % 1024 ≡ length ids - 1024 + key_of v = ap (λ (i : ℕ). i + hash % 1024) e ∙ ap (λ (i : ℕ). length ids - 1024 + i) key_is in
      record {
        planted = w;
        end_is = e;
        hash_is = k;
        is = s;
        x_is = q ∙ ap (λ (i : ℕ). get_or ids i 0) s;
        there = q;
        low = rw (q ∙ ap (λ (i : ℕ). get_or ids i 0) s) (path_low (id_at w.text ids) (head_at ids) (next_at ids) w.n w.index.grown v 0);
        deep = omega arith;
        above = λ p. p;
        before = λ d z. absurd (omega arith);
      }

module _ (ids v : List ℕ) (hash end spot x depth : ℕ) (w : Going ids v hash end spot x depth) where
  pub go_threes : 0 < x → x * 3 ≤ end
  go_threes p = let l = w.low in let e = w.end_is in let r = w.planted.index.room in omega (arith, l, e, r)

  pub go_deep : depth ≤ 32768
  go_deep = let d = w.deep in let f = w.planted.index.few in omega arith

  module _ (p : 0 < x) (side : ℕ) (k : (side ≡ side_of v hash depth) × (side < 2)) where
    pub go_link : end - x * 3 + side < length ids
    go_link = let m = k.1 in let l = w.low in let e = w.end_is in let r = w.planted.index.room in omega (arith, m, l, e, r)

    side_is : side ≡ side_at v depth
    unfolding side_at
    side_is = k.0 ∙ ap (λ (h : ℕ). side_of v h depth) w.hash_is

    cell_is : end - x * 3 + side ≡ cell_at ids v (suc depth)
    unfolding cell_at
    cell_is = ap (λ (i : ℕ). i - x * 3 + side) w.end_is ∙ ap (λ (y : ℕ). length ids - 1024 - y * 3 + side) w.x_is ∙ ap (λ (s : ℕ). length ids - 1024 - way_at ids v depth * 3 + s) side_is

    cell_next : (y s : ℕ) → 0 < y → next_at ids y s ≡ get_or ids (length ids - 1024 - y * 3 + s) 0
    unfolding next_at
    cell_next zero s l = absurd (omega arith)
    cell_next (suc j) s l = refl

    way_next : get_or ids (cell_at ids v (suc depth)) 0 ≡ way_at ids v (suc depth)
    unfolding cell_at path_at
    way_next = let q = w.x_is in sym (cell_next (way_at ids v depth) (side_at v depth) (omega (arith, q, p)))

    pub go_more : (x' : ℕ) → x' ≡ get_or ids (end - x * 3 + side) 0 → Going ids v hash end (end - x * 3 + side) x' (depth + 1)
    go_more x' q =
        let one : depth + 1 ≡ suc depth = omega arith in
        let i = w.planted.index in
        let l = w.low in let a = w.above p in
        let g : x' ≡ way_at ids v (suc depth) = q ∙ ap (λ (c : ℕ). get_or ids c 0) cell_is ∙ way_next in
        record {
          planted = w.planted;
          end_is = w.end_is;
          hash_is = w.hash_is;
          is = cell_is ∙ ap (cell_at ids v) (sym one);
          x_is = g ∙ ap (λ (d : ℕ). way_at ids v d) (sym one);
          there = q;
          low = let m = path_low (id_at w.planted.text ids) (head_at ids) (next_at ids) w.planted.n i.grown v (suc depth) in omega (arith, g, m);
          deep = omega (arith, l, a);
          above = λ r.
              let h : x' ≡ next_at ids x (side_at v depth) = g ∙ (unfold path_at in (ap (λ (y : ℕ). next_at ids y (side_at v depth)) (sym w.x_is))) in
              let m = i.grown.later x (side_at v depth) p l (side_low v depth) (omega (arith, h, r)) in
              omega (arith, m, h, a);
          before = λ d z. let e : d ≡ depth = omega arith in let u = w.x_is in rw e (omega (arith, u, p));
        }

  pub go_end : x ≤ 0 → Free ids v spot
  go_end h = let t = w.there in record { free = omega (arith, t, h); steps = depth; is = w.is; before = w.before }
