-- One name more among those noted.
use Rattle.std.specs.Prelude.{◌≡◌, true, false, length, take, drop, replicate}
use Rattle.std.proofs.lemmas.List.{get_or-replicate, length-replicate, get_or-append_right, length-append, length-take}
use Rattle.std.proofs.Math.Path.{refl, ap}
use Rattle.std.proofs.Common.{sym, ◌∙◌, add-one, get_or-set_same, get_or-set_other}
use mathlib.Core.List.{List, [], ◌∷◌, ◌++◌}
use Prim.Native.Nat.{ℕ, zero, suc, ◌+◌, ◌*◌, ◌-◌, ◌/◌, ◌≤◌, ◌<◌}
use native.Mathlib.Omega.{arith}
use Rattle.std.proofs.Math.ListN.{get_or, set, length-set}
use Rattle.definition.specs.Rows.{same}
use Rattle.laws.specs.Bools.{eq_case}
use Rattle.laws.specs.Lists.{same_eq}
use Rattle.reading.specs.Content.{place_of}
use Rattle.values.specs.Trees.{hash_from, key_of, key_low, tag_of, side_at, side_low, path_at, path_low, Link, Grown, grown_none, grown_known, grown_new, root_new, path_kept}
use Rattle.values.specs.Ids.{id_at, ids_from, ids_alike, ids_snoc, head_at, next_at, tag_at, Index}
use Rattle.values.specs.Places.{place_hit, place_miss}
use Rattle.values.specs.Spots.{Planted, way_at, cell_at, Free}

-- ---- none is noted

pub record Forgotten (ids ids' : List ℕ) : Type 0 where
  pub size : length ids' ≡ length ids
  pub zeros : (h : ℕ) → h < 1024 → get_or ids' (length ids - 1024 + h) 0 ≡ 0

pub forgotten_index : (text ids ids' : List ℕ) → length text ≤ 32768 → 1024 ≤ length ids → Forgotten ids ids' → Index text ids' 0
unfolding head_at next_at
forgotten_index text ids ids' s r f =
    let e = f.size in
    record {
      short = s;
      few = omega arith;
      room = omega arith;
      inside = λ k l. absurd (omega arith);
      tags = λ k l. absurd (omega arith);
      grown = grown_none (id_at text ids') (head_at ids') (next_at ids') (λ h l. ap (λ (m : ℕ). get_or ids' (m - 1024 + h) 0) e ∙ f.zeros h l) (λ s. refl);
    }

-- zeros behind the numbers before the keys
pub forget_done : (ids ids' : List ℕ) (end : ℕ) → 1024 ≤ length ids → end ≡ length ids - 1024 → ids' ≡ take end ids ++ replicate (length ids - end) 0 → Forgotten ids ids'
forget_done ids ids' end r e q = record { size = size; zeros = zeros }
  where
    size : length ids' ≡ length ids
    size = ap length q ∙ simp (length-append, length-take, length-replicate) (omega arith)

    zeros : (h : ℕ) → h < 1024 → get_or ids' (length ids - 1024 + h) 0 ≡ 0
    zeros h l =
        ap (λ (xs : List ℕ). get_or xs (length ids - 1024 + h) 0) q ∙
        get_or-append_right (take end ids) (replicate (length ids - end) 0) end (length ids - 1024 + h) 0 (simp length-take (omega arith)) (omega arith) ∙
        get_or-replicate (length ids - end) (length ids - 1024 + h - end) 0 0 (omega arith)

-- ---- a name behind those that are there

pub record NoteRoom (text ids : List ℕ) (n at to place : ℕ) : Type 0 where
  pub index : Index text ids n
  pub few : n < 32768
  pub room : n * 5 + 1029 ≤ length ids
  pub first : at ≤ to
  pub quote : to ≤ length text
  pub short : length text ≤ 32768
  pub place_is : place ≡ place_of (take (to - at) (drop at text)) (ids_from text ids n 0)

pub record NotedMore (text ids ids' : List ℕ) (n at to r : ℕ) : Type 0 where
  pub count_is : r ≡ n + 1
  pub size : length ids' ≡ length ids
  pub kept : (c : ℕ) → c < n * 2 → get_or ids' c 0 ≡ get_or ids c 0
  pub index : Index text ids' (n + 1)
  pub ids_are : ids_from text ids' (n + 1) 0 ≡ ids_from text ids n 0 ++ take (to - at) (drop at text) ∷ []

-- the name's two numbers are written, two empty trees and its tag
unfoldable pub entered : List ℕ → ℕ → ℕ → ℕ → ℕ → List ℕ
entered ids n a b t =
    set (set (set (set (set ids (n * 2) a) (n * 2 + 1) b) (length ids - 1024 - (n + 1) * 3) 0) (length ids - 1024 - (n + 1) * 3 + 1) 0) (length ids - 1024 - (n + 1) * 3 + 2) t

pub record EnterRoom (ids : List ℕ) (n at long tag : ℕ) : Type 0 where
  pub few : n < 32768
  pub keys : 1024 ≤ length ids
  pub room : n * 5 + 1029 ≤ length ids
  pub first : at < 65536
  pub short : long < 65536
  pub small : tag < 65536

module _ (ids : List ℕ) (n at long tag : ℕ) (w : EnterRoom ids n at long tag) where
  pub enter_threes : (n + 1) * 3 ≤ length ids - 1024
  enter_threes = let r = w.room in omega arith

  pub enter_low : n * 2 < length ids
  enter_low = let r = w.room in omega arith

  pub enter_high : n * 2 + 1 < length ids
  enter_high = let r = w.room in omega arith

  pub enter_left : length ids - 1024 - (n + 1) * 3 < length ids
  enter_left = let r = w.room in omega arith

  pub enter_right : length ids - 1024 - (n + 1) * 3 + 1 < length ids
  enter_right = let r = w.room in omega arith

  pub enter_tag : length ids - 1024 - (n + 1) * 3 + 2 < length ids
  enter_tag = let r = w.room in omega arith

  pub enter_done : (a b t : ℕ) → a ≡ at → b ≡ long → t ≡ tag →
      set (set (set (set (set ids (n * 2) a) (n * 2 + 1) b) (length ids - 1024 - (n + 1) * 3) 0) (length ids - 1024 - (n + 1) * 3 + 1) 0) (length ids - 1024 - (n + 1) * 3 + 2) t ≡ entered ids n at long tag
  unfolding entered
  enter_done a b t ea eb et = rw (ea, eb, et) refl

module _ (text ids : List ℕ) (n at to place : ℕ) (w : NoteRoom text ids n at to place) where
  abbrev name : List ℕ
  name = take (to - at) (drop at text)

  abbrev end : ℕ
  end = length ids - 1024

  abbrev own : ℕ
  own = length ids - 1024 - (n + 1) * 3

  module _ (a b t : ℕ) (ea : a ≡ at) (eb : b ≡ to - at) (et : t ≡ tag_of name) where
    abbrev one : List ℕ
    one = set ids (n * 2) a

    abbrev two : List ℕ
    two = set (set ids (n * 2) a) (n * 2 + 1) b

    abbrev three : List ℕ
    three = set (set (set ids (n * 2) a) (n * 2 + 1) b) own 0

    abbrev four : List ℕ
    four = set (set (set (set ids (n * 2) a) (n * 2 + 1) b) own 0) (own + 1) 0

    abbrev out : List ℕ
    out = set (set (set (set (set ids (n * 2) a) (n * 2 + 1) b) own 0) (own + 1) 0) (own + 2) t

    one_size : length one ≡ length ids
    one_size = length-set ids (n * 2) a

    two_size : length two ≡ length ids
    two_size = length-set one (n * 2 + 1) b ∙ one_size

    three_size : length three ≡ length ids
    three_size = length-set two own 0 ∙ two_size

    four_size : length four ≡ length ids
    four_size = length-set three (own + 1) 0 ∙ three_size

    out_size : length out ≡ length ids
    out_size = length-set four (own + 2) t ∙ four_size

    -- what stands elsewhere is as it was
    out_other : (c : ℕ) → (c ≡ n * 2 → ⊥) → (c ≡ n * 2 + 1 → ⊥) → (c ≡ own → ⊥) → (c ≡ own + 1 → ⊥) → (c ≡ own + 2 → ⊥) → get_or out c 0 ≡ get_or ids c 0
    out_other c p q r s u =
        get_or-set_other four (own + 2) c t 0 u ∙ get_or-set_other three (own + 1) c 0 0 s ∙ get_or-set_other two own c 0 0 r ∙ get_or-set_other one (n * 2 + 1) c b 0 q ∙ get_or-set_other ids (n * 2) c a 0 p

    -- the first numbers are left by the later ones
    out_two : (c : ℕ) → c < own → get_or out c 0 ≡ get_or two c 0
    out_two c l = get_or-set_other four (own + 2) c t 0 (λ e. omega (arith, e, l)) ∙ get_or-set_other three (own + 1) c 0 0 (λ e. omega (arith, e, l)) ∙ get_or-set_other two own c 0 0 (λ e. omega (arith, e, l))

    out_at : get_or out (n * 2) 0 ≡ at
    out_at = let r = w.room in out_two (n * 2) (omega (arith, r)) ∙ get_or-set_other one (n * 2 + 1) (n * 2) b 0 (λ e. omega arith) ∙ get_or-set_same ids (n * 2) a 0 (omega (arith, r)) ∙ ea

    out_long : get_or out (n * 2 + 1) 0 ≡ to - at
    out_long = let r = w.room in let l = one_size in out_two (n * 2 + 1) (omega (arith, r)) ∙ get_or-set_same one (n * 2 + 1) b 0 (omega (arith, r, l)) ∙ eb

    out_left : get_or out own 0 ≡ 0
    out_left =
        let r = w.room in let l = two_size in
        get_or-set_other four (own + 2) own t 0 (λ e. omega (arith, e)) ∙ get_or-set_other three (own + 1) own 0 0 (λ e. omega (arith, e)) ∙ get_or-set_same two own 0 0 (omega (arith, r, l))

    out_right : get_or out (own + 1) 0 ≡ 0
    out_right = let r = w.room in let l = three_size in get_or-set_other four (own + 2) (own + 1) t 0 (λ e. omega (arith, e)) ∙ get_or-set_same three (own + 1) 0 0 (omega (arith, r, l))

    out_tag : get_or out (own + 2) 0 ≡ t
    out_tag = let r = w.room in let l = four_size in get_or-set_same four (own + 2) t 0 (omega (arith, r, l))

    out_kept : (c : ℕ) → c < n * 2 → get_or out c 0 ≡ get_or ids c 0
    out_kept c h =
        let r = w.room in
        out_other c (λ e. omega (arith, e, h)) (λ e. omega (arith, e, h)) (λ e. omega (arith, e, h, r)) (λ e. omega (arith, e, h, r)) (λ e. omega (arith, e, h, r))

    -- the trees of the names before it
    out_trees : (c : ℕ) → end - n * 3 ≤ c → get_or out c 0 ≡ get_or ids c 0
    out_trees c h =
        let r = w.room in
        out_other c (λ e. omega (arith, e, h, r)) (λ e. omega (arith, e, h, r)) (λ e. omega (arith, e, h, r)) (λ e. omega (arith, e, h, r)) (λ e. omega (arith, e, h, r))

    -- what the place holds then, if a number among the trees of the names before it is written yet, which is no tag
    module _ (ids' : List ℕ) (size : length ids' ≡ length ids) (before : (c : ℕ) → c < end - n * 3 → get_or ids' c 0 ≡ get_or out c 0)
        (tags : (k : ℕ) → k < n → get_or ids' (end - suc k * 3 + 2) 0 ≡ get_or ids (end - suc k * 3 + 2) 0) where
      kept : (c : ℕ) → c < n * 2 → get_or ids' c 0 ≡ get_or ids c 0
      kept c h = let r = w.room in before c (omega (arith, h, r)) ∙ out_kept c h

      at_is : get_or ids' (n * 2) 0 ≡ at
      at_is = let r = w.room in before (n * 2) (omega (arith, r)) ∙ out_at

      long_is : get_or ids' (n * 2 + 1) 0 ≡ to - at
      long_is = let r = w.room in before (n * 2 + 1) (omega (arith, r)) ∙ out_long

      names : (j : ℕ) → j < n → id_at text ids' j ≡ id_at text ids j
      unfolding id_at
      names j l = rw (kept (j * 2) (omega arith), kept (j * 2 + 1) (omega arith)) refl

      last : id_at text ids' n ≡ name
      unfolding id_at
      last = rw (at_is, long_is) refl

      -- the new name's own cells
      cell : (i : ℕ) → i < 3 → get_or ids' (length ids' - 1024 - suc n * 3 + i) 0 ≡ get_or out (own + i) 0
      cell i l =
          let r = w.room in let q : n + 1 ≡ suc n = add-one n in
          ap (λ (m : ℕ). get_or ids' (m - 1024 - suc n * 3 + i) 0) size ∙ before (end - suc n * 3 + i) (omega (arith, r, l)) ∙ ap (λ (m : ℕ). get_or out (end - m * 3 + i) 0) (sym q)

      leaf : (s : ℕ) → s < 2 → next_at ids' (suc n) s ≡ 0
      unfolding next_at
      leaf zero l = let q : own + 0 ≡ own = omega arith in cell 0 (omega arith) ∙ ap (λ (c : ℕ). get_or out c 0) q ∙ out_left
      leaf (suc zero) l = cell 1 (omega arith) ∙ out_right
      leaf (suc (suc s)) l = absurd (omega arith)

      tagged : (k : ℕ) → k < n + 1 → tag_at ids' k ≡ tag_of (id_at text ids' k)
      unfolding tag_at
      tagged k l =
          eq_case k n
          (λ q. rw q (cell 2 (omega arith) ∙ out_tag ∙ et ∙ ap tag_of (sym last)))
          (λ q. let m : k < n = omega (arith, q, l) in ap (λ (i : ℕ). get_or ids' (i - 1024 - suc k * 3 + 2) 0) size ∙ tags k m ∙ w.index.tags k m ∙ ap tag_of (sym (names k m)))

      all_inside : (k : ℕ) → k < n + 1 → get_or ids' (k * 2) 0 + get_or ids' (k * 2 + 1) 0 ≤ length text
      all_inside k l =
          eq_case k n
          (λ q. rw (q, at_is, long_is) (let u = w.first in let v = w.quote in omega (arith, u, v)))
          (λ q. let m : k < n = omega (arith, q, l) in rw (kept (k * 2) (omega (arith, m)), kept (k * 2 + 1) (omega (arith, m))) (w.index.inside k m))

      ids_more : ids_from text ids' (n + 1) 0 ≡ ids_from text ids n 0 ++ name ∷ []
      ids_more =
          let z : 0 + n ≡ n = omega arith in
          ap (λ (k : ℕ). ids_from text ids' k 0) (add-one n) ∙ ids_snoc text ids' n 0 ∙ ap (λ (k : ℕ). ids_from text ids' n 0 ++ id_at text ids' k ∷ []) z ∙
          ap (λ (v : List ℕ). ids_from text ids' n 0 ++ v ∷ []) last ∙ ap (λ (l : List (List ℕ)). l ++ name ∷ []) (ids_alike text ids ids' n 0 (λ c h. kept c (omega (arith, h))))

      more : (r : ℕ) → r ≡ n + 1 → Grown (id_at text ids') (head_at ids') (next_at ids') (n + 1) → NotedMore text ids ids' n at to r
      more r e c =
          let f = w.few in let m = w.room in
          record {
            count_is = e;
            size = size;
            kept = kept;
            index = record { short = w.short; few = omega (arith, f); room = omega (arith, m, size); inside = all_inside; tags = tagged; grown = c };
            ids_are = ids_more;
          }

  from_zero : (j : ℕ) → 0 + j ≡ j
  from_zero j = omega arith

  -- ---- the roots and links of a place as long

  module _ (ids' : List ℕ) (size : length ids' ≡ length ids) where
    head_is : (h : ℕ) → head_at ids' h ≡ get_or ids' (end + h) 0
    unfolding head_at
    head_is h = ap (λ (m : ℕ). get_or ids' (m - 1024 + h) 0) size

    next_is : (x s : ℕ) → 0 < x → next_at ids' x s ≡ get_or ids' (end - x * 3 + s) 0
    unfolding next_at
    next_is zero s p = absurd (omega arith)
    next_is (suc k) s p = ap (λ (m : ℕ). get_or ids' (m - 1024 - suc k * 3 + s) 0) size

    next_none : (s : ℕ) → next_at ids' 0 s ≡ 0
    unfolding next_at
    next_none s = refl

    module _ (spot : ℕ) (others : (c : ℕ) → end - n * 3 ≤ c → (c ≡ spot → ⊥) → get_or ids' c 0 ≡ get_or ids c 0) where
      head_other : (h : ℕ) → (end + h ≡ spot → ⊥) → head_at ids' h ≡ head_at ids h
      unfolding head_at
      head_other h d = head_is h ∙ others (end + h) (omega arith) d

      next_other : (x s : ℕ) → 0 < x → x ≤ n → (end - x * 3 + s ≡ spot → ⊥) → next_at ids' x s ≡ next_at ids x s
      next_other x s p l d = next_is x s p ∙ others (end - x * 3 + s) (omega (arith, l)) d ∙ sym (old x s p)
        where
          old : (y s : ℕ) → 0 < y → next_at ids y s ≡ get_or ids (end - y * 3 + s) 0
          old zero s p = absurd (omega arith)
          old (suc k) s p = unfold next_at in refl

  -- ---- a name that is there already

  known : (a b t : ℕ) → a ≡ at → b ≡ to - at → t ≡ tag_of name → place < n → NotedMore text ids (entered ids n a b t) n at to (n + 1)
  unfolding entered
  known a b t ea eb et l =
      more a b t ea eb et out' size (λ c h. refl) tags (n + 1) refl
      (grown_known (id_at text ids) (id_at text out') (head_at ids) (head_at out') (next_at ids) (next_at out') n w.index.grown names'
      (λ h b p. heads h) (λ x s p b m q. nexts x s p b) (λ h b d. absurd (d (heads h))) (λ x s p b m d. absurd (d (nexts x s p b))) (next_none out' size) (leaf a b t ea eb et out' size (λ c h. refl) tags)
      place l (last a b t ea eb et out' size (λ c h. refl) tags ∙ same_eq name (id_at text ids place) hit))
    where
      out' : List ℕ
      out' = entered ids n a b t

      size : length out' ≡ length ids
      size = out_size a b t ea eb et

      tags : (k : ℕ) → k < n → get_or out' (end - suc k * 3 + 2) 0 ≡ get_or ids (end - suc k * 3 + 2) 0
      tags k l = out_trees a b t ea eb et (end - suc k * 3 + 2) (omega (arith, l))

      names' : (j : ℕ) → j < n → id_at text out' j ≡ id_at text ids j
      names' = names a b t ea eb et out' size (λ c h. refl) tags

      others : (c : ℕ) → end - n * 3 ≤ c → get_or out' c 0 ≡ get_or ids c 0
      others c h = out_trees a b t ea eb et c h

      heads : (h : ℕ) → head_at out' h ≡ head_at ids h
      heads h = head_other out' size (length ids + h + 1) (λ c b d. others c b) h (λ e. omega (arith, e))

      nexts : (x s : ℕ) → 0 < x → x ≤ n → next_at out' x s ≡ next_at ids x s
      nexts x s p l = next_other out' size (length ids + s + 1) (λ c b d. others c b) x s p l (λ e. omega (arith, e))

      hit : same name (id_at text ids place) ≡ true
      hit =
          let e = w.place_is in
          ap (λ (k : ℕ). same name (id_at text ids k)) (e ∙ sym (from_zero (place_of name (ids_from text ids n 0)))) ∙ place_hit text ids name n 0 (omega (arith, e, l))

  -- ---- a new one, at the end of its way

  module _ (spot : ℕ) (f : Free ids name spot) where
    way_low : (d : ℕ) → way_at ids name d ≤ n
    way_low d = path_low (id_at text ids) (head_at ids) (next_at ids) n w.index.grown name d

    record Spotted : Type 0 where
      low : end - n * 3 ≤ spot
      there : spot < length ids
      no_tag : (k : ℕ) → k < n → end - suc k * 3 + 2 ≡ spot → ⊥

    spotted : Spotted
    unfolding cell_at
    spotted = by f.steps f.is f.before
      where
        by : (d : ℕ) → spot ≡ cell_at ids name d → ((e : ℕ) → suc e ≡ d → 0 < way_at ids name e) → Spotted
        by zero q b =
            let r = w.room in let l = key_low name in
            record { low = omega (arith, q); there = omega (arith, q, r, l); no_tag = λ k m e. omega (arith, q, r, m, e) }
        by (suc d) q b =
            let r = w.room in let l = side_low name d in let y = way_low d in let p = b d refl in
            record { low = omega (arith, q, y); there = omega (arith, q, r, l, y, p); no_tag = λ k m e. omega (arith, q, r, m, e, l, y, p) }

    pub spot_there : spot < length ids
    spot_there = spotted.there

    new_one : (a b t c : ℕ) → a ≡ at → b ≡ to - at → t ≡ tag_of name → c ≡ n + 1 → n ≤ place → NotedMore text ids (set (entered ids n a b t) spot c) n at to (n + 1)
    unfolding entered cell_at path_at
    new_one a b t c ea eb et ec l =
        more a b t ea eb et out' size before tags (n + 1) refl
        (grown_new (id_at text ids) (id_at text out') (head_at ids) (head_at out') (next_at ids) (next_at out') n w.index.grown names' head_kept next_kept head_new next_new (next_none out' size)
        (leaf a b t ea eb et out' size before tags) f.steps (ap (λ (v : List ℕ). path_at (head_at out') (next_at out') v f.steps) last' ∙ way_end f.steps f.is f.before))
      where
        out' : List ℕ
        out' = set (entered ids n a b t) spot c

        size : length out' ≡ length ids
        size = length-set (entered ids n a b t) spot c ∙ out_size a b t ea eb et

        before : (i : ℕ) → i < end - n * 3 → get_or out' i 0 ≡ get_or (entered ids n a b t) i 0
        before i h = let s = spotted.low in get_or-set_other (entered ids n a b t) spot i c 0 (λ e. omega (arith, e, h, s))

        others : (i : ℕ) → end - n * 3 ≤ i → (i ≡ spot → ⊥) → get_or out' i 0 ≡ get_or ids i 0
        others i h d = get_or-set_other (entered ids n a b t) spot i c 0 d ∙ out_trees a b t ea eb et i h

        written : get_or out' spot 0 ≡ suc n
        written = let s = spotted.there in let q = out_size a b t ea eb et in get_or-set_same (entered ids n a b t) spot c 0 (omega (arith, s, q)) ∙ ec ∙ add-one n

        tags : (k : ℕ) → k < n → get_or out' (end - suc k * 3 + 2) 0 ≡ get_or ids (end - suc k * 3 + 2) 0
        tags k m = others (end - suc k * 3 + 2) (omega (arith, m)) (spotted.no_tag k m)

        names' : (j : ℕ) → j < n → id_at text out' j ≡ id_at text ids j
        names' = names a b t ea eb et out' size before tags

        last' : id_at text out' n ≡ name
        last' = last a b t ea eb et out' size before tags

        new : (j : ℕ) → j < n → same (id_at text out' n) (id_at text ids j) ≡ false
        new j m =
            let e = w.place_is in
            ap (λ (v : List ℕ). same v (id_at text ids j)) last' ∙ ap (λ (i : ℕ). same name (id_at text ids i)) (sym (from_zero j)) ∙ place_miss text ids name n 0 (omega (arith, e, l)) j m

        head_kept : (h : ℕ) → h < 1024 → 0 < head_at ids h → head_at out' h ≡ head_at ids h
        head_kept h b p =
            head_other out' size spot others h (λ e. let z = head_is ids refl h ∙ ap (λ (i : ℕ). get_or ids i 0) e ∙ f.free in omega (arith, z, p))

        next_kept : (x s : ℕ) → 0 < x → x ≤ n → s < 2 → 0 < next_at ids x s → next_at out' x s ≡ next_at ids x s
        next_kept x s p b m q =
            next_other out' size spot others x s p b (λ e. let z = next_is ids refl x s p ∙ ap (λ (i : ℕ). get_or ids i 0) e ∙ f.free in omega (arith, z, q))

        root : (x : ℕ) → x ≡ suc n → Link (id_at text out') (n + 1) x
        root = root_new (id_at text ids) (id_at text out') (head_at ids) (head_at out') (next_at ids) (next_at out') n w.index.grown names' head_kept next_kept new

        head_new : (h : ℕ) → h < 1024 → (head_at out' h ≡ head_at ids h → ⊥) → Link (id_at text out') (n + 1) (head_at out' h)
        head_new h b d = eq_case (end + h) spot (λ e. root (head_at out' h) (head_is out' size h ∙ ap (λ (i : ℕ). get_or out' i 0) e ∙ written)) (λ e. absurd (d (head_other out' size spot others h e)))

        next_new : (x s : ℕ) → 0 < x → x ≤ n → s < 2 → (next_at out' x s ≡ next_at ids x s → ⊥) → Link (id_at text out') (n + 1) (next_at out' x s) × (x < next_at out' x s)
        next_new x s p b m d =
            eq_case (end - x * 3 + s) spot
            (λ e. let q : next_at out' x s ≡ suc n = next_is out' size x s p ∙ ap (λ (i : ℕ). get_or out' i 0) e ∙ written in (root (next_at out' x s) q, omega (arith, q, b)))
            (λ e. absurd (d (next_other out' size spot others x s p b e)))

        way_end : (d : ℕ) → spot ≡ cell_at ids name d → ((e : ℕ) → suc e ≡ d → 0 < way_at ids name e) → path_at (head_at out') (next_at out') name d ≡ suc n
        way_end zero q g = head_is out' size (key_of name) ∙ ap (λ (i : ℕ). get_or out' i 0) (sym q) ∙ written
        way_end (suc d) q g =
            let p = g d refl in
            ap (λ (x : ℕ). next_at out' x (side_at name d))
            (path_kept (id_at text ids) (id_at text out') (head_at ids) (head_at out') (next_at ids) (next_at out') n w.index.grown names' head_kept next_kept name d p) ∙
            next_is out' size (way_at ids name d) (side_at name d) p ∙ ap (λ (i : ℕ). get_or out' i 0) (sym q) ∙ written

  -- ---- what the code has in hand

  entered_size : (a b t : ℕ) → length (entered ids n a b t) ≡ length ids
  unfolding entered
  entered_size a b t = simp length-set

  module _ (hash : ℕ) (k : (hash ≡ hash_from 0 name) × (hash < 281474976710656)) where
    tag_is : hash / 4294967296 ≡ tag_of name
    unfolding tag_of
    tag_is = ap (λ (h : ℕ). h / 4294967296) k.0

    pub note_enter : EnterRoom ids n at (to - at) (hash / 4294967296)
    note_enter =
        let f = w.few in let r = w.room in let p = w.first in let q = w.quote in let s = w.short in let l = k.1 in
        record { few = f; keys = omega arith; room = r; first = omega arith; short = omega arith; small = div_lt hash l }
      where
        div_lt : (h : ℕ) → h < 281474976710656 → h / 4294967296 < 65536
        div_lt h l = omega arith

    module _ (out : List ℕ) (e : out ≡ entered ids n at (to - at) (hash / 4294967296)) where
      pub note_size : length out ≡ length ids
      note_size = rw e (entered_size at (to - at) (hash / 4294967296))

      pub note_known : place < n → NotedMore text ids out n at to (n + 1)
      note_known l = rw e (known at (to - at) (hash / 4294967296) refl refl tag_is l)

      module _ (spot : ℕ) (f : Free ids name spot) where
        pub note_spot : spot < length out
        note_spot = let s = spot_there spot f in let q = note_size in omega (arith, s, q)

        pub note_new : (c : ℕ) → c ≡ n + 1 → n ≤ place → NotedMore text ids (set out spot c) n at to (n + 1)
        note_new c ec l = rw e (new_one spot f at (to - at) (hash / 4294967296) c refl refl tag_is ec l)

  pub note_planted : Planted ids
  note_planted = record { text = text; n = n; index = w.index }
