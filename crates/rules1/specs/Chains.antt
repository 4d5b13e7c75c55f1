-- The rows seen so far, chained by the keys of their ids: a key's head is the last row that has it, each row's link the one before it, and 0 ends a chain.
use Rattle.std.specs.Prelude.{◌≡◌, false, not, List, length, set, replicate}
use Rattle.std.proofs.Math.Path.{refl, sym, ap}
use Rattle.std.proofs.Common.{◌∙◌, length-set, get_or-set_same}
use Rattle.std.proofs.Math.Bool.{true}
use Prim.Native.Nat.{ℕ, zero, suc, ◌+◌, ◌-◌, ◌<◌}
use native.Mathlib.Omega.{arith}
use Rattle.std.proofs.Math.ListN.{get_or}
use Rattle.std.proofs.lemmas.List.{length-replicate}
use Rattle.std.proofs.Math.Seq.{get_or-set_other}
use Rattle.definition.specs.Rows.{same}
use Rattle.definition.specs.Tables.{id_at, name_at}
use Rattle.definition.specs.Rules.{id_differs}
use Rattle.laws.specs.Bools.{bool_case, eq_case}
use Rattle.laws.specs.Lists.{same_eq}
use Rattle.laws.specs.Loops.{below_each}
use Rattle.laws.specs.Orders.{lt_case}
use Rattle.rules1.specs.Ids.{IdTurn, is_id_of, is_new_id, new_done, new_leave, differs_root, differs_names, id_slots, before_id}
use Rattle.rules1.specs.Keys.{slot_key, key_at}
use Rattle.rules1.specs.Splits.{zeros}
use Rattle.rules1.specs.declared.ids.Asked.{Asked}
use Rattle.rules1.specs.declared.ids.Asked.TheVariants.{New, Twice, Many}

-- the row so many links behind x
unfoldable pub follow : List ℕ → ℕ → ℕ → ℕ
follow links zero x = x
follow links (suc d) x = follow links d (get_or links x 0)

follow_first : (links : List ℕ) (d x : ℕ) → follow links (suc d) x ≡ follow links d (get_or links x 0)
unfolding follow
follow_first links d x = refl

follow_last : (links : List ℕ) (d x : ℕ) → follow links (suc d) x ≡ get_or links (follow links d x) 0
unfolding follow
follow_last links zero x = refl
follow_last links (suc d) x = follow_last links d (get_or links x 0)

follow_next : (links : List ℕ) (d x : ℕ) → follow links (d + 1) x ≡ get_or links (follow links d x) 0
follow_next links d x = let e : d + 1 ≡ suc d = omega arith in ap (λ (k : ℕ). follow links k x) e ∙ follow_last links d x

follow_more : (links : List ℕ) (e d x : ℕ) → follow links (e + d) x ≡ follow links d (follow links e x)
unfolding follow
follow_more links zero d x = let q : zero + d ≡ d = omega arith in ap (λ (k : ℕ). follow links k x) q
follow_more links (suc e) d x = let q : suc e + d ≡ suc (e + d) = omega arith in ap (λ (k : ℕ). follow links k x) q ∙ follow_more links e d (get_or links x 0)

-- row k is on the chain from x
pub record Reached (links : List ℕ) (x k : ℕ) : Type 0 where
  pub steps : ℕ
  pub is : follow links steps x ≡ k

pub record Seen (numbers names heads links : List ℕ) (i : ℕ) : Type 0 where
  pub room : length heads ≡ 1024
  pub size : length links ≡ 256
  pub last : (x : ℕ) → get_or heads x 0 < i
  pub before : (x : ℕ) → get_or links x 0 < i
  pub ends : get_or links 0 0 ≡ 0
  pub held : (k : ℕ) → 0 < k → k < i → Reached links (get_or heads (key_at numbers names k) 0) k

-- the turn of row i, whose id has the key
pub record Turn (numbers names heads links : List ℕ) (i key : ℕ) : Type 0 where
  pub turn : IdTurn numbers names i
  pub positive : 0 < i
  pub own : is_id_of numbers names i ≡ true
  pub is : key ≡ key_at numbers names i
  pub low : key < 1024
  pub so_far : Seen numbers names heads links i

-- what compared says: the id is new, or a row before has it
pub record Met (numbers names : List ℕ) (i : ℕ) (e : Asked) : Type 0 where
  pub new : e ≡ New → is_new_id numbers names i ≡ true
  pub twice : e ≡ Twice → is_new_id numbers names i ≡ false

-- the first e rows of the chain from head have been asked, and x comes next
pub record Passed (numbers names links : List ℕ) (i head x e : ℕ) : Type 0 where
  pub next : x ≡ follow links e head
  pub each : (y : ℕ) → y < e → id_differs numbers names i (follow links y head) ≡ true

module _ (numbers names : List ℕ) where
  pub seen_begin : Seen numbers names (replicate 1024 0) (replicate 256 0) 1
  seen_begin = record {
    room = length-replicate {A = ℕ} 1024 0;
    size = length-replicate {A = ℕ} 256 0;
    last = λ x. let e = zeros 1024 x in omega (arith, e);
    before = λ x. let e = zeros 256 x in omega (arith, e);
    ends = zeros 256 0;
    held = λ k p l. absurd (omega arith);
  }

  module _ (heads links : List ℕ) (i key : ℕ) (t : Turn numbers names heads links i key) where
    abbrev head : ℕ
    head = get_or heads key 0

    pub asked_begin : Passed numbers names links i head head 0
    unfolding follow
    asked_begin = record { next = refl; each = λ y l. absurd (omega arith) }

    chain_low : (d y : ℕ) → y < i → follow links d y < i
    unfolding follow
    chain_low zero y l = l
    chain_low (suc d) y l = chain_low d (get_or links y 0) (t.so_far.before y)

    -- every row on a chain is one before i
    pub asked_low : (x e : ℕ) → Passed numbers names links i head x e → x < i
    asked_low x e a = rw a.next (chain_low e head (t.so_far.last key))

    stays : (d : ℕ) → follow links d 0 ≡ 0
    unfolding follow
    stays zero = refl
    stays (suc d) = ap (follow links d) t.so_far.ends ∙ stays d

    module _ (x e : ℕ) (a : Passed numbers names links i head x e) where
      pub asked_turn : id_differs numbers names i x ≡ true → Passed numbers names links i head (get_or links x 0) (e + 1)
      asked_turn d = record {
        next = ap (λ (y : ℕ). get_or links y 0) a.next ∙ sym (follow_next links e head);
        each = λ y l. eq_case y e (λ q. rw (q, ← a.next) d) (λ n. a.each y (omega (arith, n, l)));
      }

      -- the chain ends here: every row of the key has been asked
      pub met_none : x ≡ 0 → Met numbers names i New
      unfolding key_at
      met_none z = record {
        new = λ q. sym (new_done numbers names i i (omega arith) (omega arith) t.own (below_each (id_differs numbers names i) i differs));
        twice = λ q. absurd (let z : ⊥ = cc in z);
      }
        where
          asked : (k : ℕ) → Reached links head k → 0 < k → id_differs numbers names i k ≡ true
          asked k h p = lt_case h.steps e (λ b. let r = a.each h.steps b in rw h.is at r)
              (λ g. let q : h.steps ≡ e + (h.steps - e) = omega arith in
              let u : follow links h.steps head ≡ 0 = ap (λ (d : ℕ). follow links d head) q ∙ follow_more links e (h.steps - e) head ∙ ap (follow links (h.steps - e)) (sym a.next ∙ z) ∙ stays (h.steps - e) in
              absurd (let w = h.is in omega (arith, u, w, p)))

          -- rows of one name have one slot, so one key
          one_key : (j : ℕ) → suc j < i → name_at names (id_at numbers i) ≡ name_at names (id_at numbers (suc j)) → key_at numbers names (suc j) ≡ key
          one_key j m q =
              let l = t.turn.below in
              sym (ap slot_key (id_slots numbers names t.turn.slots i (suc j) t.positive (omega arith) l (omega (arith, l, m)) t.own (before_id numbers names i t.turn (suc j) m) q)) ∙ sym t.is

          differs : (j : ℕ) → j < i → id_differs numbers names i j ≡ true
          differs zero m = differs_root numbers names i
          differs (suc j) m =
              eq_case (key_at numbers names (suc j)) key (λ q. asked (suc j) (rw q at (t.so_far.held (suc j) (omega arith) m)) (omega arith))
              (λ n. differs_names numbers names i (suc j) (omega arith) (λ w. omega arith) ∙
              ap not (bool_case (same (name_at names (id_at numbers i)) (name_at names (id_at numbers (suc j)))) (λ q. absurd (n (one_key j m (same_eq _ _ q)))) (λ q. q)))

      pub met_twice : x < i → id_differs numbers names i x ≡ false → Met numbers names i Twice
      met_twice l d = record { new = λ q. absurd (let z : ⊥ = cc in z); twice = λ q. sym (new_leave numbers names i x l d) }

    pub met_many : Met numbers names i Many
    met_many = record { new = λ q. absurd (let z : ⊥ = cc in z); twice = λ q. absurd (let z : ⊥ = cc in z) }

    -- the row becomes the head of its key's chain
    module _ (few : i < 256) where
      abbrev heads' : List ℕ
      heads' = set heads key i

      abbrev links' : List ℕ
      links' = set links i head

      own_head : get_or heads' key 0 ≡ i
      own_head = get_or-set_same heads key i 0 (let k = t.low in rw t.so_far.room k)

      own_link : get_or links' i 0 ≡ head
      own_link = get_or-set_same links i head 0 (rw t.so_far.size few)

      -- a chain of rows before i is as it was
      kept : (d x : ℕ) → x < i → follow links' d x ≡ follow links d x
      unfolding follow
      kept zero x l = refl
      kept (suc d) x l =
          let e : get_or links' x 0 ≡ get_or links x 0 = get_or-set_other links i x head 0 (λ q. omega arith) in
          ap (follow links' d) e ∙ kept d (get_or links x 0) (t.so_far.before x)

      own_held : Reached links' i i
      own_held = record { steps = 0; is = unfold follow in refl }

      -- those of the key are one link further
      key_held : (k : ℕ) → Reached links head k → Reached links' i k
      key_held k h = record {
        steps = suc h.steps;
        is = follow_first links' h.steps i ∙ ap (follow links' h.steps) own_link ∙ kept h.steps head (t.so_far.last key) ∙ h.is;
      }

      other_held : (k x : ℕ) → x < i → Reached links x k → Reached links' x k
      other_held k x l h = record { steps = h.steps; is = kept h.steps x l ∙ h.is }

      held' : (k : ℕ) → 0 < k → k < i + 1 → Reached links' (get_or heads' (key_at numbers names k) 0) k
      held' k p m = eq_case (key_at numbers names k) key
          (λ q. rw (q, own_head) (eq_case k i (λ w. rw w own_held) (λ d. key_held k (rw q at (t.so_far.held k p (omega (arith, d, m)))))))
          (λ n. let e : get_or heads' (key_at numbers names k) 0 ≡ get_or heads (key_at numbers names k) 0 = get_or-set_other heads key (key_at numbers names k) i 0 n in
          let d : k ≡ i → ⊥ = λ w. n (ap (key_at numbers names) w ∙ sym t.is) in
          rw e (other_held k _ (t.so_far.last (key_at numbers names k)) (t.so_far.held k p (omega (arith, d, m)))))

      pub seen_turn : Seen numbers names heads' links' (i + 1)
      seen_turn = record {
        room = length-set heads key i ∙ t.so_far.room;
        size = length-set links i head ∙ t.so_far.size;
        last = λ x. eq_case x key (λ q. rw (q, own_head) (let m : i < i + 1 = omega arith in m))
            (λ d. rw (get_or-set_other heads key x i 0 d) (let m = t.so_far.last x in omega arith));
        before = λ x. eq_case x i (λ q. rw (q, own_link) (let m = t.so_far.last key in omega arith))
            (λ d. rw (get_or-set_other links i x head 0 d) (let m = t.so_far.before x in omega arith));
        ends = get_or-set_other links i 0 head 0 (λ q. let p = t.positive in omega arith) ∙ t.so_far.ends;
        held = held';
      }
