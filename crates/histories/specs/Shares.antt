-- What some of the sets at rows have, what two have, and what all have; and of the children of a row whether they fit.
use Rattle.std.specs.Prelude.{◌≡◌, Bool, not, ◌&&◌, ◌||◌, cond, List, [], ◌∷◌, ℕ, ◌+◌, ◌*◌, ◌≤◌, ◌<◌}
use Rattle.std.proofs.Math.Path.{refl, sym}
use Rattle.std.proofs.Common.{ap, ◌∙◌, arith}
use Rattle.std.proofs.Math.Bool.{true, false}
use Rattle.definition.specs.Rows.{from, keep, mem, is_in, any, all, is_empty, is_single, union, intersection, subset}
use Rattle.definition.specs.Chart.{Chart, kind, is_parallel}
use Rattle.definition.specs.Tree.{children}
use Rattle.follower.specs.Legal.{children_fit}
use Rattle.laws.specs.Bools.{no, or_false, or_elim, or_left, or_right, both_ways, bool_case, not_so, clash, and_left}
use Rattle.laws.specs.Sets.{mem_below, mem_head, mem_union, mem_intersection}
use Rattle.laws.specs.Lists.{any_true, all_mem, mem_all, mem_tail, subset_mem, mem_subset}
use Rattle.accepted.specs.Tree.{Tree, child_facts, mem_children, parent_kind}
use Rattle.numbers.specs.declared.Row.{Row}
use Rattle.rowset.specs.declared.RowSet.{RowSet}
use Rattle.std.specs.declared.option.Option.{Option}
use Rattle.std.specs.declared.option.Option.TheVariants.{Some, None}
use Rattle.rowset.specs.Member.{rows_of, next_in}
use Rattle.rowset.specs.Search.{rest_from, rest_all}
use Rattle.rowset.specs.Visits.{next_small, rest_at, rest_end}
use Rattle.chart.specs.Ready.{row_set_at}
use Rattle.histories.specs.Marks.{has_at}

-- two elements pass the test
unfoldable pub two : (ℕ → Bool) → List ℕ → Bool
two p [] = false
two p (x ∷ xs) = (p x && any p xs) || two p xs

-- the rows that have history h
unfoldable pub rows_with : List ℕ → ℕ → ℕ → Bool
rows_with marks h r = has_at marks r h

with_here : (marks : List ℕ) (r : ℕ) (here : RowSet) (h : ℕ) → here ≡ row_set_at marks (r * 4) → mem h (rows_of here) ≡ rows_with marks h r
unfolding rows_with has_at
with_here marks r here h f = ap (λ (z : RowSet). mem h (rows_of z)) f

pub record Shared (marks rows some twice every : List ℕ) : Type 0 where
  pub in_some : (h : ℕ) → mem h some ≡ any (rows_with marks h) rows
  pub in_twice_rows : (h : ℕ) → mem h twice ≡ two (rows_with marks h) rows
  pub in_every : (h : ℕ) → h < 256 → mem h every ≡ all (rows_with marks h) rows

-- ---- row by row

pub record Sharing (marks : List ℕ) (rows : RowSet) (some twice every : List ℕ) (k : ℕ) : Type 0 where
  pub low : k ≤ 256
  pub in_some : (h : ℕ) → (mem h some || any (rows_with marks h) (rest_from (rows_of rows) k)) ≡ any (rows_with marks h) (rows_of rows)
  pub in_twice_rows : (h : ℕ) →
      (mem h twice || ((mem h some && any (rows_with marks h) (rest_from (rows_of rows) k)) || two (rows_with marks h) (rest_from (rows_of rows) k))) ≡ two (rows_with marks h) (rows_of rows)
  pub in_every : (h : ℕ) → h < 256 → (mem h every && all (rows_with marks h) (rest_from (rows_of rows) k)) ≡ all (rows_with marks h) (rows_of rows)

module _ (marks : List ℕ) (rows : RowSet) where
  pub share_begin : (some twice every : List ℕ) → some ≡ [] → twice ≡ [] → every ≡ from 256 0 → Sharing marks rows some twice every 0
  unfolding mem
  share_begin some twice every a b d =
      record {
        low = omega arith;
        in_some = λ h. rw (a, rest_all (rows_of rows));
        in_twice_rows = λ h. rw (a, b, rest_all (rows_of rows));
        in_every = λ h l. rw (d, rest_all (rows_of rows)) (ap (λ (x : Bool). x && all (rows_with marks h) (rows_of rows)) (mem_below 256 h l));
      }

  module _ (some twice every : List ℕ) (k : ℕ) (o : Option Row) (e : o ≡ next_in (rows_of rows) k) (i : Sharing marks rows some twice every k) where
    pub share_turn : (r : Row) (here both more again each : RowSet) → o ≡ Some r → here ≡ row_set_at marks (r.0 * 4) → rows_of both ≡ intersection some (rows_of here) →
        rows_of again ≡ union twice (rows_of both) → rows_of more ≡ union some (rows_of here) → rows_of each ≡ intersection every (rows_of here) →
        Sharing marks rows (rows_of more) (rows_of again) (rows_of each) (r.0 + 1)
    unfolding any two all
    share_turn r here both more again each q f b g m a =
        let l = next_small rows k o e r q in
        record {
          low = omega arith;
          in_some = λ h. rw (in_more h) (or_assoc (mem h some) (rows_with marks h r.0) (any (rows_with marks h) (rest_from (rows_of rows) (r.0 + 1))) ∙ (rw (rest_at rows k o e r q) at (i.in_some h)));
          in_twice_rows = λ h. rw (in_again h, in_more h)
              (turn (mem h twice) (mem h some) (rows_with marks h r.0) (any (rows_with marks h) (rest_from (rows_of rows) (r.0 + 1))) (two (rows_with marks h) (rest_from (rows_of rows) (r.0 + 1))) ∙
              (rw (rest_at rows k o e r q) at (i.in_twice_rows h)));
          in_every = λ h d. rw (in_each h) (and_assoc (mem h every) (rows_with marks h r.0) (all (rows_with marks h) (rest_from (rows_of rows) (r.0 + 1))) ∙ (rw (rest_at rows k o e r q) at (i.in_every h d)));
        }
      where
        or_assoc : (a b d : Bool) → ((a || b) || d) ≡ (a || (b || d))
        or_assoc true b d = refl
        or_assoc false b d = refl

        and_assoc : (a b d : Bool) → ((a && b) && d) ≡ (a && (b && d))
        and_assoc true b d = refl
        and_assoc false b d = refl

        turn : (t s q a w : Bool) → ((t || (s && q)) || (((s || q) && a) || w)) ≡ (t || ((s && (q || a)) || ((q && a) || w)))
        turn true s q a w = refl
        turn false true true a w = refl
        turn false true false true w = refl
        turn false true false false w = refl
        turn false false true a w = refl
        turn false false false a w = refl

        at : (h : ℕ) → mem h (rows_of here) ≡ rows_with marks h r.0
        at h = with_here marks r.0 here h f

        in_more : (h : ℕ) → mem h (rows_of more) ≡ (mem h some || rows_with marks h r.0)
        in_more h = ap (mem h) m ∙ mem_union h some (rows_of here) ∙ ap (λ (x : Bool). mem h some || x) (at h)

        in_again : (h : ℕ) → mem h (rows_of again) ≡ (mem h twice || (mem h some && rows_with marks h r.0))
        in_again h =
            ap (mem h) g ∙ mem_union h twice (rows_of both) ∙ ap (λ (x : Bool). mem h twice || x) (ap (mem h) b ∙ mem_intersection h some (rows_of here) ∙ ap (λ (x : Bool). mem h some && x) (at h))

        in_each : (h : ℕ) → mem h (rows_of each) ≡ (mem h every && rows_with marks h r.0)
        in_each h = ap (mem h) a ∙ mem_intersection h every (rows_of here) ∙ ap (λ (x : Bool). mem h every && x) (at h)

    pub share_end : o ≡ None → Shared marks (rows_of rows) some twice every
    unfolding any two all
    share_end q =
        record {
          in_some = λ h. sym (or_false (mem h some)) ∙ (rw (rest_end rows k o e q) at (i.in_some h));
          in_twice_rows = λ h. sym (rest_none (mem h twice) (mem h some)) ∙ (rw (rest_end rows k o e q) at (i.in_twice_rows h));
          in_every = λ h d. sym (and_yes (mem h every)) ∙ (rw (rest_end rows k o e q) at (i.in_every h d));
        }
      where
        rest_none : (t s : Bool) → (t || ((s && false) || false)) ≡ t
        rest_none true s = refl
        rest_none false true = refl
        rest_none false false = refl

        and_yes : (t : Bool) → (t && true) ≡ t
        and_yes true = refl
        and_yes false = refl

-- ---- the children of a row

-- of a parallel all have what one has, of another row no two have it
unfoldable pub local_fits : Chart → (ℕ → Bool) → ℕ → Bool
local_fits c q r = cond (is_parallel (kind c r)) (not (any q (children c r)) || all q (children c r)) (not (two q (children c r)))

two_any : (p : ℕ → Bool) (xs : List ℕ) → two p xs ≡ true → any p xs ≡ true
unfolding two any
two_any p (x ∷ xs) h = or_elim (p x && any p xs) (two p xs) (λ e. or_left (p x) (any p xs) (and_left (p x) (any p xs) e)) (λ e. or_right (p x) (any p xs) (two_any p xs e)) h
two_any p [] h = absurd (no h)

pub any_cong : (p q : ℕ → Bool) (xs : List ℕ) → ((x : ℕ) → mem x xs ≡ true → p x ≡ q x) → any p xs ≡ any q xs
unfolding any
any_cong p q [] f = refl
any_cong p q (x ∷ xs) f = rw (f x (mem_head x xs), any_cong p q xs (λ a m. f a (mem_tail x a xs m)))

all_cong : (p q : ℕ → Bool) (xs : List ℕ) → ((x : ℕ) → mem x xs ≡ true → p x ≡ q x) → all p xs ≡ all q xs
unfolding all
all_cong p q [] f = refl
all_cong p q (x ∷ xs) f = rw (f x (mem_head x xs), all_cong p q xs (λ a m. f a (mem_tail x a xs m)))

two_cong : (p q : ℕ → Bool) (xs : List ℕ) → ((x : ℕ) → mem x xs ≡ true → p x ≡ q x) → two p xs ≡ two q xs
unfolding two
two_cong p q [] f = refl
two_cong p q (x ∷ xs) f = rw (f x (mem_head x xs), any_cong p q xs (λ a m. f a (mem_tail x a xs m)), two_cong p q xs (λ a m. f a (mem_tail x a xs m)))

empty_any : (q : ℕ → Bool) (xs : List ℕ) → is_empty (keep q xs) ≡ not (any q xs)
unfolding any is_empty
empty_any q [] = refl
empty_any q (x ∷ xs) = go (q x) (empty_any q xs)
  where
    go : (b : Bool) → is_empty (keep q xs) ≡ not (any q xs) → is_empty (cond b (x ∷ keep q xs) (keep q xs)) ≡ not (b || any q xs)
    go true h = refl
    go false h = h

or_two : (a b : Bool) → (b ≡ true → a ≡ true) → (a || b) ≡ a
or_two true b f = refl
or_two false true f = absurd (no (f refl))
or_two false false f = refl

single_two : (q : ℕ → Bool) (xs : List ℕ) → any q xs ≡ true → is_single (keep q xs) ≡ not (two q xs)
unfolding any two is_single
single_two q [] h = absurd (no h)
single_two q (x ∷ xs) h = go (q x) h (single_two q xs)
  where
    go : (b : Bool) → (b || any q xs) ≡ true → (any q xs ≡ true → is_single (keep q xs) ≡ not (two q xs)) → is_single (cond b (x ∷ keep q xs) (keep q xs)) ≡ not ((b && any q xs) || two q xs)
    go true e f = empty_any q xs ∙ ap not (sym (or_two (any q xs) (two q xs) (two_any q xs)))
    go false e f = f e

module _ (c : Chart) (r : ℕ) where
  pub local_cong : (p q : ℕ → Bool) → ((j : ℕ) → mem j (children c r) ≡ true → p j ≡ q j) → local_fits c p r ≡ local_fits c q r
  unfolding local_fits
  local_cong p q f = rw (any_cong p q (children c r) f, all_cong p q (children c r) f, two_cong p q (children c r) f)

  -- where no child is, all fit
  pub local_idle : (q : ℕ → Bool) → any q (children c r) ≡ false → local_fits c q r ≡ true
  unfolding local_fits
  local_idle q h =
      bool_case (is_parallel (kind c r)) (λ e. rw (e, h)) (λ e. rw (e, not_so (two q (children c r)) (λ t. clash _ (two_any q (children c r) t) h)))

  pub fits_local : Tree c → (paths : List ℕ) → any (is_in paths) (children c r) ≡ true → children_fit c paths r ≡ local_fits c (is_in paths) r
  unfolding children_fit local_fits intersection
  fits_local t paths h =
      let w = any_true (is_in paths) (children c r) h in
      let f = child_facts c t r w.0 (mem_children c t r w.0 w.1).1 in
      let l = (mem_children c t r w.0 w.1).0 in
      bool_case (is_parallel (kind c r))
      (λ e. rw (e, h) (both_ways (subset (children c r) paths) (all (is_in paths) (children c r))
      (λ s. mem_all (is_in paths) (children c r) (subset_mem (children c r) paths s)) (λ s. mem_subset (children c r) paths (all_mem (is_in paths) (children c r) s))))
      (λ e. rw (e, rw f.2 at (parent_kind c t f.0 (rw f.1 at l) f.3 (rw f.2 e))) (single_two (is_in paths) (children c r) h))
