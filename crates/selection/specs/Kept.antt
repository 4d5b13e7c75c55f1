-- Kept transitions with the rows that they exit, in the first of the items: none, one more, those of a pass over the items themselves.
use Rattle.std.specs.Prelude.{◌≡◌, refl, List, [], ℕ, ◌+◌, ◌-◌, ◌≤◌, ◌<◌, length, get_or, drop, set}
use Rattle.std.proofs.Common.{sym, ap, ◌∙◌, subst, arith, length-set, drop-set-lt, drop-drop, get_or-drop}
use Rattle.definition.specs.Rows.{fold, append, union}
use Rattle.definition.specs.Chart.{Chart}
use Rattle.follower.specs.Selection.{History, exit_set}
use Rattle.follower.specs.Microstep.{exits}
use Rattle.laws.specs.Passes.{Walked, walk_begin, walk_turn, walk_done}
use Rattle.rowset.specs.declared.RowSet.{RowSet}
use Rattle.rowset.specs.Member.{rows_of}
use Rattle.chart.specs.Within.{Within, within_none, within_append}
use Rattle.matching.specs.Chosen.{list_of, list_at, list_begin, list_push, chosen_length, chosen_low, ChosenIn}
use Rattle.selection.specs.declared.Selected.{Selected}
use Rattle.selection.specs.Conflicts.{exits_append, exits_none}
use Rattle.selection.specs.Ready.{IsSelected, Selects, Joined, Admits, Leaves}

-- what stays behind n stays behind more
pub drop_past : (n m : ℕ) (xs ys : List ℕ) → n ≤ m → drop n xs ≡ drop n ys → drop m xs ≡ drop m ys
drop_past n m xs ys l e =
    let z : n + (m - n) ≡ m = omega arith in
    ap (λ (k : ℕ). drop k xs) (sym z) ∙ sym (drop-drop (m - n) n xs) ∙ ap (drop (m - n)) e ∙ drop-drop (m - n) n ys ∙ ap (λ (k : ℕ). drop k ys) z

pub joined_is : (items : List ℕ) (kept : Selected) (t : ℕ) (own out : RowSet) → kept.len < length items →
    rows_of out ≡ union (rows_of kept.exits) (rows_of own) → Joined items kept t own (set items kept.len t) (record { len = kept.len + 1; exits = out })
joined_is items kept t own out l e = record {
  is = list_push items kept.len t l;
  exits = e;
  room = length-set items kept.len t;
  len = refl;
  behind = λ k m. drop-set-lt k items kept.len t m;
}

module _ (c : Chart) (conf : List ℕ) (hist : History) where
  -- the same list, by another name
  pub selected_as : (xs ys items : List ℕ) (r : Selected) → IsSelected c conf hist xs items r → xs ≡ ys → IsSelected c conf hist ys items r
  selected_as xs ys items r h e = record { is = h.is ∙ e; exits = h.exits ∙ ap (exits c conf hist) e; fits = h.fits }

  pub selects_of : (xs items : List ℕ) (r : Selected) → IsSelected c conf hist xs items r → Selects c conf hist items r
  selects_of xs items r h = selected_as xs (list_of items r.len) items r h (sym h.is)

  pub selects_none : (items : List ℕ) (r : Selected) → length items ≡ 768 → r.len ≡ 0 → rows_of r.exits ≡ [] → Selects c conf hist items r
  selects_none items r s l e = record {
    is = refl;
    exits = e ∙ exits_none c conf hist ∙ ap (exits c conf hist) (sym none);
    fits = record { room = s; most = omega arith; inside = subst (Within c.transitions) (sym none) (within_none c.transitions) };
  }
    where
      none : list_of items r.len ≡ []
      none = ap (list_of items) l ∙ list_begin items

  -- one more
  pub joins : (items after : List ℕ) (kept r : Selected) (t : ℕ) (own : RowSet) → Selects c conf hist items kept → kept.len < 256 → t < c.transitions →
      rows_of own ≡ exit_set c conf hist (c.transition t) → Joined items kept t own after r → IsSelected c conf hist (append (list_of items kept.len) t) after r
  joins items after kept r t own h l m e j =
      let n = j.len in
      record {
        is = j.is;
        exits = j.exits ∙ exits_append c conf hist (list_of items kept.len) (rows_of kept.exits) (rows_of own) t h.exits e;
        fits = record {
          room = j.room ∙ h.fits.room;
          most = omega arith;
          inside = subst (Within c.transitions) (sym j.is) (within_append c.transitions (list_of items kept.len) t h.fits.inside m);
        };
      }

  -- ---- what becomes of one candidate

  pub admits_same : (ts items : List ℕ) (kept : Selected) → Selects c conf hist items kept → list_of items kept.len ≡ ts → Admits c conf hist ts items kept.len items kept
  admits_same ts items kept h e = record { selected = selected_as (list_of items kept.len) ts items kept h e; most = omega arith; behind = refl }

  -- it joins those that were left of n
  pub admits_joined : (ts first items after : List ℕ) (n : ℕ) (rest r : Selected) (t : ℕ) (own : RowSet) → Selects c conf hist items rest → rest.len ≤ n → n < 256 →
      drop n items ≡ drop n first → t < c.transitions → rows_of own ≡ exit_set c conf hist (c.transition t) → Joined items rest t own after r →
      append (list_of items rest.len) t ≡ ts → Admits c conf hist ts first n after r
  admits_joined ts first items after n rest r t own h l f b m e j q = record {
    selected = selected_as (append (list_of items rest.len) t) ts after r (joins items after rest r t own h (omega arith) m e j) q;
    most = let k = j.len in omega arith;
    behind = j.behind (n + 1) (omega arith) ∙ drop_past n (n + 1) items first (omega arith) b;
  }

-- ---- a pass over the first n items that keeps some of them in front of those to come

-- after i of them, what is kept is what the step makes of the first i, and the items to come stand where they stood
pub record Sifted (c : Chart) (conf : List ℕ) (hist : History) (step : List ℕ → ℕ → List ℕ) (first : List ℕ) (n : ℕ) (items : List ℕ) (kept : Selected) (i : ℕ) : Type 0 where
  pub most : kept.len ≤ i
  pub small : n ≤ 256
  pub selects : Selects c conf hist items kept
  pub behind : drop i items ≡ drop i first
  pub pass : Walked step [] (list_of items kept.len) (list_of first n) n i

module _ (c : Chart) (conf : List ℕ) (hist : History) (step : List ℕ → ℕ → List ℕ) (first : List ℕ) (n : ℕ) where
  pub sift_begin : (kept : Selected) → ChosenIn c.transitions first n → kept.len ≡ 0 → rows_of kept.exits ≡ [] → Sifted c conf hist step first n first kept 0
  sift_begin kept h l e = record {
    most = omega arith;
    small = h.most;
    selects = selects_none c conf hist first kept h.room l e;
    behind = refl;
    pass = walk_begin step [] (list_of first kept.len) (list_of first n) n (chosen_length c.transitions first n h) (ap (list_of first) l ∙ list_begin first);
  }

  module _ (items : List ℕ) (kept : Selected) (i : ℕ) (s : Sifted c conf hist step first n items kept i) where
    -- the item to come
    pub sift_item : i < n → get_or items i 0 ≡ get_or (list_of first n) i 0
    sift_item l =
        let z : i + 0 ≡ i = omega arith in
        ap (λ (k : ℕ). get_or items k 0) (sym z) ∙ sym (get_or-drop i items 0 0) ∙ ap (λ (xs : List ℕ). get_or xs 0 0) s.behind ∙ get_or-drop i first 0 0 ∙ ap (λ (k : ℕ). get_or first k 0) z ∙ list_at first n i l

    pub sift_turn : (after : List ℕ) (r : Selected) → i < n → Admits c conf hist (step (list_of items kept.len) (get_or items i 0)) items kept.len after r → Sifted c conf hist step first n after r (i + 1)
    sift_turn after r l a =
        let m = s.most in
        let u = a.most in
        record {
          most = omega arith;
          small = s.small;
          selects = selects_of c conf hist _ after r a.selected;
          behind = drop_past (kept.len + 1) (i + 1) after items (omega arith) a.behind ∙ drop_past i (i + 1) items first (omega arith) s.behind;
          pass = walk_turn step [] (list_of items kept.len) (list_of first n) n (list_of after r.len) i (get_or items i 0) l s.pass (sift_item l) a.selected.is;
        }

    pub sift_done : n ≤ i → Leaves c conf hist (fold step [] (list_of first n)) first n items kept
    sift_done l =
        let e : i ≡ n = (let a = s.pass.size in let b = s.pass.pass.most in omega arith) in
        record {
          selected = selected_as c conf hist (list_of items kept.len) (fold step [] (list_of first n)) items kept s.selects (walk_done step [] (list_of items kept.len) (list_of first n) n i l s.pass);
          most = let m = s.most in omega arith;
          behind = ap (λ (k : ℕ). drop k items) (sym e) ∙ s.behind ∙ ap (λ (k : ℕ). drop k first) e;
        }

    -- a transition of the chart
    pub sift_low : ChosenIn c.transitions first n → i < n → get_or items i 0 < c.transitions
    sift_low h l = rw (sift_item l ∙ sym (list_at first n i l)) (chosen_low c.transitions first n i h l)
