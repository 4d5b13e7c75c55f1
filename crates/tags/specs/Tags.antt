-- The walk from tag to tag.
use Rattle.std.proofs.Math.Path.{◌≡◌, refl, sym, ap, subst}
use Rattle.std.proofs.Common.{◌∙◌, arith}
use Rattle.std.specs.Prelude.{Bool, not, List, [], ◌∷◌, ◌++◌, ℕ, ◌-◌, ◌≤◌, ◌<◌}
use Rattle.std.proofs.Math.Bool.{true, false}
use Rattle.std.proofs.Math.ListN.{length}
use Rattle.marks.specs.declared.Mark.{Mark}
use Rattle.marks.specs.declared.Mark.TheVariants.{Nothing, Valued, Tagged}
use Rattle.marks.specs.declared.Walk.{Walk}
use Rattle.marks.specs.Marks.{marked, is_mark, value_from, value_to}
use Rattle.marks.specs.Walks.{rest_of, Standing, Next, beginning, begin_rest}
use Rattle.marks.specs.Grouped.{shape_of, grouped}
use Rattle.marks.specs.Joined.{joined}
use Rattle.reading.specs.Tags.{Part, Markup, tags_of}
use Rattle.gather.specs.Parts.{part_at}
use Rattle.tags.specs.Cells.{is_value_mark, with_mark, Cleared, ValueIn, Stated, stated_none, stated_more}

-- the tags that are left behind a tag
abbrev pub tags_left : List ℕ → List ℕ → Walk → List Markup
tags_left text levels w = grouped text [] (rest_of text levels w)

pub tags_begin : (text levels : List ℕ) → tags_left text levels beginning ≡ tags_of text
tags_begin text levels = ap (grouped text []) (begin_rest text levels) ∙ joined text

-- the tag that a mark ends, before those that are left
abbrev pub tagged : Mark → List Part → List Markup → List Markup
tagged Nothing ps ts = []
tagged (Valued e w a b) ps ts = []
tagged (Tagged a s e) ps ts = (record { at = a; shape = shape_of s; element = e; parts = ps }) ∷ ts

pub record NextTag (text levels levels' cells : List ℕ) (w r : Walk) : Type 0 where
  pub standing : Standing text levels' r
  pub further : is_mark r.mark ≡ true → w.index < r.index
  pub no_value : is_value_mark r.mark ≡ false
  pub parts : List Part
  pub stated : Stated text cells parts
  pub left : tags_left text levels w ≡ tagged r.mark parts (tags_left text levels' r)

pub record Walking (text levels₀ : List ℕ) (w₀ : Walk) (levels cells : List ℕ) (w : Walk) : Type 0 where
  pub standing : Standing text levels w
  pub past : w₀.index ≤ w.index
  pub parts : List Part
  pub stated : Stated text cells parts
  pub left : tags_left text levels₀ w₀ ≡ grouped text parts (rest_of text levels w)

pub walk_start : (text levels cells : List ℕ) (w : Walk) → Cleared cells → Standing text levels w → Walking text levels w levels cells w
walk_start text levels cells w c s = record { standing = s; past = omega arith; parts = []; stated = stated_none text cells c; left = refl }

module _ (text levels₀ : List ℕ) (w₀ : Walk) (levels cells : List ℕ) (w : Walk) (k : Walking text levels₀ w₀ levels cells w) (levels' : List ℕ) (r : Walk) (next : Next text levels levels' w r) where
  left_with : (m : Mark) → r.mark ≡ m → tags_left text levels₀ w₀ ≡ grouped text k.parts (marked m (rest_of text levels' r))
  left_with m g = k.left ∙ ap (grouped text k.parts) (next.rest ∙ ap (λ (x : Mark). marked x (rest_of text levels' r)) g)

  pub walk_end : (value : Bool) → value ≡ is_value_mark r.mark → value ≡ false → NextTag text levels₀ levels' cells w₀ r
  unfolding grouped
  walk_end value e q =
      record {
        standing = next.standing;
        further = λ f. let m = next.further f in let p = k.past in omega arith;
        no_value = sym e ∙ q;
        parts = k.parts;
        stated = k.stated;
        left = by r.mark refl;
      }
    where
      by : (m : Mark) → r.mark ≡ m → tags_left text levels₀ w₀ ≡ tagged r.mark k.parts (tags_left text levels' r)
      by Nothing g = k.left ∙ ap (grouped text k.parts) (next.none (ap is_mark g)) ∙ sym (ap (λ (x : Mark). tagged x k.parts (tags_left text levels' r)) g)
      by (Valued d v a b) g =
          absurd (let t : is_value_mark r.mark ≡ false = sym e ∙ q in let z : true ≡ false = sym (ap is_value_mark g) ∙ t in let z2 : ◌≡◌ {A = ℕ} 0 1 = cc in omega arith)
      by (Tagged a s d) g = left_with (Tagged a s d) g ∙ sym (ap (λ (x : Mark). tagged x k.parts (tags_left text levels' r)) g)

  pub walk_in : ValueIn cells (value_from r.mark) (value_to r.mark)
  walk_in = let q = next.quote in let s = k.standing.short in record { room = k.stated.room; first = next.first; quote = omega arith }

  module _ (value : Bool) (e : value ≡ is_value_mark r.mark) (q : value ≡ true) where
    is_mark_lem : (m : Mark) → is_value_mark m ≡ true → is_mark m ≡ true
    is_mark_lem Nothing t = t
    is_mark_lem (Valued d v a b) t = refl
    is_mark_lem (Tagged a s d) t = refl

    more : w.index < r.index
    more = next.further (is_mark_lem r.mark (sym e ∙ q))

    pub walk_less : length text - r.index < length text - w.index
    walk_less = let m = more in let i = next.standing.within in omega arith

    pub walk_more : (cells' : List ℕ) → cells' ≡ with_mark cells r.mark → Walking text levels₀ w₀ levels' cells' r
    unfolding grouped
    walk_more cells' c = by r.mark refl
      where
        by : (m : Mark) → r.mark ≡ m → Walking text levels₀ w₀ levels' cells' r
        by Nothing g = absurd (let z : true ≡ false = sym (sym e ∙ q) ∙ ap is_value_mark g in let z2 : ◌≡◌ {A = ℕ} 0 1 = cc in omega arith)
        by (Tagged a s d) g = absurd (let z : true ≡ false = sym (sym e ∙ q) ∙ ap is_value_mark g in let z2 : ◌≡◌ {A = ℕ} 0 1 = cc in omega arith)
        by (Valued d v a b) g =
            let m = more in let p = k.past in
            let first : a ≤ b = subst (λ (x : Mark). value_from x ≤ value_to x) g next.first in
            let last : b ≤ length text = subst (λ (x : Mark). value_to x ≤ length text) g next.quote in
            record {
              standing = next.standing;
              past = omega arith;
              parts = k.parts ++ part_at text d v a b ∷ [];
              stated = rw (c, g) (stated_more text cells k.parts k.stated d v a b first last);
              left = left_with (Valued d v a b) g;
            }
