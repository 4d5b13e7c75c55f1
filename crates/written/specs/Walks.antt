-- The tags of a text as written are the tags that were written, and the grammar's walk over it ends between tags, by the levels that they open and close.
use Rattle.std.specs.Prelude.{◌≡◌, Bool, true, false, not, ◌&&◌, ℕ, ◌+◌, eqb, length}
use Rattle.std.proofs.Math.Path.{refl, ap}
use Rattle.std.proofs.Common.{sym, ◌∙◌}
use mathlib.Core.List.{List, [], ◌∷◌, ◌++◌, append_assoc, append-nil}
use Rattle.grammar.specs.declared.Place.TheVariants.{Tag, Value}
use Rattle.grammar.specs.declared.Step.TheVariants.{Go}
use Rattle.grammar.specs.Grammar.{is_char, attribute, added, value_step, value_ends, kind_of, value_at, value_step_at, step_of, live, next, run}
use Rattle.reading.specs.Tags.{Part, noted, emitted, tags_from}
use Rattle.laws.specs.Bools.{and_left, and_right}
use Rattle.written.specs.Pieces.{Attr, attrs_onto, further, part_at, parts_at, behind_attr, behind_attrs, draft, value_at as value_from}
use Rattle.written.specs.Begins.{Follows, names, names_run}

-- ---- a value

-- the bytes pass as a value of the kind, from its state v to where the quote may come, with neither quote nor "&"
unfoldable pub reads : ℕ → ℕ → List ℕ → Bool
reads kind v [] = value_ends kind v
reads kind v (b ∷ bs) = is_char b && not (eqb b 34) && not (eqb b 38) && not (eqb (value_step kind v b) 5) && reads kind (value_step kind v b) bs

pub not-false : (b : Bool) → not b ≡ true → b ≡ false
not-false true e = sym e
not-false false e = refl

-- what passing says of the first byte and of the others
pub record Passed (kind v b : ℕ) (bs : List ℕ) : Type 0 where
  pub char : is_char b ≡ true
  pub quote : eqb b 34 ≡ false
  pub entity : eqb b 38 ≡ false
  pub goes : eqb (value_step kind v b) 5 ≡ false
  pub rest : reads kind (value_step kind v b) bs ≡ true

pub passed : (kind v b : ℕ) (bs : List ℕ) → reads kind v (b ∷ bs) ≡ true → Passed kind v b bs
unfolding reads
passed kind v b bs h =
    let q = is_char b in
    let r = q && not (eqb b 34) in
    let s = r && not (eqb b 38) in
    let u = s && not (eqb (value_step kind v b) 5) in
    let hu = and_left u (reads kind (value_step kind v b) bs) h in
    let hs = and_left s (not (eqb (value_step kind v b) 5)) hu in
    let hr = and_left r (not (eqb b 38)) hs in
    record {
      char = and_left q (not (eqb b 34)) hr;
      quote = not-false (eqb b 34) (and_right q (not (eqb b 34)) hr);
      entity = not-false (eqb b 38) (and_right r (not (eqb b 38)) hs);
      goes = not-false (eqb (value_step kind v b) 5) (and_right s (not (eqb (value_step kind v b) 5)) hu);
      rest = and_right u (reads kind (value_step kind v b) bs) h;
    }

value_step_lem : (e x j v t b : ℕ) → eqb b 34 ≡ false → eqb b 38 ≡ false → eqb (value_step (kind_of e j) v b) 5 ≡ false →
    step_of (Value e x j 34 v) t b ≡ Go (Value e x j 34 (value_step (kind_of e j) v b)) t
unfolding step_of value_step_at value_at
value_step_lem e x j v t b q a g = rw (q, a, g)

quote_step_lem : (e x j v t : ℕ) → value_ends (kind_of e j) v ≡ true → step_of (Value e x j 34 v) t 34 ≡ Go (Tag e (added x j)) t
unfolding step_of value_step_at
quote_step_lem e x j v t h = rw h

module _ (e x j t : ℕ) (st : List ℕ) where
  quote_run : (v : ℕ) (rest : List ℕ) → value_ends (kind_of e j) v ≡ true → run (live (Value e x j 34 v) t st) (34 ∷ rest) ≡ run (live (Tag e (added x j)) t st) rest
  unfolding run next is_char
  quote_run v rest h = rw (quote_step_lem e x j v t h)

  byte_run : (v w b : ℕ) (rest : List ℕ) → is_char b ≡ true → step_of (Value e x j 34 v) t b ≡ Go (Value e x j 34 w) t →
      run (live (Value e x j 34 v) t st) (b ∷ rest) ≡ run (live (Value e x j 34 w) t st) rest
  unfolding run next
  byte_run v w b rest c s = rw (c, s)

  pub value_run : (bs : List ℕ) (v : ℕ) (rest : List ℕ) → reads (kind_of e j) v bs ≡ true → run (live (Value e x j 34 v) t st) (bs ++ 34 ∷ rest) ≡ run (live (Tag e (added x j)) t st) rest
  value_run [] v rest h = quote_run v rest (unfold reads in h)
  value_run (b ∷ bs) v rest h =
      let p = passed (kind_of e j) v b bs h in
      byte_run v (value_step (kind_of e j) v b) b (bs ++ 34 ∷ rest) p.char (value_step_lem e x j v t b p.quote p.entity p.goes) ∙ value_run bs (value_step (kind_of e j) v b) rest p.rest

  module _ (at : ℕ) (ps : List Part) (from : ℕ) where
    abbrev ended : List ℕ → List Part
    ended w = ps ++ record { element = e; word = attribute e j; from = from; bytes = w } ∷ []

    quote_tags : (v i : ℕ) (w rest : List ℕ) → value_ends (kind_of e j) v ≡ true →
        tags_from (live (Value e x j 34 v) t st) (draft at e ps from w) i (34 ∷ rest) ≡ tags_from (live (Tag e (added x j)) t st) (draft at e (ended w) from []) (i + 1) rest
    unfolding tags_from noted emitted next is_char
    quote_tags v i w rest h = rw (quote_step_lem e x j v t h)

    byte_tags : (v z b i : ℕ) (w rest : List ℕ) → is_char b ≡ true → step_of (Value e x j 34 v) t b ≡ Go (Value e x j 34 z) t →
        tags_from (live (Value e x j 34 v) t st) (draft at e ps from w) i (b ∷ rest) ≡ tags_from (live (Value e x j 34 z) t st) (draft at e ps from (w ++ b ∷ [])) (i + 1) rest
    unfolding tags_from noted emitted next
    byte_tags v z b i w rest c s = rw (c, s)

    pub value_tags : (bs : List ℕ) (v i : ℕ) (w rest : List ℕ) → reads (kind_of e j) v bs ≡ true →
        tags_from (live (Value e x j 34 v) t st) (draft at e ps from w) i (bs ++ 34 ∷ rest) ≡ tags_from (live (Tag e (added x j)) t st) (draft at e (ended (w ++ bs)) from []) (further i (length bs) + 1) rest
    value_tags [] v i w rest h =
        quote_tags v i w rest (unfold reads in h) ∙ ap (λ (l : List ℕ). tags_from (live (Tag e (added x j)) t st) (draft at e (ended l) from []) (i + 1) rest) (sym (append-nil w))
    value_tags (b ∷ bs) v i w rest h =
        let p = passed (kind_of e j) v b bs h in
        byte_tags v (value_step (kind_of e j) v b) b i w (bs ++ 34 ∷ rest) p.char (value_step_lem e x j v t b p.quote p.entity p.goes) ∙
        value_tags bs (value_step (kind_of e j) v b) (i + 1) (w ++ b ∷ []) rest p.rest ∙
        ap (λ (l : List ℕ). tags_from (live (Tag e (added x j)) t st) (draft at e (ended l) from []) (further (i + 1) (length bs) + 1) rest) (append_assoc w (b ∷ []) bs)

-- ---- the attributes of a tag

-- each follows those before it, and its value is of its kind; y is the set of them all
pub data Stated (e : ℕ) : ℕ → List Attr → ℕ → Type 0 where
  none : {x : ℕ} → Stated e x [] x
  one : {x y : ℕ} {a : Attr} {xs : List Attr} → Follows e x a.place → reads (kind_of e a.place) 0 a.value ≡ true → Stated e (added x a.place) xs y → Stated e x (a ∷ xs) y

-- the offset of the last value
abbrev pub last_from : ℕ → ℕ → ℕ → List Attr → ℕ
last_from from i e [] = from
last_from from i e (a ∷ xs) = last_from (value_from i e a) (behind_attr i e a) e xs

module _ (e t : ℕ) (st : List ℕ) where
  pub attrs_run : (x y : ℕ) (xs : List Attr) (rest : List ℕ) → Stated e x xs y → run (live (Tag e x) t st) (attrs_onto e xs rest) ≡ run (live (Tag e y) t st) rest
  unfolding attrs_onto
  attrs_run x y [] rest none = refl
  attrs_run x y (a ∷ xs) rest (one f v m) =
      names_run e x a.place f t st (a.value ++ 34 ∷ attrs_onto e xs rest) ∙ value_run e x a.place t st a.value 0 (attrs_onto e xs rest) v ∙ attrs_run (added x a.place) y xs rest m

  pub attrs_tags : (x y at : ℕ) (ps : List Part) (from i : ℕ) (xs : List Attr) (rest : List ℕ) → Stated e x xs y →
      tags_from (live (Tag e x) t st) (draft at e ps from []) i (attrs_onto e xs rest) ≡ tags_from (live (Tag e y) t st) (draft at e (ps ++ parts_at i e xs) (last_from from i e xs) []) (behind_attrs i e xs) rest
  unfolding attrs_onto parts_at behind_attrs
  attrs_tags x y at ps from i [] rest none = ap (λ (l : List Part). tags_from (live (Tag e x) t st) (draft at e l from []) i rest) (sym (append-nil ps))
  attrs_tags x y at ps from i (a ∷ xs) rest (one f v m) =
      names e x a.place f t st at ps from i (a.value ++ 34 ∷ attrs_onto e xs rest) ∙
      value_tags e x a.place t st at ps (value_from i e a) a.value 0 (value_from i e a) [] (attrs_onto e xs rest) v ∙
      attrs_tags (added x a.place) y at (ps ++ part_at i e a ∷ []) (value_from i e a) (behind_attr i e a) xs rest m ∙
      ap (λ (l : List Part). tags_from (live (Tag e y) t st) (draft at e l (last_from (value_from i e a) (behind_attr i e a) e xs) []) (behind_attrs (behind_attr i e a) e xs) rest)
      (append_assoc ps (part_at i e a ∷ []) (parts_at (behind_attr i e a) e xs))
