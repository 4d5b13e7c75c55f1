-- The walk over the marks, as the code's loop asks.
use Rattle.std.specs.Prelude.{◌≡◌, refl, Bool, true, false, not, cond, ℕ, ◌+◌, ◌≤◌, ◌<◌, length, get_or, drop}
use Rattle.std.proofs.Common.{sym, subst, ◌∙◌, arith, add-one, drop_of_length-le, drop-cons}
use Rattle.std.proofs.Math.Path.{ap}
use mathlib.Core.List.{List, [], ◌∷◌}
use Rattle.std.proofs.lemmas.Bool.{not-true, not-false}
use Rattle.grammar.specs.declared.Place.{Place}
use Rattle.grammar.specs.declared.Place.TheVariants as places
use Rattle.grammar.specs.declared.Step.{Step}
use Rattle.grammar.specs.declared.Step.TheVariants as steps
use Rattle.markup.specs.declared.Cursor.{Cursor}
use Rattle.grammar.specs.Grammar.{attribute, is_char, step_of, dead, live}
use Rattle.markup.specs.Growth.{word_at}
use Rattle.std.specs.declared.option.Option.{Option}
use Rattle.std.specs.declared.option.Option.TheVariants.{Some, None}
use Rattle.markup.specs.Stack.{levels, is_live, place_in, top_in, depth_in, state_at, state_of, Landed, by_advance, no_char}
use Rattle.reading.specs.declared.Zone.{Zone}
use Rattle.reading.specs.declared.Zone.TheVariants as zones
use Rattle.marks.specs.declared.Mark.{Mark}
use Rattle.marks.specs.declared.Mark.TheVariants.{Nothing, Valued, Tagged}
use Rattle.marks.specs.declared.Walk.{Walk}
use Rattle.markup.specs.Passes.{Reached, reached_start}
use Rattle.reading.specs.Zones.{zone, landing, is_begun, is_value, element_in}
use Rattle.marks.specs.Told.{Told, told_alive, told_step}
use Rattle.marks.specs.Marks.{slash_mark, end_mark, mark_of, marked, is_mark, value_from, value_to, marks_from, marks_of}

-- what is left of the marks
abbrev pub rest_of : List ℕ → List ℕ → Walk → List Mark
rest_of text xs w = marks_from (state_of xs w.cursor) w.at w.element w.from w.index (drop w.index text)

-- a mark of the byte i whose value begins at from: the value begins before its quote, and its quote is the byte
pub record Ordered (from i : ℕ) (m : Mark) : Type 0 where
  pub quote : value_to m ≤ i
  pub first : from ≤ i → value_from m ≤ value_to m

pub record Noted (xs ys : List ℕ) (p : Place) (t d at e from i b : ℕ) (r : Walk) : Type 0 where
  pub long : length ys ≡ length xs
  pub deep : (depth_in r.cursor) ≤ d + 1
  pub word : word_at (place_in r.cursor) ≤ word_at p + 1
  pub index_is : r.index ≡ i + 1
  pub begun : from ≤ i → r.from ≤ i + 1
  pub ordered : Ordered from i r.mark
  pub marks : (bs : List ℕ) → marks_from (live p t (levels xs d)) at e from i (b ∷ bs) ≡ marked r.mark (marks_from (state_of ys r.cursor) r.at r.element r.from (i + 1) bs)
  pub told : (text : List ℕ) → b ≡ get_or text i 0 → i < length text → i < 32768 → Reached text i (live p t (levels xs d)) → Told text ys r.cursor (i + 1)

pub record Standing (text xs : List ℕ) (w : Walk) : Type 0 where
  pub within : w.index ≤ length text
  pub short : length text ≤ 32768
  pub deep : (depth_in w.cursor) ≤ w.index
  pub word : word_at (place_in w.cursor) ≤ w.index
  pub begun : w.from ≤ w.index
  pub room : length xs ≡ 32768

-- the mark r .mark is the first of what was left, the others are left; there is none where none was left; each is found further on, and a
-- value stands in the text
pub record Next (text xs ys : List ℕ) (w r : Walk) : Type 0 where
  pub standing : Standing text ys r
  pub rest : rest_of text xs w ≡ marked r.mark (rest_of text ys r)
  pub none : is_mark r.mark ≡ false → rest_of text xs w ≡ []
  pub further : is_mark r.mark ≡ true → w.index < r.index
  pub first : value_from r.mark ≤ value_to r.mark
  pub quote : value_to r.mark ≤ length text
  pub told : Told text xs w.cursor w.index → Told text ys r.cursor r.index
  pub over : is_mark r.mark ≡ false → (is_live r.cursor) ≡ true → r.index ≡ length text

dead_none : (bs : List ℕ) (at e from i : ℕ) → marks_from dead at e from i bs ≡ []
unfolding marks_from
dead_none [] at e from i = refl
dead_none (b ∷ bs) at e from i = refl

-- ---- where the values stand

no_value : (from i : ℕ) (m : Mark) → value_from m ≡ 0 → value_to m ≡ 0 → Ordered from i m
no_value from i m a b = record { quote = omega arith; first = λ h. omega arith }

slash_ordered : (z : Zone) (at e from i : ℕ) → Ordered from i (slash_mark z at e)
slash_ordered zones.Outside at e from i = no_value from i Nothing refl refl
slash_ordered zones.Begun at e from i = no_value from i Nothing refl refl
slash_ordered (zones.InTag d) at e from i = no_value from i Nothing refl refl
slash_ordered (zones.InValue d j) at e from i = no_value from i Nothing refl refl
slash_ordered zones.Slash at e from i = no_value from i (Tagged at 1 e) refl refl

end_ordered : (s : Step) (z : Zone) (t at e from i : ℕ) → Ordered from i (end_mark s z t at e)
end_ordered steps.Fault z t at e from i = no_value from i Nothing refl refl
end_ordered (steps.Go p u) z t at e from i = slash_ordered z at e from i
end_ordered (steps.Open u v) z t at e from i = no_value from i (Tagged at 0 e) refl refl
end_ordered steps.Shut z t at e from i = no_value from i (Tagged at 2 _) refl refl

value_ordered : (inside : Bool) (d w from i : ℕ) → Ordered from i (cond inside Nothing (Valued d w from i))
value_ordered true d w from i = no_value from i Nothing refl refl
value_ordered false d w from i = record { quote = omega arith; first = λ h. h }

mark_ordered : (s : Step) (z : Zone) (t at e from i : ℕ) → Ordered from i (mark_of s z t at e from i)
mark_ordered s zones.Outside t at e from i = end_ordered s zones.Outside t at e from i
mark_ordered s zones.Begun t at e from i = end_ordered s zones.Begun t at e from i
mark_ordered s (zones.InTag d) t at e from i = end_ordered s (zones.InTag d) t at e from i
mark_ordered s (zones.InValue d j) t at e from i = value_ordered (is_value (landing s)) d (attribute d j) from i
mark_ordered s zones.Slash t at e from i = end_ordered s zones.Slash t at e from i

either_below : (inside : Bool) (from i : ℕ) → from ≤ i → cond inside from (i + 1) ≤ i + 1
either_below true from i h = omega arith
either_below false from i h = omega arith

-- behind a byte that no text has
abbrev pub fallen_at : ℕ → ℕ → ℕ → ℕ → Walk
fallen_at at e from i = record { cursor = None; at = at; element = e; from = from; index = i; mark = Nothing }

pub note_none : (xs : List ℕ) (p : Place) (t d at e from i b : ℕ) (plain : Bool) → plain ≡ is_char b → not plain ≡ true → (r : Walk) → r ≡ fallen_at at e from (i + 1) → Noted xs xs p t d at e from i b r
unfolding marks_from
note_none xs p t d at e from i b plain f g r q =
    rw q
    (record { long = refl; deep = omega arith; word = omega arith; index_is = refl; begun = λ h. omega arith; ordered = no_value from i Nothing refl refl; marks = λ bs. rw (sym f ∙ not-true plain g) (sym (dead_none bs at e from (i + 1))); told = λ text h l m k. told_step text i (live p t (levels xs d)) k l m xs None b h (no_char xs p t d b (sym f ∙ not-true plain g)).steps })

pub note_plain : (xs ys : List ℕ) (p : Place) (t d at e from i b : ℕ) (plain : Bool) → plain ≡ is_char b → not plain ≡ false →
    (s : Step) → s ≡ step_of p t b → (z : Zone) → z ≡ zone p → (y : Zone) → y ≡ landing s → (el : ℕ) → el ≡ element_in z e → (begun : Bool) → begun ≡ is_begun y →
    (at' : ℕ) → at' ≡ cond begun i at → (m : Mark) → m ≡ mark_of s z t at' el from i → (inside : Bool) → inside ≡ is_value z → (first : ℕ) → first ≡ cond inside from (i + 1) →
    (c : Option Cursor) → Landed xs ys d s c → Noted xs ys p t d at e from i b (record { cursor = c; at = at'; element = el; from = first; index = i + 1; mark = m })
unfolding marks_from
note_plain xs ys p t d at e from i b plain f g s es z ez y ey el ee begun eb at' ea m em inside en first ef c l =
    let st = by_advance xs p t d b ys s c plain f g es l in
    record {
      long = st.long;
      deep = st.deep;
      word = st.word;
      index_is = refl;
      begun = λ h. rw ef (either_below inside from i h);
      ordered = rw em (mark_ordered s z t at' el from i);
      marks = λ bs. rw (st.steps, sym f ∙ not-false plain g, em, ef, en, ea, eb, ee, ey, ez, es) refl;
      told = λ text h l m k. told_step text i (live p t (levels xs d)) k l m ys c b h st.steps;
    }

-- ---- the loop

pub record Walking (text xs₀ : List ℕ) (w₀ : Walk) (xs : List ℕ) (w : Walk) (i : ℕ) : Type 0 where
  pub standing : Standing text xs w
  pub index_is : w.index ≡ i
  pub begun : w₀.index ≤ i
  pub rest : rest_of text xs₀ w₀ ≡ rest_of text xs w
  pub told : Told text xs₀ w₀.cursor w₀.index → Told text xs w.cursor i

pub walk_start : (text xs : List ℕ) (w : Walk) → Standing text xs w → Walking text xs w xs w w.index
walk_start text xs w s = record { standing = s; index_is = refl; begun = omega arith; rest = refl; told = λ t. t }

no_mark : (m : Mark) (ms : List Mark) → is_mark m ≡ false → marked m ms ≡ ms
no_mark Nothing ms e = refl
no_mark (Valued e w a b) ms q = absurd (let z : ◌≡◌ {A = ℕ} 0 1 = cc in omega arith)
no_mark (Tagged a s e) ms q = absurd (let z : ◌≡◌ {A = ℕ} 0 1 = cc in omega arith)

module _ (text xs₀ : List ℕ) (w₀ : Walk) (xs : List ℕ) (w : Walk) (i : ℕ) (k : Walking text xs₀ w₀ xs w i) where
  here : rest_of text xs₀ w₀ ≡ marks_from (state_of xs w.cursor) w.at w.element w.from i (drop i text)
  here = k.rest ∙ ap (λ (n : ℕ). marks_from (state_of xs w.cursor) w.at w.element w.from n (drop n text)) k.index_is

  at_i : i < length text → drop i text ≡ get_or text i 0 ∷ drop (i + 1) text
  at_i h = drop-cons text i 0 h ∙ ap (λ (n : ℕ). get_or text i 0 ∷ drop n text) (sym (add-one i))

  module _ (ys : List ℕ) (r : Walk) (in_text_lem : i < length text) (alive : is_live w.cursor ≡ true)
      (n : Noted xs ys (place_in w.cursor) (top_in w.cursor) (depth_in w.cursor) w.at w.element w.from i (get_or text i 0) r) where
    one : rest_of text xs₀ w₀ ≡ marked r.mark (rest_of text ys r)
    one =
        here ∙ ap (λ (l : List ℕ). marks_from (state_of xs w.cursor) w.at w.element w.from i l) (at_i in_text_lem) ∙
        ap (λ (a : Bool). marks_from (state_at a (place_in w.cursor) (top_in w.cursor) (levels xs (depth_in w.cursor))) w.at w.element w.from i (get_or text i 0 ∷ drop (i + 1) text)) alive ∙
        n.marks (drop (i + 1) text) ∙
        ap (λ (j : ℕ). marked r.mark (marks_from (state_of ys r.cursor) r.at r.element r.from j (drop j text))) (sym n.index_is)

    told_so : Told text xs₀ w₀.cursor w₀.index → Told text ys r.cursor (i + 1)
    told_so t =
        n.told text refl in_text_lem (let q = k.index_is in let s = k.standing.short in omega arith)
        (subst (λ (a : Bool). Reached text i (state_at a (place_in w.cursor) (top_in w.cursor) (levels xs (depth_in w.cursor)))) alive ((k.told t).reached alive))

    behind : w.from ≤ i
    behind = let q = k.index_is in let b = k.standing.begun in omega arith

    stands : Standing text ys r
    stands =
        let q = k.index_is in let a = n.index_is in let dd = k.standing.deep in let ww = k.standing.word in let d2 = n.deep in let w2 = n.word in
        record { within = omega arith; short = k.standing.short; deep = omega arith; word = omega arith; begun = rw a (n.begun behind); room = n.long ∙ k.standing.room }

    pub walk_found : (found : Bool) → found ≡ is_mark r.mark → found ≡ true → Next text xs₀ ys w₀ r
    walk_found found q t = let e : is_mark r.mark ≡ true = sym q ∙ t in let a = n.index_is in let b = k.begun in let o = n.ordered.quote in record { standing = stands; rest = one; further = λ f. omega arith; first = n.ordered.first behind; quote = omega arith; none = λ f. absurd (let z : true ≡ false = sym e ∙ f in let z2 : ◌≡◌ {A = ℕ} 0 1 = cc in omega arith); told = λ t. rw a (told_so t); over = λ f. absurd (let z : true ≡ false = sym e ∙ f in let z2 : ◌≡◌ {A = ℕ} 0 1 = cc in omega arith) }

    pub walk_more : (found : Bool) → found ≡ is_mark r.mark → found ≡ false → Walking text xs₀ w₀ ys r (i + 1)
    walk_more found q t = let e : is_mark r.mark ≡ false = sym q ∙ t in let b = k.begun in record { standing = stands; index_is = n.index_is; begun = omega arith; rest = one ∙ no_mark r.mark (rest_of text ys r) e; told = told_so }

  -- the walk that is handed back where there is no mark
  abbrev pub stay : Walk
  stay = record { cursor = w.cursor; at = w.at; element = w.element; from = w.from; index = i; mark = Nothing }

  stays : rest_of text xs₀ w₀ ≡ [] → ((is_live w.cursor) ≡ true → length text ≤ i) → Next text xs₀ xs w₀ stay
  stays e l =
      let q = k.index_is in let dd = k.standing.deep in let ww = k.standing.word in let wi = k.standing.within in let bb = k.standing.begun in
      record { standing = record { within = omega arith; short = k.standing.short; deep = omega arith; word = omega arith; begun = omega arith; room = k.standing.room }; rest = here; none = λ f. e; first = omega arith; quote = omega arith; further = λ f. absurd (let z2 : ◌≡◌ {A = ℕ} 0 1 = cc in omega arith); told = k.told; over = λ f a. let b = l a in omega arith }

  pub walk_dead : is_live w.cursor ≡ false → Next text xs₀ xs w₀ stay
  walk_dead e =
      stays (here ∙ ap (λ (a : Bool). marks_from (state_at a (place_in w.cursor) (top_in w.cursor) (levels xs (depth_in w.cursor))) w.at w.element w.from i (drop i text)) e ∙
      dead_none (drop i text) w.at w.element w.from i)
      (λ a. absurd (let z : true ≡ false = sym a ∙ e in let z2 : ◌≡◌ {A = ℕ} 0 1 = cc in omega arith))

  pub walk_end : length text ≤ i → Next text xs₀ xs w₀ stay
  unfolding marks_from
  walk_end h = stays (here ∙ ap (λ (l : List ℕ). marks_from (state_of xs w.cursor) w.at w.element w.from i l) (drop_of_length-le text h)) (λ a. h)

pub walk_ready : (text xs₀ : List ℕ) (w₀ : Walk) (xs : List ℕ) (w : Walk) (i : ℕ) → Walking text xs₀ w₀ xs w i → i < length text → ((depth_in w.cursor) < length xs) × (word_at (place_in w.cursor) < 65535) × (i < 32768)
walk_ready text xs₀ w₀ xs w i k h =
    let q = k.index_is in let dd = k.standing.deep in let ww = k.standing.word in let ss = k.standing.short in let rr = k.standing.room in
    (omega arith, omega arith, omega arith)

-- ---- the whole walk

abbrev pub beginning : Walk
beginning = record { cursor = Some (record { place = places.Content; top = 0; depth = 0 }); at = 0; element = 48; from = 0; index = 0; mark = Nothing }

pub begin_stands : (text xs : List ℕ) → length text ≤ 32768 → length xs ≡ 32768 → Standing text xs beginning
begin_stands text xs s l = record { within = omega arith; short = s; deep = omega arith; word = omega arith; begun = omega arith; room = l }

pub begin_rest : (text xs : List ℕ) → rest_of text xs beginning ≡ marks_of text
unfolding marks_of levels
begin_rest text xs = refl

pub begin_told : (text xs : List ℕ) → Told text xs beginning.cursor 0
unfolding levels
begin_told text xs = told_alive text xs beginning.cursor 0 refl (reached_start text)
