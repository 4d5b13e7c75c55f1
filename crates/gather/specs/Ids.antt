-- The ids of a text's rows, gathered mark by mark.
use Rattle.std.specs.Prelude.{◌≡◌, Bool, true, false, not, ◌&&◌, cond, ℕ, zero, suc, ◌+◌, ◌*◌, ◌-◌, ◌≤◌, ◌<◌, eqb, leb, ltb, take, drop}
use Rattle.std.proofs.Math.Path.{refl, sym, ap, subst}
use Rattle.std.proofs.Common.{◌∙◌, arith, length-append}
use mathlib.Core.List.{List, [], ◌∷◌, ◌++◌, append-nil}
use Rattle.std.proofs.Math.ListN.{length}
use Rattle.std.proofs.Math.Seq.{append_snoc}
use borrow.Author.Tests.{le-ltb}
use Rattle.laws.specs.Bools.{clash}
use Rattle.marks.specs.declared.Mark.{Mark}
use Rattle.marks.specs.declared.Mark.TheVariants.{Nothing, Valued, Tagged}
use Rattle.marks.specs.declared.Walk.{Walk}
use Rattle.marks.specs.Marks.{marked, is_mark, value_from, value_to}
use Rattle.std.specs.declared.option.Option.{Option}
use Rattle.std.specs.declared.option.Option.TheVariants.{Some, None}
use Rattle.std.specs.Option.{unwrap_or}
use Rattle.std.specs.declared.result.Result.{Result}
use Rattle.std.specs.declared.result.Result.TheVariants.{Ok, Err}
use Rattle.gather.specs.declared.ids.Ungrammatical.{Ungrammatical}
use Rattle.markup.specs.declared.Fault.{Fault}
use Rattle.values.specs.declared.conditions.Span.{Span}
use Rattle.markup.specs.Passes.{Found}
use Rattle.marks.specs.Told.{Told}
use Rattle.marks.specs.Walks.{rest_of, Standing, Next, beginning, begin_stands, begin_rest, begin_told}
use Rattle.marks.specs.Grouped.{shape_of, grouped}
use Rattle.marks.specs.Joined.{joined}
use Rattle.reading.specs.Tags.{Part, tags_of}
use Rattle.reading.specs.Faults.{id_word, is_closing, is_row_tag, states, value_of, ids_of}
use Rattle.reading.specs.Content.{place_of}
use Rattle.weights.specs.Paid.{text_ids}
use Rattle.values.specs.Ids.{ids_from, ids_length, Index, Noted, noted_all}
use Rattle.values.specs.Notes.{Forgotten, forgotten_index, NoteRoom, NotedMore}
use Rattle.gather.specs.Ended.{Stopped, ended_at, ended_found}
use Rattle.gather.specs.Parts.{part_at, states_snoc, value_snoc, absent}

-- ---- the id of the tag that goes on

-- where an id stands, empty where there is none
abbrev pub span_of : Option Span → Span
span_of o = unwrap_or o (record { from = 0; to = 0 })

abbrev pub is_stated : Option Span → Bool
is_stated None = false
is_stated (Some s) = true

abbrev pub with_value : Option Span → ℕ → ℕ → ℕ → Option Span
with_value None w a b = cond (eqb w id_word) (Some (record { from = a; to = b })) None
with_value (Some s) w a b = Some s

abbrev pub id_after : Option Span → Mark → Option Span
id_after id Nothing = id
id_after id (Valued e w a b) = with_value id w a b
id_after id (Tagged a s e) = None

abbrev pub is_row_mark : Mark → Bool
is_row_mark Nothing = false
is_row_mark (Valued e w a b) = false
is_row_mark (Tagged a s e) = not (is_closing (shape_of s)) && is_row_tag e

pub row_so : (s e : ℕ) → (ltb s 2 && (leb 1 e && leb e 4)) ≡ (not (is_closing (shape_of s)) && is_row_tag e)
row_so zero e = refl
row_so (suc zero) e = refl
row_so (suc (suc n)) e = rw (le-ltb (suc (suc n)) 2 (omega arith)) refl

-- the id stands in the text, and is the value of the parts so far
pub record Stating (text : List ℕ) (id : Option Span) (ps : List Part) : Type 0 where
  pub order : (span_of id).from ≤ (span_of id).to
  pub inside : (span_of id).to ≤ length text
  pub stated_is : is_stated id ≡ states id_word ps
  pub value_is : take ((span_of id).to - (span_of id).from) (drop (span_of id).from text) ≡ value_of id_word ps

pub stating_none : (text : List ℕ) → Stating text None []
unfolding states value_of
stating_none text = record { order = omega arith; inside = omega arith; stated_is = refl; value_is = refl }

pub stating_more : (text : List ℕ) (id : Option Span) (ps : List Part) (e w a b : ℕ) → Stating text id ps → a ≤ b → b ≤ length text →
    Stating text (with_value id w a b) (ps ++ part_at text e w a b ∷ [])
stating_more text (Some s) ps e w a b h l m =
    let p : Part = part_at text e w a b in
    let st : states id_word ps ≡ true = sym h.stated_is in
    record { order = h.order; inside = h.inside; stated_is = sym (states_snoc id_word ps p ∙ rw st refl); value_is = h.value_is ∙ sym (value_snoc id_word ps p ∙ rw st refl) }
stating_more text None ps e w a b h l m = by (eqb w id_word) refl
  where
    p : Part
    p = part_at text e w a b

    st : states id_word ps ≡ false
    st = sym h.stated_is

    by : (y : Bool) → eqb w id_word ≡ y → Stating text (cond y (Some (record { from = a; to = b })) None) (ps ++ p ∷ [])
    by true r = record { order = l; inside = m; stated_is = sym (states_snoc id_word ps p ∙ rw (st, r) refl); value_is = sym (value_snoc id_word ps p ∙ rw (st, r) refl) }
    by false r =
        record {
          order = h.order;
          inside = h.inside;
          stated_is = sym (states_snoc id_word ps p ∙ rw (st, r) refl);
          value_is = h.value_is ∙ absent id_word ps st ∙ sym (value_snoc id_word ps p ∙ rw (st, r) refl);
        }

-- ---- one id more

pub record RowRoom (text ids : List ℕ) (n at to : ℕ) : Type 0 where
  pub index : Index text ids n
  pub few : n < 32768
  pub room : n * 5 + 1029 ≤ length ids
  pub first : at ≤ to
  pub quote : to ≤ length text

pub record RowNoted (text ids ids' : List ℕ) (n : ℕ) (row : Bool) (at to r : ℕ) : Type 0 where
  pub more : row ≡ true → NotedMore text ids ids' n at to r
  pub none : row ≡ false → (ids' ≡ ids) × (r ≡ n)

module _ (text ids : List ℕ) (n at to : ℕ) (w : RowRoom text ids n at to) where
  pub row_known : Noted text ids n
  row_known = noted_all text ids n w.index

  pub row_room : (place : ℕ) → place ≡ place_of (take (to - at) (drop at text)) (ids_from text ids n 0) → NoteRoom text ids n at to place
  row_room place e = record { index = w.index; few = w.few; room = w.room; first = w.first; quote = w.quote; short = w.index.short; place_is = e }

  pub row_noted : (row : Bool) (ids' : List ℕ) (r : ℕ) → row ≡ true → NotedMore text ids ids' n at to r → RowNoted text ids ids' n row at to r
  row_noted row ids' r e m = record { more = λ _. m; none = λ f. absurd (clash row e f) }

  pub row_none : (row : Bool) → row ≡ false → RowNoted text ids ids n row at to n
  row_none row e = record { more = λ f. absurd (clash row f e); none = λ _. (refl, refl) }

-- ---- the walk

pub record Begun (text levels ids : List ℕ) : Type 0 where
  pub short : length text ≤ 32768
  pub deep : length levels ≡ 32768
  pub room : length ids ≡ 24434

pub record Gathered (text levels ids : List ℕ) (n : ℕ) : Type 0 where
  pub begun : Begun text levels ids
  pub noted : Noted text ids n
  pub ids_are : ids_from text ids n 0 ≡ ids_of (tags_of text)

-- the ids of a text's rows, and whether it is of the grammar
abbrev pub GatheredAs : List ℕ → List ℕ → List ℕ → Result ℕ Ungrammatical → Type 0
GatheredAs text levels ids (Ok n) = Gathered text levels ids n × Found text (Ok (tt {0}))
GatheredAs text levels ids (Err e) = Gathered text levels ids e.count × Found text (Err e.fault)

pub record Gathering (text levels ids : List ℕ) (w : Walk) (id : Option Span) (n : ℕ) : Type 0 where
  pub standing : Standing text levels w
  pub told : Told text levels w.cursor w.index
  pub room : length ids ≡ 24434
  pub index : Index text ids n
  pub parts : List Part
  pub stating : Stating text id parts
  pub left : ids_of (tags_of text) ≡ ids_from text ids n 0 ++ ids_of (grouped text parts (rest_of text levels w))

pub begun_keys : (text levels ids : List ℕ) → Begun text levels ids → 1024 ≤ length ids
begun_keys text levels ids h = let r = h.room in omega arith

pub ids_start : (text levels ids₀ ids : List ℕ) (w : Walk) → Begun text levels ids₀ → Forgotten ids₀ ids → w ≡ beginning → Gathering text levels ids w None 0
unfolding ids_from
ids_start text levels ids₀ ids w h f e =
    rw e
    (record {
      standing = begin_stands text levels h.short h.deep;
      told = begin_told text levels;
      room = f.size ∙ h.room;
      index = forgotten_index text ids₀ ids h.short (begun_keys text levels ids₀ h) f;
      parts = [];
      stating = stating_none text;
      left = ap ids_of (sym (joined text)) ∙ ap (λ (l : List Mark). ids_of (grouped text [] l)) (sym (begin_rest text levels));
    })

module _ (text levels ids : List ℕ) (w : Walk) (id : Option Span) (n : ℕ) (k : Gathering text levels ids w id n) where
  -- the ids so far are some of the text's
  few : n ≤ 4681
  few =
      let l = ap length k.left ∙ length-append (ids_from text ids n 0) (ids_of (grouped text k.parts (rest_of text levels w))) in
      let m = ids_length text ids n 0 in
      let f = text_ids text in
      let s = k.standing.short in
      omega (arith, l, m, f, s)

  pub ids_room : (s : Span) → s ≡ span_of id → RowRoom text ids n s.from s.to
  ids_room s e =
      let f = few in let h = k.standing.short in let r = k.room in
      rw e (record { index = k.index; few = omega arith; room = omega arith; first = k.stating.order; quote = k.stating.inside })

module _ (text levels ids : List ℕ) (w : Walk) (id : Option Span) (n : ℕ) (k : Gathering text levels ids w id n) (levels' : List ℕ) (r : Walk) (next : Next text levels levels' w r) where
  pub ids_stopped : Stopped r
  ids_stopped = record { behind = (next.told k.told).behind }

  ids_end : (found : Bool) → found ≡ is_mark r.mark → found ≡ false → Gathered text levels' ids n
  unfolding grouped ids_of
  ids_end found e q =
      let none = next.none (sym e ∙ q) in
      record {
        begun = record { short = k.standing.short; deep = next.standing.room; room = k.room };
        noted = noted_all text ids n k.index;
        ids_are = sym (k.left ∙ ap (λ (l : List Mark). ids_from text ids n 0 ++ ids_of (grouped text k.parts l)) none ∙ append-nil (ids_from text ids n 0));
      }

  module _ (found : Bool) (e : found ≡ is_mark r.mark) (q : found ≡ false) (z : Result (Unit {0}) Fault) (is : z ≡ ended_at (length text) r) where
    found_so : Found text z
    found_so = ended_found text levels' r (next.told k.told) (next.over (sym e ∙ q)) k.standing.short z is

    pub ids_text : (u : Unit {0}) → z ≡ Ok u → GatheredAs text levels' ids (Ok n)
    ids_text u h = (ids_end found e q, subst (Found text) h found_so)

    pub ids_fault : (f : Fault) → z ≡ Err f → GatheredAs text levels' ids (Err (record { count = n; fault = f }))
    ids_fault f h = (ids_end found e q, subst (Found text) h found_so)

  pub ids_less : (found : Bool) → found ≡ is_mark r.mark → found ≡ true → length text - r.index < length text - w.index
  ids_less found e q = let more = next.further (sym e ∙ q) in let i = next.standing.within in omega arith

  module _ (found : Bool) (e : found ≡ is_mark r.mark) (q : found ≡ true) where
    left_with : (m : Mark) → r.mark ≡ m → ids_of (tags_of text) ≡ ids_from text ids n 0 ++ ids_of (grouped text k.parts (marked m (rest_of text levels' r)))
    left_with m g = k.left ∙ ap (λ (l : List Mark). ids_from text ids n 0 ++ ids_of (grouped text k.parts l)) (next.rest ∙ ap (λ (x : Mark). marked x (rest_of text levels' r)) g)

    module _ (a s d : ℕ) where
      noted_none : is_row_mark (Tagged a s d) ≡ false →
          ids_from text ids n 0 ++ ids_of (grouped text k.parts (Tagged a s d ∷ rest_of text levels' r)) ≡ ids_from text ids n 0 ++ ids_of (grouped text [] (rest_of text levels' r))
      unfolding grouped ids_of
      noted_none z = rw z refl

      noted_more : (ids' : List ℕ) → ids_from text ids' (n + 1) 0 ≡ ids_from text ids n 0 ++ take ((span_of id).to - (span_of id).from) (drop (span_of id).from text) ∷ [] → is_row_mark (Tagged a s d) ≡ true →
          ids_from text ids n 0 ++ ids_of (grouped text k.parts (Tagged a s d ∷ rest_of text levels' r)) ≡
          ids_from text ids' (n + 1) 0 ++ ids_of (grouped text [] (rest_of text levels' r))
      unfolding grouped ids_of
      noted_more ids' g z =
          let rest = ids_of (grouped text [] (rest_of text levels' r)) in
          rw z
          (ap (λ (l : List ℕ). ids_from text ids n 0 ++ l ∷ rest) (sym k.stating.value_is) ∙
          sym (append_snoc (ids_from text ids n 0) (take ((span_of id).to - (span_of id).from) (drop (span_of id).from text)) rest) ∙
          ap (λ (l : List (List ℕ)). l ++ rest) (sym g))

    pub ids_more : (row : Bool) (ids' : List ℕ) (n' : ℕ) (id' : Option Span) (sp : Span) → sp ≡ span_of id → row ≡ is_row_mark r.mark → RowNoted text ids ids' n row sp.from sp.to n' → id' ≡ id_after id r.mark →
        Gathering text levels' ids' r id' n'
    unfolding grouped
    ids_more row ids' n' id' sp se rw-is p₀ id_is = by r.mark refl
      where
        p : RowNoted text ids ids' n row (span_of id).from (span_of id).to n'
        p = subst (λ (x : Span). RowNoted text ids ids' n row x.from x.to n') se p₀

        valued : (d v a b : ℕ) → r.mark ≡ Valued d v a b → Gathering text levels' ids' r id' n'
        valued d v a b g =
            let same-all = p.none (rw-is ∙ ap is_row_mark g) in
            let first : a ≤ b = subst (λ (x : Mark). value_from x ≤ value_to x) g next.first in
            let last : b ≤ length text = subst (λ (x : Mark). value_to x ≤ length text) g next.quote in
            rw (same-all.0, same-all.1)
            (record {
              standing = next.standing;
              told = next.told k.told;
              room = k.room;
              index = k.index;
              parts = k.parts ++ part_at text d v a b ∷ [];
              stating = rw (id_is, g) (stating_more text id k.parts d v a b k.stating first last);
              left = left_with (Valued d v a b) g;
            })

        tagged : (a s d : ℕ) (z : Bool) → r.mark ≡ Tagged a s d → is_row_mark (Tagged a s d) ≡ z → Gathering text levels' ids' r id' n'
        tagged a s d true g z =
            let m = p.more (rw-is ∙ ap is_row_mark g ∙ z) in
            rw m.count_is
            (record {
              standing = next.standing;
              told = next.told k.told;
              room = m.size ∙ k.room;
              index = m.index;
              parts = [];
              stating = rw (id_is, g) (stating_none text);
              left =
                  left_with (Tagged a s d) g ∙
                  noted_more a s d ids' m.ids_are z;
            })
        tagged a s d false g z =
            let same-all = p.none (rw-is ∙ ap is_row_mark g ∙ z) in
            rw (same-all.0, same-all.1)
            (record {
              standing = next.standing;
              told = next.told k.told;
              room = k.room;
              index = k.index;
              parts = [];
              stating = rw (id_is, g) (stating_none text);
              left = left_with (Tagged a s d) g ∙ noted_none a s d z;
            })

        by : (m : Mark) → r.mark ≡ m → Gathering text levels' ids' r id' n'
        by Nothing g = absurd (let t : is_mark r.mark ≡ true = sym e ∙ q in let z : true ≡ false = sym t ∙ ap is_mark g in let z2 : ◌≡◌ {A = ℕ} 0 1 = cc in omega arith)
        by (Valued d v a b) g = valued d v a b g
        by (Tagged a s d) g = tagged a s d (is_row_mark (Tagged a s d)) g refl
