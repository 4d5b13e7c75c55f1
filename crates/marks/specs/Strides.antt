-- The bytes of a leap give no mark: what the walk knows behind them.
use Rattle.std.specs.Prelude.{◌≡◌, Bool, true, false, not, cond, List, ◌∷◌, ℕ, ◌+◌, ◌-◌, ◌≤◌, ◌<◌, length, get_or, drop}
use Rattle.std.proofs.Math.Path.{refl}
use Rattle.std.proofs.Common.{sym, ap, subst, ◌∙◌, arith, add-one, drop-cons}
use Rattle.std.proofs.lemmas.Bool.{not-false}
use Rattle.grammar.specs.declared.Place.{Place}
use Rattle.grammar.specs.declared.Step.TheVariants as steps
use Rattle.grammar.specs.Grammar.{is_char, step_of, live, next}
use Rattle.markup.specs.declared.leaps.Leap.{Leap}
use Rattle.markup.specs.Growth.{word_at}
use Rattle.markup.specs.declared.Cursor.{Cursor}
use Rattle.std.specs.declared.option.Option.{Option}
use Rattle.std.specs.declared.option.Option.TheVariants.{Some, None}
use Rattle.markup.specs.Stack.{levels, is_live, place_in, depth_in, state_of}
use Rattle.markup.specs.Leads.{Led, Leads, stay, on, leads_order, leads_word, leads_reached}
use Rattle.markup.specs.Passes.{Reached}
use Rattle.markup.specs.Runs.{Ends, Leapt}
use Rattle.reading.specs.declared.Zone.{Zone}
use Rattle.reading.specs.declared.Zone.TheVariants as zones
use Rattle.reading.specs.Zones.{zone, is_value, element_in}
use Rattle.marks.specs.declared.Mark.TheVariants.{Nothing}
use Rattle.marks.specs.declared.Walk.{Walk}
use Rattle.marks.specs.declared.Strided.{Strided}
use Rattle.marks.specs.Marks.{is_mark, marks_from}
use Rattle.marks.specs.Told.{told_alive}
use Rattle.marks.specs.Walks.{Noted, Next, Walking, walk_found, walk_more, walk_dead, walk_end, walk_ready}

-- a zone in which no tag begins or ends
abbrev pub is_calm : Zone → Bool
is_calm zones.Outside = true
is_calm zones.Begun = false
is_calm (zones.InTag e) = true
is_calm (zones.InValue e j) = true
is_calm zones.Slash = false

no_calm : {A : Type 0} → false ≡ true → A
no_calm e = absurd (let z : ◌≡◌ {A = ℕ} 0 1 = cc in omega arith)

-- a byte inside a calm zone
module _ (st : List ℕ) (q q' : Place) (u u' at e from j b : ℕ) (bs : List ℕ) (plain : is_char b ≡ true) (goes : step_of q u b ≡ steps.Go q' u') where
  calm_byte : (z : Zone) → is_calm z ≡ true → zone q ≡ z → zone q' ≡ z →
      marks_from (live q u st) at e from j (b ∷ bs) ≡ marks_from (live q' u' st) at (element_in z e) (cond (is_value z) from (j + 1)) (j + 1) bs
  unfolding marks_from next
  calm_byte zones.Outside c a d = rw (plain, goes, a, d) refl
  calm_byte zones.Begun c a d = no_calm c
  calm_byte (zones.InTag x) c a d = rw (plain, goes, a, d) refl
  calm_byte (zones.InValue x y) c a d = rw (plain, goes, a, d) refl
  calm_byte zones.Slash c a d = no_calm c

element_twice : (z : Zone) (e : ℕ) → element_in z (element_in z e) ≡ element_in z e
element_twice zones.Outside e = refl
element_twice zones.Begun e = refl
element_twice (zones.InTag x) e = refl
element_twice (zones.InValue x y) e = refl
element_twice zones.Slash e = refl

module _ {text : List ℕ} {z : Zone} where
  abbrev element_behind : {p q : Place} {t u i j : ℕ} → Leads text z p t i q u j → ℕ → ℕ
  element_behind stay e = e
  element_behind (on l o) e = element_in z e

  abbrev from_behind : {p q : Place} {t u i j : ℕ} → Leads text z p t i q u j → ℕ → ℕ
  from_behind stay f = f
  from_behind (on {j = j} l o) f = cond (is_value z) f (j + 1)

  element_once : {p : Place} {t i : ℕ} {q : Place} {u j : ℕ} (l : Leads text z p t i q u j) (e : ℕ) → element_in z (element_behind l e) ≡ element_in z e
  element_once stay e = refl
  element_once (on l o) e = element_twice z e

  from_once : {p : Place} {t i : ℕ} {q : Place} {u j : ℕ} (l : Leads text z p t i q u j) (f n : ℕ) → cond (is_value z) (from_behind l f) n ≡ cond (is_value z) f n
  from_once stay f n = refl
  from_once (on {j = j} l o) f n = by (is_value z) refl
    where
      by : (b : Bool) → is_value z ≡ b → cond (is_value z) (cond (is_value z) f (j + 1)) n ≡ cond (is_value z) f n
      by true e = rw e refl
      by false e = rw e refl

  led_marks : {q q' : Place} {u u' j : ℕ} (st : List ℕ) (at e from : ℕ) → is_calm z ≡ true → Led text z q u j q' u' →
      marks_from (live q u st) at e from j (drop j text) ≡ marks_from (live q' u' st) at (element_in z e) (cond (is_value z) from (j + 1)) (j + 1) (drop (j + 1) text)
  led_marks {q = q} {q' = q'} {u = u} {u' = u'} {j = j} st at e from c o =
      ap (marks_from (live q u st) at e from j) (drop-cons text j 0 o.in_text_lem ∙ ap (λ (n : ℕ). get_or text j 0 ∷ drop n text) (sym (add-one j))) ∙
      calm_byte st q q' u u' at e from j (get_or text j 0) (drop (j + 1) text) o.plain o.steps z c o.from_zone o.to_zone

  leads_marks : {p : Place} {t i : ℕ} {q : Place} {u j : ℕ} (l : Leads text z p t i q u j) (st : List ℕ) (at e from : ℕ) → is_calm z ≡ true →
      marks_from (live p t st) at e from i (drop i text) ≡ marks_from (live q u st) at (element_behind l e) (from_behind l from) j (drop j text)
  leads_marks stay st at e from c = refl
  leads_marks (on {q = q} {q' = q'} {u = u} {u' = u'} {j = j} l o) st at e from c =
      leads_marks l st at e from c ∙ led_marks st at (element_behind l e) (from_behind l from) c o ∙
      ap (λ (n : ℕ). marks_from (live q' u' st) at n (cond (is_value z) (from_behind l from) (j + 1)) (j + 1) (drop (j + 1) text)) (element_once l e) ∙
      ap (λ (n : ℕ). marks_from (live q' u' st) at (element_in z e) n (j + 1) (drop (j + 1) text)) (from_once l from (j + 1))

  element_moved : {p : Place} {t i : ℕ} {q : Place} {u j : ℕ} (l : Leads text z p t i q u j) (e : ℕ) → i < j → element_behind l e ≡ element_in z e
  element_moved stay e h = absurd (omega arith)
  element_moved (on l o) e h = refl

  from_moved : {p : Place} {t i : ℕ} {q : Place} {u j : ℕ} (l : Leads text z p t i q u j) (f : ℕ) → i < j → from_behind l f ≡ cond (is_value z) f j
  from_moved stay f h = absurd (omega arith)
  from_moved (on l o) f h = refl

-- ---- the walk

-- where a walk may leap from
pub record Ready (text : List ℕ) (c : Cursor) (i : ℕ) : Type 0 where
  pub within : i ≤ length text
  pub short : length text ≤ 32768
  pub word : word_at c.place ≤ i

-- behind the leap from the cursor at i nothing of the marks is lost
pub record Strode (text : List ℕ) (c : Cursor) (e from i : ℕ) (r : Strided) : Type 0 where
  pub depth_is : r.cursor.depth ≡ c.depth
  pub order : i ≤ r.index
  pub within : r.index ≤ length text
  pub word : word_at r.cursor.place + i ≤ word_at c.place + r.index
  pub begun : from ≤ i → r.from ≤ r.index
  pub marks : (st : List ℕ) (at : ℕ) → marks_from (live c.place c.top st) at e from i (drop i text) ≡
      marks_from (live r.cursor.place r.cursor.top st) at r.element r.from r.index (drop r.index text)
  pub reaches : (st : List ℕ) → Reached text i (live c.place c.top st) → Reached text r.index (live r.cursor.place r.cursor.top st)

module _ (text : List ℕ) (c : Cursor) (e from i : ℕ) (ready : Ready text c i) where
  pub stride_none : (r : Strided) → r ≡ record { cursor = c; element = e; from = from; index = i } → Strode text c e from i r
  stride_none r q = rw q (record { depth_is = refl; order = omega arith; within = ready.within; word = omega arith; begun = λ h. h; marks = λ st at. refl; reaches = λ st k. k })

  pub stride_ends : Ends text (length text) i
  stride_ends = record { before = ready.within; within = omega arith; short = ready.short }

  pub stride_leap : (z : Zone) → z ≡ zone c.place → (calm : Bool) → calm ≡ is_calm z → not calm ≡ false →
      (l : Leap) → Leapt text (length text) (zone c.place) c.place c.top i l → i < l.index →
      (el : ℕ) → el ≡ element_in z e → (inside : Bool) → inside ≡ is_value z → (first : ℕ) → first ≡ cond inside from l.index →
      (r : Strided) → r ≡ record { cursor = record { place = l.place; top = l.top; depth = c.depth }; element = el; from = first; index = l.index } → Strode text c e from i r
  stride_leap z ez calm ec nc l lp h el ee inside ei first ef r er =
      rw er
      (record {
        depth_is = refl;
        order = leads_order lp.leads;
        within = lp.ends.before;
        word = leads_word lp.leads;
        begun = λ b. rw ef (behind inside b);
        reaches = λ st k. leads_reached st lp.leads (let a = lp.ends.before in let b = lp.ends.short in omega arith) k;
        marks = λ st at.
            leads_marks lp.leads st at e from (ap is_calm (sym ez) ∙ sym ec ∙ not-false calm nc) ∙
            ap (λ (n : ℕ). marks_from (live l.place l.top st) at n (from_behind lp.leads from) l.index (drop l.index text)) (element_moved lp.leads e h ∙ ap (λ (y : Zone). element_in y e) (sym ez) ∙ sym ee) ∙
            ap (λ (n : ℕ). marks_from (live l.place l.top st) at el n l.index (drop l.index text)) (from_moved lp.leads from h ∙ ap (λ (y : Zone). cond (is_value y) from l.index) (sym ez) ∙ ap (λ (b : Bool). cond b from l.index) (sym ei) ∙ sym ef);
      })
    where
      behind : (b : Bool) → from ≤ i → cond b from l.index ≤ l.index
      behind true g = omega arith
      behind false g = omega arith

-- ---- the loop

-- the walk behind a stride
abbrev pub strode_to : Walk → Strided → Walk
strode_to w s = record { cursor = Some s.cursor; at = w.at; element = s.element; from = s.from; index = s.index; mark = Nothing }

-- the walk as it is handed back where there is no mark
abbrev pub stopped_at : Walk → ℕ → Walk
stopped_at w i = record { cursor = w.cursor; at = w.at; element = w.element; from = w.from; index = i; mark = Nothing }

module _ (text xs₀ : List ℕ) (w₀ : Walk) (xs : List ℕ) (w : Walk) (i : ℕ) (k : Walking text xs₀ w₀ xs w i) where
  pub stop_dead : w.cursor ≡ None → (z : Walk) → z ≡ stopped_at w i → Next text xs₀ xs w₀ z
  stop_dead h z e = rw e (walk_dead text xs₀ w₀ xs w i k (ap is_live h))

  pub stop_end : length text ≤ i → (z : Walk) → z ≡ stopped_at w i → Next text xs₀ xs w₀ z
  stop_end h z e = rw e (walk_end text xs₀ w₀ xs w i k h)

  module _ (c : Cursor) (here : w.cursor ≡ Some c) where
    pub walk_leaps : Ready text c i
    walk_leaps =
        let q = k.index_is in let a = k.standing.within in let b = k.standing.word in
        let p : word_at (place_in w.cursor) ≡ word_at c.place = ap (λ (o : Option Cursor). word_at (place_in o)) here in
        record { within = omega arith; short = k.standing.short; word = omega arith }

    module _ (r : Strided) (s : Strode text c w.element w.from i r) where
      pub walk_strode : Walking text xs₀ w₀ xs (strode_to w r) r.index
      walk_strode =
          let q = k.index_is in
          let o = s.order in
          let d = k.standing.deep in
          let dd : depth_in w.cursor ≡ c.depth = ap depth_in here in
          let e = s.depth_is in
          let v = k.standing.word in
          let p : word_at (place_in w.cursor) ≡ word_at c.place = ap (λ (x : Option Cursor). word_at (place_in x)) here in
          let y = s.word in
          let b = k.standing.begun in
          let f = k.begun in
          record {
            standing = record { within = s.within; short = k.standing.short; deep = omega arith; word = omega arith; begun = s.begun (omega arith); room = k.standing.room };
            index_is = refl;
            begun = omega arith;
            rest =
                k.rest ∙ ap (λ (n : ℕ). marks_from (state_of xs w.cursor) w.at w.element w.from n (drop n text)) q ∙
                ap (λ (x : Option Cursor). marks_from (state_of xs x) w.at w.element w.from i (drop i text)) here ∙
                s.marks (levels xs c.depth) w.at ∙
                ap (λ (n : ℕ). marks_from (live r.cursor.place r.cursor.top (levels xs n)) w.at r.element r.from r.index (drop r.index text)) (sym s.depth_is);
            told = λ t.
                told_alive text xs (Some r.cursor) r.index refl
                (subst (λ (n : ℕ). Reached text r.index (live r.cursor.place r.cursor.top (levels xs n))) (sym s.depth_is)
                (s.reaches (levels xs c.depth) (subst (λ (x : Option Cursor). Reached text i (state_of xs x)) here ((k.told t).reached (ap is_live here)))));
          }

      pub leap_end : length text ≤ r.index → (z : Walk) → z ≡ strode_to w r → Next text xs₀ xs w₀ z
      leap_end h z e = rw e (walk_end text xs₀ w₀ xs (strode_to w r) r.index walk_strode h)

      pub leap_ready : r.index < length text → (r.cursor.depth < length xs) × (word_at r.cursor.place < 65535) × (r.index < 32768)
      leap_ready h = walk_ready text xs₀ w₀ xs (strode_to w r) r.index walk_strode h

      module _ (ys : List ℕ) (n : Walk) (in_text_lem : r.index < length text)
          (noted : Noted xs ys r.cursor.place r.cursor.top r.cursor.depth w.at r.element r.from r.index (get_or text r.index 0) n) where
        pub leap_found : (found : Bool) → found ≡ is_mark n.mark → found ≡ true → Next text xs₀ ys w₀ n
        leap_found found q t = walk_found text xs₀ w₀ xs (strode_to w r) r.index walk_strode ys n in_text_lem refl noted found q t

        pub leap_more : (found : Bool) → found ≡ is_mark n.mark → found ≡ false → Walking text xs₀ w₀ ys n (r.index + 1)
        leap_more found q t = walk_more text xs₀ w₀ xs (strode_to w r) r.index walk_strode ys n in_text_lem refl noted found q t

        pub leap_less : length text - (r.index + 1) < length text - i
        leap_less = let o = s.order in omega arith
