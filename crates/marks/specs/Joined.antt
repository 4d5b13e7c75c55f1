-- The marks of a text, grouped, are its tags: what the code walks over is what the definition speaks of, for every text.
use Rattle.std.specs.Prelude.{◌≡◌, Bool, ◌&&◌, cond, List, [], ◌∷◌, ◌++◌, ℕ, zero, suc, ◌+◌, ◌-◌, ◌≤◌, take, drop, eqb}
use Rattle.std.proofs.Math.Path.{refl}
use Rattle.std.proofs.Common.{sym, ap, subst, ◌∙◌, arith, add-one, drop-drop}
use Rattle.std.proofs.Math.Bool.{true, false}
use Rattle.grammar.specs.declared.Place.{Place}
use Rattle.grammar.specs.declared.Place.TheVariants as places
use Rattle.grammar.specs.declared.Step.{Step}
use Rattle.grammar.specs.declared.Step.TheVariants.{Fault, Go, Open, Shut}
use Rattle.grammar.specs.Grammar.{is_char, attribute, added, kind_of, value_ends, value_step, value_step_at, value_at, entity_at, entity_step, word_byte, pick, step_of, State, dead, live, moved, next, start}
use Rattle.reading.specs.declared.Zone.{Zone}
use Rattle.reading.specs.declared.Zone.TheVariants as zones
use Rattle.reading.specs.Zones.{zone, landing, is_value}
use Rattle.reading.specs.Tags.{Part, Markup, Draft, noted, emitted, behind, tags_from, no_draft, tags_of}
use Rattle.marks.specs.declared.Mark.{Mark}
use Rattle.marks.specs.Marks.{mark_of, marked, marks_from, marks_of}
use Rattle.marks.specs.Grouped.{bytes_from, grouped}

no : false ≡ true → ⊥
no e = let z : ◌≡◌ {A = ℕ} 0 1 = cc in omega arith

-- ---- a byte in a value ends no tag

abbrev ends_none : Step → Bool
ends_none Fault = true
ends_none (Go p u) = true
ends_none (Open u v) = false
ends_none Shut = false

fails_or_goes : (c : Bool) (p : Place) (u : ℕ) → ends_none (cond c Fault (Go p u)) ≡ true
fails_or_goes true p u = refl
fails_or_goes false p u = refl

quoted : (a v c : Bool) (p q : Place) (u : ℕ) (s : Step) → ends_none s ≡ true → ends_none (cond a (cond v (Go p u) Fault) (cond c (Go q u) s)) ≡ true
quoted true true c p q u s h = refl
quoted true false c p q u s h = refl
quoted false v true p q u s h = refl
quoted false v false p q u s h = h

named : (a c v : Bool) (p q : Place) (u : ℕ) (s : Step) → ends_none s ≡ true → ends_none (cond a (Go p u) (cond c (cond v (Go q u) Fault) s)) ≡ true
named true c v p q u s h = refl
named false true true p q u s h = refl
named false true false p q u s h = refl
named false false v p q u s h = h

in_value : (p : Place) (t b : ℕ) → is_value (zone p) ≡ true → ends_none (step_of p t b) ≡ true
unfolding step_of value_step_at value_at entity_at entity_step
in_value places.Content t b h = absurd (no h)
in_value places.Less t b h = absurd (no h)
in_value places.Bang t b h = absurd (no h)
in_value places.Dash t b h = absurd (no h)
in_value places.Comment t b h = absurd (no h)
in_value places.CommentDash t b h = absurd (no h)
in_value places.CommentEnd t b h = absurd (no h)
in_value (places.Name w k) t b h = absurd (no h)
in_value (places.Tag e x) t b h = absurd (no h)
in_value (places.Space e x) t b h = absurd (no h)
in_value (places.Attribute e x j k) t b h = absurd (no h)
in_value (places.Equals e x j) t b h = absurd (no h)
in_value (places.Quote e x j) t b h = absurd (no h)
in_value (places.Value e x j q v) t b h =
    let w = value_step (kind_of e j) v b in
    quoted (eqb b q) (value_ends (kind_of e j) v) (eqb b 38 && eqb (kind_of e j) 0) (places.Tag e (added x j)) (places.Ampersand e x j q) t (cond (eqb w 5) Fault (Go (places.Value e x j q w) t)) (fails_or_goes (eqb w 5) (places.Value e x j q w) t)
in_value (places.Ampersand e x j q) t b h = fails_or_goes (eqb (pick 32 48 0 b) 48) (places.Entity e x j q (pick 32 48 0 b) 1) t
in_value (places.Entity e x j q w k) t b h =
    let v = pick 32 w k b in
    named (eqb (word_byte w k) b) (eqb b 59) (eqb (word_byte w k) 0) (places.Entity e x j q w (k + 1)) (places.Value e x j q 0) t (cond (eqb v 48) Fault (Go (places.Entity e x j q v (k + 1)) t)) (fails_or_goes (eqb v 48) (places.Entity e x j q v (k + 1)) t)
in_value places.Slash t b h = absurd (no h)
in_value (places.End k) t b h = absurd (no h)
in_value places.Close t b h = absurd (no h)

-- ---- the value so far

-- inside a value: it has begun, and its bytes are those of the text since then
record Held (text : List ℕ) (inside : Bool) (from i : ℕ) (bytes : List ℕ) : Type 0 where
  begun : inside ≡ true → from ≤ i
  so_far : inside ≡ true → bytes ≡ bytes_from text from i

take_snoc : (k : ℕ) (l : List ℕ) (b : ℕ) (bs : List ℕ) → drop k l ≡ b ∷ bs → take (suc k) l ≡ take k l ++ b ∷ []
take_snoc zero [] b bs e = absurd (let z : ◌≡◌ {A = ℕ} 0 1 = cc in omega arith)
take_snoc zero (x ∷ xs) b bs e = cc
take_snoc (suc k) [] b bs e = absurd (let z : ◌≡◌ {A = ℕ} 0 1 = cc in omega arith)
take_snoc (suc k) (x ∷ xs) b bs e = ap (λ (r : List ℕ). x ∷ r) (take_snoc k xs b bs e)

drop_more : (k : ℕ) (l : List ℕ) (b : ℕ) (bs : List ℕ) → drop k l ≡ b ∷ bs → drop (k + 1) l ≡ bs
drop_more k l b bs e = ap (λ (n : ℕ). drop n l) (add-one k) ∙ by k l e
  where
    by : (k : ℕ) (l : List ℕ) → drop k l ≡ b ∷ bs → drop (suc k) l ≡ bs
    by zero [] e = absurd (let z : ◌≡◌ {A = ℕ} 0 1 = cc in omega arith)
    by zero (x ∷ xs) e = cc
    by (suc k) [] e = absurd (let z : ◌≡◌ {A = ℕ} 0 1 = cc in omega arith)
    by (suc k) (x ∷ xs) e = by k xs e

module _ (text : List ℕ) (i b : ℕ) (bs : List ℕ) (here : drop i text ≡ b ∷ bs) where
  longer : (from : ℕ) → from ≤ i → bytes_from text from (i + 1) ≡ bytes_from text from i ++ b ∷ []
  longer from le =
      let one : i + 1 - from ≡ suc (i - from) = omega arith in
      let both : from + (i - from) ≡ i = omega arith in
      ap (λ (n : ℕ). take n (drop from text)) one ∙
      take_snoc (i - from) (drop from text) b bs (drop-drop (i - from) from text ∙ ap (λ (n : ℕ). drop n text) both ∙ here)

  holds : (z y : Bool) (from : ℕ) (bytes : List ℕ) → Held text z from i bytes →
      Held text y (cond z from (i + 1)) (i + 1) (cond (z && y) (bytes ++ b ∷ []) [])
  holds z false from bytes h = record { begun = λ e. absurd (no e); so_far = λ e. absurd (no e) }
  holds true true from bytes h =
      let le = h.begun refl in
      record { begun = λ e. omega arith; so_far = λ e. ap (λ (l : List ℕ). l ++ b ∷ []) (h.so_far refl) ∙ sym (longer from le) }
  holds false true from bytes h =
      let none : i + 1 - (i + 1) ≡ 0 = omega arith in
      record { begun = λ e. omega arith; so_far = λ e. sym (ap (λ (n : ℕ). take n (drop (i + 1) text)) none) }

-- ---- one byte

-- the parts with a value as it is marked and as it is noted
valued : (text : List ℕ) (ps : List Part) (e w from i : ℕ) (bytes : List ℕ) (ms : List Mark) → bytes ≡ bytes_from text from i →
    grouped text (ps ++ (record { element = e; word = w; from = from; bytes = bytes_from text from i }) ∷ []) ms ≡ grouped text (ps ++ (record { element = e; word = w; from = from; bytes = bytes }) ∷ []) ms
valued text ps e w from i bytes ms eq = ap (λ (l : List ℕ). grouped text (ps ++ (record { element = e; word = w; from = from; bytes = l }) ∷ []) ms) (sym eq)

module _ (text : List ℕ) (t i b : ℕ) (d : Draft) (ms : List Mark) where
  -- the tag that a byte ends and what it leaves, by its zone and its step
  abbrev Same : Zone → Step → Type 0
  Same z s =
      let e = noted z (landing s) i b d in
      grouped text d.parts (marked (mark_of s z t e.at e.element d.from i) ms) ≡ emitted s z t e ++ grouped text (behind s z e).parts ms

  leaves : (e j : ℕ) (p : Place) (u : ℕ) (y : Bool) → is_value (zone p) ≡ y → Held text true d.from i d.bytes → Same (zones.InValue e j) (Go p u)
  unfolding grouped noted emitted
  leaves e j p u true q h = rw q refl
  leaves e j p u false q h = rw q (valued text d.parts e (attribute e j) d.from i d.bytes ms (h.so_far refl))

  same : (z : Zone) (s : Step) → (is_value z ≡ true → ends_none s ≡ true) → Held text (is_value z) d.from i d.bytes → Same z s
  unfolding grouped noted emitted
  same zones.Outside Fault g h = refl
  same zones.Outside (Go p u) g h = refl
  same zones.Outside (Open u v) g h = refl
  same zones.Outside Shut g h = refl
  same zones.Begun Fault g h = refl
  same zones.Begun (Go p u) g h = refl
  same zones.Begun (Open u v) g h = refl
  same zones.Begun Shut g h = refl
  same (zones.InTag e) Fault g h = refl
  same (zones.InTag e) (Go p u) g h = refl
  same (zones.InTag e) (Open u v) g h = refl
  same (zones.InTag e) Shut g h = refl
  same (zones.InValue e j) Fault g h = valued text d.parts e (attribute e j) d.from i d.bytes ms (h.so_far refl)
  same (zones.InValue e j) (Go p u) g h = leaves e j p u (is_value (zone p)) refl h
  same (zones.InValue e j) (Open u v) g h = absurd (no (g refl))
  same (zones.InValue e j) Shut g h = absurd (no (g refl))
  same zones.Slash Fault g h = refl
  same zones.Slash (Go p u) g h = refl
  same zones.Slash (Open u v) g h = refl
  same zones.Slash Shut g h = refl

-- ---- all bytes

abbrev inside_value : State → Bool
inside_value dead = false
inside_value (live p t st) = is_value (zone p)

-- a step leads into a value or not, as the state behind it
lands : (st : List ℕ) (s : Step) → inside_value (moved st s) ≡ is_value (landing s)
lands st Fault = refl
lands st (Go p u) = refl
lands st (Open u v) = refl
lands [] Shut = refl
lands (u ∷ st) Shut = refl

joined_from : (text bs : List ℕ) (s : State) (d : Draft) (i : ℕ) → drop i text ≡ bs → Held text (inside_value s) d.from i d.bytes →
    grouped text d.parts (marks_from s d.at d.element d.from i bs) ≡ tags_from s d i bs
unfolding grouped marks_from tags_from next noted
joined_from text [] s d i here h = refl
joined_from text (b ∷ bs) dead d i here h = refl
joined_from text (b ∷ bs) (live p t st) d i here h =
    let s = step_of p t b in
    let e = noted (zone p) (landing s) i b d in
    let inside : Held text (inside_value (moved st s)) e.from (i + 1) e.bytes =
    subst (λ (y : Bool). Held text y e.from (i + 1) e.bytes) (sym (lands st s)) (holds text i b bs here (is_value (zone p)) (is_value (landing s)) d.from d.bytes h) in
    by (is_char b) refl (joined_from text bs (moved st s) (behind s (zone p) e) (i + 1) (drop_more i text b bs here) inside)
  where
    by : (c : Bool) → is_char b ≡ c →
        (let s = step_of p t b in let e = noted (zone p) (landing s) i b d in
        grouped text (behind s (zone p) e).parts (marks_from (moved st s) e.at e.element e.from (i + 1) bs) ≡ tags_from (moved st s) (behind s (zone p) e) (i + 1) bs) →
        grouped text d.parts (marks_from (live p t st) d.at d.element d.from i (b ∷ bs)) ≡ tags_from (live p t st) d i (b ∷ bs)
    by false c more = rw c refl
    by true c more =
        let s = step_of p t b in
        let e = noted (zone p) (landing s) i b d in
        rw c
        (same text t i b d (marks_from (moved st s) e.at e.element e.from (i + 1) bs) (zone p) s (in_value p t b) h ∙
        ap (λ (r : List Markup). emitted s (zone p) t e ++ r) more)

-- the tags of the definition are the marks that the code answers, each tag with the values before it
pub joined : (text : List ℕ) → grouped text [] (marks_of text) ≡ tags_of text
unfolding marks_of tags_of
joined text = joined_from text text start no_draft 0 refl (record { begun = λ e. absurd (no e); so_far = λ e. absurd (no e) })
