-- The first tag of a text of the grammar is the start tag of its root, which states no id; no other start tag is a root's. So the rows have the ids that references are looked
-- for in.
use Rattle.std.specs.Prelude.{◌≡◌, Bool, ◌&&◌, cond, ℕ, ◌+◌, eqb, leb}
use Rattle.std.proofs.Math.Path.{refl, sym, ap, subst}
use Rattle.std.proofs.Common.{◌∙◌, arith, eqb-true, ne_eqb, leb-true, leb-false, le-leb}
use Rattle.std.proofs.Math.Bool.{true, false}
use mathlib.Core.List.{List, [], ◌∷◌, ◌++◌, map}
use Rattle.definition.specs.Rows.{all}
use Rattle.grammar.specs.declared.Place.{Place}
use Rattle.grammar.specs.declared.Place.TheVariants.{Content, Less, Bang, Dash, Comment, CommentDash, CommentEnd, Name, Tag, Space, Attribute, Equals, Quote, Value, Ampersand, Entity, Slash, End, Close}
use Rattle.grammar.specs.declared.Step.{Step}
use Rattle.grammar.specs.declared.Step.TheVariants.{Fault, Go, Open, Shut}
use Rattle.grammar.specs.Grammar.{is_char, has, owner, only, step_of, State, dead, live, moved, next, run, start, accepts, is_text}
use Rattle.grammar.specs.Words.{and_left, and_right, both, no}
use Rattle.grammar.proofs.Levels.{inner, stack_good, stack_below}
use Rattle.grammar.proofs.Reached.{Good, good_run}
use Rattle.reading.specs.declared.Zone.{Zone}
use Rattle.reading.specs.declared.Zone.TheVariants as zones
use Rattle.reading.specs.Zones.{zone, landing}
use Rattle.reading.specs.Tags.{Part, Shape, opening, empty, closing, Markup, Draft, is_slash, noted, markup, emitted, behind, tags_from, no_draft, tags_of}
use Rattle.reading.specs.Faults.{id_word, is_closing, states, ids_of}
use Rattle.reading.specs.Content.{content_of}
use Rattle.meanings.specs.Balanced.{dead_not}
use Rattle.meanings.specs.Ids.{id_of, is_below, is_rooted, rows_ids}
use Rattle.meanings.specs.Roots.{goes_on, waits, held, Clear, Holds, is_ending, holds}

abbrev Claim : Bool → List Markup → Type 0
Claim true ts = is_rooted ts ≡ true
Claim false ts = all is_below ts ≡ true

abbrev waits_of : State → Bool
waits_of dead = false
waits_of (live p t st) = waits p t

abbrev Held : State → Draft → Type 0
Held dead d = ◌≡◌ {A = ℕ} 0 0
Held (live p t st) d = (held p t d ≡ true) × (all (leb 1) st ≡ true) × Clear t d.parts

-- the start tag of the root, or another
start_claim : (shape : Shape) (at e u : ℕ) (ps : List Part) (ts : List Markup) → is_closing shape ≡ false → goes_on u e ≡ true → Clear u ps → all is_below ts ≡ true →
    Claim (leb u 1) ((record { at = at; shape = shape; element = e; parts = ps }) ∷ ts)
unfolding is_rooted all
start_claim shape at e u ps ts n g c a = by (leb u 1) refl g c
  where
    by : (z : Bool) → leb u 1 ≡ z → cond z (eqb u 1 && eqb e 0) (leb 1 e) ≡ true → (z ≡ true → states id_word ps ≡ false) → Claim z ((record { at = at; shape = shape; element = e; parts = ps }) ∷ ts)
    by true q g c = rw (n, and_right (eqb u 1) (eqb e 0) g, c refl) a
    by false q g c = let l = leb-true 1 e g in rw (n, ne_eqb e 0 (λ z. omega arith)) a

-- behind it
not_zero : (t e : ℕ) → goes_on t e ≡ true → leb 1 t ≡ true
not_zero t e g = by (leb t 1) refl g
  where
    by : (z : Bool) → leb t 1 ≡ z → cond z (eqb t 1 && eqb e 0) (leb 1 e) ≡ true → leb 1 t ≡ true
    by true q g = let l = eqb-true t 1 (and_left (eqb t 1) (eqb e 0) g) in le-leb 1 t (omega arith)
    by false q g = let l = leb-false t 1 q in le-leb 1 t (omega arith)

past : (t : ℕ) → leb 1 t ≡ true → eqb t 0 ≡ false
past t h = let l = leb-true 1 t h in ne_eqb t 0 (λ e. omega arith)

-- the level of an open element
inner_past : (t u : ℕ) (st : List ℕ) → stack_good t (u ∷ st) ≡ true → eqb t 0 ≡ false
unfolding stack_good inner
inner_past t u st g = let l = leb-true 2 t (and_left (leb 2 t) (leb t 31) (and_left (inner t) (stack_good u st) g)) in ne_eqb t 0 (λ e. omega arith)

held_same : (p : Place) (t : ℕ) (d e : Draft) → d.element ≡ e.element → held p t d ≡ held p t e
held_same Content t d e q = refl
held_same Less t d e q = refl
held_same Bang t d e q = refl
held_same Dash t d e q = refl
held_same Comment t d e q = refl
held_same CommentDash t d e q = refl
held_same CommentEnd t d e q = refl
held_same (Name w k) t d e q = refl
held_same (Tag f x) t d e q = refl
held_same (Space f x) t d e q = refl
held_same (Attribute f x j k) t d e q = refl
held_same (Equals f x j) t d e q = refl
held_same (Quote f x j) t d e q = refl
held_same (Value f x j r v) t d e q = refl
held_same (Ampersand f x j r) t d e q = refl
held_same (Entity f x j r w k) t d e q = refl
held_same Slash t d e q = ap (goes_on t) q
held_same (End k) t d e q = refl
held_same Close t d e q = refl

none_stated : states id_word [] ≡ false
unfolding states
none_stated = refl

module _ (z : Zone) (w : Bool) (t : ℕ) (d : Draft) (i b : ℕ) (st : List ℕ) (n : is_slash z ≡ false) where
  held_moved : (s : Step) → Holds z w t d i b s → all (leb 1) st ≡ true → Held (moved st s) (behind s z (noted z (landing s) i b d))
  unfolding all
  held_moved Fault h a = refl
  held_moved (Go q u) h a = (
    held_same q u (behind (Go q u) z (noted z (zone q) i b d)) (noted z (zone q) i b d) refl ∙ h.held_is,
    a,
    λ k. ap (λ (y : Bool). states id_word (cond y [] (noted z (zone q) i b d).parts)) n ∙ h.clear_is k,
  )
  held_moved (Open u v) h a = (refl, both (leb 1 u) (all (leb 1) st) (not_zero u (noted z zones.Outside i b d).element h.goes_is) a, λ k. none_stated)
  held_moved Shut h a = shut st a
    where
      shut : (st : List ℕ) → all (leb 1) st ≡ true → Held (moved st Shut) (behind Shut z (noted z zones.Outside i b d))
      shut [] a = refl
      shut (u ∷ st) a = (refl, and_right (leb 1 u) (all (leb 1) st) (unfold all in a), λ k. none_stated)

  module _ (bs : List ℕ) (ts : List Markup) where
    step_claim : (s : Step) → Holds z w t d i b s → stack_good t st ≡ true → all (leb 1) st ≡ true → Good (moved st s) → accepts (run (moved st s) bs) ≡ true → Claim (waits_of (moved st s)) ts →
        Claim w (emitted s z t (noted z (landing s) i b d) ++ ts)
    unfolding emitted
    step_claim Fault h g a good k f = dead_not (Claim w ts) bs k
    step_claim (Go q u) h g a good k f =
        subst (λ (y : Bool). Claim w (cond y (markup empty (noted z (zone q) i b d).element (noted z (zone q) i b d) ∷ []) [] ++ ts)) (sym n) (subst (λ (y : Bool). Claim y ts) h.waits_is f)
    step_claim (Open u v) h g a good k f =
        subst (λ (y : Bool). Claim y (markup opening (noted z zones.Outside i b d).element (noted z zones.Outside i b d) ∷ ts)) (h.level_is ∙ sym h.waits_is)
        (start_claim opening (noted z zones.Outside i b d).at (noted z zones.Outside i b d).element u (noted z zones.Outside i b d).parts ts refl h.goes_is h.clear_is
        (subst (λ (y : Bool). Claim y ts) (inner_past v u st good.1) f))
    step_claim Shut h g a good k f = shut st g a k f
      where
        shut : (st : List ℕ) → stack_good t st ≡ true → all (leb 1) st ≡ true → accepts (run (moved st Shut) bs) ≡ true → Claim (waits_of (moved st Shut)) ts →
            Claim w (markup closing (owner t) (noted z zones.Outside i b d) ∷ ts)
        shut [] g a k f = dead_not (Claim w (markup closing (owner t) (noted z zones.Outside i b d) ∷ ts)) bs k
        shut (u ∷ st) g a k f =
            subst (λ (y : Bool). Claim y (markup closing (owner t) (noted z zones.Outside i b d) ∷ ts)) (sym (h ∙ inner_past t u st g))
            (unfold all in subst (λ (y : Bool). Claim y ts) (past u (and_left (leb 1 u) (all (leb 1) st) (unfold all in a))) f)

-- the "/" of an empty-element tag has its end behind it
slash_claim : (t : ℕ) (d : Draft) (i b : ℕ) (st bs : List ℕ) (ts : List Markup) → goes_on t d.element ≡ true → Clear t d.parts →
    (s : Step) → s ≡ only 62 Content t b → accepts (run (moved st s) bs) ≡ true → Claim (waits_of (moved st s)) ts → Claim (leb t 1) (emitted s zones.Slash t (noted zones.Slash (landing s) i b d) ++ ts)
unfolding only emitted noted
slash_claim t d i b st bs ts g c s q k f = by (eqb b 62) q k f
  where
    by : (y : Bool) → s ≡ cond y (Go Content t) Fault → accepts (run (moved st s) bs) ≡ true → Claim (waits_of (moved st s)) ts →
        Claim (leb t 1) (emitted s zones.Slash t (noted zones.Slash (landing s) i b d) ++ ts)
    by true e k f =
        rw e (start_claim empty d.at d.element t d.parts ts refl g c (subst (λ (y : Bool). Claim y ts) (past t (not_zero t d.element g)) (subst (λ (x : Step). Claim (waits_of (moved st x)) ts) e f)))
    by false e k f = dead_not (Claim (leb t 1) (emitted s zones.Slash t (noted zones.Slash (landing s) i b d) ++ ts)) bs (subst (λ (x : Step). accepts (run (moved st x) bs) ≡ true) e k)

is_ending_lem : (p : Place) → is_ending p ≡ false → is_slash (zone p) ≡ false
is_ending_lem Content n = refl
is_ending_lem Less n = refl
is_ending_lem Bang n = refl
is_ending_lem Dash n = refl
is_ending_lem Comment n = refl
is_ending_lem CommentDash n = refl
is_ending_lem CommentEnd n = refl
is_ending_lem (Name w k) n = refl
is_ending_lem (Tag e x) n = refl
is_ending_lem (Space e x) n = refl
is_ending_lem (Attribute e x j k) n = refl
is_ending_lem (Equals e x j) n = refl
is_ending_lem (Quote e x j) n = refl
is_ending_lem (Value e x j q v) n = refl
is_ending_lem (Ampersand e x j q) n = refl
is_ending_lem (Entity e x j q w k) n = refl
is_ending_lem Slash n = n
is_ending_lem (End k) n = refl
is_ending_lem Close n = refl

ending_is : (p : Place) → is_ending p ≡ true → p ≡ Slash
ending_is Content n = absurd (no n)
ending_is Less n = absurd (no n)
ending_is Bang n = absurd (no n)
ending_is Dash n = absurd (no n)
ending_is Comment n = absurd (no n)
ending_is CommentDash n = absurd (no n)
ending_is CommentEnd n = absurd (no n)
ending_is (Name w k) n = absurd (no n)
ending_is (Tag e x) n = absurd (no n)
ending_is (Space e x) n = absurd (no n)
ending_is (Attribute e x j k) n = absurd (no n)
ending_is (Equals e x j) n = absurd (no n)
ending_is (Quote e x j) n = absurd (no n)
ending_is (Value e x j q v) n = absurd (no n)
ending_is (Ampersand e x j q) n = absurd (no n)
ending_is (Entity e x j q w k) n = absurd (no n)
ending_is Slash n = refl
ending_is (End k) n = absurd (no n)
ending_is Close n = absurd (no n)

-- what a byte does
record Step-on (p : Place) (t : ℕ) (st : List ℕ) (d : Draft) (i b : ℕ) : Type 0 where
  held_next : Held (moved st (step_of p t b)) (behind (step_of p t b) (zone p) (noted (zone p) (landing (step_of p t b)) i b d))
  claim_next : (bs : List ℕ) (ts : List Markup) → Good (moved st (step_of p t b)) → accepts (run (moved st (step_of p t b)) bs) ≡ true → Claim (waits_of (moved st (step_of p t b))) ts →
      Claim (waits p t) (emitted (step_of p t b) (zone p) t (noted (zone p) (landing (step_of p t b)) i b d) ++ ts)

slash_held : (t : ℕ) (st : List ℕ) (d : Draft) (i b : ℕ) → all (leb 1) st ≡ true → (s : Step) → s ≡ only 62 Content t b → Held (moved st s) (behind s zones.Slash (noted zones.Slash (landing s) i b d))
unfolding only
slash_held t st d i b a s q = by (eqb b 62) q
  where
    by : (y : Bool) → s ≡ cond y (Go Content t) Fault → Held (moved st s) (behind s zones.Slash (noted zones.Slash (landing s) i b d))
    by true e = rw e (refl, a, λ k. none_stated)
    by false e = rw e refl

step_on : (p : Place) (t : ℕ) (st : List ℕ) (d : Draft) (i b : ℕ) → stack_good t st ≡ true → Held (live p t st) d → Step-on p t st d i b
step_on p t st d i b g h = by (is_ending p) refl
  where
    slash : (p : Place) → p ≡ Slash → Held (live p t st) d → Step-on p t st d i b
    slash p e h =
        subst (λ (x : Place). Held (live x t st) d → Step-on x t st d i b) (sym e)
        (λ k.
        record {
          held_next = slash_held t st d i b k.1 (step_of Slash t b) (unfold step_of in refl);
          claim_next = λ bs ts good a f. slash_claim t d i b st bs ts k.0 k.2 (step_of Slash t b) (unfold step_of in refl) a f;
        }) h

    by : (y : Bool) → is_ending p ≡ y → Step-on p t st d i b
    by true n = slash p (ending_is p n) h
    by false n =
        let s = holds p t d i b n (stack_below t st g) h.0 h.2 in
        record {
          held_next = held_moved (zone p) (waits p t) t d i b st (is_ending_lem p n) (step_of p t b) s h.1;
          claim_next = λ bs ts good a f. step_claim (zone p) (waits p t) t d i b st (is_ending_lem p n) bs ts (step_of p t b) s g h.1 good a f;
        }

-- at the end the root has been
end_claim : (p : Place) (t : ℕ) → accepts (live p t []) ≡ true → waits p t ≡ false
unfolding accepts
end_claim Content t h = let e = eqb-true t 1 (and_right true (eqb t 1) h) in ne_eqb t 0 (λ z. omega arith)
end_claim Less t h = absurd (no h)
end_claim Bang t h = absurd (no h)
end_claim Dash t h = absurd (no h)
end_claim Comment t h = absurd (no h)
end_claim CommentDash t h = absurd (no h)
end_claim CommentEnd t h = absurd (no h)
end_claim (Name w k) t h = absurd (no h)
end_claim (Tag e x) t h = absurd (no h)
end_claim (Space e x) t h = absurd (no h)
end_claim (Attribute e x j k) t h = absurd (no h)
end_claim (Equals e x j) t h = absurd (no h)
end_claim (Quote e x j) t h = absurd (no h)
end_claim (Value e x j q v) t h = absurd (no h)
end_claim (Ampersand e x j q) t h = absurd (no h)
end_claim (Entity e x j q w k) t h = absurd (no h)
end_claim Slash t h = absurd (no h)
end_claim (End k) t h = absurd (no h)
end_claim Close t h = absurd (no h)

claims : (bs : List ℕ) (s : State) (d : Draft) (i : ℕ) → Good s → Held s d → accepts (run s bs) ≡ true → Claim (waits_of s) (tags_from s d i bs)
unfolding tags_from run all
claims [] dead d i g h a = dead_not (all is_below [] ≡ true) [] a
claims [] (live p t st) d i g h a = subst (λ (y : Bool). Claim y []) (sym (end_claim p t (unfold accepts in a))) refl
claims (b ∷ bs) dead d i g h a = dead_not (all is_below [] ≡ true) (b ∷ bs) a
claims (b ∷ bs) (live p t st) d i g h a =
    by (is_char b) refl a (good_run (b ∷ []) (live p t st) g) (λ n. claims bs (next (live p t st) b) (behind s (zone p) e) (i + 1) (good_run (b ∷ []) (live p t st) g) n a)
  where
    s : Step
    s = step_of p t b

    e : Draft
    e = noted (zone p) (landing s) i b d

    on : Step-on p t st d i b
    on = step_on p t st d i b g.1 h

    by : (y : Bool) → is_char b ≡ y → accepts (run (next (live p t st) b) bs) ≡ true → Good (next (live p t st) b) →
        (Held (next (live p t st) b) (behind s (zone p) e) → Claim (waits_of (next (live p t st) b)) (tags_from (next (live p t st) b) (behind s (zone p) e) (i + 1) bs)) →
        Claim (waits p t) (cond y (emitted s (zone p) t e ++ tags_from (next (live p t st) b) (behind s (zone p) e) (i + 1) bs) [])
    by true q a good f =
        let n : next (live p t st) b ≡ moved st s = unfold next in rw q refl in
        on.claim_next bs (tags_from (next (live p t st) b) (behind s (zone p) e) (i + 1) bs) (subst Good n good) (ap (λ (x : State). accepts (run x bs)) (sym n) ∙ a)
        (subst (λ (x : State). Held x (behind s (zone p) e) → Claim (waits_of x) (tags_from (next (live p t st) b) (behind s (zone p) e) (i + 1) bs)) n f on.held_next)
    by false q a good f =
        let n : next (live p t st) b ≡ dead = unfold next in rw q refl in
        dead_not (Claim (waits p t) []) bs (ap (λ (x : State). accepts (run x bs)) (sym n) ∙ a)

-- every text of the grammar, of any length
pub text_rooted : (text : List ℕ) → is_text text ≡ true → is_rooted (tags_of text) ≡ true
unfolding tags_of is_text stack_good all
text_rooted text h = claims text start no_draft 0 (refl, refl) (refl, refl, λ k. none_stated) h

-- "row i + 1 has the i-th": references to ids find their rows
pub text_rows : (text : List ℕ) → is_text text ≡ true → map id_of (content_of (tags_of text)).rows ≡ [] ∷ ids_of (tags_of text)
text_rows text h = rows_ids (tags_of text) (text_rooted text h)
