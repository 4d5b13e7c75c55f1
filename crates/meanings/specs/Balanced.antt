-- The tags of a text of the grammar are balanced: an end tag ends the innermost element that is open, and at the end none is open.
use Rattle.std.specs.Prelude.{◌≡◌, Bool, ◌&&◌, ◌||◌, cond, ℕ, zero, suc, ◌+◌, ◌*◌, ◌≤◌, ◌<◌, leb, get_or}
use Rattle.std.proofs.Math.Path.{refl, ap}
use Rattle.std.proofs.Common.{sym, subst, ◌∙◌, arith, eqb-true, eq-eqb, leb-true}
use Rattle.std.proofs.Math.Bool.{true, false, not}
use mathlib.Core.List.{List, [], ◌∷◌, ◌++◌}
use Rattle.std.proofs.Math.Dec.{eqb}
use Rattle.std.proofs.lemmas.Bool.{lt-leb}
use Rattle.definition.specs.Rows.{is_empty}
use Rattle.grammar.specs.declared.Place.{Place}
use Rattle.grammar.specs.declared.Place.TheVariants.{Content, Less, Bang, Dash, Comment, CommentDash, CommentEnd, Name, Tag, Space, Attribute, Equals, Quote, Value, Ampersand, Entity, Slash, End, Close}
use Rattle.grammar.specs.declared.Step.{Step}
use Rattle.grammar.specs.declared.Step.TheVariants.{Fault, Go, Open, Shut}
use Rattle.grammar.specs.Tables.{menus, opened, owners, bits}
use Rattle.grammar.specs.Grammar.{is_space, is_char, is_token, word_byte, follows, pick_from, pick, attribute, has, added, pick_attribute, is_complete, may_end, owner, after, opens, value_step, value_ends, kind_of, content_step, name_at, less_step, tag_step, name_step_at, attribute_at, space_step, equals_step, attribute_step, quote_step, value_at, value_step_at, entity_at, entity_step, close_step, end_step, only, step_of, State, dead, live, moved, next, run, start, is_content, accepts, is_text}
use Rattle.grammar.specs.Words.{and_left, and_right, both, choose, no, AllBelow, each, stays_dead}
use Rattle.grammar.proofs.Levels.{inner, stack_good, stack_below}
use Rattle.grammar.proofs.Reached.{Good, good_run}
use Rattle.reading.specs.declared.Zone.{Zone}
use Rattle.reading.specs.declared.Zone.TheVariants as zones
use Rattle.reading.specs.Zones.{zone, landing, element_in}
use Rattle.reading.specs.Tags.{Shape, opening, empty, closing, Markup, Draft, is_slash, noted, markup, emitted, behind, tags_from, no_draft, tags_of}

-- ---- balanced

-- the transition of an initial element is called as the others are
abbrev pub called : ℕ → ℕ
called e = cond (eqb e 11) 6 e

abbrev pub is_top : ℕ → List ℕ → Bool
is_top e [] = false
is_top e (f ∷ fs) = eqb e f

abbrev pub around : List ℕ → List ℕ
around [] = []
around (f ∷ fs) = fs

-- with so many elements open, the innermost first
unfoldable pub is_balanced : List ℕ → List Markup → Bool
is_balanced es [] = is_empty es
is_balanced es (t ∷ ts) =
    elim t.shape [
      | opening ↦ is_balanced (called t.element ∷ es) ts
      | empty ↦ is_balanced es ts
      | closing ↦ is_top (called t.element) es && is_balanced (around es) ts
    ]

-- ---- the elements that are open in a state: all levels but the outermost are of one

unfoldable open_in : ℕ → List ℕ → List ℕ
open_in t [] = []
open_in t (u ∷ st) = called (owner t) ∷ open_in u st

-- ---- what the grammar's tables say

-- the parent's level is still of the parent once the child has begun
abbrev stays : ℕ → ℕ → Bool
stays t u = leb t 1 || eqb (called (owner u)) (called (owner t))

unfoldable is_child : ℕ → ℕ → Bool
is_child t w = leb w 16 && stays t (after t w)

unfoldable children_from : ℕ → ℕ → ℕ → Bool
children_from t zero at = true
children_from t (suc n) at = (eqb (get_or menus at 48) 48 || is_child t (get_or menus at 48)) && children_from t n (suc at)

pick_child : (t w k b n at : ℕ) → children_from t n at ≡ true → (eqb (pick_from n at w k b) 48 || is_child t (pick_from n at w k b)) ≡ true
unfolding children_from pick_from
pick_child t w k b zero at o = refl
pick_child t w k b (suc n) at o =
    choose (λ (z : ℕ). (eqb z 48 || is_child t z) ≡ true) (follows w (get_or menus at 48) k b) (get_or menus at 48) (pick_from n (suc at) w k b)
    (λ _. and_left (eqb (get_or menus at 48) 48 || is_child t (get_or menus at 48)) (children_from t n (suc at)) o)
    (λ _. pick_child t w k b n (suc at) (and_right (eqb (get_or menus at 48) 48 || is_child t (get_or menus at 48)) (children_from t n (suc at)) o))

abbrev Children : ℕ → Type 0
Children t = children_from t 8 (t * 8) ≡ true

all_children : AllBelow Children 32
unfolding AllBelow children_from is_child after owner menus owners
all_children = ((((((((((((((((((((((((((((((((refl, refl), refl), refl), refl), refl), refl), refl), refl), refl), refl), refl), refl), refl), refl), refl), refl), refl), refl), refl), refl), refl), refl), refl), refl), refl), refl), refl), refl), refl), refl), refl), refl)

picked : (t w k b : ℕ) → t < 32 → eqb (pick t w k b) 48 ≡ false → is_child t (pick t w k b) ≡ true
unfolding pick
picked t w k b l n =
    ap (λ (z : Bool). z || is_child t (pick_from 8 (t * 8) w k b)) (sym n) ∙ pick_child t w k b 8 (t * 8) (each Children 32 all_children t l)

-- an element's own level
abbrev Opened : ℕ → Type 0
Opened e = eqb (called (owner (get_or opened e 14))) (called e) ≡ true

all_opened : AllBelow Opened 17
unfolding AllBelow owner opened owners
all_opened = (((((((((((((((((refl, refl), refl), refl), refl), refl), refl), refl), refl), refl), refl), refl), refl), refl), refl), refl), refl), refl)

state_owner : called (owner 3) ≡ 1
unfolding owner owners
state_owner = refl

opens_own : (e x : ℕ) → leb e 16 ≡ true → called (owner (opens e x)) ≡ called e
unfolding opens
opens_own e x h =
    choose (λ (v : ℕ). called (owner v) ≡ called e) (eqb e 1 && has x 1) 3 (get_or opened e 14)
    (λ q. state_owner ∙ sym (ap called (eqb-true e 1 (and_left (eqb e 1) (has x 1) q))))
    (λ _. let l = leb-true e 16 h in eqb-true (called (owner (get_or opened e 14))) (called e) (each Opened 17 all_opened e (omega arith)))

-- ---- the places that a text comes to

abbrev held : Place → ℕ → Bool
held Content t = true
held Less t = true
held Bang t = true
held Dash t = true
held Comment t = true
held CommentDash t = true
held CommentEnd t = true
held (Name w k) t = is_child t w
held (Tag e x) t = leb e 16
held (Space e x) t = leb e 16
held (Attribute e x j k) t = leb e 16
held (Equals e x j) t = leb e 16
held (Quote e x j) t = leb e 16
held (Value e x j q v) t = leb e 16
held (Ampersand e x j q) t = leb e 16
held (Entity e x j q w k) t = leb e 16
held Slash t = true
held (End k) t = true
held Close t = true

-- what a step from the zone z in the level t keeps
abbrev Holds : Zone → ℕ → Step → Type 0
Holds z t Fault = 0 ≤ t
Holds z t (Go q u) = (held q u ≡ true) × (stays t u ≡ true)
Holds z t (Open u v) = ((x : ℕ) → called (owner v) ≡ called (element_in z x)) × (stays t u ≡ true)
Holds z t Shut = 0 ≤ t

stays_same : (t : ℕ) → stays t t ≡ true
stays_same t = by (leb t 1)
  where
    by : (z : Bool) → (z || eqb (called (owner t)) (called (owner t))) ≡ true
    by true = refl
    by false = eq-eqb (called (owner t)) (called (owner t)) refl

module _ (z : Zone) (t : ℕ) where
  split : (y : Bool) (r s : Step) → (y ≡ true → Holds z t r) → (y ≡ false → Holds z t s) → Holds z t (cond y r s)
  split y r s h k = choose (Holds z t) y r s h k

  fault : 0 ≤ t
  fault = omega arith

  holds_only : (a b : ℕ) (p : Place) → held p t ≡ true → Holds z t (only a p t b)
  unfolding only
  holds_only a b p h = split (eqb b a) (Go p t) Fault (λ _. (h, stays_same t)) (λ _. fault)

  holds_content : (b : ℕ) → Holds z t (content_step t b)
  unfolding content_step
  holds_content b = split (is_space b) (Go Content t) (cond (eqb b 60) (Go Less t) Fault) (λ _. (refl, stays_same t)) (λ _. split (eqb b 60) (Go Less t) Fault (λ _. (refl, stays_same t)) (λ _. fault))

  holds_name_at : (w k b n : ℕ) → t < 32 → Holds z t (name_at (pick t w k b) n t)
  unfolding name_at
  holds_name_at w k b n l = split (eqb (pick t w k b) 48) Fault (Go (Name (pick t w k b) n) t) (λ _. fault) (λ g. (picked t w k b l g, stays_same t))

  holds_less : (b : ℕ) → t < 32 → Holds z t (less_step t b)
  unfolding less_step
  holds_less b l =
      split (eqb b 33) (Go Bang t) (cond (eqb b 47 && may_end t) (Go (End 0) t) (name_at (pick t 48 0 b) 1 t)) (λ _. (refl, stays_same t))
      (λ _. split (eqb b 47 && may_end t) (Go (End 0) t) (name_at (pick t 48 0 b) 1 t) (λ _. (refl, stays_same t)) (λ _. holds_name_at 48 0 b 1 l))

  holds_close : (b : ℕ) → Holds z t (close_step t b)
  unfolding close_step
  holds_close b = split (is_space b) (Go Close t) (cond (eqb b 62) Shut Fault) (λ _. (refl, stays_same t)) (λ _. split (eqb b 62) Shut Fault (λ _. fault) (λ _. fault))

  holds_end : (k b : ℕ) → Holds z t (end_step k t b)
  unfolding end_step
  holds_end k b =
      split (eqb (word_byte (owner t) k) b) (Go (End (k + 1)) t) (cond (eqb (word_byte (owner t) k) 0) (close_step t b) Fault) (λ _. (refl, stays_same t))
      (λ _. split (eqb (word_byte (owner t) k) 0) (close_step t b) Fault (λ _. holds_close b) (λ _. fault))

module _ (e t : ℕ) (h : leb e 16 ≡ true) where
  holds_tag : (x u b : ℕ) → stays t u ≡ true → Holds (zones.InTag e) t (tag_step e x u b)
  unfolding tag_step
  holds_tag x u b s =
      split (zones.InTag e) t (is_space b) (Go (Space e x) u) (cond (eqb b 62 && is_complete e x) (Open u (opens e x)) (cond (eqb b 47 && is_complete e x && may_end (opens e x)) (Go Slash u) Fault)) (λ _. (h, s))
      (λ _. split (zones.InTag e) t (eqb b 62 && is_complete e x) (Open u (opens e x)) (cond (eqb b 47 && is_complete e x && may_end (opens e x)) (Go Slash u) Fault) (λ _. ((λ _. opens_own e x h), s))
      (λ _. split (zones.InTag e) t (eqb b 47 && is_complete e x && may_end (opens e x)) (Go Slash u) Fault (λ _. (refl, s)) (λ _. fault (zones.InTag e) t)))

  holds_attribute_at : (z : Zone) (x j k : ℕ) → Holds z t (attribute_at j k e x t)
  unfolding attribute_at
  holds_attribute_at z x j k = split z t (eqb j 4) Fault (Go (Attribute e x j k) t) (λ _. fault z t) (λ _. (h, stays_same t))

  holds_space : (x b : ℕ) → Holds (zones.InTag e) t (space_step e x t b)
  unfolding space_step
  holds_space x b =
      split (zones.InTag e) t (is_token b) (attribute_at (pick_attribute 4 0 e x 48 0 b) 1 e x t) (tag_step e x t b) (λ _. holds_attribute_at (zones.InTag e) x (pick_attribute 4 0 e x 48 0 b) 1)
      (λ _. holds_tag x t b (stays_same t))

  holds_two : (z : Zone) (y w : Bool) (p q : Place) → held p t ≡ true → held q t ≡ true → Holds z t (cond y (Go p t) (cond w (Go q t) Fault))
  holds_two z y w p q f g = split z t y (Go p t) (cond w (Go q t) Fault) (λ _. (f, stays_same t)) (λ _. split z t w (Go q t) Fault (λ _. (g, stays_same t)) (λ _. fault z t))

  holds_attribute : (x j k b : ℕ) → Holds (zones.InTag e) t (attribute_step e x j k t b)
  unfolding attribute_step equals_step
  holds_attribute x j k b =
      split (zones.InTag e) t (eqb (word_byte (attribute e j) k) b) (Go (Attribute e x j (k + 1)) t) (cond (eqb (word_byte (attribute e j) k) 0 && not (is_token b)) (equals_step e x j t b) (attribute_at (pick_attribute 4 0 e x (attribute e j) k b) (k + 1) e x t))
      (λ _. (h, stays_same t))
      (λ _. split (zones.InTag e) t (eqb (word_byte (attribute e j) k) 0 && not (is_token b)) (equals_step e x j t b) (attribute_at (pick_attribute 4 0 e x (attribute e j) k b) (k + 1) e x t)
      (λ _. holds_two (zones.InTag e) (is_space b) (eqb b 61) (Equals e x j) (Quote e x j) h h) (λ _. holds_attribute_at (zones.InTag e) x (pick_attribute 4 0 e x (attribute e j) k b) (k + 1)))

  holds_value : (x j q v b : ℕ) → Holds (zones.InValue e j) t (value_step_at e x j q v t b)
  unfolding value_step_at value_at
  holds_value x j q v b =
      split (zones.InValue e j) t (eqb b q) (cond (value_ends (kind_of e j) v) (Go (Tag e (added x j)) t) Fault) (cond (eqb b 38 && eqb (kind_of e j) 0) (Go (Ampersand e x j q) t) (cond (eqb (value_step (kind_of e j) v b) 5) Fault (Go (Value e x j q (value_step (kind_of e j) v b)) t)))
      (λ _. split (zones.InValue e j) t (value_ends (kind_of e j) v) (Go (Tag e (added x j)) t) Fault (λ _. (h, stays_same t)) (λ _. fault (zones.InValue e j) t))
      (λ _. split (zones.InValue e j) t (eqb b 38 && eqb (kind_of e j) 0) (Go (Ampersand e x j q) t) (cond (eqb (value_step (kind_of e j) v b) 5) Fault (Go (Value e x j q (value_step (kind_of e j) v b)) t)) (λ _. (h, stays_same t))
      (λ _. split (zones.InValue e j) t (eqb (value_step (kind_of e j) v b) 5) Fault (Go (Value e x j q (value_step (kind_of e j) v b)) t) (λ _. fault (zones.InValue e j) t) (λ _. (h, stays_same t))))

  holds_entity_at : (x j q w k : ℕ) → Holds (zones.InValue e j) t (entity_at w k e x j q t)
  unfolding entity_at
  holds_entity_at x j q w k = split (zones.InValue e j) t (eqb w 48) Fault (Go (Entity e x j q w k) t) (λ _. fault (zones.InValue e j) t) (λ _. (h, stays_same t))

  holds_entity : (x j q w k b : ℕ) → Holds (zones.InValue e j) t (entity_step e x j q w k t b)
  unfolding entity_step
  holds_entity x j q w k b =
      split (zones.InValue e j) t (eqb (word_byte w k) b) (Go (Entity e x j q w (k + 1)) t) (cond (eqb b 59) (cond (eqb (word_byte w k) 0) (Go (Value e x j q 0) t) Fault) (entity_at (pick 32 w k b) (k + 1) e x j q t))
      (λ _. (h, stays_same t))
      (λ _. split (zones.InValue e j) t (eqb b 59) (cond (eqb (word_byte w k) 0) (Go (Value e x j q 0) t) Fault) (entity_at (pick 32 w k b) (k + 1) e x j q t)
      (λ _. split (zones.InValue e j) t (eqb (word_byte w k) 0) (Go (Value e x j q 0) t) Fault (λ _. (h, stays_same t)) (λ _. fault (zones.InValue e j) t)) (λ _. holds_entity_at x j q (pick 32 w k b) (k + 1)))

holds_name : (w k t b : ℕ) → t < 32 → is_child t w ≡ true → Holds (zones.InTag w) t (name_step_at w k t b)
unfolding name_step_at is_child
holds_name w k t b l h =
    split (zones.InTag w) t (eqb (word_byte w k) b) (Go (Name w (k + 1)) t) (cond (eqb (word_byte w k) 0 && not (is_token b)) (tag_step w 0 (after t w) b) (name_at (pick t w k b) (k + 1) t)) (λ _. (h, stays_same t))
    (λ _. split (zones.InTag w) t (eqb (word_byte w k) 0 && not (is_token b)) (tag_step w 0 (after t w) b) (name_at (pick t w k b) (k + 1) t)
    (λ _. holds_tag w t (and_left (leb w 16) (stays t (after t w)) h) 0 (after t w) b (and_right (leb w 16) (stays t (after t w)) h)) (λ _. holds_name_at (zones.InTag w) t w k b (k + 1) l))

holds : (p : Place) (t b : ℕ) → t < 32 → held p t ≡ true → Holds (zone p) t (step_of p t b)
unfolding step_of equals_step quote_step
holds Content t b l h = holds_content zones.Outside t b
holds Less t b l h = holds_less zones.Begun t b l
holds Bang t b l h = holds_only zones.Outside t 45 b Dash refl
holds Dash t b l h = holds_only zones.Outside t 45 b Comment refl
holds Comment t b l h = split zones.Outside t (eqb b 45) (Go CommentDash t) (Go Comment t) (λ _. (refl, stays_same t)) (λ _. (refl, stays_same t))
holds CommentDash t b l h = split zones.Outside t (eqb b 45) (Go CommentEnd t) (Go Comment t) (λ _. (refl, stays_same t)) (λ _. (refl, stays_same t))
holds CommentEnd t b l h = holds_only zones.Outside t 62 b Content refl
holds (Name w k) t b l h = holds_name w k t b l h
holds (Tag e x) t b l h = holds_tag e t h x t b (stays_same t)
holds (Space e x) t b l h = holds_space e t h x b
holds (Attribute e x j k) t b l h = holds_attribute e t h x j k b
holds (Equals e x j) t b l h = holds_two e t h (zones.InTag e) (is_space b) (eqb b 61) (Equals e x j) (Quote e x j) h h
holds (Quote e x j) t b l h = holds_two e t h (zones.InTag e) (is_space b) (eqb b 34 || eqb b 39) (Quote e x j) (Value e x j b 0) h h
holds (Value e x j q v) t b l h = holds_value e t h x j q v b
holds (Ampersand e x j q) t b l h = holds_entity_at e t h x j q (pick 32 48 0 b) 1
holds (Entity e x j q w k) t b l h = holds_entity e t h x j q w k b
holds Slash t b l h = holds_only zones.Slash t 62 b Content refl
holds (End k) t b l h = holds_end zones.Outside t k b
holds Close t b l h = holds_close zones.Outside t b

-- ---- a text

abbrev Held : State → Type 0
Held dead = ◌≡◌ {A = ℕ} 0 0
Held (live p t st) = held p t ≡ true

abbrev open_of : State → List ℕ
open_of dead = []
open_of (live p t st) = open_in t st

pub dead_not : (A : Type 0) (bs : List ℕ) → accepts (run dead bs) ≡ true → A
unfolding accepts
dead_not A bs h = absurd (no (sym (ap accepts (stays_dead bs)) ∙ h))

open_kept : (t u : ℕ) (st : List ℕ) → stack_good t st ≡ true → stays t u ≡ true → open_in u st ≡ open_in t st
unfolding open_in stack_good inner
open_kept t u [] g s = refl
open_kept t u (v ∷ st) g s =
    let l = leb-true 2 t (and_left (leb 2 t) (leb t 31) (and_left (inner t) (stack_good v st) g)) in
    ap (λ (x : ℕ). x ∷ open_in v st) (eqb-true (called (owner u)) (called (owner t)) (ap (λ (z : Bool). z || eqb (called (owner u)) (called (owner t))) (sym (lt-leb t 1 (omega arith))) ∙ s))

open_none : (p : Place) (t : ℕ) (st : List ℕ) → stack_good t st ≡ true → accepts (live p t st) ≡ true → is_empty (open_in t st) ≡ true
unfolding open_in stack_good inner accepts is_empty
open_none p t [] g h = refl
open_none p t (v ∷ st) g h =
    let l = leb-true 2 t (and_left (leb 2 t) (leb t 31) (and_left (inner t) (stack_good v st) g)) in
    let e = eqb-true t 1 (and_right (is_content p) (eqb t 1) h) in absurd (omega arith)

module _ (z : Zone) (t : ℕ) (st bs : List ℕ) (x : ℕ) (e : Draft) (q : e.element ≡ element_in z x) (ts : List Markup) where
  step_balanced : (s : Step) → Holds z t s → stack_good t st ≡ true → accepts (run (moved st s) bs) ≡ true → (Held (moved st s) → is_balanced (open_of (moved st s)) ts ≡ true) →
      is_balanced (open_in t st) (emitted s z t e ++ ts) ≡ true
  unfolding emitted
  step_balanced Fault h g a f = dead_not (is_balanced (open_in t st) ts ≡ true) bs a
  step_balanced (Go p u) h g a f = by (is_slash z) (ap (λ (es : List ℕ). is_balanced es ts) (sym (open_kept t u st g h.1)) ∙ f h.0)
    where
      by : (y : Bool) → is_balanced (open_in t st) ts ≡ true → is_balanced (open_in t st) (cond y (markup empty e.element e ∷ []) [] ++ ts) ≡ true
      by true k = unfold is_balanced in k
      by false k = k
  step_balanced (Open u v) h g a f =
      unfold is_balanced open_in in
      ap (λ (n : ℕ). is_balanced (called n ∷ open_in t st) ts) q ∙ ap (λ (n : ℕ). is_balanced (n ∷ open_in t st) ts) (sym (h.0 x)) ∙
      ap (λ (es : List ℕ). is_balanced (called (owner v) ∷ es) ts) (sym (open_kept t u st g h.1)) ∙ f refl
  step_balanced Shut h g a f = shut st a f
    where
      shut : (st : List ℕ) → accepts (run (moved st Shut) bs) ≡ true → (Held (moved st Shut) → is_balanced (open_of (moved st Shut)) ts ≡ true) →
          is_balanced (open_in t st) (markup closing (owner t) e ∷ ts) ≡ true
      shut [] a f = dead_not (is_balanced (open_in t []) (markup closing (owner t) e ∷ ts) ≡ true) bs a
      shut (u ∷ st) a f = unfold is_balanced open_in in both (eqb (called (owner t)) (called (owner t))) (is_balanced (open_in u st) ts) (eq-eqb (called (owner t)) (called (owner t)) refl) (f refl)

held_moved : (z : Zone) (t : ℕ) (st : List ℕ) (s : Step) → Holds z t s → Held (moved st s)
held_moved z t st Fault h = refl
held_moved z t st (Go p u) h = h.0
held_moved z t st (Open u v) h = refl
held_moved z t [] Shut h = refl
held_moved z t (u ∷ st) Shut h = refl

balanced : (bs : List ℕ) (s : State) (d : Draft) (i : ℕ) → Good s → Held s → accepts (run s bs) ≡ true → is_balanced (open_of s) (tags_from s d i bs) ≡ true
unfolding tags_from run is_balanced
balanced [] dead d i g h a = dead_not (is_empty [] ≡ true) [] a
balanced [] (live p t st) d i g h a = open_none p t st g.1 a
balanced (b ∷ bs) dead d i g h a = dead_not (is_empty [] ≡ true) (b ∷ bs) a
balanced (b ∷ bs) (live p t st) d i g h a =
    by (is_char b) refl a (λ n. balanced bs (next (live p t st) b) (behind s (zone p) e) (i + 1) (good_run (b ∷ []) (live p t st) g) n a)
  where
    s : Step
    s = step_of p t b

    e : Draft
    e = noted (zone p) (landing s) i b d

    steps : Holds (zone p) t s
    steps = holds p t b (stack_below t st g.1) h

    by : (y : Bool) → is_char b ≡ y → accepts (run (next (live p t st) b) bs) ≡ true →
        (Held (next (live p t st) b) → is_balanced (open_of (next (live p t st) b)) (tags_from (next (live p t st) b) (behind s (zone p) e) (i + 1) bs) ≡ true) →
        is_balanced (open_in t st) (cond y (emitted s (zone p) t e ++ tags_from (next (live p t st) b) (behind s (zone p) e) (i + 1) bs) []) ≡ true
    by true q a f =
        let n : next (live p t st) b ≡ moved st s = unfold next in rw q refl in
        step_balanced (zone p) t st bs d.element e (unfold noted in refl) (tags_from (next (live p t st) b) (behind s (zone p) e) (i + 1) bs) s steps g.1
        (ap (λ (x : State). accepts (run x bs)) (sym n) ∙ a)
        (subst (λ (x : State). Held x → is_balanced (open_of x) (tags_from (next (live p t st) b) (behind s (zone p) e) (i + 1) bs) ≡ true) n f)
    by false q a f =
        let n : next (live p t st) b ≡ dead = unfold next in rw q refl in
        dead_not (is_balanced (open_in t st) [] ≡ true) bs (ap (λ (x : State). accepts (run x bs)) (sym n) ∙ a)

-- every text of the grammar, of any length
pub text_balanced : (text : List ℕ) → is_text text ≡ true → is_balanced [] (tags_of text) ≡ true
unfolding tags_of is_text stack_good open_in
text_balanced text h = balanced text start no_draft 0 (refl, refl) refl h
