-- The root by the levels of the grammar: where its start tag may begin, how long it goes on, and that it states no id.
use Rattle.std.specs.Prelude.{◌≡◌, Bool, true, false, ◌&&◌, ◌||◌, cond, List, [], ◌∷◌, ◌++◌, ℕ, zero, suc, ◌+◌, ◌*◌, ◌≤◌, ◌<◌, leb, get_or}
use Rattle.std.proofs.Math.Path.{refl, sym}
use Rattle.std.proofs.Common.{ap, ◌∙◌, arith, eqb-true, ne_eqb, leb-true, leb-false, le-leb}
use Rattle.std.proofs.Math.Bool.{not}
use Rattle.std.proofs.Math.Dec.{eqb}
use Rattle.grammar.specs.declared.Place.{Place}
use Rattle.grammar.specs.declared.Place.TheVariants.{Content, Less, Bang, Dash, Comment, CommentDash, CommentEnd, Name, Tag, Space, Attribute, Equals, Quote, Value, Ampersand, Entity, Slash, End, Close}
use Rattle.grammar.specs.declared.Step.{Step}
use Rattle.grammar.specs.declared.Step.TheVariants.{Fault, Go, Open, Shut}
use Rattle.grammar.specs.Tables.{menus, attrs}
use Rattle.grammar.specs.Grammar.{is_space, is_token, word_byte, follows, pick_from, pick, attribute, has, added, pick_attribute, is_complete, may_end, owner, after, opens, value_step, value_ends, kind_of, content_step, name_at, less_step, tag_step, name_step_at, attribute_at, space_step, equals_step, attribute_step, quote_step, value_at, value_step_at, entity_at, entity_step, close_step, end_step, only, step_of, start}
use Rattle.grammar.specs.Words.{and_left, and_right, both, choose, no, AllBelow, each}
use Rattle.reading.specs.declared.Zone.{Zone}
use Rattle.reading.specs.declared.Zone.TheVariants as zones
use Rattle.reading.specs.Zones.{zone}
use Rattle.reading.specs.Tags.{Part, Draft, noted, behind}
use Rattle.reading.specs.Faults.{id_word, states}

-- ---- the root, by the level around it

-- an element may begin: the root in level 0, others inside it
abbrev begins : ℕ → ℕ → Bool
begins t w = cond (leb t 1) (eqb t 0 && eqb w 0) (leb 1 w)

-- its start tag goes on: that of the root in level 1
abbrev pub goes_on : ℕ → ℕ → Bool
goes_on t e = cond (leb t 1) (eqb t 1 && eqb e 0) (leb 1 e)

-- does the root's start tag still have to end
abbrev pub waits : Place → ℕ → Bool
waits Content t = eqb t 0
waits Less t = eqb t 0
waits Bang t = eqb t 0
waits Dash t = eqb t 0
waits Comment t = eqb t 0
waits CommentDash t = eqb t 0
waits CommentEnd t = eqb t 0
waits (Name w k) t = eqb t 0
waits (Tag e x) t = leb t 1
waits (Space e x) t = leb t 1
waits (Attribute e x j k) t = leb t 1
waits (Equals e x j) t = leb t 1
waits (Quote e x j) t = leb t 1
waits (Value e x j q v) t = leb t 1
waits (Ampersand e x j q) t = leb t 1
waits (Entity e x j q w k) t = leb t 1
waits Slash t = leb t 1
waits (End k) t = eqb t 0
waits Close t = eqb t 0

abbrev pub held : Place → ℕ → Draft → Bool
held Content t d = true
held Less t d = true
held Bang t d = true
held Dash t d = true
held Comment t d = true
held CommentDash t d = true
held CommentEnd t d = true
held (Name w k) t d = begins t w
held (Tag e x) t d = goes_on t e
held (Space e x) t d = goes_on t e
held (Attribute e x j k) t d = goes_on t e && leb j 3
held (Equals e x j) t d = goes_on t e && leb j 3
held (Quote e x j) t d = goes_on t e && leb j 3
held (Value e x j q v) t d = goes_on t e && leb j 3
held (Ampersand e x j q) t d = goes_on t e && leb j 3
held (Entity e x j q w k) t d = goes_on t e && leb j 3
held Slash t d = goes_on t d.element
held (End k) t d = true
held Close t d = true

-- ---- what the grammar's tables say

unfoldable begin_from : ℕ → ℕ → ℕ → Bool
begin_from t zero at = true
begin_from t (suc n) at = (eqb (get_or menus at 48) 48 || begins t (get_or menus at 48)) && begin_from t n (suc at)

pick_begins : (t w k b n at : ℕ) → begin_from t n at ≡ true → (eqb (pick_from n at w k b) 48 || begins t (pick_from n at w k b)) ≡ true
unfolding begin_from pick_from
pick_begins t w k b zero at o = refl
pick_begins t w k b (suc n) at o =
    choose (λ (z : ℕ). (eqb z 48 || begins t z) ≡ true) (follows w (get_or menus at 48) k b) (get_or menus at 48) (pick_from n (suc at) w k b)
    (λ _. and_left (eqb (get_or menus at 48) 48 || begins t (get_or menus at 48)) (begin_from t n (suc at)) o)
    (λ _. pick_begins t w k b n (suc at) (and_right (eqb (get_or menus at 48) 48 || begins t (get_or menus at 48)) (begin_from t n (suc at)) o))

abbrev Begin : ℕ → Type 0
Begin t = begin_from t 8 (t * 8) ≡ true

all_begin : AllBelow Begin 32
unfolding AllBelow begin_from menus
all_begin = ((((((((((((((((((((((((((((((((refl, refl), refl), refl), refl), refl), refl), refl), refl), refl), refl), refl), refl), refl), refl), refl), refl), refl), refl), refl), refl), refl), refl), refl), refl), refl), refl), refl), refl), refl), refl), refl), refl)

picked : (t w k b : ℕ) → t < 32 → eqb (pick t w k b) 48 ≡ false → begins t (pick t w k b) ≡ true
unfolding pick
picked t w k b l n = ap (λ (z : Bool). z || begins t (pick_from 8 (t * 8) w k b)) (sym n) ∙ pick_begins t w k b 8 (t * 8) (each Begin 32 all_begin t l)

low : (n j e x w k b : ℕ) → n + j ≤ 4 → (eqb (pick_attribute n j e x w k b) 4 || leb (pick_attribute n j e x w k b) 3) ≡ true
unfolding pick_attribute
low zero j e x w k b h = refl
low (suc n) j e x w k b h =
    choose (λ (r : ℕ). (eqb r 4 || leb r 3) ≡ true) (not (has x j) && follows w (attribute e j) k b) j (pick_attribute n (suc j) e x w k b)
    (λ _. rw (le-leb j 3 (omega arith)) (or_true (eqb j 4))) (λ _. low n (suc j) e x w k b (omega arith))
  where
    or_true : (z : Bool) → (z || true) ≡ true
    or_true true = refl
    or_true false = refl

abbrev NoId : ℕ → Type 0
NoId j = eqb (attribute 0 j) 26 ≡ false

no_ids : AllBelow NoId 4
unfolding AllBelow attribute attrs
no_ids = ((((refl, refl), refl), refl), refl)

-- the parent's level once the element has begun
record After (t w u : ℕ) : Type 0 where
  goes : goes_on u w ≡ true
  waiting : leb u 1 ≡ eqb t 0
  level : leb u 1 ≡ leb t 1

after_so : (t w : ℕ) → begins t w ≡ true → After t w (after t w)
unfolding after
after_so t w h = by (leb t 1) refl h
  where
    by : (z : Bool) → leb t 1 ≡ z → cond z (eqb t 0 && eqb w 0) (leb 1 w) ≡ true → After t w (cond (eqb w 0) 1 (cond (eqb w 5) 3 (cond (eqb w 11) 9 t)))
    by true q g =
        let a = eqb-true t 0 (and_left (eqb t 0) (eqb w 0) g) in let b = and_right (eqb t 0) (eqb w 0) g in
        rw (b, a) (record { goes = b; waiting = refl; level = refl })
    by false q g =
        let l = leb-true 1 w g in let m = leb-false t 1 q in let n : eqb t 0 ≡ false = ne_eqb t 0 (λ e. omega arith) in
        rw (ne_eqb w 0 (λ e. omega arith))
        (choose (After t w) (eqb w 5) 3 (cond (eqb w 11) 9 t) (λ _. record { goes = g; waiting = sym n; level = sym q })
        (λ _. choose (After t w) (eqb w 11) 9 t (λ _. record { goes = g; waiting = sym n; level = sym q }) (λ _. record { goes = rw q g; waiting = q ∙ sym n; level = refl })))

-- ---- a step

states_more : (ps : List Part) (p : Part) → states id_word ps ≡ false → eqb p.word id_word ≡ false → states id_word (ps ++ p ∷ []) ≡ false
unfolding states
states_more [] p h g = rw g refl
states_more (q ∷ ps) p h g = by (eqb q.word id_word) h (λ k. states_more ps p k g)
  where
    by : (z : Bool) → (z || states id_word ps) ≡ false → (states id_word ps ≡ false → states id_word (ps ++ p ∷ []) ≡ false) → (z || states id_word (ps ++ p ∷ [])) ≡ false
    by true h f = h
    by false h f = f h

-- at level 1 and outside it no id is read: the root has none
abbrev pub Clear : ℕ → List Part → Type 0
Clear t ps = leb t 1 ≡ true → states id_word ps ≡ false

pub record Kept (w : Bool) (t : ℕ) (e : Draft) (q : Place) (u : ℕ) : Type 0 where
  pub held_is : held q u e ≡ true
  pub waits_is : waits q u ≡ w
  pub level_is : leb u 1 ≡ leb t 1
  pub clear_is : Clear u e.parts

pub record Opens (w : Bool) (t : ℕ) (e : Draft) (u : ℕ) : Type 0 where
  pub goes_is : goes_on u e.element ≡ true
  pub clear_is : Clear u e.parts
  pub waits_is : w ≡ leb t 1
  pub level_is : leb u 1 ≡ leb t 1

-- from the zone z and the level t
module _ (z : Zone) (w : Bool) (t : ℕ) (d : Draft) (i b : ℕ) where
  abbrev pub Holds : Step → Type 0
  Holds Fault = 0 ≤ t
  Holds (Go q u) = Kept w t (noted z (zone q) i b d) q u
  Holds (Open u v) = Opens w t (noted z zones.Outside i b d) u
  Holds Shut = w ≡ eqb t 0

  split : (y : Bool) (r s : Step) → (y ≡ true → Holds r) → (y ≡ false → Holds s) → Holds (cond y r s)
  split y r s h k = choose Holds y r s h k

  fault : 0 ≤ t
  fault = omega arith

-- between tags, in end tags, and behind "<"
module _ (t : ℕ) (d : Draft) (i b : ℕ) (c : Clear t d.parts) where
  abbrev Out : Step → Type 0
  Out s = Holds zones.Outside (eqb t 0) t d i b s

  out_go : (p : Place) → held p t (noted zones.Outside (zone p) i b d) ≡ true → waits p t ≡ eqb t 0 → Out (Go p t)
  unfolding noted
  out_go p h q = record { held_is = h; waits_is = q; level_is = refl; clear_is = c }

  out_only : (a : ℕ) (p : Place) → Out (Go p t) → Out (only a p t b)
  unfolding only
  out_only a p h = split zones.Outside (eqb t 0) t d i b (eqb b a) (Go p t) Fault (λ _. h) (λ _. fault zones.Outside (eqb t 0) t d i b)

  out_two : (y : Bool) (p q : Place) → Out (Go p t) → Out (Go q t) → Out (cond y (Go p t) (Go q t))
  out_two y p q h k = split zones.Outside (eqb t 0) t d i b y (Go p t) (Go q t) (λ _. h) (λ _. k)

  out_content : Out (content_step t b)
  unfolding content_step
  out_content =
      split zones.Outside (eqb t 0) t d i b (is_space b) (Go Content t) (cond (eqb b 60) (Go Less t) Fault) (λ _. out_go Content refl refl)
      (λ _. split zones.Outside (eqb t 0) t d i b (eqb b 60) (Go Less t) Fault (λ _. out_go Less refl refl) (λ _. fault zones.Outside (eqb t 0) t d i b))

  out_close : Out (close_step t b)
  unfolding close_step
  out_close =
      split zones.Outside (eqb t 0) t d i b (is_space b) (Go Close t) (cond (eqb b 62) Shut Fault) (λ _. out_go Close refl refl)
      (λ _. split zones.Outside (eqb t 0) t d i b (eqb b 62) Shut Fault (λ _. refl) (λ _. fault zones.Outside (eqb t 0) t d i b))

  out_end : (k : ℕ) → Out (end_step k t b)
  unfolding end_step
  out_end k =
      split zones.Outside (eqb t 0) t d i b (eqb (word_byte (owner t) k) b) (Go (End (k + 1)) t) (cond (eqb (word_byte (owner t) k) 0) (close_step t b) Fault) (λ _. out_go (End (k + 1)) refl refl)
      (λ _. split zones.Outside (eqb t 0) t d i b (eqb (word_byte (owner t) k) 0) (close_step t b) Fault (λ _. out_close) (λ _. fault zones.Outside (eqb t 0) t d i b))

  less : t < 32 → Holds zones.Begun (eqb t 0) t d i b (less_step t b)
  unfolding less_step name_at noted
  less l =
      split zones.Begun (eqb t 0) t d i b (eqb b 33) (Go Bang t) (cond (eqb b 47 && may_end t) (Go (End 0) t) (name_at (pick t 48 0 b) 1 t)) (λ _. record { held_is = refl; waits_is = refl; level_is = refl; clear_is = c })
      (λ _. split zones.Begun (eqb t 0) t d i b (eqb b 47 && may_end t) (Go (End 0) t) (name_at (pick t 48 0 b) 1 t) (λ _. record { held_is = refl; waits_is = refl; level_is = refl; clear_is = c })
      (λ _. split zones.Begun (eqb t 0) t d i b (eqb (pick t 48 0 b) 48) Fault (Go (Name (pick t 48 0 b) 1) t) (λ _. fault zones.Begun (eqb t 0) t d i b)
      (λ g. record { held_is = picked t 48 0 b l g; waits_is = refl; level_is = refl; clear_is = c })))

-- in a start tag of e; w is whether the root's still has to end
module _ (e t : ℕ) (w : Bool) (d : Draft) (i b : ℕ) (c : Clear t d.parts) where
  abbrev In : Step → Type 0
  In s = Holds (zones.InTag e) w t d i b s

  moves : (u : ℕ) → leb u 1 ≡ leb t 1 → Clear u d.parts
  moves u q h = c (sym q ∙ h)

  in_tag_lem : (x u : ℕ) → goes_on u e ≡ true → leb u 1 ≡ w → leb u 1 ≡ leb t 1 → In (tag_step e x u b)
  unfolding tag_step noted
  in_tag_lem x u g q l =
      split (zones.InTag e) w t d i b (is_space b) (Go (Space e x) u) (cond (eqb b 62 && is_complete e x) (Open u (opens e x)) (cond (eqb b 47 && is_complete e x && may_end (opens e x)) (Go Slash u) Fault))
      (λ _. record { held_is = g; waits_is = q; level_is = l; clear_is = moves u l })
      (λ _. split (zones.InTag e) w t d i b (eqb b 62 && is_complete e x) (Open u (opens e x)) (cond (eqb b 47 && is_complete e x && may_end (opens e x)) (Go Slash u) Fault)
      (λ _. record { goes_is = g; clear_is = moves u l; waits_is = sym q ∙ l; level_is = l })
      (λ _. split (zones.InTag e) w t d i b (eqb b 47 && is_complete e x && may_end (opens e x)) (Go Slash u) Fault (λ _. record { held_is = g; waits_is = q; level_is = l; clear_is = moves u l })
      (λ _. fault (zones.InTag e) w t d i b)))

module _ (e t : ℕ) (d : Draft) (i b : ℕ) (c : Clear t d.parts) (g : goes_on t e ≡ true) where
  abbrev Here : Step → Type 0
  Here s = Holds (zones.InTag e) (leb t 1) t d i b s

  at : (x j k : ℕ) → (eqb j 4 ≡ false → leb j 3 ≡ true) → Here (attribute_at j k e x t)
  unfolding attribute_at noted
  at x j k f =
      split (zones.InTag e) (leb t 1) t d i b (eqb j 4) Fault (Go (Attribute e x j k) t) (λ _. fault (zones.InTag e) (leb t 1) t d i b)
      (λ q. record { held_is = both (goes_on t e) (leb j 3) g (f q); waits_is = refl; level_is = refl; clear_is = c })

  lowest : (x v k : ℕ) → eqb (pick_attribute 4 0 e x v k b) 4 ≡ false → leb (pick_attribute 4 0 e x v k b) 3 ≡ true
  lowest x v k q = ap (λ (z : Bool). z || leb (pick_attribute 4 0 e x v k b) 3) (sym q) ∙ low 4 0 e x v k b (omega arith)

  in_space : (x : ℕ) → Here (space_step e x t b)
  unfolding space_step
  in_space x =
      split (zones.InTag e) (leb t 1) t d i b (is_token b) (attribute_at (pick_attribute 4 0 e x 48 0 b) 1 e x t) (tag_step e x t b) (λ _. at x (pick_attribute 4 0 e x 48 0 b) 1 (lowest x 48 0))
      (λ _. in_tag_lem e t (leb t 1) d i b c x t g refl refl)

  module _ (x j : ℕ) (f : leb j 3 ≡ true) where
    two : (y v : Bool) (p q : Place) → Here (Go p t) → Here (Go q t) → Here (cond y (Go p t) (cond v (Go q t) Fault))
    two y v p q h k = split (zones.InTag e) (leb t 1) t d i b y (Go p t) (cond v (Go q t) Fault) (λ _. h) (λ _. split (zones.InTag e) (leb t 1) t d i b v (Go q t) Fault (λ _. k) (λ _. fault (zones.InTag e) (leb t 1) t d i b))

    in_equals : Here (equals_step e x j t b)
    unfolding equals_step noted
    in_equals =
        two (is_space b) (eqb b 61) (Equals e x j) (Quote e x j) (record { held_is = both (goes_on t e) (leb j 3) g f; waits_is = refl; level_is = refl; clear_is = c })
        (record { held_is = both (goes_on t e) (leb j 3) g f; waits_is = refl; level_is = refl; clear_is = c })

    in_quote : Here (quote_step e x j t b)
    unfolding quote_step noted
    in_quote =
        two (is_space b) (eqb b 34 || eqb b 39) (Quote e x j) (Value e x j b 0) (record { held_is = both (goes_on t e) (leb j 3) g f; waits_is = refl; level_is = refl; clear_is = c })
        (record { held_is = both (goes_on t e) (leb j 3) g f; waits_is = refl; level_is = refl; clear_is = c })

    in_attribute : (k : ℕ) → Here (attribute_step e x j k t b)
    unfolding attribute_step noted
    in_attribute k =
        split (zones.InTag e) (leb t 1) t d i b (eqb (word_byte (attribute e j) k) b) (Go (Attribute e x j (k + 1)) t) (cond (eqb (word_byte (attribute e j) k) 0 && not (is_token b)) (equals_step e x j t b) (attribute_at (pick_attribute 4 0 e x (attribute e j) k b) (k + 1) e x t))
        (λ _. record { held_is = both (goes_on t e) (leb j 3) g f; waits_is = refl; level_is = refl; clear_is = c })
        (λ _. split (zones.InTag e) (leb t 1) t d i b (eqb (word_byte (attribute e j) k) 0 && not (is_token b)) (equals_step e x j t b) (attribute_at (pick_attribute 4 0 e x (attribute e j) k b) (k + 1) e x t) (λ _. in_equals)
        (λ _. at x (pick_attribute 4 0 e x (attribute e j) k b) (k + 1) (lowest x (attribute e j) k)))

    abbrev Inner : Step → Type 0
    Inner s = Holds (zones.InValue e j) (leb t 1) t d i b s

    inner_fault : 0 ≤ t
    inner_fault = omega arith

    -- an attribute of the root is no id
    clear_more : Clear t (d.parts ++ (record { element = e; word = attribute e j; from = d.from; bytes = d.bytes }) ∷ [])
    clear_more h = states_more d.parts (record { element = e; word = attribute e j; from = d.from; bytes = d.bytes }) (c h) word
      where
        root : e ≡ 0
        root = eqb-true e 0 (and_right (eqb t 1) (eqb e 0) (ap (λ (z : Bool). cond z (eqb t 1 && eqb e 0) (leb 1 e)) (sym h) ∙ g))

        word : eqb (attribute e j) id_word ≡ false
        word = let l = leb-true j 3 f in ap (λ (x : ℕ). eqb (attribute x j) id_word) root ∙ each NoId 4 no_ids j (omega arith)

    in_value : (q v : ℕ) → Inner (value_step_at e x j q v t b)
    unfolding value_step_at value_at noted
    in_value q v =
        split (zones.InValue e j) (leb t 1) t d i b (eqb b q) (cond (value_ends (kind_of e j) v) (Go (Tag e (added x j)) t) Fault) (cond (eqb b 38 && eqb (kind_of e j) 0) (Go (Ampersand e x j q) t) (cond (eqb (value_step (kind_of e j) v b) 5) Fault (Go (Value e x j q (value_step (kind_of e j) v b)) t)))
        (λ _. split (zones.InValue e j) (leb t 1) t d i b (value_ends (kind_of e j) v) (Go (Tag e (added x j)) t) Fault (λ _. record { held_is = g; waits_is = refl; level_is = refl; clear_is = clear_more }) (λ _. inner_fault))
        (λ _. split (zones.InValue e j) (leb t 1) t d i b (eqb b 38 && eqb (kind_of e j) 0) (Go (Ampersand e x j q) t) (cond (eqb (value_step (kind_of e j) v b) 5) Fault (Go (Value e x j q (value_step (kind_of e j) v b)) t))
        (λ _. record { held_is = both (goes_on t e) (leb j 3) g f; waits_is = refl; level_is = refl; clear_is = c })
        (λ _. split (zones.InValue e j) (leb t 1) t d i b (eqb (value_step (kind_of e j) v b) 5) Fault (Go (Value e x j q (value_step (kind_of e j) v b)) t) (λ _. inner_fault)
        (λ _. record { held_is = both (goes_on t e) (leb j 3) g f; waits_is = refl; level_is = refl; clear_is = c })))

    in_entity_at : (q w k : ℕ) → Inner (entity_at w k e x j q t)
    unfolding entity_at noted
    in_entity_at q w k =
        split (zones.InValue e j) (leb t 1) t d i b (eqb w 48) Fault (Go (Entity e x j q w k) t) (λ _. inner_fault)
        (λ _. record { held_is = both (goes_on t e) (leb j 3) g f; waits_is = refl; level_is = refl; clear_is = c })

    in_entity : (q w k : ℕ) → Inner (entity_step e x j q w k t b)
    unfolding entity_step noted
    in_entity q w k =
        split (zones.InValue e j) (leb t 1) t d i b (eqb (word_byte w k) b) (Go (Entity e x j q w (k + 1)) t) (cond (eqb b 59) (cond (eqb (word_byte w k) 0) (Go (Value e x j q 0) t) Fault) (entity_at (pick 32 w k b) (k + 1) e x j q t))
        (λ _. record { held_is = both (goes_on t e) (leb j 3) g f; waits_is = refl; level_is = refl; clear_is = c })
        (λ _. split (zones.InValue e j) (leb t 1) t d i b (eqb b 59) (cond (eqb (word_byte w k) 0) (Go (Value e x j q 0) t) Fault) (entity_at (pick 32 w k b) (k + 1) e x j q t)
        (λ _. split (zones.InValue e j) (leb t 1) t d i b (eqb (word_byte w k) 0) (Go (Value e x j q 0) t) Fault (λ _. record { held_is = both (goes_on t e) (leb j 3) g f; waits_is = refl; level_is = refl; clear_is = c }) (λ _. inner_fault))
        (λ _. in_entity_at q (pick 32 w k b) (k + 1)))

in_name : (w k t : ℕ) (d : Draft) (i b : ℕ) → Clear t d.parts → t < 32 → begins t w ≡ true → Holds (zones.InTag w) (eqb t 0) t d i b (name_step_at w k t b)
unfolding name_step_at name_at noted
in_name w k t d i b c l h =
    split (zones.InTag w) (eqb t 0) t d i b (eqb (word_byte w k) b) (Go (Name w (k + 1)) t) (cond (eqb (word_byte w k) 0 && not (is_token b)) (tag_step w 0 (after t w) b) (name_at (pick t w k b) (k + 1) t))
    (λ _. record { held_is = h; waits_is = refl; level_is = refl; clear_is = c })
    (λ _. split (zones.InTag w) (eqb t 0) t d i b (eqb (word_byte w k) 0 && not (is_token b)) (tag_step w 0 (after t w) b) (name_at (pick t w k b) (k + 1) t)
    (λ _. let a = after_so t w h in in_tag_lem w t (eqb t 0) d i b c 0 (after t w) a.goes a.waiting a.level)
    (λ _. split (zones.InTag w) (eqb t 0) t d i b (eqb (pick t w k b) 48) Fault (Go (Name (pick t w k b) (k + 1)) t) (λ _. fault (zones.InTag w) (eqb t 0) t d i b)
    (λ g. record { held_is = picked t w k b l g; waits_is = refl; level_is = refl; clear_is = c })))

-- from every place but behind the "/" of an empty-element tag
abbrev pub is_ending : Place → Bool
is_ending Content = false
is_ending Less = false
is_ending Bang = false
is_ending Dash = false
is_ending Comment = false
is_ending CommentDash = false
is_ending CommentEnd = false
is_ending (Name w k) = false
is_ending (Tag e x) = false
is_ending (Space e x) = false
is_ending (Attribute e x j k) = false
is_ending (Equals e x j) = false
is_ending (Quote e x j) = false
is_ending (Value e x j q v) = false
is_ending (Ampersand e x j q) = false
is_ending (Entity e x j q w k) = false
is_ending Slash = true
is_ending (End k) = false
is_ending Close = false

pub holds : (p : Place) (t : ℕ) (d : Draft) (i b : ℕ) → is_ending p ≡ false → t < 32 → held p t d ≡ true → Clear t d.parts → Holds (zone p) (waits p t) t d i b (step_of p t b)
unfolding step_of
holds Content t d i b n l h c = out_content t d i b c
holds Less t d i b n l h c = less t d i b c l
holds Bang t d i b n l h c = out_only t d i b c 45 Dash (out_go t d i b c Dash refl refl)
holds Dash t d i b n l h c = out_only t d i b c 45 Comment (out_go t d i b c Comment refl refl)
holds Comment t d i b n l h c = out_two t d i b c (eqb b 45) CommentDash Comment (out_go t d i b c CommentDash refl refl) (out_go t d i b c Comment refl refl)
holds CommentDash t d i b n l h c = out_two t d i b c (eqb b 45) CommentEnd Comment (out_go t d i b c CommentEnd refl refl) (out_go t d i b c Comment refl refl)
holds CommentEnd t d i b n l h c = out_only t d i b c 62 Content (out_go t d i b c Content refl refl)
holds (Name w k) t d i b n l h c = in_name w k t d i b c l h
holds (Tag e x) t d i b n l h c = in_tag_lem e t (leb t 1) d i b c x t h refl refl
holds (Space e x) t d i b n l h c = in_space e t d i b c h x
holds (Attribute e x j k) t d i b n l h c = in_attribute e t d i b c (and_left (goes_on t e) (leb j 3) h) x j (and_right (goes_on t e) (leb j 3) h) k
holds (Equals e x j) t d i b n l h c = in_equals e t d i b c (and_left (goes_on t e) (leb j 3) h) x j (and_right (goes_on t e) (leb j 3) h)
holds (Quote e x j) t d i b n l h c = in_quote e t d i b c (and_left (goes_on t e) (leb j 3) h) x j (and_right (goes_on t e) (leb j 3) h)
holds (Value e x j q v) t d i b n l h c = in_value e t d i b c (and_left (goes_on t e) (leb j 3) h) x j (and_right (goes_on t e) (leb j 3) h) q v
holds (Ampersand e x j q) t d i b n l h c = in_entity_at e t d i b c (and_left (goes_on t e) (leb j 3) h) x j (and_right (goes_on t e) (leb j 3) h) q (pick 32 48 0 b) 1
holds (Entity e x j q w k) t d i b n l h c = in_entity e t d i b c (and_left (goes_on t e) (leb j 3) h) x j (and_right (goes_on t e) (leb j 3) h) q w k
holds Slash t d i b n l h c = absurd (no (sym n))
holds (End k) t d i b n l h c = out_end t d i b c k
holds Close t d i b n l h c = out_close t d i b c
