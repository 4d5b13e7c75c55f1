-- The tags of a text take no more bytes than it has. What is read of a tag is a credit, and each byte adds at most one to it; a tag that ends uses it up.
use Rattle.std.specs.Prelude.{◌≡◌, Bool, true, ◌&&◌, ◌||◌, cond, List, [], ◌∷◌, ◌++◌, ℕ, zero, suc, ◌+◌, ◌*◌, ◌≤◌, ◌<◌, leb, length, get_or}
use Rattle.std.proofs.Math.Path.{refl, ap}
use Rattle.std.proofs.Common.{sym, subst, ◌∙◌, length-append, eqb-true}
use Rattle.std.proofs.Math.Bool.{false, not}
use native.Mathlib.Omega.{arith}
use Rattle.std.proofs.Math.Dec.{eqb}
use Rattle.grammar.specs.declared.Place.{Place}
use Rattle.grammar.specs.declared.Place.TheVariants.{Content, Less, Bang, Dash, Comment, CommentDash, CommentEnd, Name, Tag, Space, Attribute, Equals, Quote, Value, Ampersand, Entity, Slash, End, Close}
use Rattle.grammar.specs.declared.Step.{Step}
use Rattle.grammar.specs.declared.Step.TheVariants.{Fault, Go, Open, Shut}
use Rattle.grammar.specs.Tables.{menus, ends, owners, needed, bits}
use Rattle.grammar.specs.Grammar.{is_space, is_char, is_token, word_byte, follows, pick_from, pick, attribute, has, added, pick_attribute, is_complete, may_end, owner, after, opens, value_step, value_ends, kind_of, content_step, name_at, less_step, tag_step, name_step_at, attribute_at, space_step, equals_step, attribute_step, quote_step, value_at, value_step_at, entity_at, entity_step, close_step, end_step, only, step_of, State, dead, live, moved, next, run, start}
use Rattle.grammar.specs.Words.{and_left, and_right, choose, no, AllBelow, each}
use Rattle.grammar.proofs.Levels.{stack_good, stack_below}
use Rattle.grammar.proofs.Reached.{Good, good_run}
use Rattle.reading.specs.declared.Zone.{Zone}
use Rattle.reading.specs.declared.Zone.TheVariants as zones
use Rattle.reading.specs.Zones.{zone, landing}
use Rattle.reading.specs.Tags.{Part, Shape, opening, empty, closing, Markup, Draft, noted, emitted, behind, tags_from, no_draft, tags_of}
use Rattle.reading.specs.Faults.{ids_of}
use Rattle.weights.specs.Sizes.{is_known, name_size, spare, name_ended, spare_none}
use Rattle.weights.specs.Tags.{value_bytes, values_snoc, cond_bytes, quote_bytes, values_most, start_bytes, tag_bytes, all_bytes, bytes_append, tags_few, ids_few}

-- ---- the credit of a place

-- attributes that were read, without their values: in an if, or another element
abbrev reward : Bool → ℕ → ℕ
reward z zero = 0
reward z (suc x) = cond z 5 4

abbrev bonus : ℕ → ℕ → ℕ
bonus e x = reward (eqb e 12) x

bonus_most : (e x : ℕ) → bonus e x + quote_bytes e ≤ 5
bonus_most e x = by (eqb e 12) x
  where
    by : (z : Bool) (x : ℕ) → reward z x + cond z 0 1 ≤ 5
    by true zero = omega arith
    by true (suc x) = omega arith
    by false zero = omega arith
    by false (suc x) = omega arith

-- behind the name of a start tag
abbrev named : ℕ → ℕ → ℕ
named e x = 1 + name_size e + bonus e x

abbrev spent : Place → ℕ → Draft → ℕ
spent Content t d = 0
spent Less t d = 1
spent Bang t d = 0
spent Dash t d = 0
spent Comment t d = 0
spent CommentDash t d = 0
spent CommentEnd t d = 0
spent (Name w k) t d = 1 + k + spare w
spent (Tag e x) t d = named e x
spent (Space e x) t d = named e x + 1
spent (Attribute e x j k) t d = named e x + 2
spent (Equals e x j) t d = named e x + 2
spent (Quote e x j) t d = named e x + 3
spent (Value e x j q v) t d = named e x + 4 + length d.bytes
spent (Ampersand e x j q) t d = named e x + 4 + length d.bytes
spent (Entity e x j q w k) t d = named e x + 4 + length d.bytes
spent Slash t d = start_bytes d.element + 1
spent (End k) t d = 2 + k + spare (owner t)
spent Close t d = 2 + name_size (owner t)

-- what the quotes of the tag's values count for
abbrev quotes : Place → Draft → ℕ
quotes Content d = 1
quotes Less d = 1
quotes Bang d = 1
quotes Dash d = 1
quotes Comment d = 1
quotes CommentDash d = 1
quotes CommentEnd d = 1
quotes (Name w k) d = 1
quotes (Tag e x) d = quote_bytes e
quotes (Space e x) d = quote_bytes e
quotes (Attribute e x j k) d = quote_bytes e
quotes (Equals e x j) d = quote_bytes e
quotes (Quote e x j) d = quote_bytes e
quotes (Value e x j q v) d = quote_bytes e
quotes (Ampersand e x j q) d = quote_bytes e
quotes (Entity e x j q w k) d = quote_bytes e
quotes Slash d = quote_bytes d.element
quotes (End k) d = 1
quotes Close d = 1

abbrev credit : Place → ℕ → Draft → ℕ
credit p t d = spent p t d + value_bytes (quotes p d) d.parts

abbrev credit_of : State → Draft → ℕ
credit_of dead d = 0
credit_of (live p t st) d = credit p t d

-- ---- what the grammar's tables say

unfoldable known_from : ℕ → ℕ → Bool
known_from zero at = true
known_from (suc n) at = (eqb (get_or menus at 48) 48 || is_known (get_or menus at 48)) && known_from n (suc at)

pick_known : (w k b n at : ℕ) → known_from n at ≡ true → (eqb (pick_from n at w k b) 48 || is_known (pick_from n at w k b)) ≡ true
unfolding known_from pick_from
pick_known w k b zero at o = refl
pick_known w k b (suc n) at o =
    choose (λ (z : ℕ). (eqb z 48 || is_known z) ≡ true) (follows w (get_or menus at 48) k b) (get_or menus at 48) (pick_from n (suc at) w k b)
    (λ _. and_left (eqb (get_or menus at 48) 48 || is_known (get_or menus at 48)) (known_from n (suc at)) o)
    (λ _. pick_known w k b n (suc at) (and_right (eqb (get_or menus at 48) 48 || is_known (get_or menus at 48)) (known_from n (suc at)) o))

abbrev MenuKnown : ℕ → Type 0
MenuKnown t = known_from 8 (t * 8) ≡ true

menus_known : AllBelow MenuKnown 32
unfolding AllBelow known_from menus
menus_known = ((((((((((((((((((((((((((((((((refl, refl), refl), refl), refl), refl), refl), refl), refl), refl), refl), refl), refl), refl), refl), refl), refl), refl), refl), refl), refl), refl), refl), refl), refl), refl), refl), refl), refl), refl), refl), refl), refl)

picked : (t w k b : ℕ) → t < 32 → eqb (pick t w k b) 48 ≡ false → spare (pick t w k b) ≡ 0
unfolding pick
picked t w k b l n =
    spare_none (pick_from 8 (t * 8) w k b)
    (ap (λ (z : Bool). z || is_known (pick_from 8 (t * 8) w k b)) (sym n) ∙ pick_known w k b 8 (t * 8) (each MenuKnown 32 menus_known t l))

abbrev EndKnown : ℕ → Type 0
EndKnown t = may_end t ≡ true → spare (owner t) ≡ 0

ends_known : AllBelow EndKnown 32
unfolding AllBelow may_end ends owner owners
ends_known = ((((((((((((((((((((((((((((((((refl, λ h. absurd (no h)), λ h. absurd (no h)), λ h. refl), λ h. refl), λ h. refl), λ h. refl), λ h. refl), λ h. refl), λ h. refl), λ h. refl), λ h. refl), λ h. refl), λ h. refl), λ h. refl), λ h. refl), λ h. refl), λ h. refl), λ h. refl), λ h. refl), λ h. refl), λ h. refl), λ h. refl), λ h. refl), λ h. refl), λ h. refl), λ h. refl), λ h. refl), λ h. refl), λ h. refl), λ h. refl), λ h. refl), λ h. refl)

-- an if that is complete has an attribute
complete_if : (x : ℕ) → is_complete 12 x ≡ true → 5 ≤ bonus 12 x
unfolding is_complete has needed bits
complete_if zero g = absurd (no g)
complete_if (suc x) g = omega arith

complete : (e x : ℕ) → is_complete e x ≡ true → cond_bytes e ≤ bonus e x
complete e x h = by (eqb e 12) refl
  where
    by : (z : Bool) → eqb e 12 ≡ z → cond z 5 0 ≤ bonus e x
    by true q = subst (λ (y : ℕ). 5 ≤ bonus y x) (sym (eqb-true e 12 q)) (complete_if x (ap (λ (y : ℕ). is_complete y x) (sym (eqb-true e 12 q)) ∙ h))
    by false q = omega arith

-- ---- a step adds one

module _ (z : Zone) (t c : ℕ) (d : Draft) (i b : ℕ) where
  abbrev Pays : Step → Type 0
  Pays Fault = 0 ≤ c
  Pays (Go q u) = all_bytes (emitted (Go q u) z t (noted z (zone q) i b d)) + credit q u (behind (Go q u) z (noted z (zone q) i b d)) ≤ c + 1
  Pays (Open u v) = all_bytes (emitted (Open u v) z t (noted z zones.Outside i b d)) + value_bytes 1 (behind (Open u v) z (noted z zones.Outside i b d)).parts ≤ c + 1
  Pays Shut = all_bytes (emitted Shut z t (noted z zones.Outside i b d)) + value_bytes 1 (behind Shut z (noted z zones.Outside i b d)).parts ≤ c + 1

  split : (y : Bool) (r s : Step) → (y ≡ true → Pays r) → (y ≡ false → Pays s) → Pays (cond y r s)
  split y r s h k = choose Pays y r s h k

  fault : 0 ≤ c
  fault = omega arith

-- between tags
module _ (t c : ℕ) (d : Draft) (i b : ℕ) where
  pays_only : (a : ℕ) (p : Place) → Pays zones.Outside t c d i b (Go p t) → Pays zones.Outside t c d i b (only a p t b)
  unfolding only
  pays_only a p h = split zones.Outside t c d i b (eqb b a) (Go p t) Fault (λ _. h) (λ _. fault zones.Outside t c d i b)

  pays_two : (y : Bool) (p q : Place) → Pays zones.Outside t c d i b (Go p t) → Pays zones.Outside t c d i b (Go q t) → Pays zones.Outside t c d i b (cond y (Go p t) (Go q t))
  pays_two y p q h k = split zones.Outside t c d i b y (Go p t) (Go q t) (λ _. h) (λ _. k)

  pays_content : value_bytes 1 d.parts ≤ c → Pays zones.Outside t c d i b (content_step t b)
  unfolding content_step emitted noted all_bytes
  pays_content r =
      split zones.Outside t c d i b (is_space b) (Go Content t) (cond (eqb b 60) (Go Less t) Fault) (λ _. omega arith)
      (λ _. split zones.Outside t c d i b (eqb b 60) (Go Less t) Fault (λ _. omega arith) (λ _. fault zones.Outside t c d i b))

  -- behind an end tag's name
  pays_close : name_size (owner t) + 2 + value_bytes 1 d.parts ≤ c → Pays zones.Outside t c d i b (close_step t b)
  unfolding close_step emitted noted all_bytes value_bytes
  pays_close r =
      split zones.Outside t c d i b (is_space b) (Go Close t) (cond (eqb b 62) Shut Fault) (λ _. omega arith)
      (λ _. split zones.Outside t c d i b (eqb b 62) Shut Fault (λ _. omega arith) (λ _. fault zones.Outside t c d i b))

  pays_end : (k : ℕ) → 2 + k + spare (owner t) + value_bytes 1 d.parts ≤ c → Pays zones.Outside t c d i b (end_step k t b)
  unfolding end_step emitted noted all_bytes
  pays_end k r =
      split zones.Outside t c d i b (eqb (word_byte (owner t) k) b) (Go (End (k + 1)) t) (cond (eqb (word_byte (owner t) k) 0) (close_step t b) Fault) (λ _. omega arith)
      (λ _. split zones.Outside t c d i b (eqb (word_byte (owner t) k) 0) (close_step t b) Fault
      (λ g. let n = name_ended (owner t) k (eqb-true (word_byte (owner t) k) 0 g) in pays_close (omega arith)) (λ _. fault zones.Outside t c d i b))

-- behind "<"
module _ (t c : ℕ) (d : Draft) (i b : ℕ) (l : t < 32) where
  pays_less : 1 + value_bytes 1 d.parts ≤ c → Pays zones.Begun t c d i b (less_step t b)
  unfolding less_step name_at emitted noted all_bytes
  pays_less r =
      split zones.Begun t c d i b (eqb b 33) (Go Bang t) (cond (eqb b 47 && may_end t) (Go (End 0) t) (name_at (pick t 48 0 b) 1 t)) (λ _. omega arith)
      (λ _. split zones.Begun t c d i b (eqb b 47 && may_end t) (Go (End 0) t) (name_at (pick t 48 0 b) 1 t)
      (λ g. let n = each EndKnown 32 ends_known t l (and_right (eqb b 47) (may_end t) g) in omega arith)
      (λ _. split zones.Begun t c d i b (eqb (pick t 48 0 b) 48) Fault (Go (Name (pick t 48 0 b) 1) t) (λ _. fault zones.Begun t c d i b)
      (λ g. let n = picked t 48 0 b l g in omega arith)))

-- in a start tag
module _ (e t c : ℕ) (d : Draft) (i b : ℕ) where
  pays_tag : (x u : ℕ) → named e x + value_bytes (quote_bytes e) d.parts ≤ c → Pays (zones.InTag e) t c d i b (tag_step e x u b)
  unfolding tag_step emitted noted all_bytes value_bytes start_bytes
  pays_tag x u h =
      split (zones.InTag e) t c d i b (is_space b) (Go (Space e x) u) (cond (eqb b 62 && is_complete e x) (Open u (opens e x)) (cond (eqb b 47 && is_complete e x && may_end (opens e x)) (Go Slash u) Fault))
      (λ _. omega arith)
      (λ _. split (zones.InTag e) t c d i b (eqb b 62 && is_complete e x) (Open u (opens e x)) (cond (eqb b 47 && is_complete e x && may_end (opens e x)) (Go Slash u) Fault)
      (λ g. let f = complete e x (and_right (eqb b 62) (is_complete e x) g) in omega arith)
      (λ _. split (zones.InTag e) t c d i b (eqb b 47 && is_complete e x && may_end (opens e x)) (Go Slash u) Fault
      (λ g. let f = complete e x (and_right (eqb b 47) (is_complete e x) (and_left (eqb b 47 && is_complete e x) (may_end (opens e x)) g)) in omega arith)
      (λ _. fault (zones.InTag e) t c d i b)))

  pays_name : (k : ℕ) → t < 32 → 1 + k + spare e + value_bytes 1 d.parts ≤ c → Pays (zones.InTag e) t c d i b (name_step_at e k t b)
  unfolding name_step_at name_at emitted noted all_bytes
  pays_name k l h =
      split (zones.InTag e) t c d i b (eqb (word_byte e k) b) (Go (Name e (k + 1)) t) (cond (eqb (word_byte e k) 0 && not (is_token b)) (tag_step e 0 (after t e) b) (name_at (pick t e k b) (k + 1) t))
      (λ _. omega arith)
      (λ _. split (zones.InTag e) t c d i b (eqb (word_byte e k) 0 && not (is_token b)) (tag_step e 0 (after t e) b) (name_at (pick t e k b) (k + 1) t)
      (λ g. let n = name_ended e k (eqb-true (word_byte e k) 0 (and_left (eqb (word_byte e k) 0) (not (is_token b)) g)) in let v = values_most e d.parts in pays_tag 0 (after t e) (omega arith))
      (λ _. split (zones.InTag e) t c d i b (eqb (pick t e k b) 48) Fault (Go (Name (pick t e k b) (k + 1)) t) (λ _. fault (zones.InTag e) t c d i b)
      (λ g. let n = picked t e k b l g in omega arith)))

  pays_attribute_at : (x j k : ℕ) → named e x + 1 + value_bytes (quote_bytes e) d.parts ≤ c → Pays (zones.InTag e) t c d i b (attribute_at j k e x t)
  unfolding attribute_at emitted noted all_bytes
  pays_attribute_at x j k h = split (zones.InTag e) t c d i b (eqb j 4) Fault (Go (Attribute e x j k) t) (λ _. fault (zones.InTag e) t c d i b) (λ _. omega arith)

  pays_space : (x : ℕ) → named e x + 1 + value_bytes (quote_bytes e) d.parts ≤ c → Pays (zones.InTag e) t c d i b (space_step e x t b)
  unfolding space_step
  pays_space x h =
      split (zones.InTag e) t c d i b (is_token b) (attribute_at (pick_attribute 4 0 e x 48 0 b) 1 e x t) (tag_step e x t b) (λ _. pays_attribute_at x (pick_attribute 4 0 e x 48 0 b) 1 h)
      (λ _. pays_tag x t (omega arith))

  pays_equals : (x j : ℕ) → named e x + 2 + value_bytes (quote_bytes e) d.parts ≤ c → Pays (zones.InTag e) t c d i b (equals_step e x j t b)
  unfolding equals_step emitted noted all_bytes
  pays_equals x j h =
      split (zones.InTag e) t c d i b (is_space b) (Go (Equals e x j) t) (cond (eqb b 61) (Go (Quote e x j) t) Fault) (λ _. omega arith)
      (λ _. split (zones.InTag e) t c d i b (eqb b 61) (Go (Quote e x j) t) Fault (λ _. omega arith) (λ _. fault (zones.InTag e) t c d i b))

  pays_attribute : (x j k : ℕ) → named e x + 2 + value_bytes (quote_bytes e) d.parts ≤ c → Pays (zones.InTag e) t c d i b (attribute_step e x j k t b)
  unfolding attribute_step emitted noted all_bytes
  pays_attribute x j k h =
      split (zones.InTag e) t c d i b (eqb (word_byte (attribute e j) k) b) (Go (Attribute e x j (k + 1)) t) (cond (eqb (word_byte (attribute e j) k) 0 && not (is_token b)) (equals_step e x j t b) (attribute_at (pick_attribute 4 0 e x (attribute e j) k b) (k + 1) e x t))
      (λ _. omega arith)
      (λ _. split (zones.InTag e) t c d i b (eqb (word_byte (attribute e j) k) 0 && not (is_token b)) (equals_step e x j t b) (attribute_at (pick_attribute 4 0 e x (attribute e j) k b) (k + 1) e x t)
      (λ _. pays_equals x j h) (λ _. pays_attribute_at x (pick_attribute 4 0 e x (attribute e j) k b) (k + 1) (omega arith)))

  pays_quote : (x j : ℕ) → named e x + 3 + value_bytes (quote_bytes e) d.parts ≤ c → Pays (zones.InTag e) t c d i b (quote_step e x j t b)
  unfolding quote_step emitted noted all_bytes
  pays_quote x j h =
      split (zones.InTag e) t c d i b (is_space b) (Go (Quote e x j) t) (cond (eqb b 34 || eqb b 39) (Go (Value e x j b 0) t) Fault) (λ _. omega arith)
      (λ _. split (zones.InTag e) t c d i b (eqb b 34 || eqb b 39) (Go (Value e x j b 0) t) Fault (λ _. omega arith) (λ _. fault (zones.InTag e) t c d i b))

-- in a value
module _ (e x j t c : ℕ) (d : Draft) (i b : ℕ) (h : named e x + 4 + length d.bytes + value_bytes (quote_bytes e) d.parts ≤ c) where
  longer : length (d.bytes ++ b ∷ []) ≡ length d.bytes + 1
  longer = length-append d.bytes (b ∷ [])

  pays_value : (q v : ℕ) → Pays (zones.InValue e j) t c d i b (value_step_at e x j q v t b)
  unfolding value_step_at value_at emitted noted all_bytes
  pays_value q v =
      split (zones.InValue e j) t c d i b (eqb b q) (cond (value_ends (kind_of e j) v) (Go (Tag e (added x j)) t) Fault) (cond (eqb b 38 && eqb (kind_of e j) 0) (Go (Ampersand e x j q) t) (cond (eqb (value_step (kind_of e j) v b) 5) Fault (Go (Value e x j q (value_step (kind_of e j) v b)) t)))
      (λ _. split (zones.InValue e j) t c d i b (value_ends (kind_of e j) v) (Go (Tag e (added x j)) t) Fault
      (λ _. let s = values_snoc (quote_bytes e) d.parts (record { element = e; word = attribute e j; from = d.from; bytes = d.bytes }) in let m = bonus_most e (added x j) in omega arith)
      (λ _. fault (zones.InValue e j) t c d i b))
      (λ _. split (zones.InValue e j) t c d i b (eqb b 38 && eqb (kind_of e j) 0) (Go (Ampersand e x j q) t) (cond (eqb (value_step (kind_of e j) v b) 5) Fault (Go (Value e x j q (value_step (kind_of e j) v b)) t))
      (λ _. let l = longer in omega arith)
      (λ _. split (zones.InValue e j) t c d i b (eqb (value_step (kind_of e j) v b) 5) Fault (Go (Value e x j q (value_step (kind_of e j) v b)) t) (λ _. fault (zones.InValue e j) t c d i b)
      (λ _. let l = longer in omega arith)))

  pays_entity_at : (q w k : ℕ) → Pays (zones.InValue e j) t c d i b (entity_at w k e x j q t)
  unfolding entity_at emitted noted all_bytes
  pays_entity_at q w k =
      split (zones.InValue e j) t c d i b (eqb w 48) Fault (Go (Entity e x j q w k) t) (λ _. fault (zones.InValue e j) t c d i b) (λ _. let l = longer in omega arith)

  pays_entity : (q w k : ℕ) → Pays (zones.InValue e j) t c d i b (entity_step e x j q w k t b)
  unfolding entity_step emitted noted all_bytes
  pays_entity q w k =
      split (zones.InValue e j) t c d i b (eqb (word_byte w k) b) (Go (Entity e x j q w (k + 1)) t) (cond (eqb b 59) (cond (eqb (word_byte w k) 0) (Go (Value e x j q 0) t) Fault) (entity_at (pick 32 w k b) (k + 1) e x j q t))
      (λ _. let l = longer in omega arith)
      (λ _. split (zones.InValue e j) t c d i b (eqb b 59) (cond (eqb (word_byte w k) 0) (Go (Value e x j q 0) t) Fault) (entity_at (pick 32 w k b) (k + 1) e x j q t)
      (λ _. split (zones.InValue e j) t c d i b (eqb (word_byte w k) 0) (Go (Value e x j q 0) t) Fault (λ _. let l = longer in omega arith) (λ _. fault (zones.InValue e j) t c d i b))
      (λ _. pays_entity_at q (pick 32 w k b) (k + 1)))

-- behind the "/" of an empty-element tag
pays_slash : (t : ℕ) (d : Draft) (i b : ℕ) → Pays zones.Slash t (credit Slash t d) d i b (only 62 Content t b)
unfolding only emitted noted all_bytes value_bytes
pays_slash t d i b = split zones.Slash t (credit Slash t d) d i b (eqb b 62) (Go Content t) Fault (λ _. omega arith) (λ _. fault zones.Slash t (credit Slash t d) d i b)

pays : (p : Place) (t b i : ℕ) (d : Draft) → t < 32 → Pays (zone p) t (credit p t d) d i b (step_of p t b)
unfolding step_of emitted noted all_bytes
pays Content t b i d l = pays_content t (credit Content t d) d i b (omega arith)
pays Less t b i d l = pays_less t (credit Less t d) d i b l (omega arith)
pays Bang t b i d l = pays_only t (credit Bang t d) d i b 45 Dash (omega arith)
pays Dash t b i d l = pays_only t (credit Dash t d) d i b 45 Comment (omega arith)
pays Comment t b i d l = pays_two t (credit Comment t d) d i b (eqb b 45) CommentDash Comment (omega arith) (omega arith)
pays CommentDash t b i d l = pays_two t (credit CommentDash t d) d i b (eqb b 45) CommentEnd Comment (omega arith) (omega arith)
pays CommentEnd t b i d l = pays_only t (credit CommentEnd t d) d i b 62 Content (omega arith)
pays (Name w k) t b i d l = pays_name w t (credit (Name w k) t d) d i b k l (omega arith)
pays (Tag e x) t b i d l = pays_tag e t (credit (Tag e x) t d) d i b x t (omega arith)
pays (Space e x) t b i d l = pays_space e t (credit (Space e x) t d) d i b x (omega arith)
pays (Attribute e x j k) t b i d l = pays_attribute e t (credit (Attribute e x j k) t d) d i b x j k (omega arith)
pays (Equals e x j) t b i d l = pays_equals e t (credit (Equals e x j) t d) d i b x j (omega arith)
pays (Quote e x j) t b i d l = pays_quote e t (credit (Quote e x j) t d) d i b x j (omega arith)
pays (Value e x j q v) t b i d l = pays_value e x j t (credit (Value e x j q v) t d) d i b (omega arith) q v
pays (Ampersand e x j q) t b i d l = pays_entity_at e x j t (credit (Ampersand e x j q) t d) d i b (omega arith) q (pick 32 48 0 b) 1
pays (Entity e x j q w k) t b i d l = pays_entity e x j t (credit (Entity e x j q w k) t d) d i b (omega arith) q w k
pays Slash t b i d l = pays_slash t d i b
pays (End k) t b i d l = pays_end t (credit (End k) t d) d i b k (omega arith)
pays Close t b i d l = pays_close t (credit Close t d) d i b (omega arith)

-- ---- a text

module _ (z : Zone) (t c : ℕ) (d : Draft) (i b : ℕ) where
  left_credit : (st : List ℕ) (e : Draft) (n : ℕ) → n + value_bytes 1 e.parts ≤ c + 1 → n + credit_of (moved st Shut) e ≤ c + 1
  left_credit [] e n h = omega arith
  left_credit (u ∷ st) e n h = omega arith

  moved_pays : (st : List ℕ) (s : Step) → Pays z t c d i b s →
      all_bytes (emitted s z t (noted z (landing s) i b d)) + credit_of (moved st s) (behind s z (noted z (landing s) i b d)) ≤ c + 1
  moved_pays st Fault h = unfold emitted all_bytes in omega arith
  moved_pays st (Go p u) h = h
  moved_pays st (Open u v) h = omega arith
  moved_pays st Shut h = left_credit st (behind Shut z (noted z zones.Outside i b d)) (all_bytes (emitted Shut z t (noted z zones.Outside i b d))) h

paid : (bs : List ℕ) (s : State) (d : Draft) (i : ℕ) → Good s → all_bytes (tags_from s d i bs) ≤ length bs + credit_of s d
unfolding tags_from all_bytes
paid [] s d i g = omega arith
paid (b ∷ bs) dead d i g = omega arith
paid (b ∷ bs) (live p t st) d i g =
    by (is_char b) refl (paid bs (next (live p t st) b) (behind (step_of p t b) (zone p) (noted (zone p) (landing (step_of p t b)) i b d)) (i + 1) (unfold run in good_run (b ∷ []) (live p t st) g))
  where
    s : Step
    s = step_of p t b

    e : Draft
    e = noted (zone p) (landing s) i b d

    by : (y : Bool) → is_char b ≡ y → all_bytes (tags_from (next (live p t st) b) (behind s (zone p) e) (i + 1) bs) ≤ length bs + credit_of (next (live p t st) b) (behind s (zone p) e) →
        all_bytes (cond y (emitted s (zone p) t e ++ tags_from (next (live p t st) b) (behind s (zone p) e) (i + 1) bs) []) ≤ suc (length bs) + credit p t d
    by true q h =
        let a = bytes_append (emitted s (zone p) t e) (tags_from (next (live p t st) b) (behind s (zone p) e) (i + 1) bs) in
        let m = moved_pays (zone p) t (credit p t d) d i b st s (pays p t b i d (stack_below t st g.1)) in
        let n : next (live p t st) b ≡ moved st s = unfold next in rw q refl in
        let c = ap (λ (x : State). credit_of x (behind s (zone p) e)) n in
        omega arith
    by false q h = omega arith

-- the tags of any text
pub tags_paid : (text : List ℕ) → all_bytes (tags_of text) ≤ length text
unfolding tags_of stack_good value_bytes
tags_paid text = let h = paid text start no_draft 0 (refl, refl) in omega arith

pub text_tags : (text : List ℕ) → length (tags_of text) * 4 ≤ length text
text_tags text = let a = tags_few (tags_of text) in let b = tags_paid text in omega arith

pub text_ids : (text : List ℕ) → length (ids_of (tags_of text)) * 7 ≤ length text
text_ids text = let a = ids_few (tags_of text) in let b = tags_paid text in omega arith
