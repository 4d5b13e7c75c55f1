-- What the loops over runs of bytes answer, and that their bytes lead on inside one zone.
use Rattle.std.proofs.Math.Path.{◌≡◌, refl, sym, subst}
use Rattle.std.proofs.Common.{◌∙◌, arith}
use Rattle.std.specs.Prelude.{Bool, not, cond, ◌&&◌, ◌||◌, List, ℕ, ◌+◌, ◌-◌, ◌≤◌, ◌<◌, length}
use Rattle.std.proofs.Math.Bool.{true, false}
use Rattle.std.proofs.Math.Dec.{eqb}
use borrow.Author.Tests.{eqb-true, ne_eqb, not-false}
use Rattle.std.proofs.Math.ListN.{get_or}
use Rattle.grammar.specs.declared.Place.{Place}
use Rattle.grammar.specs.declared.Place.TheVariants.{Content, Comment, Name, Tag, Space, Attribute, Quote, Value, End}
use Rattle.grammar.specs.declared.Step.TheVariants.{Go}
use Rattle.grammar.specs.Grammar.{is_space, is_char, is_token, word_byte, attribute, owner, after, pick_attribute, kind_of, value_step, content_step, name_step_at, tag_step, space_step, attribute_at, attribute_step, equals_step, value_at, value_step_at, end_step, step_of}
use Rattle.reading.specs.declared.Zone.{Zone}
use Rattle.reading.specs.declared.Zone.TheVariants.{Outside, InTag, InValue}
use Rattle.reading.specs.Zones.{zone}
use Rattle.markup.specs.declared.leaps.Leap.{Leap}
use Rattle.markup.specs.Growth.{word_at}
use Rattle.markup.specs.Leads.{Leads, stay, on, leads_trans, Run, run_start, run_more, run_then, run_leads}

-- the part of the text that is read, and an offset in it
pub record Ends (text : List ℕ) (end i : ℕ) : Type 0 where
  pub before : i ≤ end
  pub within : end ≤ length text
  pub short : end ≤ 32768

pub record Ran (f : ℕ → Bool) (text : List ℕ) (end i j : ℕ) : Type 0 where
  pub run : Run f text i j
  pub ends : Ends text end j

-- is the answer yes, there are n bytes of the kind from i on
pub record Block (f : ℕ → Bool) (text : List ℕ) (end i n : ℕ) (all : Bool) : Type 0 where
  pub inside : all ≡ true → i + n ≤ end
  pub run : all ≡ true → Run f text i (i + n)

unfoldable pub in_comment : ℕ → Bool
in_comment b = is_char b && not (eqb b 45)

unfoldable pub is_letter : ℕ → ℕ → ℕ → Bool
is_letter w k b = eqb (word_byte w k) b && is_char b

unfoldable pub begins_name : ℕ → Bool
begins_name b = is_token b && is_char b

-- n bytes of the word w have been read before j
pub record Worded (text : List ℕ) (end w k i n j : ℕ) : Type 0 where
  pub ends : Ends text end j
  pub small : k ≤ i
  pub count : n + i ≡ k + j
  pub order : i ≤ j
  pub names : (t : ℕ) → Leads text (InTag w) (Name w k) t i (Name w n) t j
  pub attributes : (e x a t : ℕ) → attribute e a ≡ w → Leads text (InTag e) (Attribute e x a k) t i (Attribute e x a n) t j
  pub closes : (t : ℕ) → owner t ≡ w → Leads text Outside (End k) t i (End n) t j

unfoldable pub value_next : ℕ → ℕ → ℕ → ℕ → ℕ
value_next kind q v b = cond (is_char b) (cond (eqb b q || eqb b 38 && eqb kind 0) 5 (value_step kind v b)) 5

pub record Went (text : List ℕ) (end e a q v i u j : ℕ) : Type 0 where
  pub ends : Ends text end j
  pub order : i ≤ j
  pub value : (x t : ℕ) → Leads text (InValue e a) (Value e x a q v) t i (Value e x a q u) t j

pub record Leapt (text : List ℕ) (end : ℕ) (z : Zone) (p : Place) (t i : ℕ) (r : Leap) : Type 0 where
  pub ends : Ends text end r.index
  pub leads : Leads text z p t i r.place r.top r.index

pub ends_more : (text : List ℕ) (end j : ℕ) → Ends text end j → j < end → Ends text end (j + 1)
ends_more text end j e h = record { before = omega arith; within = e.within; short = e.short }

-- ---- white space and comments

module _ (f : ℕ → Bool) (text : List ℕ) (end i : ℕ) where
  pub ran_start : Ends text end i → Ran f text end i i
  ran_start e = record { run = run_start f text i; ends = e }

  pub ran_more : (j : ℕ) → Ran f text end i j → j < end → (is : Bool) → is ≡ f (get_or text j 0) → not is ≡ false → Ran f text end i (j + 1)
  ran_more j r h is e q = record { run = run_more f text i j r.run (sym e ∙ not-false is q); ends = ends_more text end j r.ends h }

  pub ran_end : (j : ℕ) → Ran f text end i j → end ≤ j → Ran f text end i end
  ran_end j r h = subst (λ (k : ℕ). Ran f text end i k) (let b = r.ends.before in omega arith) r

  pub ran_then : (j k : ℕ) → Ran f text end i j → Ran f text end j k → Ran f text end i k
  ran_then j k a b = record { run = run_then f text i j k a.run b.run; ends = b.ends }

  pub ran_block : (j : ℕ) → Ran f text end i j → (all : Bool) → Block f text end j 32 all → not all ≡ false → Ran f text end i (j + 32)
  ran_block j r all b q =
      let a = not-false all q in
      record { run = run_then f text i j (j + 32) r.run (b.run a); ends = record { before = b.inside a; within = r.ends.within; short = r.ends.short } }

  pub block_short : (j : ℕ) → Ran f text end i j → (all : Bool) → Block f text end j 32 all → not all ≡ false → j + 32 ≤ 32768
  block_short j r all b q = let n = b.inside (not-false all q) in let s = r.ends.short in omega arith

module _ (f : ℕ → Bool) (text : List ℕ) (end i n : ℕ) where
  pub block_none : Block f text end i n false
  block_none = record { inside = λ e. absurd (let z : ◌≡◌ {A = ℕ} 0 1 = cc in omega arith); run = λ e. absurd (let z : ◌≡◌ {A = ℕ} 0 1 = cc in omega arith) }

  -- the first k of the bytes are read
  pub record Blocking (k : ℕ) (all : Bool) : Type 0 where
    pub few : k ≤ n
    pub room : i + n ≤ end
    pub run : all ≡ true → Run f text i (i + k)

  pub block_start : Ends text end i → n ≤ end - i → Blocking 0 true
  block_start e h = record { few = omega arith; room = let b = e.before in omega arith; run = λ e. subst (Run f text i) (plus i) (run_start f text i) }
    where
      plus : (i : ℕ) → i ≡ i + 0
      plus i = omega arith

  pub block_more : (k : ℕ) (all is : Bool) → Blocking k all → k < n → is ≡ f (get_or text (i + k) 0) → Blocking (k + 1) (all && is)
  block_more k true is b l e = record { few = omega arith; room = b.room; run = λ q. subst (Run f text i) (plus i k) (run_more f text i (i + k) (b.run refl) (sym e ∙ q)) }
    where
      plus : (i k : ℕ) → i + k + 1 ≡ i + (k + 1)
      plus i k = omega arith
  block_more k false is b l e = record { few = omega arith; room = b.room; run = λ q. absurd (let z : ◌≡◌ {A = ℕ} 0 1 = cc in omega arith) }

  pub block_all : (k : ℕ) (all : Bool) → Blocking k all → n ≤ k → Block f text end i n all
  block_all k all b l = record { inside = λ e. b.room; run = λ e. subst (λ (m : ℕ). Run f text i (i + m)) (same b.few) (b.run e) }
    where
      same : k ≤ n → k ≡ n
      same h = omega arith

-- what holds of the four bytes holds of white space
module _ (P : ℕ → Type 0) (blank : P 32) (line : P 10) (tab : P 9) (carriage : P 13) where
  pub of_space : (b : ℕ) → is_space b ≡ true → P b
  unfolding is_space
  of_space b h = first (eqb b 32) refl
    where
      fourth : (d : Bool) → eqb b 13 ≡ d → (a : eqb b 32 ≡ false) → eqb b 10 ≡ false → eqb b 9 ≡ false → P b
      fourth true q x y z = subst P (sym (eqb-true b 13 q)) carriage
      fourth false q x y z = absurd (let n : true ≡ false = sym h ∙ rw (x, y, z, q) refl in let z2 : ◌≡◌ {A = ℕ} 0 1 = cc in omega arith)

      third : (d : Bool) → eqb b 9 ≡ d → eqb b 32 ≡ false → eqb b 10 ≡ false → P b
      third true q x y = subst P (sym (eqb-true b 9 q)) tab
      third false q x y = fourth (eqb b 13) refl x y q

      second : (d : Bool) → eqb b 10 ≡ d → eqb b 32 ≡ false → P b
      second true q x = subst P (sym (eqb-true b 10 q)) line
      second false q x = third (eqb b 9) refl x q

      first : (d : Bool) → eqb b 32 ≡ d → P b
      first true q = subst P (sym (eqb-true b 32 q)) blank
      first false q = second (eqb b 10) refl q

pub space_char : (b : ℕ) → is_space b ≡ true → is_char b ≡ true
unfolding is_char
space_char = of_space (λ b. is_char b ≡ true) refl refl refl refl

pub space_no_token : (b : ℕ) → is_space b ≡ true → is_token b ≡ false
unfolding is_token
space_no_token = of_space (λ b. is_token b ≡ false) refl refl refl refl

pub space_not_zero : (b : ℕ) → is_space b ≡ true → eqb 0 b ≡ false
space_not_zero = of_space (λ b. eqb 0 b ≡ false) refl refl refl refl

pub content_leads : (text : List ℕ) (end i j t : ℕ) → Ran is_space text end i j → Leads text Outside Content t i Content t j
unfolding step_of content_step
content_leads text end i j t r =
    run_leads is_space text Outside Content t refl space_char (λ b h. rw h refl) i j (let e = r.ends.before in let w = r.ends.within in omega arith) r.run

pub space_leads : (text : List ℕ) (end i j e x t : ℕ) → Ran is_space text end i j → Leads text (InTag e) (Space e x) t i (Space e x) t j
unfolding step_of space_step tag_step
space_leads text end i j e x t r =
    run_leads is_space text (InTag e) (Space e x) t refl space_char (λ b h. rw (space_no_token b h, h) refl) i j (let e = r.ends.before in let w = r.ends.within in omega arith) r.run

comment_char : (b : ℕ) → in_comment b ≡ true → is_char b ≡ true
unfolding in_comment
comment_char b h = left (is_char b) (not (eqb b 45)) h
  where
    left : (a b : Bool) → (a && b) ≡ true → a ≡ true
    left true b e = refl
    left false b e = e

comment_no_dash : (b : ℕ) → in_comment b ≡ true → eqb b 45 ≡ false
unfolding in_comment
comment_no_dash b h = right (is_char b) (eqb b 45) h
  where
    right : (a b : Bool) → (a && not b) ≡ true → b ≡ false
    right true true e = sym e
    right true false e = refl
    right false b e = absurd (let z : ◌≡◌ {A = ℕ} 0 1 = cc in omega arith)

pub comment_leads : (text : List ℕ) (end i j t : ℕ) → Ran in_comment text end i j → Leads text Outside Comment t i Comment t j
unfolding step_of
comment_leads text end i j t r =
    run_leads in_comment text Outside Comment t refl comment_char (λ b h. rw (comment_no_dash b h) refl) i j (let e = r.ends.before in let w = r.ends.within in omega arith) r.run

-- ---- words

pub word_start : (text : List ℕ) (end w k i : ℕ) → Ends text end i → k ≤ i → Worded text end w k i k i
word_start text end w k i e h =
    record { ends = e; small = h; count = refl; order = omega arith; names = λ t. stay; attributes = λ d x a t q. stay; closes = λ t q. stay }

module _ (text : List ℕ) (end w k i n j : ℕ) (s : Worded text end w k i n j) (more : j < end) (is : Bool) (letter : is ≡ is_letter w n (get_or text j 0)) (goes : not is ≡ false) where
  left : (a b : Bool) → (a && b) ≡ true → a ≡ true
  left true b e = refl
  left false b e = e

  right : (a b : Bool) → (a && b) ≡ true → b ≡ true
  right true b e = e
  right false b e = cc

  both : (eqb (word_byte w n) (get_or text j 0) && is_char (get_or text j 0)) ≡ true
  unfolding is_letter
  both = sym letter ∙ not-false is goes

  is_char_lem : is_char (get_or text j 0) ≡ true
  is_char_lem = right (eqb (word_byte w n) (get_or text j 0)) (is_char (get_or text j 0)) both

  same : eqb (word_byte w n) (get_or text j 0) ≡ true
  same = left (eqb (word_byte w n) (get_or text j 0)) (is_char (get_or text j 0)) both

  in_text_lem : j < length text
  in_text_lem = let l = s.ends.within in omega arith

  pub word_more : Worded text end w k i (n + 1) (j + 1)
  unfolding step_of name_step_at attribute_step end_step
  word_more =
      let c = s.count in let o = s.order in
      record {
        ends = ends_more text end j s.ends more;
        small = s.small;
        count = omega arith;
        order = omega arith;
        names = λ t. on {q' = Name w (n + 1)} {u' = t} (s.names t) (record { in_text_lem = in_text_lem; plain = is_char_lem; from_zone = refl; steps = rw same refl; to_zone = refl });
        attributes = λ d x a t q. on {q' = Attribute d x a (n + 1)} {u' = t} (s.attributes d x a t q) (record { in_text_lem = in_text_lem; plain = is_char_lem; from_zone = refl; steps = rw (q, same) refl; to_zone = refl });
        closes = λ t q. on {q' = End (n + 1)} {u' = t} (s.closes t q) (record { in_text_lem = in_text_lem; plain = is_char_lem; from_zone = refl; steps = rw (q, same) refl; to_zone = refl });
      }

pub word_done : (text : List ℕ) (end w k i n j : ℕ) → Worded text end w k i n j → end ≤ j → Worded text end w k i n end
word_done text end w k i n j s h = subst (λ (m : ℕ). Worded text end w k i n m) (let b = s.ends.before in omega arith) s

-- ---- values

pub value_done : (text : List ℕ) (end e a q v i u j : ℕ) → Went text end e a q v i u j → end ≤ j → Went text end e a q v i u end
value_done text end e a q v i u j s h = subst (λ (m : ℕ). Went text end e a q v i u m) (let b = s.ends.before in omega arith) s

pub value_start : (text : List ℕ) (end e a q v i : ℕ) → Ends text end i → Went text end e a q v i v i
value_start text end e a q v i h = record { ends = h; order = omega arith; value = λ x t. stay }

module _ (kind q v b r : ℕ) (is : r ≡ value_next kind q v b) (goes : r ≡ 5 → ⊥) where
  next_char : is_char b ≡ true
  unfolding value_next
  next_char = by (is_char b) refl
    where
      by : (c : Bool) → is_char b ≡ c → is_char b ≡ true
      by true h = h
      by false h = absurd (goes (is ∙ rw h refl))

  next_other : (eqb b q || eqb b 38 && eqb kind 0) ≡ false
  unfolding value_next
  next_other = by (eqb b q || eqb b 38 && eqb kind 0) refl
    where
      by : (c : Bool) → (eqb b q || eqb b 38 && eqb kind 0) ≡ c → (eqb b q || eqb b 38 && eqb kind 0) ≡ false
      by false h = h
      by true h = absurd (goes (is ∙ rw (next_char, h) refl))

  next_is : r ≡ value_step kind v b
  unfolding value_next
  next_is = is ∙ rw (next_char, next_other) refl

  first_no : (a c : Bool) → (a || c) ≡ false → a ≡ false
  first_no false c e = refl
  first_no true c e = e

  then_no : (a c : Bool) → (a || c) ≡ false → c ≡ false
  then_no false c e = e
  then_no true c e = absurd (let z : ◌≡◌ {A = ℕ} 0 1 = cc in omega arith)

  next_steps : (e x a t : ℕ) → kind ≡ kind_of e a → step_of (Value e x a q v) t b ≡ Go (Value e x a q r) t
  unfolding step_of value_step_at value_at
  next_steps e x a t k =
      rw (first_no (eqb b q) (eqb b 38 && eqb kind 0) next_other, sym k, then_no (eqb b q) (eqb b 38 && eqb kind 0) next_other, sym next_is, ne_eqb r 5 goes) refl

pub value_more : (text : List ℕ) (end e a q v i u j : ℕ) → Went text end e a q v i u j → j < end → (kind : ℕ) → kind ≡ kind_of e a → (r : ℕ) → r ≡ value_next kind q u (get_or text j 0) → (r ≡ 5 → ⊥) → Went text end e a q v i r (j + 1)
value_more text end e a q v i u j w h kind k r is goes =
    record {
      ends = ends_more text end j w.ends h;
      order = let o = w.order in omega arith;
      value = λ x t. on (w.value x t) (record { in_text_lem = let l = w.ends.within in omega arith; plain = next_char kind q u (get_or text j 0) r is goes; from_zone = refl; steps = next_steps kind q u (get_or text j 0) r is goes e x a t k; to_zone = refl });
    }

-- ---- leaps

and_first : (a b : Bool) → (a && b) ≡ true → a ≡ true
and_first true b e = refl
and_first false b e = e

and_then : (a b : Bool) → (a && b) ≡ true → b ≡ true
and_then true b e = e
and_then false b e = cc

module _ (text : List ℕ) (end : ℕ) where
  module _ (e x a t i w n j : ℕ) (is : w ≡ attribute e a) (s : Worded text end w 1 i n j) where
    pub attribute_stops : Leapt text end (InTag e) (Attribute e x a 1) t i (record { place = Attribute e x a n; top = t; index = j })
    attribute_stops = record { ends = s.ends; leads = s.attributes e x a t (sym is) }

    pub attribute_quote : j < end → (r : ℕ) → r ≡ word_byte w n → (eqb (get_or text j 0) 61 && eqb r 0) ≡ true →
        Leapt text end (InTag e) (Attribute e x a 1) t i (record { place = Quote e x a; top = t; index = j + 1 })
    unfolding step_of attribute_step equals_step is_space is_token is_char
    attribute_quote h r q both =
        record {
          ends = ends_more text end j s.ends h;
          leads = on {q' = Quote e x a} {u' = t} (s.attributes e x a t (sym is)) (record { in_text_lem = let l = s.ends.within in omega arith; plain = rw equals refl; from_zone = refl; steps = rw (equals, sym is, zero_so) refl; to_zone = refl });
        }
      where
        equals : get_or text j 0 ≡ 61
        equals = eqb-true (get_or text j 0) 61 (and_first (eqb (get_or text j 0) 61) (eqb r 0) both)

        zero_so : word_byte w n ≡ 0
        zero_so = sym q ∙ eqb-true r 0 (and_then (eqb (get_or text j 0) 61) (eqb r 0) both)

  module _ (e x t i j : ℕ) (s : Ran is_space text end i j) where
    pub space_stops : Leapt text end (InTag e) (Space e x) t i (record { place = Space e x; top = t; index = j })
    space_stops = record { ends = s.ends; leads = space_leads text end i j e x t s }

    pub space_name : j < end → (is : Bool) → is ≡ begins_name (get_or text j 0) → is ≡ true → (a : ℕ) → a ≡ pick_attribute 4 0 e x 48 0 (get_or text j 0) → (a ≡ 4 → ⊥) →
        (r : Leap) → Leapt text end (InTag e) (Attribute e x a 1) t (j + 1) r → Leapt text end (InTag e) (Space e x) t i r
    unfolding step_of space_step attribute_at begins_name
    space_name h is b q a p d r l =
        record {
          ends = l.ends;
          leads =
              leads_trans
              (on {q' = Attribute e x a 1} {u' = t} (space_leads text end i j e x t s)
              (record { in_text_lem = let n = s.ends.within in omega arith; plain = and_then (is_token (get_or text j 0)) (is_char (get_or text j 0)) (sym b ∙ q); from_zone = refl; steps = rw (and_first (is_token (get_or text j 0)) (is_char (get_or text j 0)) (sym b ∙ q), sym p, ne_eqb a 4 d) refl; to_zone = refl }))
              l.leads;
        }

  module _ (w k t i n j : ℕ) (s : Worded text end w k i n j) where
    pub name_stops : Leapt text end (InTag w) (Name w k) t i (record { place = Name w n; top = t; index = j })
    name_stops = record { ends = s.ends; leads = s.names t }

    pub name_space : j < end → (is : Bool) → is ≡ is_space (get_or text j 0) → (r : ℕ) → r ≡ word_byte w n → (is && eqb r 0) ≡ true → (level : ℕ) → level ≡ after t w →
        (l : Leap) → Leapt text end (InTag w) (Space w 0) level (j + 1) l → Leapt text end (InTag w) (Name w k) t i l
    unfolding step_of name_step_at tag_step
    name_space h is b r q both level v l lp =
        record {
          ends = lp.ends;
          leads =
              leads_trans
              (on {q' = Space w 0} {u' = level} (s.names t)
              (record { in_text_lem = let m = s.ends.within in omega arith; plain = space_char (get_or text j 0) space; from_zone = refl; steps = rw (zero_so, space_not_zero (get_or text j 0) space, space_no_token (get_or text j 0) space, space, v) refl; to_zone = refl }))
              lp.leads;
        }
      where
        space : is_space (get_or text j 0) ≡ true
        space = sym b ∙ and_first is (eqb r 0) both

        zero_so : word_byte w n ≡ 0
        zero_so = sym q ∙ eqb-true r 0 (and_then is (eqb r 0) both)

  module _ (e x t i : ℕ) (s : Ends text end i) where
    pub tag_stops : Leapt text end (InTag e) (Tag e x) t i (record { place = Tag e x; top = t; index = i })
    tag_stops = record { ends = s; leads = stay }

    pub tag_space : i < end → (is : Bool) → is ≡ is_space (get_or text i 0) → is ≡ true → (l : Leap) → Leapt text end (InTag e) (Space e x) t (i + 1) l → Leapt text end (InTag e) (Tag e x) t i l
    unfolding step_of tag_step
    tag_space h is b q l lp =
        record {
          ends = lp.ends;
          leads =
              leads_trans
              (on {q' = Space e x} {u' = t} stay
              (record { in_text_lem = let m = s.within in omega arith; plain = space_char (get_or text i 0) (sym b ∙ q); from_zone = refl; steps = rw (sym b ∙ q) refl; to_zone = refl }))
              lp.leads;
        }

  pub content_stops : (t i j : ℕ) → Ran is_space text end i j → Leapt text end Outside Content t i (record { place = Content; top = t; index = j })
  content_stops t i j s = record { ends = s.ends; leads = content_leads text end i j t s }

  pub comment_stops : (t i j : ℕ) → Ran in_comment text end i j → Leapt text end Outside Comment t i (record { place = Comment; top = t; index = j })
  comment_stops t i j s = record { ends = s.ends; leads = comment_leads text end i j t s }

  pub end_stops : (k t i w n j : ℕ) → w ≡ owner t → Worded text end w k i n j → Leapt text end Outside (End k) t i (record { place = End n; top = t; index = j })
  end_stops k t i w n j q s = record { ends = s.ends; leads = s.closes t (sym q) }

  pub value_stops : (e x a q v t i u j : ℕ) → Went text end e a q v i u j → Leapt text end (InValue e a) (Value e x a q v) t i (record { place = Value e x a q u; top = t; index = j })
  value_stops e x a q v t i u j s = record { ends = s.ends; leads = s.value x t }

  -- the arms
  pub leap_still : (p : Place) (t i : ℕ) → Ends text end i → Leapt text end (zone p) p t i (record { place = p; top = t; index = i })
  leap_still p t i s = record { ends = s; leads = stay }

  module _ (p : Place) (t i : ℕ) (r : Leap) where
    pub leap_content : p ≡ Content → Leapt text end Outside Content t i r → Leapt text end (zone p) p t i r
    leap_content q l = rw q l

    pub leap_comment : p ≡ Comment → Leapt text end Outside Comment t i r → Leapt text end (zone p) p t i r
    leap_comment q l = rw q l

    pub leap_name : (w k : ℕ) → p ≡ Name w k → Leapt text end (InTag w) (Name w k) t i r → Leapt text end (zone p) p t i r
    leap_name w k q l = rw q l

    pub leap_tag : (e x : ℕ) → p ≡ Tag e x → Leapt text end (InTag e) (Tag e x) t i r → Leapt text end (zone p) p t i r
    leap_tag e x q l = rw q l

    pub leap_space : (e x : ℕ) → p ≡ Space e x → Leapt text end (InTag e) (Space e x) t i r → Leapt text end (zone p) p t i r
    leap_space e x q l = rw q l

    pub leap_value : (e x a k v : ℕ) → p ≡ Value e x a k v → Leapt text end (InValue e a) (Value e x a k v) t i r → Leapt text end (zone p) p t i r
    leap_value e x a k v q l = rw q l

    pub leap_end : (k : ℕ) → p ≡ End k → Leapt text end Outside (End k) t i r → Leapt text end (zone p) p t i r
    leap_end k q l = rw q l

pub name_short : (p : Place) (w k i : ℕ) → p ≡ Name w k → word_at p ≤ i → k ≤ i
name_short p w k i q h = rw q at h

pub end_short : (p : Place) (k i : ℕ) → p ≡ End k → word_at p ≤ i → k ≤ i
end_short p k i q h = rw q at h
