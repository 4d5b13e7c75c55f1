-- The levels and places that a text can come to, and what it is to complete a text from there.
use Rattle.std.specs.Prelude.{◌≡◌, refl, Bool, true, ◌&&◌, ◌||◌, cond, List, [], ◌∷◌, ◌++◌, ℕ, ◌≤◌, ◌<◌, eqb, leb}
use Rattle.std.proofs.Common.{ap, ◌∙◌, arith, leb-true}
use Rattle.grammar.specs.declared.Place.{Place}
use Rattle.grammar.specs.declared.Place.TheVariants.{Content, Less, Bang, Dash, Comment, CommentDash, CommentEnd, Name, Tag, Space, Attribute, Equals, Quote, Value, Ampersand, Entity, Slash, End, Close}
use Rattle.grammar.specs.Tables.{words, menus, attrs, kinds, needed, opened, owners, ends, bits, adds}
use Rattle.grammar.specs.Grammar.{is_space, is_char, is_token, word_byte, agree, follows, pick_from, pick, attribute, has, added, pick_attribute, is_complete, may_end, owner, after, opens, name_step, value_step, value_ends, kind_of, content_step, name_at, less_step, tag_step, name_step_at, attribute_at, space_step, equals_step, attribute_step, quote_step, value_at, value_step_at, entity_at, entity_step, close_step, end_step, only, step_of, State, live, next, run, accepts}
use Rattle.grammar.specs.Words.{run_append, no, and_left, and_right, AllBelow, each, until_zero, rest}

-- the level of an open element
unfoldable pub inner : ℕ → Bool
inner t = leb 2 t && leb t 31

-- what closes an open element: an initial without its transition gets one first
unfoldable fill : ℕ → List ℕ
fill t = cond (eqb t 8) (60 ∷ 116 ∷ 114 ∷ 97 ∷ 110 ∷ 115 ∷ 105 ∷ 116 ∷ 105 ∷ 111 ∷ 110 ∷ 32 ∷ 116 ∷ 97 ∷ 114 ∷ 103 ∷ 101 ∷ 116 ∷ 61 ∷ 34 ∷ 97 ∷ 34 ∷ 47 ∷ 62 ∷ []) []

unfoldable closer : ℕ → List ℕ
closer t = fill t ++ 60 ∷ 47 ∷ rest (owner t) 0 ++ 62 ∷ []

unfoldable pub everything : ℕ
unfolding words menus attrs kinds needed opened owners ends bits adds is_space is_char is_token word_byte agree follows pick_from pick attribute has added pick_attribute is_complete may_end owner after opens name_step value_step value_ends kind_of content_step name_at less_step tag_step name_step_at attribute_at space_step equals_step attribute_step quote_step value_at value_step_at entity_at entity_step close_step end_step only step_of next run accepts until_zero AllBelow rest inner fill closer
everything = 0

-- closing an open element
abbrev Closes : ℕ → Type 0
Closes t = inner t ≡ true → (u : ℕ) (st : List ℕ) → run (live Content t (u ∷ st)) (closer t) ≡ live Content u st

closes_all : AllBelow Closes 32
unfolding everything
closes_all = ((((((((((((((((((((((((((((((((refl, λ h. absurd (no h)), λ h. absurd (no h)), λ h u st. refl), λ h u st. refl), λ h u st. refl), λ h u st. refl), λ h u st. refl), λ h u st. refl), λ h u st. refl), λ h u st. refl), λ h u st. refl), λ h u st. refl), λ h u st. refl), λ h u st. refl), λ h u st. refl), λ h u st. refl), λ h u st. refl), λ h u st. refl), λ h u st. refl), λ h u st. refl), λ h u st. refl), λ h u st. refl), λ h u st. refl), λ h u st. refl), λ h u st. refl), λ h u st. refl), λ h u st. refl), λ h u st. refl), λ h u st. refl), λ h u st. refl), λ h u st. refl), λ h u st. refl)

-- the innermost level and those around it: nothing but 0 or 1 at the bottom, open elements above
unfoldable pub stack_good : ℕ → List ℕ → Bool
stack_good t [] = leb t 1
stack_good t (u ∷ st) = inner t && stack_good u st

inner_below : (t : ℕ) → inner t ≡ true → t < 32
unfolding inner
inner_below t h = let l = leb-true t 31 (and_right (leb 2 t) (leb t 31) h) in omega arith

pub stack_below : (t : ℕ) (st : List ℕ) → stack_good t st ≡ true → t < 32
unfolding stack_good
stack_below t [] h = let l = leb-true t 1 h in omega arith
stack_below t (u ∷ st) h = inner_below t (and_left (inner t) (stack_good u st) h)

closes : (t u : ℕ) (st : List ℕ) → inner t ≡ true → run (live Content t (u ∷ st)) (closer t) ≡ live Content u st
closes t u st h = each Closes 32 closes_all t (inner_below t h) h u st

-- ---- completing

pub record Completes (s : State) : Type 0 where
  pub ws : List ℕ
  pub whole : accepts (run s ws) ≡ true

pub by_way_of : (s s' : State) (xs : List ℕ) → run s xs ≡ s' → Completes s' → Completes s
by_way_of s s' xs e c =
    record { ws = xs ++ c.ws; whole = ap accepts (run_append s xs c.ws ∙ ap (λ (z : State). run z c.ws) e) ∙ c.whole }

abbrev Bottom : ℕ → Type 0
Bottom t = Completes (live Content t [])

bottoms : AllBelow Bottom 2
unfolding everything
bottoms = ((refl, record { ws = 60 ∷ 115 ∷ 99 ∷ 120 ∷ 109 ∷ 108 ∷ 47 ∷ 62 ∷ []; whole = refl }), record { ws = []; whole = refl })

pub content_completes : (t : ℕ) (st : List ℕ) → stack_good t st ≡ true → Completes (live Content t st)
unfolding stack_good
content_completes t [] h = let l = leb-true t 1 h in each Bottom 2 bottoms t (below l)
  where
    below : t ≤ 1 → t < 2
    below l = omega arith
content_completes t (u ∷ st) h =
    by_way_of (live Content t (u ∷ st)) (live Content u st) (closer t) (closes t u st (and_left (inner t) (stack_good u st) h))
    (content_completes u st (and_right (inner t) (stack_good u st) h))

-- ---- which places a text comes to

-- the element w may begin in the level t
unfoldable pub fits : ℕ → ℕ → Bool
fits t w = leb w 23 && cond (leb t 1) (eqb w 0) (leb 1 w)

unfoldable pub in_tag : ℕ → ℕ → Bool
in_tag e x = leb e 23 && leb x 15

unfoldable pub is_quote : ℕ → Bool
is_quote q = eqb q 34 || eqb q 39

abbrev pub fine : Place → ℕ → Bool
fine Content t = true
fine Less t = true
fine Bang t = true
fine Dash t = true
fine Comment t = true
fine CommentDash t = true
fine CommentEnd t = true
fine (Name w k) t = fits t w
fine (Tag e x) t = in_tag e x
fine (Space e x) t = in_tag e x
fine (Attribute e x j k) t = in_tag e x
fine (Equals e x j) t = in_tag e x
fine (Quote e x j) t = in_tag e x
fine (Value e x j q v) t = in_tag e x && is_quote q
fine (Ampersand e x j q) t = in_tag e x && is_quote q
fine (Entity e x j q w k) t = in_tag e x && is_quote q
fine Slash t = true
fine (End k) t = inner t
fine Close t = inner t
