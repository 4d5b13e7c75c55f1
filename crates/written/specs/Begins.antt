-- Which tags may stand where, as they are written; and the walk from an attribute's space to its value, and over an end tag. The bytes are known, so it computes.
use Rattle.std.specs.Prelude.{◌≡◌, refl, List, [], ◌∷◌, ◌++◌, ℕ, ◌+◌, length}
use Rattle.grammar.specs.declared.Place.TheVariants.{Content, Tag, Value}
use Rattle.grammar.specs.Tables.{words, menus, attrs, kinds, needed, opened, owners, ends, bits, adds}
use Rattle.grammar.specs.Grammar.{is_space, is_char, is_token, word_byte, agree, follows, pick_from, pick, attribute, has, added, pick_attribute, is_complete, may_end, owner, after, opens, name_step, value_step, value_ends, kind_of, content_step, name_at, less_step, tag_step, name_step_at, attribute_at, space_step, equals_step, attribute_step, quote_step, value_at, value_step_at, entity_at, entity_step, close_step, end_step, only, step_of, live, next, run}
use Rattle.reading.specs.Tags.{Part, closing, noted, emitted, tags_from}
use Rattle.written.specs.Pieces.{word_text, further, draft}

unfoldable pub all : ℕ
unfolding words menus attrs kinds needed opened owners ends bits adds is_space is_char is_token word_byte agree follows pick_from pick attribute has added pick_attribute is_complete may_end owner after opens name_step value_step value_ends kind_of content_step name_at less_step tag_step name_step_at attribute_at space_step equals_step attribute_step quote_step value_at value_step_at entity_at entity_step close_step end_step only step_of next run noted emitted tags_from word_text
all = 0

-- the level may hold the element: outside the root, in a row, in a state that has no initial list yet, in an initial element, in a block
pub data May : ℕ → ℕ → Type 0 where
  may_0_0 : May 0 0
  may_2_1 : May 2 1
  may_2_2 : May 2 2
  may_2_3 : May 2 3
  may_2_4 : May 2 4
  may_2_6 : May 2 6
  may_2_7 : May 2 7
  may_2_8 : May 2 8
  may_3_1 : May 3 1
  may_3_2 : May 3 2
  may_3_3 : May 3 3
  may_3_4 : May 3 4
  may_3_6 : May 3 6
  may_3_7 : May 3 7
  may_3_8 : May 3 8
  may_4_1 : May 4 1
  may_4_2 : May 4 2
  may_4_3 : May 4 3
  may_4_4 : May 4 4
  may_4_6 : May 4 6
  may_4_7 : May 4 7
  may_4_8 : May 4 8
  may_5_1 : May 5 1
  may_5_2 : May 5 2
  may_5_3 : May 5 3
  may_5_4 : May 5 4
  may_5_6 : May 5 6
  may_5_7 : May 5 7
  may_5_8 : May 5 8
  may_6_1 : May 6 1
  may_6_2 : May 6 2
  may_6_3 : May 6 3
  may_6_4 : May 6 4
  may_6_6 : May 6 6
  may_6_7 : May 6 7
  may_6_8 : May 6 8
  may_7_1 : May 7 1
  may_7_2 : May 7 2
  may_7_3 : May 7 3
  may_7_4 : May 7 4
  may_7_6 : May 7 6
  may_7_7 : May 7 7
  may_7_8 : May 7 8
  may_4_5 : May 4 5
  may_8_11 : May 8 11
  may_10_9 : May 10 9
  may_10_10 : May 10 10
  may_10_12 : May 10 12
  may_10_13 : May 10 13
  may_10_14 : May 10 14
  may_10_15 : May 10 15
  may_10_16 : May 10 16
  may_11_9 : May 11 9
  may_11_10 : May 11 10
  may_11_12 : May 11 12
  may_11_13 : May 11 13
  may_11_14 : May 11 14
  may_11_15 : May 11 15
  may_11_16 : May 11 16
  may_12_9 : May 12 9
  may_12_10 : May 12 10
  may_12_12 : May 12 12
  may_12_13 : May 12 13
  may_12_14 : May 12 14
  may_12_15 : May 12 15
  may_12_16 : May 12 16
  may_15_9 : May 15 9
  may_15_10 : May 15 10
  may_15_12 : May 15 12
  may_15_13 : May 15 13
  may_15_14 : May 15 14
  may_15_15 : May 15 15
  may_15_16 : May 15 16

-- what stands behind a name or a value in a start tag: a space, ">" or "/"
pub data Behind : ℕ → Type 0 where
  space : Behind 32
  end : Behind 62
  slash : Behind 47

-- attribute j of the element e may come behind those of the set x, as they are written
pub data Follows : ℕ → ℕ → ℕ → Type 0 where
  follows_0_0_0 : Follows 0 0 0
  follows_0_1_1 : Follows 0 1 1
  follows_0_3_2 : Follows 0 3 2
  follows_1_0_0 : Follows 1 0 0
  follows_1_1_1 : Follows 1 1 1
  follows_2_0_0 : Follows 2 0 0
  follows_3_0_0 : Follows 3 0 0
  follows_4_0_0 : Follows 4 0 0
  follows_4_1_1 : Follows 4 1 1
  follows_6_0_0 : Follows 6 0 0
  follows_6_0_1 : Follows 6 0 1
  follows_6_1_1 : Follows 6 1 1
  follows_6_0_2 : Follows 6 0 2
  follows_6_1_2 : Follows 6 1 2
  follows_6_2_2 : Follows 6 2 2
  follows_6_3_2 : Follows 6 3 2
  follows_6_0_3 : Follows 6 0 3
  follows_6_1_3 : Follows 6 1 3
  follows_6_2_3 : Follows 6 2 3
  follows_6_3_3 : Follows 6 3 3
  follows_6_4_3 : Follows 6 4 3
  follows_6_5_3 : Follows 6 5 3
  follows_6_6_3 : Follows 6 6 3
  follows_6_7_3 : Follows 6 7 3
  follows_9_0_0 : Follows 9 0 0
  follows_10_0_0 : Follows 10 0 0
  follows_11_0_1 : Follows 11 0 1
  follows_12_0_0 : Follows 12 0 0
  follows_14_0_0 : Follows 14 0 0
  follows_15_0_2 : Follows 15 0 2
  follows_15_0_0 : Follows 15 0 0
  follows_15_4_0 : Follows 15 4 0
  follows_15_1_1 : Follows 15 1 1
  follows_15_5_1 : Follows 15 5 1
  follows_16_0_0 : Follows 16 0 0

pub names : (e x j : ℕ) → Follows e x j → (t : ℕ) (st : List ℕ) (at : ℕ) (ps : List Part) (from i : ℕ) (rest : List ℕ) →
    tags_from (live (Tag e x) t st) (draft at e ps from []) i (32 ∷ (word_text (attribute e j) ++ 61 ∷ 34 ∷ rest)) ≡
    tags_from (live (Value e x j 34 0) t st) (draft at e ps (further i (3 + length (word_text (attribute e j)))) []) (further i (3 + length (word_text (attribute e j)))) rest
unfolding all
names e x j follows_0_0_0 t st at ps from i rest = refl
names e x j follows_0_1_1 t st at ps from i rest = refl
names e x j follows_0_3_2 t st at ps from i rest = refl
names e x j follows_1_0_0 t st at ps from i rest = refl
names e x j follows_1_1_1 t st at ps from i rest = refl
names e x j follows_2_0_0 t st at ps from i rest = refl
names e x j follows_3_0_0 t st at ps from i rest = refl
names e x j follows_4_0_0 t st at ps from i rest = refl
names e x j follows_4_1_1 t st at ps from i rest = refl
names e x j follows_6_0_0 t st at ps from i rest = refl
names e x j follows_6_0_1 t st at ps from i rest = refl
names e x j follows_6_1_1 t st at ps from i rest = refl
names e x j follows_6_0_2 t st at ps from i rest = refl
names e x j follows_6_1_2 t st at ps from i rest = refl
names e x j follows_6_2_2 t st at ps from i rest = refl
names e x j follows_6_3_2 t st at ps from i rest = refl
names e x j follows_6_0_3 t st at ps from i rest = refl
names e x j follows_6_1_3 t st at ps from i rest = refl
names e x j follows_6_2_3 t st at ps from i rest = refl
names e x j follows_6_3_3 t st at ps from i rest = refl
names e x j follows_6_4_3 t st at ps from i rest = refl
names e x j follows_6_5_3 t st at ps from i rest = refl
names e x j follows_6_6_3 t st at ps from i rest = refl
names e x j follows_6_7_3 t st at ps from i rest = refl
names e x j follows_9_0_0 t st at ps from i rest = refl
names e x j follows_10_0_0 t st at ps from i rest = refl
names e x j follows_11_0_1 t st at ps from i rest = refl
names e x j follows_12_0_0 t st at ps from i rest = refl
names e x j follows_14_0_0 t st at ps from i rest = refl
names e x j follows_15_0_2 t st at ps from i rest = refl
names e x j follows_15_0_0 t st at ps from i rest = refl
names e x j follows_15_4_0 t st at ps from i rest = refl
names e x j follows_15_1_1 t st at ps from i rest = refl
names e x j follows_15_5_1 t st at ps from i rest = refl
names e x j follows_16_0_0 t st at ps from i rest = refl

pub names_run : (e x j : ℕ) → Follows e x j → (t : ℕ) (st rest : List ℕ) → run (live (Tag e x) t st) (32 ∷ (word_text (attribute e j) ++ 61 ∷ 34 ∷ rest)) ≡ run (live (Value e x j 34 0) t st) rest
unfolding all
names_run e x j follows_0_0_0 t st rest = refl
names_run e x j follows_0_1_1 t st rest = refl
names_run e x j follows_0_3_2 t st rest = refl
names_run e x j follows_1_0_0 t st rest = refl
names_run e x j follows_1_1_1 t st rest = refl
names_run e x j follows_2_0_0 t st rest = refl
names_run e x j follows_3_0_0 t st rest = refl
names_run e x j follows_4_0_0 t st rest = refl
names_run e x j follows_4_1_1 t st rest = refl
names_run e x j follows_6_0_0 t st rest = refl
names_run e x j follows_6_0_1 t st rest = refl
names_run e x j follows_6_1_1 t st rest = refl
names_run e x j follows_6_0_2 t st rest = refl
names_run e x j follows_6_1_2 t st rest = refl
names_run e x j follows_6_2_2 t st rest = refl
names_run e x j follows_6_3_2 t st rest = refl
names_run e x j follows_6_0_3 t st rest = refl
names_run e x j follows_6_1_3 t st rest = refl
names_run e x j follows_6_2_3 t st rest = refl
names_run e x j follows_6_3_3 t st rest = refl
names_run e x j follows_6_4_3 t st rest = refl
names_run e x j follows_6_5_3 t st rest = refl
names_run e x j follows_6_6_3 t st rest = refl
names_run e x j follows_6_7_3 t st rest = refl
names_run e x j follows_9_0_0 t st rest = refl
names_run e x j follows_10_0_0 t st rest = refl
names_run e x j follows_11_0_1 t st rest = refl
names_run e x j follows_12_0_0 t st rest = refl
names_run e x j follows_14_0_0 t st rest = refl
names_run e x j follows_15_0_2 t st rest = refl
names_run e x j follows_15_0_0 t st rest = refl
names_run e x j follows_15_4_0 t st rest = refl
names_run e x j follows_15_1_1 t st rest = refl
names_run e x j follows_15_5_1 t st rest = refl
names_run e x j follows_16_0_0 t st rest = refl

-- an end tag of the element may stand at the level
pub data Ends : ℕ → ℕ → Type 0 where
  ends_2_0 : Ends 2 0
  ends_3_1 : Ends 3 1
  ends_4_1 : Ends 4 1
  ends_5_2 : Ends 5 2
  ends_6_3 : Ends 6 3
  ends_7_4 : Ends 7 4
  ends_9_5 : Ends 9 5
  ends_10_6 : Ends 10 6
  ends_11_7 : Ends 11 7
  ends_12_8 : Ends 12 8
  ends_15_12 : Ends 15 12

pub closes : (t e : ℕ) → Ends t e → (u : ℕ) (st : List ℕ) (at old from i : ℕ) (rest : List ℕ) →
    tags_from (live Content t (u ∷ st)) (draft at old [] from []) i (60 ∷ 47 ∷ (word_text e ++ 62 ∷ rest)) ≡
    record { at = i; shape = closing; element = e; parts = [] } ∷ tags_from (live Content u st) (draft i old [] (further i (3 + length (word_text e))) []) (further i (3 + length (word_text e))) rest
unfolding all
closes t e ends_2_0 u st at old from i rest = refl
closes t e ends_3_1 u st at old from i rest = refl
closes t e ends_4_1 u st at old from i rest = refl
closes t e ends_5_2 u st at old from i rest = refl
closes t e ends_6_3 u st at old from i rest = refl
closes t e ends_7_4 u st at old from i rest = refl
closes t e ends_9_5 u st at old from i rest = refl
closes t e ends_10_6 u st at old from i rest = refl
closes t e ends_11_7 u st at old from i rest = refl
closes t e ends_12_8 u st at old from i rest = refl
closes t e ends_15_12 u st at old from i rest = refl

pub closes_run : (t e : ℕ) → Ends t e → (u : ℕ) (st rest : List ℕ) → run (live Content t (u ∷ st)) (60 ∷ 47 ∷ (word_text e ++ 62 ∷ rest)) ≡ run (live Content u st) rest
unfolding all
closes_run t e ends_2_0 u st rest = refl
closes_run t e ends_3_1 u st rest = refl
closes_run t e ends_4_1 u st rest = refl
closes_run t e ends_5_2 u st rest = refl
closes_run t e ends_6_3 u st rest = refl
closes_run t e ends_7_4 u st rest = refl
closes_run t e ends_9_5 u st rest = refl
closes_run t e ends_10_6 u st rest = refl
closes_run t e ends_11_7 u st rest = refl
closes_run t e ends_12_8 u st rest = refl
closes_run t e ends_15_12 u st rest = refl
