-- The tags of transitions, and of what stands in a row before its child rows, may stand where they are written.
use Rattle.std.specs.Prelude.{◌≡◌, Bool, cond, ℕ}
use Rattle.std.proofs.Math.Path.{refl}
use Rattle.std.proofs.Math.Bool.{true, false}
use mathlib.Core.List.{List, [], ◌∷◌, ◌++◌, map}
use Rattle.std.proofs.Math.Option.{Option, none, some}
use Rattle.std.proofs.Common.{arith}
use Rattle.definition.specs.Rows.{is_empty, flat}
use Rattle.definition.specs.Names.{is_name}
use Rattle.grammar.specs.Tables.{kinds, needed, opened, ends, bits, adds}
use Rattle.grammar.specs.Grammar.{has, added, is_complete, may_end, after, opens, kind_of}
use Rattle.reading.specs.Faults.{internal}
use Rattle.reading.specs.Content.{Act, Row, Transition}
use Rattle.reading.specs.Print.{id_of, spaced, ids_text}
use Rattle.written.specs.Pieces.{Attr}
use Rattle.written.specs.Begins.{May, may_2_1, may_3_1, may_4_1, may_5_1, may_6_1, may_7_1, may_2_2, may_3_2, may_4_2, may_5_2, may_6_2, may_7_2, may_2_3, may_3_3, may_4_3, may_5_3, may_6_3, may_7_3, may_2_4, may_3_4, may_4_4, may_5_4, may_6_4, may_7_4, may_2_6, may_3_6, may_4_6, may_5_6, may_6_6, may_7_6, may_2_7, may_3_7, may_4_7, may_5_7, may_6_7, may_7_7, may_2_8, may_3_8, may_4_8, may_5_8, may_6_8, may_7_8, may_4_5, may_8_11, follows_6_0_0, follows_6_0_1, follows_6_1_1, follows_6_0_2, follows_6_1_2, follows_6_2_2, follows_6_3_2, follows_6_0_3, follows_6_1_3, follows_6_2_3, follows_6_3_3, follows_6_4_3, follows_6_5_3, follows_6_6_3, follows_6_7_3, follows_11_0_1, ends_9_5, ends_10_6, ends_11_7, ends_12_8}
use Rattle.written.specs.Walks.{reads, Stated, none as no-attr, one}
use Rattle.written.specs.Walked.{starts, shuts, Fits, over, then, fits_both, fits_one}
use Rattle.written.specs.Written.{attr, start_tag, end_tag, given_attr, in_text, block_pieces, element_pieces, type_attr, cond_attr, transition_attrs, transition_pieces, block_element, default_pieces}
use Rattle.written.specs.Sound.{AllOf, no_more, more, Always, always, Ref, BlockFits, ConditionFits, TransitionFits}
use Rattle.written.specs.Spelt.{Plain, plain_byte}
use Rattle.written.specs.Values.{reads_free, reads_names, reads_descriptors, NameFits}
use Rattle.written.specs.Blocks.{of_transition_lem, of_entry, of_exit, in_plain, block_stands, element_stands}

-- the levels of rows, with their elements: a state that has its initial list takes no initial element
pub data RowLevel : ℕ → ℕ → Type 0 where
  in_root : RowLevel 2 0
  in_settled : RowLevel 3 1
  in_state : RowLevel 4 1
  in_parallel : RowLevel 5 2
  in_final_lem : RowLevel 6 3
  in_history : RowLevel 7 4

pub state_may : (t f : ℕ) → RowLevel t f → May t 1
state_may t f in_root = may_2_1
state_may t f in_settled = may_3_1
state_may t f in_state = may_4_1
state_may t f in_parallel = may_5_1
state_may t f in_final_lem = may_6_1
state_may t f in_history = may_7_1

pub parallel_may : (t f : ℕ) → RowLevel t f → May t 2
parallel_may t f in_root = may_2_2
parallel_may t f in_settled = may_3_2
parallel_may t f in_state = may_4_2
parallel_may t f in_parallel = may_5_2
parallel_may t f in_final_lem = may_6_2
parallel_may t f in_history = may_7_2

pub final_may : (t f : ℕ) → RowLevel t f → May t 3
final_may t f in_root = may_2_3
final_may t f in_settled = may_3_3
final_may t f in_state = may_4_3
final_may t f in_parallel = may_5_3
final_may t f in_final_lem = may_6_3
final_may t f in_history = may_7_3

pub history_may : (t f : ℕ) → RowLevel t f → May t 4
history_may t f in_root = may_2_4
history_may t f in_settled = may_3_4
history_may t f in_state = may_4_4
history_may t f in_parallel = may_5_4
history_may t f in_final_lem = may_6_4
history_may t f in_history = may_7_4

pub transition_may : (t f : ℕ) → RowLevel t f → May t 6
transition_may t f in_root = may_2_6
transition_may t f in_settled = may_3_6
transition_may t f in_state = may_4_6
transition_may t f in_parallel = may_5_6
transition_may t f in_final_lem = may_6_6
transition_may t f in_history = may_7_6

pub entry_may : (t f : ℕ) → RowLevel t f → May t 7
entry_may t f in_root = may_2_7
entry_may t f in_settled = may_3_7
entry_may t f in_state = may_4_7
entry_may t f in_parallel = may_5_7
entry_may t f in_final_lem = may_6_7
entry_may t f in_history = may_7_7

pub exit_may : (t f : ℕ) → RowLevel t f → May t 8
exit_may t f in_root = may_2_8
exit_may t f in_settled = may_3_8
exit_may t f in_state = may_4_8
exit_may t f in_parallel = may_5_8
exit_may t f in_final_lem = may_6_8
exit_may t f in_history = may_7_8

unfoldable all : ℕ
unfolding kinds needed opened ends bits adds has added is_complete may_end after opens kind_of
all = 0

pub stated_both : {e x y z : ℕ} {xs ys : List Attr} → Stated e x xs y → Stated e y ys z → Stated e x (xs ++ ys) z
stated_both no-attr g = g
stated_both (one f v s) g = one f v (stated_both s g)

-- ---- the attributes of a transition, each behind any of those before it

data One : ℕ → Type 0 where
  one_0 : One 0
  one_1 : One 1

data Two : ℕ → Type 0 where
  two_0 : Two 0
  two_1 : Two 1
  two_2 : Two 2
  two_3 : Two 3

data Three : ℕ → Type 0 where
  three_0 : Three 0
  three_1 : Three 1
  three_2 : Three 2
  three_3 : Three 3
  three_4 : Three 4
  three_5 : Three 5
  three_6 : Three 6
  three_7 : Three 7

-- the set of attributes behind these
record Leads (P : ℕ → Type 0) (x : ℕ) (xs : List Attr) : Type 0 where
  pub set : ℕ
  pub among : P set
  pub stated : Stated 6 x xs set

abbrev Any : ℕ → Type 0
Any x = Always

internal_plain : AllOf Plain internal
internal_plain =
    (more (plain_byte 105 (omega arith) (omega arith) (λ e. omega arith))
    (more (plain_byte 110 (omega arith) (omega arith) (λ e. omega arith))
    (more (plain_byte 116 (omega arith) (omega arith) (λ e. omega arith))
    (more (plain_byte 101 (omega arith) (omega arith) (λ e. omega arith))
    (more (plain_byte 114 (omega arith) (omega arith) (λ e. omega arith))
    (more (plain_byte 110 (omega arith) (omega arith) (λ e. omega arith))
    (more (plain_byte 97 (omega arith) (omega arith) (λ e. omega arith))
    (more (plain_byte 108 (omega arith) (omega arith) (λ e. omega arith))
    no_more))))))))

type_leads : (y : Bool) → Leads One 0 (type_attr y)
unfolding all
type_leads true = record { set = 1; among = one_1; stated = one follows_6_0_0 (reads_free internal internal_plain) no-attr }
type_leads false = record { set = 0; among = one_0; stated = no-attr }

event_leads : (x : ℕ) → One x → (v : List ℕ) → (is_empty v ≡ false → reads 3 0 v ≡ true) → Leads Two x (given_attr 1 v)
unfolding all
event_leads x o v r = by x o (is_empty v) refl
  where
    by : (x : ℕ) → One x → (z : Bool) → is_empty v ≡ z → Leads Two x (cond z [] (attr 1 v ∷ []))
    by x one_0 true e = record { set = 0; among = two_0; stated = no-attr }
    by x one_1 true e = record { set = 1; among = two_1; stated = no-attr }
    by x one_0 false e = record { set = 2; among = two_2; stated = one follows_6_0_1 (r e) no-attr }
    by x one_1 false e = record { set = 3; among = two_3; stated = one follows_6_1_1 (r e) no-attr }

module _ (rs : List Row) (n : ℕ) (named : (i : ℕ) → Ref n i → is_name (id_of rs i) ≡ true) where
  cond_leads : (x : ℕ) → Two x → (o : Option ℕ) → ConditionFits n o → Leads Three x (cond_attr rs o)
  unfolding all
  cond_leads x two_0 none f = record { set = 0; among = three_0; stated = no-attr }
  cond_leads x two_1 none f = record { set = 1; among = three_1; stated = no-attr }
  cond_leads x two_2 none f = record { set = 2; among = three_2; stated = no-attr }
  cond_leads x two_3 none f = record { set = 3; among = three_3; stated = no-attr }
  cond_leads x two_0 (some i) f = record { set = 4; among = three_4; stated = one follows_6_0_2 (reads_free (in_text rs i) (in_plain (id_of rs i) (named i f))) no-attr }
  cond_leads x two_1 (some i) f = record { set = 5; among = three_5; stated = one follows_6_1_2 (reads_free (in_text rs i) (in_plain (id_of rs i) (named i f))) no-attr }
  cond_leads x two_2 (some i) f = record { set = 6; among = three_6; stated = one follows_6_2_2 (reads_free (in_text rs i) (in_plain (id_of rs i) (named i f))) no-attr }
  cond_leads x two_3 (some i) f = record { set = 7; among = three_7; stated = one follows_6_3_2 (reads_free (in_text rs i) (in_plain (id_of rs i) (named i f))) no-attr }

target_leads : (x : ℕ) → Three x → (v : List ℕ) → (is_empty v ≡ false → reads 2 0 v ≡ true) → Leads Any x (given_attr 3 v)
unfolding all
target_leads x o v r = by x o (is_empty v) refl
  where
    by : (x : ℕ) → Three x → (z : Bool) → is_empty v ≡ z → Leads Any x (cond z [] (attr 3 v ∷ []))
    by x o true e = record { set = x; among = always; stated = no-attr }
    by x three_0 false e = record { set = 8; among = always; stated = one follows_6_0_3 (r e) no-attr }
    by x three_1 false e = record { set = 9; among = always; stated = one follows_6_1_3 (r e) no-attr }
    by x three_2 false e = record { set = 10; among = always; stated = one follows_6_2_3 (r e) no-attr }
    by x three_3 false e = record { set = 11; among = always; stated = one follows_6_3_3 (r e) no-attr }
    by x three_4 false e = record { set = 12; among = always; stated = one follows_6_4_3 (r e) no-attr }
    by x three_5 false e = record { set = 13; among = always; stated = one follows_6_5_3 (r e) no-attr }
    by x three_6 false e = record { set = 14; among = always; stated = one follows_6_6_3 (r e) no-attr }
    by x three_7 false e = record { set = 15; among = always; stated = one follows_6_7_3 (r e) no-attr }

spaced_some : (ns : List (List ℕ)) → is_empty (spaced ns) ≡ false → is_empty ns ≡ false
unfolding is_empty spaced
spaced_some [] h = h
spaced_some (n ∷ ns) h = refl

map_some : (rs : List Row) (is : List ℕ) → is_empty is ≡ false → is_empty (map (id_of rs) is) ≡ false
unfolding is_empty
map_some rs [] h = h
map_some rs (i ∷ is) h = refl

module _ (rs : List Row) (n : ℕ) (named : (i : ℕ) → Ref n i → is_name (id_of rs i) ≡ true) where
  pub ids_named : (is : List ℕ) → AllOf (Ref n) is → AllOf NameFits (map (id_of rs) is)
  ids_named [] no_more = no_more
  ids_named (i ∷ is) (more f g) = more (named i f) (ids_named is g)

  pub ids_read : (is : List ℕ) → AllOf (Ref n) is → is_empty (ids_text rs is) ≡ false → reads 2 0 (ids_text rs is) ≡ true
  ids_read is f h = reads_names (map (id_of rs) is) (spaced_some (map (id_of rs) is) h) (ids_named is f)

  transition_leads : (t : Transition) → TransitionFits n t → Leads Any 0 (transition_attrs rs t)
  transition_leads t f =
      let a = type_leads t.internal in
      let b = event_leads a.set a.among (spaced t.descriptors) (λ h. reads_descriptors t.descriptors (spaced_some t.descriptors h) f.descriptors) in
      let c = cond_leads rs n named b.set b.among t.condition f.condition in
      let d = target_leads c.set c.among (ids_text rs t.targets) (λ h. ids_read t.targets f.targets h) in
      record { set = d.set; among = always; stated = stated_both a.stated (stated_both b.stated (stated_both c.stated d.stated)) }

  pub transition_stands : (t e : ℕ) (st : List ℕ) → RowLevel t e → (x : Transition) → TransitionFits n x → Fits t st (transition_pieces rs x) t st
  unfolding all transition_pieces
  transition_stands t e st l x f =
      let a = transition_leads x f in
      element_stands t 6 6 a.set st (transition_attrs rs x) (block_pieces rs false x.block) (transition_may t e l) a.stated refl refl ends_10_6
      (block_stands rs n named 10 (t ∷ st) of_transition_lem x.block f.block)

  pub transitions_stand : (t e : ℕ) (st : List ℕ) → RowLevel t e → (xs : List Transition) → AllOf (TransitionFits n) xs → Fits t st (flat (transition_pieces rs) xs) t st
  unfolding flat
  transitions_stand t e st l [] no_more = over
  transitions_stand t e st l (x ∷ xs) (more f g) = fits_both (transition_stands t e st l x f) (transitions_stand t e st l xs g)

  -- ---- onentry, onexit

  pub entry_stands : (t e : ℕ) (st : List ℕ) → RowLevel t e → (acts : List Act) → BlockFits n acts → Fits t st (block_element rs 7 acts) t st
  unfolding all
  entry_stands t e st l acts f = by (is_empty acts)
    where
      by : (z : Bool) → Fits t st (cond z [] (element_pieces 7 7 [] (block_pieces rs false acts))) t st
      by true = over
      by false = element_stands t 7 7 0 st [] (block_pieces rs false acts) (entry_may t e l) no-attr refl refl ends_11_7 (block_stands rs n named 11 (t ∷ st) of_entry acts f)

  pub exit_stands : (t e : ℕ) (st : List ℕ) → RowLevel t e → (acts : List Act) → BlockFits n acts → Fits t st (block_element rs 8 acts) t st
  unfolding all
  exit_stands t e st l acts f = by (is_empty acts)
    where
      by : (z : Bool) → Fits t st (cond z [] (element_pieces 8 8 [] (block_pieces rs false acts))) t st
      by true = over
      by false = element_stands t 8 8 0 st [] (block_pieces rs false acts) (exit_may t e l) no-attr refl refl ends_12_8 (block_stands rs n named 12 (t ∷ st) of_exit acts f)

  -- ---- lists

  -- a list that is not empty, as it is written
  pub list_read : (is : List ℕ) → AllOf (Ref n) is → is_empty is ≡ false → reads 2 0 (ids_text rs is) ≡ true
  list_read is f h = reads_names (map (id_of rs) is) (map_some rs is h) (ids_named is f)

  -- the default transition of a history
  pub default_stands : (st : List ℕ) (r : Row) → is_empty r.list ≡ false → AllOf (Ref n) r.list → BlockFits n r.block → Fits 7 st (default_pieces rs 6 3 r) 7 st
  unfolding all
  default_stands st r h f g =
      element_stands 7 6 6 8 st (attr 3 (ids_text rs r.list) ∷ []) (block_pieces rs false r.block) may_7_6 (one follows_6_0_3 (list_read r.list f h) no-attr) refl refl ends_10_6
      (block_stands rs n named 10 (7 ∷ st) of_transition_lem r.block g)

  -- the initial element of a state
  pub initial_stands : (st : List ℕ) (r : Row) → is_empty r.list ≡ false → AllOf (Ref n) r.list → BlockFits n r.block →
      Fits 4 st (start_tag 5 [] ∷ (default_pieces rs 11 1 r ++ end_tag 5 ∷ [])) 3 st
  unfolding all
  initial_stands st r h f g =
      then (starts {y = 0} may_4_5 no-attr refl)
      (fits_both
      (element_stands 8 11 6 2 (3 ∷ st) (attr 1 (ids_text rs r.list) ∷ []) (block_pieces rs false r.block) may_8_11 (one follows_11_0_1 (list_read r.list f h) no-attr) refl refl ends_10_6
      (block_stands rs n named 10 (9 ∷ 3 ∷ st) of_transition_lem r.block g))
      (fits_one (shuts ends_9_5)))
