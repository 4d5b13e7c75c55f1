-- What the tags of transitions, and of what stands in a row before its child rows, say when they are read back.
use Rattle.std.specs.Prelude.{◌≡◌, Bool, cond, ℕ, suc}
use Rattle.std.proofs.Math.Path.{refl}
use Rattle.std.proofs.Common.{sym, ap, ap₂, ◌∙◌}
use Rattle.std.proofs.Math.Bool.{true, false}
use mathlib.Core.List.{List, [], ◌∷◌, ◌++◌, append-nil, map}
use Rattle.std.proofs.Math.Option.{Option, none, some}
use Rattle.definition.specs.Rows.{is_empty, same, flat}
use Rattle.grammar.specs.Grammar.{attribute}
use Rattle.grammar.specs.Tables.{attrs}
use Rattle.reading.specs.Faults.{names_in, states, value_of, decoded, plain, external, internal}
use Rattle.reading.specs.Content.{Act, Row, Transition, Block, Spot, in_row, in_block, Fact, list_fact, transition_fact, action_fact, Turn, turn, act_in, row_named, rows_in, row_in}
use Rattle.reading.specs.Print.{id_of, spaced, ids_text}
use Rattle.laws.specs.Lists.{empty_list}
use Rattle.written.specs.Pieces.{Attr, parts_at}
use Rattle.written.specs.Written.{attr, start_tag, end_tag, in_text, block_pieces, element_pieces, type_attr, cond_attr, transition_attrs, transition_pieces, block_element, default_pieces}
use Rattle.written.specs.Sound.{AllOf, no_more, more, Ref, BlockFits, ConditionFits, DescriptorFits, TransitionFits}
use Rattle.written.specs.Items.{Solid, name_solid, descriptor_solid, items_spaced}
use Rattle.written.specs.Says.{Says, says_none, says_both, says_as, starts_says, shuts_says, element_says}
use Rattle.written.specs.BlockSays.{Known, in_read, block_said}

abbrev pub block : ℕ → ℕ → Block
block p i = record { part = p; owner = i }

abbrev pub acts_said : ℕ → ℕ → List Act → List Fact
acts_said p i acts = map (action_fact (block p i)) acts

-- ---- lists

descriptors_solid : (ds : List (List ℕ)) → AllOf DescriptorFits ds → AllOf Solid ds
descriptors_solid [] no_more = no_more
descriptors_solid (d ∷ ds) (more f g) = more (descriptor_solid d f) (descriptors_solid ds g)

pub descriptors_read : (ds : List (List ℕ)) → AllOf DescriptorFits ds → names_in (spaced ds) ≡ ds
descriptors_read ds f = items_spaced 0 ds (descriptors_solid ds f)

pub given_whole : (v : List ℕ) → cond (is_empty v) [] v ≡ v
unfolding is_empty
given_whole [] = refl
given_whole (b ∷ bs) = refl

type_read : (y : Bool) → same (plain (cond y internal external)) internal ≡ y
unfolding decoded same
type_read true = refl
type_read false = refl

module _ (rs : List Row) (ids : List (List ℕ)) (n : ℕ) (known : Known rs ids n) where
  names_solid : (is : List ℕ) → AllOf (Ref n) is → AllOf Solid (map (id_of rs) is)
  names_solid [] no_more = no_more
  names_solid (i ∷ is) (more f g) = more (name_solid (id_of rs i) (known.named i f)) (names_solid is g)

  rows_found : (is : List ℕ) → AllOf (Ref n) is → map (row_named ids) (map (id_of rs) is) ≡ is
  rows_found [] no_more = refl
  rows_found (i ∷ is) (more f g) = ap₂ (λ (x : ℕ) (xs : List ℕ). x ∷ xs) (known.found i f) (rows_found is g)

  pub list_names : (is : List ℕ) → AllOf (Ref n) is → names_in (ids_text rs is) ≡ map (id_of rs) is
  list_names is f = items_spaced 0 (map (id_of rs) is) (names_solid is f)

  pub rows_read : (is : List ℕ) → AllOf (Ref n) is → rows_in ids (ids_text rs is) ≡ is
  rows_read is f = ap (map (row_named ids)) (list_names is f) ∙ rows_found is f

  -- ---- transitions

  abbrev condition_read : Option ℕ → Option ℕ
  condition_read none = none
  condition_read (some x) = some (row_in ids (in_text rs x))

  condition_read_lem : (o : Option ℕ) → ConditionFits n o → condition_read o ≡ o
  condition_read_lem none f = refl
  condition_read_lem (some x) f = ap some (in_read rs ids n known x f)

  abbrev turned : ℕ → ℕ → ℕ → List (List ℕ) → Option ℕ → Bool → List ℕ → Turn
  turned i k m ds o y is =
      record { facts = transition_fact i ds o y is ∷ []; inside = in_block (record { part = 4; owner = m }); around = in_row i false; rows = k; transitions = suc m }

  -- an attribute that is there, or not
  abbrev there : Bool → ℕ → List ℕ → List Attr
  there z j v = cond z [] (attr j v ∷ [])

  module _ (i k m j : ℕ) (v w : List ℕ) where
    turn_by : (y d : Bool) (o : Option ℕ) (g : Bool) → turn ids (in_row i false) k m 6 (parts_at j 6 (type_attr y ++ (there d 1 v ++ (cond_attr rs o ++ there g 3 w)))) ≡
        turned i k m (names_in (cond d [] v)) (condition_read o) (same (plain (cond y internal external)) internal) (rows_in ids (cond g [] w))
    unfolding turn act_in parts_at attribute attrs states value_of
    turn_by true true none true = refl
    turn_by true true none false = refl
    turn_by true true (some x) true = refl
    turn_by true true (some x) false = refl
    turn_by true false none true = refl
    turn_by true false none false = refl
    turn_by true false (some x) true = refl
    turn_by true false (some x) false = refl
    turn_by false true none true = refl
    turn_by false true none false = refl
    turn_by false true (some x) true = refl
    turn_by false true (some x) false = refl
    turn_by false false none true = refl
    turn_by false false none false = refl
    turn_by false false (some x) true = refl
    turn_by false false (some x) false = refl

  turned_is : (i k m : ℕ) {ds es : List (List ℕ)} {o p : Option ℕ} {y z : Bool} {is js : List ℕ} → ds ≡ es → o ≡ p → y ≡ z → is ≡ js → turned i k m ds o y is ≡ turned i k m es p z js
  turned_is i k m {ds = ds} {es = es} {o = o} {p = p} {y = y} {z = z} {is = is} {js = js} a b c d =
      ap (λ (x : List (List ℕ)). turned i k m x o y is) a ∙ ap (λ (x : Option ℕ). turned i k m es x y is) b ∙ ap (λ (x : Bool). turned i k m es p x is) c ∙
      ap (λ (x : List ℕ). turned i k m es p z x) d

  pub transition_turn : (i k m j : ℕ) (t : Transition) → TransitionFits n t → turn ids (in_row i false) k m 6 (parts_at j 6 (transition_attrs rs t)) ≡ turned i k m t.descriptors t.condition t.internal t.targets
  transition_turn i k m j t f =
      turn_by i k m j (spaced t.descriptors) (ids_text rs t.targets) t.internal (is_empty (spaced t.descriptors)) t.condition (is_empty (ids_text rs t.targets)) ∙
      turned_is i k m (ap names_in (given_whole (spaced t.descriptors)) ∙ descriptors_read t.descriptors f.descriptors) (condition_read_lem t.condition f.condition) (type_read t.internal)
      (ap (rows_in ids) (given_whole (ids_text rs t.targets)) ∙ rows_read t.targets f.targets)

  -- a transition, the m-th of the text, says itself and its block
  abbrev pub transition_said : ℕ → ℕ → Transition → List Fact
  transition_said i m t = transition_fact i t.descriptors t.condition t.internal t.targets ∷ acts_said 4 m t.block

  pub transition_says : (i k m : ℕ) (st : List Spot) (t : Transition) → TransitionFits n t → Says ids (in_row i false ∷ st) k m (transition_pieces rs t) (transition_said i m t) (in_row i false ∷ st) k (suc m)
  unfolding transition_pieces
  transition_says i k m st t f =
      element_says (in_row i false) st k m 6 6 (transition_attrs rs t) (turned i k m t.descriptors t.condition t.internal t.targets) (λ (j : ℕ). transition_turn i k m j t f) refl refl
      (block_pieces rs false t.block) (acts_said 4 m t.block) (block_said rs ids n known (in_block (block 4 m)) (in_row i false ∷ st) k (suc m) t.block f.block)

-- so many more transitions
abbrev pub further : ℕ → List Transition → ℕ
further m [] = m
further m (t ∷ ts) = further (suc m) ts

unfoldable pub transitions_said : ℕ → ℕ → List Transition → List Fact
transitions_said i m [] = []
transitions_said i m (t ∷ ts) = (transition_fact i t.descriptors t.condition t.internal t.targets ∷ acts_said 4 m t.block) ++ transitions_said i (suc m) ts

module _ (rs : List Row) (ids : List (List ℕ)) (n : ℕ) (known : Known rs ids n) where
  pub transitions_say : (i k m : ℕ) (st : List Spot) (ts : List Transition) → AllOf (TransitionFits n) ts → Says ids (in_row i false ∷ st) k m (flat (transition_pieces rs) ts) (transitions_said i m ts) (in_row i false ∷ st) k (further m ts)
  unfolding flat transitions_said
  transitions_say i k m st [] no_more = says_none
  transitions_say i k m st (t ∷ ts) (more f g) = says_both (transition_says rs ids n known i k m st t f) (transitions_say i k (suc m) st ts g)

  -- ---- onentry, onexit

  entry_turn : (i k m j : ℕ) (w : Bool) → turn ids (in_row i w) k m 7 (parts_at j 7 []) ≡ record { facts = []; inside = in_block (block 1 i); around = in_row i w; rows = k; transitions = m }
  unfolding turn
  entry_turn i k m j w = refl

  exit_turn : (i k m j : ℕ) (w : Bool) → turn ids (in_row i w) k m 8 (parts_at j 8 []) ≡ record { facts = []; inside = in_block (block 2 i); around = in_row i w; rows = k; transitions = m }
  unfolding turn
  exit_turn i k m j w = refl

  module _ (i k m : ℕ) (w : Bool) (st : List Spot) (acts : List Act) (f : BlockFits n acts) where
    no_acts : (p : ℕ) → is_empty acts ≡ true → [] ≡ acts_said p i acts
    no_acts p e = ap (map (action_fact (block p i))) (sym (empty_list acts e))

    pub entry_says : Says ids (in_row i w ∷ st) k m (block_element rs 7 acts) (acts_said 1 i acts) (in_row i w ∷ st) k m
    entry_says = by (is_empty acts) refl
      where
        by : (z : Bool) → is_empty acts ≡ z → Says ids (in_row i w ∷ st) k m (cond z [] (element_pieces 7 7 [] (block_pieces rs false acts))) (acts_said 1 i acts) (in_row i w ∷ st) k m
        by true e = says_as (no_acts 1 e) says_none
        by false e =
            element_says (in_row i w) st k m 7 7 [] (record { facts = []; inside = in_block (block 1 i); around = in_row i w; rows = k; transitions = m }) (λ (j : ℕ). entry_turn i k m j w) refl refl
            (block_pieces rs false acts) (acts_said 1 i acts) (block_said rs ids n known (in_block (block 1 i)) (in_row i w ∷ st) k m acts f)

    pub exit_says : Says ids (in_row i w ∷ st) k m (block_element rs 8 acts) (acts_said 2 i acts) (in_row i w ∷ st) k m
    exit_says = by (is_empty acts) refl
      where
        by : (z : Bool) → is_empty acts ≡ z → Says ids (in_row i w ∷ st) k m (cond z [] (element_pieces 8 8 [] (block_pieces rs false acts))) (acts_said 2 i acts) (in_row i w ∷ st) k m
        by true e = says_as (no_acts 2 e) says_none
        by false e =
            element_says (in_row i w) st k m 8 8 [] (record { facts = []; inside = in_block (block 2 i); around = in_row i w; rows = k; transitions = m }) (λ (j : ℕ). exit_turn i k m j w) refl refl
            (block_pieces rs false acts) (acts_said 2 i acts) (block_said rs ids n known (in_block (block 2 i)) (in_row i w ∷ st) k m acts f)

  -- ---- lists

  abbrev list_turn : ℕ → ℕ → ℕ → List ℕ → Turn
  list_turn i k m is = record { facts = list_fact i is ∷ []; inside = in_block (block 3 i); around = in_row i false; rows = k; transitions = m }

  default_by : (i k m j : ℕ) (v : List ℕ) → turn ids (in_row i true) k m 6 (parts_at j 6 (attr 3 v ∷ [])) ≡ list_turn i k m (rows_in ids v)
  unfolding turn parts_at attribute attrs states value_of
  default_by i k m j v = refl

  initial_by : (i k m j : ℕ) (v : List ℕ) → turn ids (in_row i true) k m 11 (parts_at j 11 (attr 1 v ∷ [])) ≡ list_turn i k m (rows_in ids v)
  unfolding turn parts_at attribute attrs states value_of
  initial_by i k m j v = refl

  initial_turn : (i k m j : ℕ) (w : Bool) → turn ids (in_row i w) k m 5 (parts_at j 5 []) ≡ record { facts = []; inside = in_row i true; around = in_row i w; rows = k; transitions = m }
  unfolding turn
  initial_turn i k m j w = refl

  module _ (i k m : ℕ) (st : List Spot) (r : Row) (l : AllOf (Ref n) r.list) (b : BlockFits n r.block) where
    abbrev list_said : List Fact
    list_said = list_fact i r.list ∷ acts_said 3 i r.block

    pub default_says : Says ids (in_row i true ∷ st) k m (default_pieces rs 6 3 r) list_said (in_row i false ∷ st) k m
    default_says =
        element_says (in_row i true) st k m 6 6 (attr 3 (ids_text rs r.list) ∷ []) (list_turn i k m r.list)
        (λ (j : ℕ). default_by i k m j (ids_text rs r.list) ∙ ap (list_turn i k m) (rows_read rs ids n known r.list l)) refl refl (block_pieces rs false r.block) (acts_said 3 i r.block)
        (block_said rs ids n known (in_block (block 3 i)) (in_row i false ∷ st) k m r.block b)

    pub initial_says : Says ids (in_row i false ∷ st) k m (start_tag 5 [] ∷ (default_pieces rs 11 1 r ++ end_tag 5 ∷ [])) list_said (in_row i false ∷ st) k m
    initial_says =
        says_both (starts_says (in_row i false) st k m 5 [] (record { facts = []; inside = in_row i true; around = in_row i false; rows = k; transitions = m }) (λ (j : ℕ). initial_turn i k m j false))
        (says_as (append-nil list_said)
        (says_both
        (element_says (in_row i true) (in_row i false ∷ st) k m 11 6 (attr 1 (ids_text rs r.list) ∷ []) (list_turn i k m r.list)
        (λ (j : ℕ). initial_by i k m j (ids_text rs r.list) ∙ ap (list_turn i k m) (rows_read rs ids n known r.list l)) refl refl (block_pieces rs false r.block) (acts_said 3 i r.block)
        (block_said rs ids n known (in_block (block 3 i)) (in_row i false ∷ in_row i false ∷ st) k m r.block b))
        (shuts_says (in_row i false) (in_row i false ∷ st) k m 5 refl)))
