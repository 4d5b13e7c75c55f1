-- No value as it is written is a fault.
use Rattle.std.specs.Prelude.{◌≡◌, true, false, ◌||◌, List, [], ◌∷◌, ◌++◌, map, ℕ, ◌≤◌, leb, ltb, length}
use Rattle.std.proofs.Math.Path.{refl}
use Rattle.std.proofs.Common.{sym, ap, ap₂, ◌∙◌, subst, arith, leb-true, le-ltb}
use Rattle.definition.specs.Rows.{same, flat}
use Rattle.definition.specs.Names.{is_name, is_descriptor, star, bare}
use Rattle.grammar.specs.Grammar.{attribute}
use Rattle.grammar.specs.Tables.{attrs}
use Rattle.reading.specs.Faults.{Item, items_at, item_bytes, decoded, is_among, long_fault, reference_fault, condition_fault, part_faults, namespace, version_text, internal, deep}
use Rattle.reading.specs.Content.{Row}
use Rattle.reading.specs.Print.{number, id_of, spaced, ids_text}
use Rattle.names.specs.Spelling.{name_short}
use Rattle.laws.specs.Bools.{and_left}
use Rattle.laws.specs.Lists.{same_self}
use Rattle.written.specs.Pieces.{Attr, part_at, parts_at, behind_attr, value_at}
use Rattle.written.specs.Written.{attr, in_text}
use Rattle.written.specs.Sound.{AllOf, no_more, more, Ref, DescriptorFits}
use Rattle.written.specs.Placed.{namespace_plain}
use Rattle.written.specs.Numbers.{digits_plain, number_fits, plain_itself}
use Rattle.written.specs.Items.{Solid, name_solid, descriptor_solid, items_spaced, in_name, in_condition}

-- the attribute of element e, wherever it stands
pub record Clean (ids : List (List ℕ)) (e : ℕ) (a : Attr) : Type 0 where
  pub clean : (i : ℕ) → part_faults ids (part_at i e a) ≡ []

pub clean_parts : (ids : List (List ℕ)) (e i : ℕ) (xs : List Attr) → AllOf (Clean ids e) xs → flat (part_faults ids) (parts_at i e xs) ≡ []
unfolding flat parts_at
clean_parts ids e i [] no_more = refl
clean_parts ids e i (a ∷ xs) (more f g) = ap₂ (λ (x y : List ℕ). x ++ y) (f.clean i) (clean_parts ids e (behind_attr i e a) xs g)

-- ---- items

pub record Short (v : List ℕ) : Type 0 where
  pub short : length v ≤ 63

-- a name of at most 63 bytes that is some row's
pub record Among (ids : List (List ℕ)) (v : List ℕ) : Type 0 where
  pub short : length v ≤ 63
  pub there : is_among v ids ≡ true

not_long : (v : List ℕ) → length v ≤ 63 → ltb 63 (length v) ≡ false
not_long v h = le-ltb 63 (length v) h

long_none : (l : List Item) → AllOf Short (map item_bytes l) → flat long_fault l ≡ []
unfolding flat
long_none [] no_more = refl
long_none (x ∷ l) (more f g) = rw (not_long x.bytes f.short) (long_none l g)

reference_none : (ids : List (List ℕ)) (l : List Item) → AllOf (Among ids) (map item_bytes l) → flat (reference_fault ids) l ≡ []
unfolding flat
reference_none ids [] no_more = refl
reference_none ids (x ∷ l) (more f g) = rw (not_long x.bytes f.short, f.there) (reference_none ids l g)

one_spaced : (v : List ℕ) → v ≡ spaced (v ∷ [])
unfolding spaced
one_spaced v = refl

name_long : (i : ℕ) (v : List ℕ) → is_name v ≡ true → flat long_fault (items_at i v) ≡ []
name_long i v h =
    long_none (items_at i v)
    (subst (AllOf Short) (sym (ap (λ (l : List ℕ). map item_bytes (items_at i l)) (one_spaced v) ∙ items_spaced i (v ∷ []) (more (name_solid v h) no_more))) (more (record { short = name_short v h }) no_more))

descriptors_solid : (ds : List (List ℕ)) → AllOf DescriptorFits ds → AllOf Solid ds
descriptors_solid [] no_more = no_more
descriptors_solid (d ∷ ds) (more f g) = more (descriptor_solid d f) (descriptors_solid ds g)

descriptors_short : (ds : List (List ℕ)) → AllOf DescriptorFits ds → AllOf Short ds
descriptors_short [] no_more = no_more
descriptors_short (d ∷ ds) (more f g) = more (record { short = leb-true (length d) 63 (and_left (leb (length d) 63) (same d star || is_name (bare d)) (unfold is_descriptor in f)) }) (descriptors_short ds g)

descriptors_long : (i : ℕ) (ds : List (List ℕ)) → AllOf DescriptorFits ds → flat long_fault (items_at i (spaced ds)) ≡ []
descriptors_long i ds f = long_none (items_at i (spaced ds)) (subst (AllOf Short) (sym (items_spaced i ds (descriptors_solid ds f))) (descriptors_short ds f))

-- ---- attributes

-- id of a row, event of a raise or a send, sendid, id of a send
pub data Named : ℕ → ℕ → Type 0 where
  state_id : Named 1 0
  parallel_id : Named 2 0
  final_id : Named 3 0
  history_id : Named 4 0
  raise_event : Named 9 0
  send_event : Named 15 0
  send_id : Named 15 2
  cancel_id : Named 16 0

-- In, of an if, an elseif or a transition
pub data Tested : ℕ → ℕ → Type 0 where
  if_cond : Tested 12 0
  elseif_cond : Tested 14 0
  transition_cond : Tested 6 2

-- lists of rows
pub data Listed : ℕ → ℕ → Type 0 where
  root_initial : Listed 0 2
  state_initial : Listed 1 1
  transition_target : Listed 6 3
  initial_target : Listed 11 1

module _ (ids : List (List ℕ)) where
  pub name_clean : (e j : ℕ) → Named e j → (v : List ℕ) → is_name v ≡ true → Clean ids e (attr j v)
  unfolding part_faults attribute attrs
  name_clean e j state_id v h = record { clean = λ (i : ℕ). name_long (value_at i 1 (attr 0 v)) v h }
  name_clean e j parallel_id v h = record { clean = λ (i : ℕ). name_long (value_at i 2 (attr 0 v)) v h }
  name_clean e j final_id v h = record { clean = λ (i : ℕ). name_long (value_at i 3 (attr 0 v)) v h }
  name_clean e j history_id v h = record { clean = λ (i : ℕ). name_long (value_at i 4 (attr 0 v)) v h }
  name_clean e j raise_event v h = record { clean = λ (i : ℕ). name_long (value_at i 9 (attr 0 v)) v h }
  name_clean e j send_event v h = record { clean = λ (i : ℕ). name_long (value_at i 15 (attr 0 v)) v h }
  name_clean e j send_id v h = record { clean = λ (i : ℕ). name_long (value_at i 15 (attr 2 v)) v h }
  name_clean e j cancel_id v h = record { clean = λ (i : ℕ). name_long (value_at i 16 (attr 0 v)) v h }

  pub events_clean : (ds : List (List ℕ)) → AllOf DescriptorFits ds → Clean ids 6 (attr 1 (spaced ds))
  unfolding part_faults attribute attrs
  events_clean ds f = record { clean = λ (i : ℕ). descriptors_long (value_at i 6 (attr 1 (spaced ds))) ds f }

  pub label_clean : (k : ℕ) → k ≤ 65535 → Clean ids 10 (attr 0 (number k))
  unfolding part_faults attribute attrs
  label_clean k h = record { clean = λ (i : ℕ). rw (plain_itself (number k) (digits_plain 10 k), number_fits k 65535 (omega arith) h) refl }

  pub delay_clean : (k : ℕ) → k ≤ 4294967295 → Clean ids 15 (attr 1 (number k))
  unfolding part_faults attribute attrs
  delay_clean k h = record { clean = λ (i : ℕ). rw (plain_itself (number k) (digits_plain 10 k), number_fits k 4294967295 (omega arith) h) refl }

  pub internal_clean : Clean ids 6 (attr 0 internal)
  unfolding part_faults attribute attrs decoded same is_among
  internal_clean = record { clean = λ (i : ℕ). refl }

  pub deep_clean : Clean ids 4 (attr 1 deep)
  unfolding part_faults attribute attrs decoded same is_among
  deep_clean = record { clean = λ (i : ℕ). refl }

  pub namespace_clean : Clean ids 0 (attr 0 namespace)
  unfolding part_faults attribute attrs
  namespace_clean = record { clean = λ (i : ℕ). rw (plain_itself namespace namespace_plain, same_self namespace) refl }

  pub version_clean : Clean ids 0 (attr 1 version_text)
  unfolding part_faults attribute attrs decoded same
  version_clean = record { clean = λ (i : ℕ). refl }

  -- In, of an if, an elseif or a transition
  condition_none : (k : ℕ) (v : List ℕ) → is_name v ≡ true → Among ids v → condition_fault ids k (73 ∷ 110 ∷ 40 ∷ 39 ∷ (v ++ 39 ∷ 41 ∷ [])) ≡ []
  condition_none k v h a = rw (in_condition v h, in_name v h, not_long v a.short, a.there) refl

  module _ (rs : List Row) (n : ℕ) (named : (i : ℕ) → Ref n i → is_name (id_of rs i) ≡ true) (among : (i : ℕ) → Ref n i → is_among (id_of rs i) ids ≡ true) where
    row_among : (i : ℕ) → Ref n i → Among ids (id_of rs i)
    row_among i r = record { short = name_short (id_of rs i) (named i r); there = among i r }

    pub in_clean : (e j : ℕ) → Tested e j → (i : ℕ) → Ref n i → Clean ids e (attr j (in_text rs i))
    unfolding part_faults attribute attrs
    in_clean e j if_cond x r = record { clean = λ (i : ℕ). condition_none (value_at i 12 (attr 0 (in_text rs x))) (id_of rs x) (named x r) (row_among x r) }
    in_clean e j elseif_cond x r = record { clean = λ (i : ℕ). condition_none (value_at i 14 (attr 0 (in_text rs x))) (id_of rs x) (named x r) (row_among x r) }
    in_clean e j transition_cond x r = record { clean = λ (i : ℕ). condition_none (value_at i 6 (attr 2 (in_text rs x))) (id_of rs x) (named x r) (row_among x r) }

    all_solid : (is : List ℕ) → AllOf (Ref n) is → AllOf Solid (map (id_of rs) is)
    all_solid [] no_more = no_more
    all_solid (i ∷ is) (more f g) = more (name_solid (id_of rs i) (named i f)) (all_solid is g)

    all_among : (is : List ℕ) → AllOf (Ref n) is → AllOf (Among ids) (map (id_of rs) is)
    all_among [] no_more = no_more
    all_among (i ∷ is) (more f g) = more (row_among i f) (all_among is g)

    references_none : (k : ℕ) (is : List ℕ) → AllOf (Ref n) is → flat (reference_fault ids) (items_at k (ids_text rs is)) ≡ []
    references_none k is f = reference_none ids (items_at k (ids_text rs is)) (subst (AllOf (Among ids)) (sym (items_spaced k (map (id_of rs) is) (all_solid is f))) (all_among is f))

    pub list_clean : (e j : ℕ) → Listed e j → (is : List ℕ) → AllOf (Ref n) is → Clean ids e (attr j (ids_text rs is))
    unfolding part_faults attribute attrs
    list_clean e j root_initial is f = record { clean = λ (i : ℕ). references_none (value_at i 0 (attr 2 (ids_text rs is))) is f }
    list_clean e j state_initial is f = record { clean = λ (i : ℕ). references_none (value_at i 1 (attr 1 (ids_text rs is))) is f }
    list_clean e j transition_target is f = record { clean = λ (i : ℕ). references_none (value_at i 6 (attr 3 (ids_text rs is))) is f }
    list_clean e j initial_target is f = record { clean = λ (i : ℕ). references_none (value_at i 11 (attr 1 (ids_text rs is))) is f }
