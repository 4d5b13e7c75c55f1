-- Rules 1 and 2, part after part: the first part that fails decides, and what a later part needs is given by those before it.
use Rattle.std.specs.Prelude.{◌≡◌, Bool, true, false, List, ℕ}
use Rattle.std.proofs.Common.{◌∙◌}
use Rattle.definition.specs.Tables.{row_count, transition_count, reference_count, descriptor_count, action_count, name_count}
use Rattle.definition.specs.Rules.{each, counts_fit, sizes_fit, row_in_range, transition_in_range, reference_in_range, descriptor_in_range, action_in_range, rule1, slot_fits, id_fits, action_named, rule2}
use Rattle.laws.specs.Loops.{each_below}
use Rattle.tables.specs.Ranges.{InTables, SlotsIn}
use Rattle.rules1.specs.Ids.{Slots}

module _ (numbers names : List ℕ) (room names_room : ℕ) where
  abbrev whole : Bool
  whole = rule1 numbers names room names_room

  pub counts_decide : counts_fit numbers ≡ false → false ≡ whole
  unfolding rule1
  counts_decide a = rw a

  module _ (a : counts_fit numbers ≡ true) where
    pub sizes_decide : sizes_fit numbers names room names_room ≡ false → false ≡ whole
    unfolding rule1
    sizes_decide b = rw (a, b)

    module _ (b : sizes_fit numbers names room names_room ≡ true) where
      pub rows_decide : each (row_count numbers) (row_in_range numbers) ≡ false → false ≡ whole
      unfolding rule1
      rows_decide c = rw (a, b, c)

      module _ (c : each (row_count numbers) (row_in_range numbers) ≡ true) where
        pub transitions_decide : each (transition_count numbers) (transition_in_range numbers) ≡ false → false ≡ whole
        unfolding rule1
        transitions_decide d = rw (a, b, c, d)

        module _ (d : each (transition_count numbers) (transition_in_range numbers) ≡ true) where
          pub references_decide : each (reference_count numbers) (reference_in_range numbers) ≡ false → false ≡ whole
          unfolding rule1
          references_decide e = rw (a, b, c, d, e)

          module _ (e : each (reference_count numbers) (reference_in_range numbers) ≡ true) where
            pub descriptors_decide : each (descriptor_count numbers) (descriptor_in_range numbers) ≡ false → false ≡ whole
            unfolding rule1
            descriptors_decide f = rw (a, b, c, d, e, f)

            pub actions_decide : (r : Bool) → each (descriptor_count numbers) (descriptor_in_range numbers) ≡ true → r ≡ each (action_count numbers) (action_in_range numbers) → r ≡ whole
            unfolding rule1
            actions_decide r f g = g ∙ rw (a, b, c, d, e, f)

pub ruleset size-laws = (counts_decide, sizes_decide, rows_decide, transitions_decide, references_decide, descriptors_decide, actions_decide)

module _ (numbers names : List ℕ) where
  pub slots_decide : each (name_count numbers) (slot_fits names) ≡ false → false ≡ rule2 numbers names
  unfolding rule2
  slots_decide a = rw a

  pub slots_judged : InTables numbers → SlotsIn numbers names → each (name_count numbers) (slot_fits names) ≡ true → Slots numbers names
  slots_judged t s a = record { tables = t; slots = s; fit = each_below (slot_fits names) (name_count numbers) a }

  module _ (a : each (name_count numbers) (slot_fits names) ≡ true) where
    pub ids_decide : each (row_count numbers) (id_fits numbers names) ≡ false → false ≡ rule2 numbers names
    unfolding rule2
    ids_decide b = rw (a, b)

    pub raises_decide : (r : Bool) → each (row_count numbers) (id_fits numbers names) ≡ true → r ≡ each (action_count numbers) (action_named numbers names) → r ≡ rule2 numbers names
    unfolding rule2
    raises_decide r b c = c ∙ rw (a, b)

pub ruleset name-laws = (slots_decide, slots_judged, ids_decide, raises_decide)
