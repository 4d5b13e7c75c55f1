-- The tables that are read from what was written of an accepted chart keep rule 2: slots, ids, names of actions.
use Rattle.std.specs.Prelude.{◌≡◌, Bool, true, false, ◌&&◌, ◌||◌, cond, length, get_or}
use Rattle.std.proofs.Math.Path.{refl, ap, ap₂}
use Rattle.std.proofs.Common.{sym, ◌∙◌, subst, zero-add, arith, lt-ltb}
use Rattle.std.proofs.Math.Bool.{not}
use mathlib.Core.List.{List, [], ◌∷◌, ◌++◌, map}
use Prim.Native.Nat.{ℕ, zero, suc, ◌<◌}
use Rattle.std.proofs.Math.Dec.{eqb}
use Rattle.definition.specs.declared.Answer.TheVariants.{Done}
use Rattle.definition.specs.Rows.{from, flat, is_empty, same}
use Rattle.definition.specs.Names.{is_name, is_id}
use Rattle.definition.specs.Tables.{no_number, row_count, action_count, name_count, row_cell, id_at, name_at}
use Rattle.definition.specs.Rules.{each, slot_fits, id_fits, id_differs, action_named, rule2, keeps_rules}
use Rattle.reading.specs.Content.{Act, Row, Transition, Content}
use Rattle.reading.specs.Layout.{id_cell, row_acts, row_cells, transition_acts, numbers_of, names_of, acts_at, row_back, content}
use Rattle.laws.specs.Bools.{and_true, clash}
use Rattle.laws.specs.Maps.{map_at}
use Rattle.laws.specs.Loops.{each_below, below_each}
use Rattle.lay.specs.Sizes.{row_count_lem, name_count_lem, action_count_lem}
use Rattle.written.specs.Sound.{AllOf, no_more, more, ActFits, Shaped, RowFits, TransitionFits}
use Rattle.written.specs.Values.{all_both}
use Rattle.written.specs.Whole.{all_fit}
use Rattle.written.specs.Accepted.{count_rows}
use Rattle.written.specs.AcceptedRows.{id_parts_of, id_is}
use Rattle.written.specs.Slots.{fresh_all}
use Rattle.written.specs.Origins.{Origin}
use Rattle.written.specs.TablesBack.{ActNamed, RowNamed, acts_back}
use Rattle.written.specs.TableTransitions.{TransitionNamed}
use Rattle.written.specs.TableContent.{acts_held}
use Rattle.written.specs.ReadBack.{all_lit, descriptor_plain, descriptor_short, transitions_named, c, s, used, slots, origins, origin_fits, rows_have, transitions_speak, slots_low, tables_back}
use Rattle.written.specs.ReadNames.{Held, slots_fit_lem, actions_named}

-- ---- all actions

rows_acts : (slots : List (List ℕ)) (rs : List Row) → AllOf (RowNamed slots) rs → AllOf (ActNamed slots) (flat row_acts rs)
unfolding flat
rows_acts slots [] no_more = no_more
rows_acts slots (r ∷ rs) (more f g) = all_both f.acts_named (rows_acts slots rs g)

transitions_acts : (slots : List (List ℕ)) (ts : List Transition) → AllOf (TransitionNamed slots) ts → AllOf (ActNamed slots) (flat transition_acts ts)
unfolding flat
transitions_acts slots [] no_more = no_more
transitions_acts slots (t ∷ ts) (more f g) = all_both f.acts_named (transitions_acts slots ts g)

rows_fit_acts : (n : ℕ) (rs : List Row) → AllOf (RowFits n) rs → AllOf (ActFits n) (flat row_acts rs)
unfolding flat
rows_fit_acts n [] no_more = no_more
rows_fit_acts n (r ∷ rs) (more f g) = all_both (all_both (all_both f.entry.each f.exit.each) f.block.each) (rows_fit_acts n rs g)

transitions_fit_acts : (n : ℕ) (ts : List Transition) → AllOf (TransitionFits n) ts → AllOf (ActFits n) (flat transition_acts ts)
unfolding flat
transitions_fit_acts n [] no_more = no_more
transitions_fit_acts n (t ∷ ts) (more f g) = all_both f.block.each (transitions_fit_acts n ts g)

-- the cell of the root's id
root_cell : (slots : List (List ℕ)) (r : Row) (rs : List Row) (ts : List Transition) → id_at (numbers_of slots (record { rows = r ∷ rs; transitions = ts })) 0 ≡ id_cell slots r.id
unfolding id_at row_cell row_count numbers_of row_cells
root_cell slots r rs ts = rw (lt-ltb 0 (suc (length rs)) (omega arith))

-- what is read as a name that is not empty stands in a slot
cond_name : (z : Bool) (v w : List ℕ) → is_empty w ≡ false → cond z [] v ≡ w → (z ≡ false) × (v ≡ w)
cond_name true v w e q = absurd (clash (is_empty w) (ap (is_empty {A = ℕ}) (sym q) ∙ none) e)
  where
    none : is_empty {A = ℕ} [] ≡ true
    none = unfold is_empty in refl
cond_name false v w e q = (refl, q)

name_some : (v : List ℕ) → is_id v ≡ true → is_empty v ≡ false
unfolding is_id is_name is_empty
name_some [] h = cc
name_some (b ∷ bs) h = refl

module _ (numbers names : List ℕ) (h : keeps_rules numbers names ≡ Done) where
  abbrev pub chart : Content
  chart = c numbers names h

  abbrev pub own : List (List ℕ)
  own = slots numbers names h

  abbrev pub new_numbers : List ℕ
  new_numbers = numbers_of own chart

  abbrev pub new_names : List ℕ
  new_names = names_of own

  -- ---- slots

  held_by : (us : List (List ℕ)) → AllOf (Origin numbers names) us → AllOf Held us
  held_by [] no_more = no_more
  held_by (v ∷ us) (more o f) =
      let d = origin_fits numbers names h v o in
      more (record { fits = d; short = descriptor_short v d; lit = all_lit v (descriptor_plain v d) }) (held_by us f)

  pub held : AllOf Held own
  held = fresh_all (used numbers names h) [] no_more (held_by (used numbers names h) (origins numbers names h))

  slots_2 : each (name_count new_numbers) (slot_fits new_names) ≡ true
  slots_2 = below_each (slot_fits new_names) (name_count new_numbers) (λ (k : ℕ) (l : k < name_count new_numbers). slots_fit_lem own held k (let e = name_count_lem own chart in omega arith))

  -- ---- actions

  abbrev pub acts : List Act
  acts = flat row_acts chart.rows ++ flat transition_acts chart.transitions

  abbrev pub count : ℕ
  count = length chart.rows

  pub acts_fit : AllOf (ActFits count) acts
  acts_fit = all_both (rows_fit_acts count chart.rows (all_fit chart (s numbers names h))) (transitions_fit_acts count chart.transitions (s numbers names h).transitions_fit)

  pub acts_have : AllOf (ActNamed own) acts
  acts_have =
      all_both (rows_acts own chart.rows (rows_have numbers names h))
      (transitions_acts own chart.transitions (transitions_named own count (s numbers names h).few chart.transitions (s numbers names h).transitions_fit (transitions_speak numbers names h)))

  pub acts_read : acts_at new_numbers new_names 0 (length acts) ≡ acts
  acts_read = acts_back new_numbers own (slots_low numbers names h) acts 0 (acts_held own chart) acts_have

  actions_2 : each (action_count new_numbers) (action_named new_numbers new_names) ≡ true
  actions_2 = below_each (action_named new_numbers new_names) (action_count new_numbers) (actions_named new_numbers new_names count acts (action_count_lem own chart) acts_read acts_fit)

  -- ---- ids

  -- both tables have the same rows
  pub back_same : (i : ℕ) → i < row_count numbers → row_back new_numbers new_names i ≡ row_back numbers names i
  back_same i l =
      sym (at new_numbers new_names (subst (λ (k : ℕ). i < k) (sym (row_count_lem own chart)) (subst (λ (k : ℕ). i < k) (sym (count_rows numbers names h)) l))) ∙
      ap (λ (x : Content). get_or x.rows i past) (tables_back numbers names h) ∙ at numbers names l
    where
      past : Row
      past = record { kind = 0; parent = 0; id = []; entry = []; exit = []; list = []; block = [] }

      at : (a b : List ℕ) → i < row_count a → get_or (content a b).rows i past ≡ row_back a b i
      at a b m = shown ∙ map_at (row_back a b) (row_count a) 0 i past m ∙ ap (row_back a b) (zero-add i)
        where
          shown : get_or (content a b).rows i past ≡ get_or (map (row_back a b) (from (row_count a) 0)) i past
          shown = unfold content in refl

  pub rows_count : row_count new_numbers ≡ row_count numbers
  rows_count = row_count_lem own chart ∙ count_rows numbers names h

  -- the id of a row in both tables
  id_same : (i : ℕ) → suc i < row_count numbers → (eqb (id_at new_numbers (suc i)) no_number ≡ false) × (name_at new_names (id_at new_numbers (suc i)) ≡ name_at names (id_at numbers (suc i)))
  id_same i l =
      cond_name (eqb (id_at new_numbers (suc i)) no_number) (name_at new_names (id_at new_numbers (suc i))) (name_at names (id_at numbers (suc i))) (name_some (name_at names (id_at numbers (suc i))) (id_parts_of numbers names h i l).1)
      (sym shown ∙ ap (λ (r : Row). r.id) (back_same (suc i) l) ∙ id_is numbers names h i l)
    where
      shown : (row_back new_numbers new_names (suc i)).id ≡ cond (eqb (id_at new_numbers (suc i)) no_number) [] (name_at new_names (id_at new_numbers (suc i)))
      shown = unfold row_back id_at in refl

  differs : (i j : ℕ) → suc i < row_count numbers → j < row_count numbers → id_differs new_numbers new_names (suc i) j ≡ true
  unfolding id_differs
  differs i zero l m = refl
  differs i (suc j) l m =
      ap₂ (λ (v w : List ℕ). eqb (suc j) 0 || eqb (suc i) (suc j) || not (same v w)) (id_same i l).1 (id_same j m).1 ∙
      each_below (id_differs numbers names (suc i)) (row_count numbers) (id_parts_of numbers names h i l).2 (suc j) m

  id_2 : (i : ℕ) → i < row_count numbers → id_fits new_numbers new_names i ≡ true
  unfolding id_fits
  id_2 zero l = ap (λ (x : ℕ). eqb x no_number) (ap (λ (x : Content). id_at (numbers_of own x) 0) whole ∙ root_cell own (s numbers names h).root (s numbers names h).others chart.transitions ∙ ap (id_cell own) root_id ∙ none)
    where
      whole : chart ≡ record { rows = (s numbers names h).root ∷ (s numbers names h).others; transitions = chart.transitions }
      whole = ap (λ (l : List Row). record { rows = l; transitions = chart.transitions }) (s numbers names h).rows_are

      root_id : (s numbers names h).root.id ≡ []
      root_id = (subst (λ (k : ℕ). Shaped k (s numbers names h).root) (s numbers names h).root_kind (s numbers names h).root_fits.shaped).0

      none : id_cell own [] ≡ no_number
      none = unfold is_empty in refl
  id_2 (suc i) l =
      and_true (not (eqb (id_at new_numbers (suc i)) no_number) && is_id (name_at new_names (id_at new_numbers (suc i)))) (each (row_count new_numbers) (id_differs new_numbers new_names (suc i)))
      (and_true (not (eqb (id_at new_numbers (suc i)) no_number)) (is_id (name_at new_names (id_at new_numbers (suc i)))) (ap not (id_same i l).0) (ap is_id (id_same i l).1 ∙ (id_parts_of numbers names h i l).1))
      (below_each (id_differs new_numbers new_names (suc i)) (row_count new_numbers) (λ (j : ℕ) (m : j < row_count new_numbers). differs i j l (subst (λ (k : ℕ). j < k) rows_count m)))

  -- the tables that are read keep rule 2
  pub read_rule2 : rule2 new_numbers new_names ≡ true
  unfolding rule2
  read_rule2 =
      and_true (each (name_count new_numbers) (slot_fits new_names) && each (row_count new_numbers) (id_fits new_numbers new_names)) (each (action_count new_numbers) (action_named new_numbers new_names))
      (and_true (each (name_count new_numbers) (slot_fits new_names)) (each (row_count new_numbers) (id_fits new_numbers new_names)) slots_2
      (below_each (id_fits new_numbers new_names) (row_count new_numbers) (λ (i : ℕ) (m : i < row_count new_numbers). id_2 i (subst (λ (k : ℕ). i < k) rows_count m)))) actions_2
