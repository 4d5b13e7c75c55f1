-- Actions as four cells.
use Rattle.std.specs.Prelude.{◌≡◌, Bool, ℕ, ◌≤◌, length}
use Rattle.std.proofs.Math.Path.{refl, sym, ap}
use Rattle.std.proofs.Common.{subst, ◌∙◌, arith}
use Rattle.std.proofs.Math.Bool.{true, false, cond}
use mathlib.Core.List.{List, [], ◌∷◌, ◌++◌}
use Rattle.std.proofs.Math.Option.{none, some}
use borrow.Author.Tests.{ne_eqb}
use Rattle.definition.specs.Rows.{flat}
use Rattle.reading.specs.Tags.{Part}
use Rattle.reading.specs.Faults.{plain, decimal, part_faults, states, value_of, id_word, event_word, delay_word}
use Rattle.reading.specs.Content.{sends, place_of, row_in, act_in}
use Rattle.reading.specs.Layout.{act_cells}
use Rattle.tags.specs.Cells.{stated_in, Stated}
use Rattle.attribute.specs.Laws.{value_at_lem}
use Rattle.values.specs.Ids.{ids_from, Noted}
use Rattle.bins.specs.Binned.{Item}
use Rattle.items.specs.Items.{under}
use Rattle.walks.specs.declared.plan.Plan.{Plan}
use Rattle.walks.specs.declared.name_items.Filing.{Filing}
use Rattle.walks.specs.declared.acts.ActCells.{ActCells}
use Rattle.walks.specs.Filed.{one, Fileable, FiledBy, fileable_first, fileable_rest, filed_both}
use Rattle.walks.specs.Told.{value_at, word_room, PlaceRoom, DecimalRoom, CondAtRoom, label_room, delay_room, condition_room}
use Rattle.walks.specs.declared.plan.Pass.{Pass}

abbrev pub with_first : ℕ → ℕ → ActCells
with_first what first = record { what = what; first = first; second = 0; third = 0 }

abbrev pub four_of : ActCells → List ℕ
four_of a = a.what ∷ a.first ∷ a.second ∷ a.third ∷ []

-- ---- what a tag says

pub record ActRoom (text cells ids slots : List ℕ) (p : Plan) : Type 0 where
  pub short : length text ≤ 32768
  pub ids_noted : Noted text ids p.ids
  pub slots_noted : Noted text slots p.slots
  pub parts : List Part
  pub stated : Stated text cells parts
  pub clean : flat (part_faults (ids_from text ids p.ids 0)) parts ≡ []

pub record ActIs (text cells ids slots : List ℕ) (p : Plan) (e : ℕ) (r : ActCells) : Type 0 where
  pub is : (ps : List Part) → Stated text cells ps → four_of r ≡ act_cells (ids_from text slots p.slots 0) (act_in (ids_from text ids p.ids 0) e ps)

module _ (text cells ids slots : List ℕ) (p : Plan) where
  module _ (h : ActRoom text cells ids slots p) where
    pub act_event : PlaceRoom text cells slots p.slots 29
    act_event = record { word = word_room text cells 29 h.parts h.stated h.short (omega arith) (omega arith); noted = h.slots_noted }

    pub act_sendid : PlaceRoom text cells slots p.slots 34
    act_sendid = record { word = word_room text cells 34 h.parts h.stated h.short (omega arith) (omega arith); noted = h.slots_noted }

    pub act_id : PlaceRoom text cells slots p.slots 26
    act_id = record { word = word_room text cells 26 h.parts h.stated h.short (omega arith) (omega arith); noted = h.slots_noted }

    pub act_label : DecimalRoom text cells 32 65535
    act_label = label_room text cells ids p.ids h.parts h.short h.stated h.clean

    pub act_delay : DecimalRoom text cells 33 4294967295
    act_delay = delay_room text cells ids p.ids h.parts h.short h.stated h.clean

    pub act_cond : CondAtRoom text cells ids p.ids
    act_cond = condition_room text cells ids p.ids h.parts h.short h.stated h.clean h.ids_noted

  abbrev ids_here : List (List ℕ)
  ids_here = ids_from text ids p.ids 0

  abbrev slots_here : List (List ℕ)
  slots_here = ids_from text slots p.slots 0

  module _ (e : ℕ) where
    at : (k : ℕ) (r : ActCells) → e ≡ k → ActIs text cells ids slots p k r → ActIs text cells ids slots p e r
    at k r q a = subst (λ (d : ℕ). ActIs text cells ids slots p d r) (sym q) a

    pub is_raise : (x : ℕ) (r : ActCells) → e ≡ 9 → x ≡ place_of (value_at text cells 29) slots_here → r ≡ with_first 0 x → ActIs text cells ids slots p e r
    unfolding act_in
    is_raise x r q a b =
        at 9 r q
        (record { is = λ ps h. ap four_of b ∙ ap (λ (v : ℕ). 0 ∷ v ∷ 0 ∷ 0 ∷ []) (a ∙ ap (λ (v : List ℕ). place_of v slots_here) (value_at_lem text cells 29 ps h (omega arith) (omega arith))) })

    pub is_log : (x : ℕ) (r : ActCells) → e ≡ 10 → x ≡ decimal (plain (value_at text cells 32)) → r ≡ with_first 1 x → ActIs text cells ids slots p e r
    unfolding act_in
    is_log x r q a b =
        at 10 r q
        (record { is = λ ps h. ap four_of b ∙ ap (λ (v : ℕ). 1 ∷ v ∷ 0 ∷ 0 ∷ []) (a ∙ ap (λ (v : List ℕ). decimal (plain v)) (value_at_lem text cells 32 ps h (omega arith) (omega arith))) })

    pub is_if_lem : (x : ℕ) (r : ActCells) → e ≡ 12 → x ≡ row_in ids_here (value_at text cells 30) → r ≡ with_first 2 x → ActIs text cells ids slots p e r
    unfolding act_in
    is_if_lem x r q a b =
        at 12 r q
        (record { is = λ ps h. ap four_of b ∙ ap (λ (v : ℕ). 2 ∷ v ∷ 0 ∷ 0 ∷ []) (a ∙ ap (row_in ids_here) (value_at_lem text cells 30 ps h (omega arith) (omega arith))) })

    pub is_elseif : (x : ℕ) (r : ActCells) → e ≡ 14 → x ≡ row_in ids_here (value_at text cells 30) → r ≡ with_first 3 x → ActIs text cells ids slots p e r
    unfolding act_in
    is_elseif x r q a b =
        at 14 r q
        (record { is = λ ps h. ap four_of b ∙ ap (λ (v : ℕ). 3 ∷ v ∷ 0 ∷ 0 ∷ []) (a ∙ ap (row_in ids_here) (value_at_lem text cells 30 ps h (omega arith) (omega arith))) })

    pub is_else : (r : ActCells) → e ≡ 13 → r ≡ with_first 4 0 → ActIs text cells ids slots p e r
    unfolding act_in
    is_else r q b = at 13 r q (record { is = λ ps h. ap four_of b })

    pub is_send : (x y z : ℕ) → e ≡ 15 → x ≡ place_of (value_at text cells 29) slots_here → y ≡ decimal (plain (value_at text cells 33)) →
        z ≡ cond (stated_in cells 26) (place_of (value_at text cells 26) slots_here) 65535 → ActIs text cells ids slots p e (record { what = 6; first = x; second = y; third = z })
    unfolding act_in
    is_send x y z q a b c =
        at 15 (record { what = 6; first = x; second = y; third = z }) q
        (record {
          is = λ ps h.
              let i : x ≡ place_of (value_of event_word ps) slots_here = a ∙ ap (λ (v : List ℕ). place_of v slots_here) (value_at_lem text cells 29 ps h (omega arith) (omega arith)) in
              let j : y ≡ decimal (plain (value_of delay_word ps)) = b ∙ ap (λ (v : List ℕ). decimal (plain v)) (value_at_lem text cells 33 ps h (omega arith) (omega arith)) in
              let k : z ≡ cond (states id_word ps) (place_of (value_of id_word ps) slots_here) 65535 =
              c ∙ ap (λ (s : Bool). cond s (place_of (value_at text cells 26) slots_here) 65535) (h.there 26 (omega arith) (omega arith)) ∙
              ap (λ (v : List ℕ). cond (states id_word ps) (place_of v slots_here) 65535) (value_at_lem text cells 26 ps h (omega arith) (omega arith)) in
              ap (λ (n : ℕ). 6 ∷ n ∷ y ∷ z ∷ []) i ∙ ap (λ (n : ℕ). 6 ∷ place_of (value_of event_word ps) slots_here ∷ n ∷ z ∷ []) j ∙
              by (place_of (value_of event_word ps) slots_here) (decimal (plain (value_of delay_word ps))) (value_of id_word ps) (value_of event_word ps) (states id_word ps) k refl;
        })
      where
        by : (n d : ℕ) (i v : List ℕ) (s : Bool) → z ≡ cond s (place_of i slots_here) 65535 → n ≡ place_of v slots_here →
            6 ∷ n ∷ d ∷ z ∷ [] ≡ act_cells slots_here (sends v d (cond s (some i) none))
        by n d i v true k m = ap (λ (x : ℕ). 6 ∷ n ∷ d ∷ x ∷ []) k ∙ ap (λ (x : ℕ). 6 ∷ x ∷ d ∷ place_of i slots_here ∷ []) m
        by n d i v false k m = ap (λ (x : ℕ). 6 ∷ n ∷ d ∷ x ∷ []) k ∙ ap (λ (x : ℕ). 6 ∷ x ∷ d ∷ 65535 ∷ []) m

    pub is_cancel : (x : ℕ) (r : ActCells) → (e ≡ 9 → ⊥) → (e ≡ 10 → ⊥) → (e ≡ 12 → ⊥) → (e ≡ 14 → ⊥) → (e ≡ 13 → ⊥) → (e ≡ 15 → ⊥) →
        x ≡ place_of (value_at text cells 34) slots_here → r ≡ with_first 7 x → ActIs text cells ids slots p e r
    unfolding act_in
    is_cancel x r f9 f10 f12 f14 f13 f15 a b =
        record {
          is = λ ps h.
              ap four_of b ∙ ap (λ (v : ℕ). 7 ∷ v ∷ 0 ∷ 0 ∷ []) (a ∙ ap (λ (v : List ℕ). place_of v slots_here) (value_at_lem text cells 34 ps h (omega arith) (omega arith))) ∙
              sym (rw (ne_eqb e 9 f9, ne_eqb e 10 f10, ne_eqb e 12 f12, ne_eqb e 14 f14, ne_eqb e 13 f13, ne_eqb e 15 f15) refl);
        }

-- ---- four items

pub record FileActRoom (out next : List ℕ) (f : Filing) (a : ActCells) : Type 0 where
  pub able : Fileable f.bins f.pass out next (under f.key (four_of a))

module _ (bins : ℕ) (pass : Pass) (key : ℕ) (a : ActCells) where
  abbrev fourth : List Item
  fourth = one key a.third

  abbrev thirds : List Item
  thirds = one key a.second ++ fourth

  abbrev seconds : List Item
  seconds = one key a.first ++ thirds

  all_four : under key (four_of a) ≡ one key a.what ++ seconds
  unfolding under
  all_four = refl

  module _ (out next : List ℕ) (h : Fileable bins pass out next (under key (four_of a))) where
    first_able : Fileable bins pass out next (one key a.what ++ seconds)
    first_able = subst (λ (l : List Item). Fileable bins pass out next l) all_four h

    pub act_first : Fileable bins pass out next (one key a.what)
    act_first = fileable_first bins pass out next (one key a.what) seconds first_able

    module _ (out1 next1 : List ℕ) (b1 : FiledBy bins pass out out1 next next1 (one key a.what)) where
      second_able : Fileable bins pass out1 next1 seconds
      second_able = fileable_rest bins pass out next (one key a.what) seconds first_able out1 next1 b1

      pub act_second : Fileable bins pass out1 next1 (one key a.first)
      act_second = fileable_first bins pass out1 next1 (one key a.first) thirds second_able

      module _ (out2 next2 : List ℕ) (b2 : FiledBy bins pass out1 out2 next1 next2 (one key a.first)) where
        third_able : Fileable bins pass out2 next2 thirds
        third_able = fileable_rest bins pass out1 next1 (one key a.first) thirds second_able out2 next2 b2

        pub act_third : Fileable bins pass out2 next2 (one key a.second)
        act_third = fileable_first bins pass out2 next2 (one key a.second) fourth third_able

        module _ (out3 next3 : List ℕ) (b3 : FiledBy bins pass out2 out3 next2 next3 (one key a.second)) where
          pub act_fourth : Fileable bins pass out3 next3 (one key a.third)
          act_fourth = fileable_rest bins pass out2 next2 (one key a.second) fourth third_able out3 next3 b3

          pub act_filed : (out4 next4 : List ℕ) → FiledBy bins pass out3 out4 next3 next4 (one key a.third) → FiledBy bins pass out out4 next next4 (under key (four_of a))
          act_filed out4 next4 b4 =
              subst (λ (l : List Item). FiledBy bins pass out out4 next next4 l) (sym all_four)
              (filed_both bins pass out next out1 next1 out4 next4 (one key a.what) seconds b1
              (filed_both bins pass out1 next1 out2 next2 out4 next4 (one key a.first) thirds b2
              (filed_both bins pass out2 next2 out3 next3 out4 next4 (one key a.second) fourth b3 b4)))
