-- Rules 3 to 5 go by a chart's content alone.
use Rattle.std.specs.Prelude.{◌≡◌, false, ℕ, zero, suc, ◌≤◌, ltb, length, get_or}
use Rattle.std.proofs.Math.Path.{refl, ap₂, fun_ext}
use Rattle.std.proofs.Common.{sym, ap, ◌∙◌, zero-add, arith, le-ltb, ltb-true, ltb-false}
use mathlib.Core.List.{List, [], ◌∷◌, map}
use Rattle.std.proofs.Math.Option.{some}
use Rattle.std.proofs.Math.ListN.{get_or-eq_default}
use Rattle.definition.specs.declared.Action.{Action}
use Rattle.definition.specs.declared.Action.TheVariants.{Raise, Host, If, ElseIf, Else, End, Send, Cancel}
use Rattle.definition.specs.Rows.{from}
use Rattle.definition.specs.Chart.{Chart}
use Rattle.definition.specs.Chart.{Row as ChartRow, Transition as ChartTransition}
use Rattle.definition.specs.Tables.{row_count, transition_count, row_cell, transition_cell, action_cell, kind_of, action_of, action_at, part, references_at, descriptors_at, block_at, kind_at, parent_at, entry_at, exit_at, list_at, list_block_at, source_at, events_at, condition_at, internal_at, targets_at, transition_block_at, row_at, transition_at, name_at, chart_of}
use Rattle.definition.specs.Rules.{rule3, rule4, rule5}
use Rattle.reading.specs.Content.{Act, raises, hosts, if_in, elseif_in, otherwise, end_if, sends, cancels, Row, Transition, Content}
use Rattle.reading.specs.Layout.{act_of, acts_at, row_back, transition_back, content}
use Rattle.laws.specs.Bools.{bool_case}
use Rattle.laws.specs.Maps.{map_length, map_at}
use Rattle.written.specs.Erased.{erase, no_name, erased_row, erased_transition, erased, erased_3, erased_4, erased_5}

-- ---- a chart by its content, with the names left out

abbrev action : Act → Action
action (raises v) = Raise 0
action (hosts k) = Host k
action (if_in i) = If i
action (elseif_in i) = ElseIf i
action otherwise = Else
action end_if = End
action (sends v d w) = Send 0 d 0
action (cancels v) = Cancel 0

abbrev no_text : List ℕ → ℕ
no_text v = 0

abbrev row_in : Row → ChartRow
row_in r = record { kind = kind_of r.kind; parent = r.parent; id = 0; entry = map action r.entry; exit = map action r.exit; list = r.list; block = map action r.block }

abbrev transition_in : Transition → ChartTransition
transition_in t = record { source = t.source; descriptors = map no_text t.descriptors; condition = t.condition; internal = t.internal; targets = t.targets; block = map action t.block }

-- what is read past the last row and the last transition
abbrev past_row : Row
past_row = record { kind = 3; parent = 0; id = []; entry = []; exit = []; list = []; block = [] }

abbrev past_transition : Transition
past_transition = record { source = 0; descriptors = []; condition = some 0; internal = false; targets = []; block = [] }

abbrev chart_in : Content → Chart
chart_in c =
    record {
      rows = length c.rows;
      row = λ (i : ℕ). row_in (get_or c.rows i past_row);
      transitions = length c.transitions;
      transition = λ (t : ℕ). transition_in (get_or c.transitions t past_transition);
    }

-- ---- it is that of the tables

act_alike : (nm : ℕ → List ℕ) (k x y z : ℕ) → erase (action_of k x y z) ≡ action (act_of nm k x y z)
act_alike nm zero x y z = refl
act_alike nm (suc zero) x y z = refl
act_alike nm (suc (suc zero)) x y z = refl
act_alike nm (suc (suc (suc zero))) x y z = refl
act_alike nm (suc (suc (suc (suc zero)))) x y z = refl
act_alike nm (suc (suc (suc (suc (suc zero))))) x y z = refl
act_alike nm (suc (suc (suc (suc (suc (suc zero)))))) x y z = refl
act_alike nm (suc (suc (suc (suc (suc (suc (suc k))))))) x y z = refl

module _ (numbers names : List ℕ) where
  acts_alike : (xs : List ℕ) →
      map erase (map (action_at numbers) xs) ≡ map action (map (λ (a : ℕ). act_of (name_at names) (action_cell numbers a 0) (action_cell numbers a 1) (action_cell numbers a 2) (action_cell numbers a 3)) xs)
  unfolding action_at
  acts_alike [] = refl
  acts_alike (a ∷ xs) = ap₂ (λ (x : Action) (l : List Action). x ∷ l) (act_alike (name_at names) (action_cell numbers a 0) (action_cell numbers a 1) (action_cell numbers a 2) (action_cell numbers a 3)) (acts_alike xs)

  block_alike : (start count : ℕ) → map erase (block_at numbers start count) ≡ map action (acts_at numbers names start count)
  unfolding block_at acts_at
  block_alike start count = acts_alike (from count start)

  row_same : (k : ℕ) (p : ℕ) (l : List ℕ) {e x b f y d : List Action} → e ≡ f → x ≡ y → b ≡ d →
      ◌≡◌ {A = ChartRow} (record { kind = kind_of k; parent = p; id = 0; entry = e; exit = x; list = l; block = b }) (record { kind = kind_of k; parent = p; id = 0; entry = f; exit = y; list = l; block = d })
  row_same k p l {e = e} {x = x} {b = b} {f = f} {y = y} {d = d} g h i =
      ap (λ (z : List Action). record { kind = kind_of k; parent = p; id = 0; entry = z; exit = x; list = l; block = b }) g ∙
      ap (λ (z : List Action). record { kind = kind_of k; parent = p; id = 0; entry = f; exit = z; list = l; block = b }) h ∙
      ap (λ (z : List Action). record { kind = kind_of k; parent = p; id = 0; entry = f; exit = y; list = l; block = z }) i

  -- a row of the tables
  row_here : (i : ℕ) → erased_row (row_at numbers i) ≡ row_in (row_back numbers names i)
  unfolding row_back kind_at parent_at entry_at exit_at list_at list_block_at
  row_here i =
      row_same (row_cell numbers i 0) (row_cell numbers i 1) (references_at numbers (row_cell numbers i 7) (row_cell numbers i 8)) (block_alike (row_cell numbers i 3) (row_cell numbers i 4))
      (block_alike (row_cell numbers i 5) (row_cell numbers i 6)) (block_alike (row_cell numbers i 9) (row_cell numbers i 10))

  -- and one past them
  row_past : (i : ℕ) → row_count numbers ≤ i → erased_row (row_at numbers i) ≡ row_in past_row
  unfolding kind_at parent_at entry_at exit_at list_at list_block_at block_at references_at part row_cell from
  row_past i l = rw (le-ltb i (row_count numbers) l)

  rows_are : (content numbers names).rows ≡ map (row_back numbers names) (from (row_count numbers) 0)
  unfolding content
  rows_are = refl

  count_is : length (content numbers names).rows ≡ row_count numbers
  count_is = ap (length {A = Row}) rows_are ∙ map_length (row_back numbers names) (row_count numbers) 0

  row_alike : (i : ℕ) → erased_row (row_at numbers i) ≡ row_in (get_or (content numbers names).rows i past_row)
  row_alike i =
      bool_case (ltb i (row_count numbers))
      (λ e. row_here i ∙ ap row_in (sym (ap (λ (l : List Row). get_or l i past_row) rows_are ∙ map_at (row_back numbers names) (row_count numbers) 0 i past_row (ltb-true i (row_count numbers) e) ∙ ap (row_back numbers names) (zero-add i))))
      (λ e. row_past i (ltb-false i (row_count numbers) e) ∙ ap row_in (sym (get_or-eq_default (content numbers names).rows past_row (let a = count_is in let b = ltb-false i (row_count numbers) e in omega arith))))

  -- ---- transitions

  names_alike : (xs : List ℕ) → map no_name xs ≡ map no_text (map (name_at names) xs)
  names_alike [] = refl
  names_alike (x ∷ xs) = ap (λ (l : List ℕ). 0 ∷ l) (names_alike xs)

  transition_here : (t : ℕ) → erased_transition (transition_at numbers t) ≡ transition_in (transition_back numbers names t)
  unfolding transition_back source_at events_at condition_at internal_at targets_at transition_block_at
  transition_here t = rw (names_alike (descriptors_at numbers (transition_cell numbers t 1) (transition_cell numbers t 2)), block_alike (transition_cell numbers t 7) (transition_cell numbers t 8))

  transition_past : (t : ℕ) → transition_count numbers ≤ t → erased_transition (transition_at numbers t) ≡ transition_in past_transition
  unfolding source_at events_at condition_at internal_at targets_at transition_block_at block_at references_at descriptors_at part transition_cell from
  transition_past t l = rw (le-ltb t (transition_count numbers) l)

  transitions_are : (content numbers names).transitions ≡ map (transition_back numbers names) (from (transition_count numbers) 0)
  unfolding content
  transitions_are = refl

  transition_count_is : length (content numbers names).transitions ≡ transition_count numbers
  transition_count_is = ap (length {A = Transition}) transitions_are ∙ map_length (transition_back numbers names) (transition_count numbers) 0

  transition_alike : (t : ℕ) → erased_transition (transition_at numbers t) ≡ transition_in (get_or (content numbers names).transitions t past_transition)
  transition_alike t =
      bool_case (ltb t (transition_count numbers))
      (λ e. transition_here t ∙
      ap transition_in (sym (ap (λ (l : List Transition). get_or l t past_transition) transitions_are ∙ map_at (transition_back numbers names) (transition_count numbers) 0 t past_transition (ltb-true t (transition_count numbers) e) ∙ ap (transition_back numbers names) (zero-add t))))
      (λ e. transition_past t (ltb-false t (transition_count numbers) e) ∙
      ap transition_in (sym (get_or-eq_default (content numbers names).transitions past_transition (let a = transition_count_is in let b = ltb-false t (transition_count numbers) e in omega arith))))

  chart_alike : erased (chart_of numbers) ≡ chart_in (content numbers names)
  chart_alike =
      ap₂ (λ (n : ℕ) (f : ℕ → ChartRow). record { rows = n; row = f; transitions = transition_count numbers; transition = λ (t : ℕ). erased_transition (transition_at numbers t) }) (sym count_is) (fun_ext row_alike) ∙
      ap₂ (λ (n : ℕ) (f : ℕ → ChartTransition). record { rows = length (content numbers names).rows; row = λ (i : ℕ). row_in (get_or (content numbers names).rows i past_row); transitions = n; transition = f }) (sym transition_count_is)
      (fun_ext transition_alike)

-- ---- tables of equal content keep rules 3 to 5 alike

pub rule_3_alike : (a b d e : List ℕ) → content a b ≡ content d e → rule3 (chart_of a) ≡ rule3 (chart_of d)
rule_3_alike a b d e q = sym (erased_3 (chart_of a)) ∙ ap rule3 (chart_alike a b) ∙ ap (λ (c : Content). rule3 (chart_in c)) q ∙ ap rule3 (sym (chart_alike d e)) ∙ erased_3 (chart_of d)

pub rule_4_alike : (a b d e : List ℕ) → content a b ≡ content d e → rule4 (chart_of a) ≡ rule4 (chart_of d)
rule_4_alike a b d e q = sym (erased_4 (chart_of a)) ∙ ap rule4 (chart_alike a b) ∙ ap (λ (c : Content). rule4 (chart_in c)) q ∙ ap rule4 (sym (chart_alike d e)) ∙ erased_4 (chart_of d)

pub rule_5_alike : (a b d e : List ℕ) → content a b ≡ content d e → rule5 (chart_of a) ≡ rule5 (chart_of d)
rule_5_alike a b d e q = sym (erased_5 (chart_of a)) ∙ ap rule5 (chart_alike a b) ∙ ap (λ (c : Content). rule5 (chart_in c)) q ∙ ap rule5 (sym (chart_alike d e)) ∙ erased_5 (chart_of d)
