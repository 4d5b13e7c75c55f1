-- The choice of a round, case by case: what the code finds is what the definition's round goes by.
use Rattle.std.proofs.Math.Path.{◌≡◌, refl, ap, fun_ext}
use Rattle.std.proofs.Common.{sym, subst, ◌∙◌}
use Rattle.std.specs.Prelude.{Bool, true, not, ℕ, ◌≤◌, ◌<◌, get_or, drop}
use mathlib.Core.List.{List, [], ◌∷◌}
use Rattle.std.proofs.Math.Option.{Option, none, some}
use native.Mathlib.Omega.{arith}
use Rattle.std.proofs.Math.ListN.{length}
use Rattle.definition.specs.declared.Mode.TheVariants.{Running}
use Rattle.std.proofs.lemmas.Bool.{not-true}
use Rattle.definition.specs.Rows.{mem, all, meets}
use Rattle.definition.specs.Names.{Name, is_name}
use Rattle.definition.specs.Chart.{Chart, Names}
use Rattle.definition.specs.Tables.{name_at, chart_of}
use Rattle.follower.specs.Selection.{History, chooser, selected}
use Rattle.follower.specs.Microstep.{stored_in}
use Rattle.follower.specs.Follower.{Follower, taking, selected_by, by_external, by_internal, by_eventless, round_in}
use Rattle.laws.specs.Bools.{no}
use Rattle.laws.specs.Lists.{set_below}
use Rattle.laws.specs.Maps.{all_at}
use Rattle.accepted.specs.NameFacts.{name_length}
use Rattle.accepted.specs.Sound.{Sound}
use Rattle.accepted.specs.Tree.{Tree}
use Rattle.rowset.specs.Member.{rows_of}
use Rattle.chart.specs.Ready.{CompiledWith}
use Rattle.matching.specs.Events.{event_of}
use Rattle.matching.specs.Chosen.{list_of, list_begin, Within, chosen_length}
use Rattle.matching.specs.Choosers.{choosers_in}
use Rattle.matching.specs.Eventless.{eventless_rows, nothing_eventless}
use Rattle.selection.specs.declared.Selected.{Selected}
use Rattle.selection.specs.History.{stored_at}
use Rattle.selection.specs.Ready.{Selects}
use Rattle.selection.specs.Choosers.{IsSelectedBy}
use Rattle.selection.specs.Kept.{selected_as, selects_of, selects_none}
use Rattle.effects.specs.Choosers.{chooser_in}
use Rattle.queue.specs.Queues.{queue_bytes, first_name}
use Rattle.state.specs.State.{configuration_in, history_in, internal_in, external_in, Holds}
use Rattle.state.specs.Found.{configuration_set}
use Rattle.state.specs.Places.{reads_internal, reads_external, reads_configuration, reads_stored, numbers_size}
use Rattle.events.specs.declared.Source.TheVariants.{Nothing, Eventless, Internal, External}
use Rattle.lookup.specs.Lookup.{Lookup}
use Rattle.events.specs.Choosers.{taking_by_lem}
use Rattle.events.specs.Rounds.{internal_after, external_after, round_by, EventReady, Found, Chooses}

-- ---- the name that has waited longest

no_names : {A : Type 0} (xs : List A) → length xs ≤ 0 → xs ≡ []
no_names [] l = refl
no_names (x ∷ xs) l = absurd (omega arith)

oldest_first : (queue : List Name) → 0 < length queue → queue ≡ get_or queue 0 [] ∷ drop 1 queue
oldest_first [] l = absurd (omega arith)
oldest_first (name ∷ names) l = refl

-- a name is never empty
name_event : (name : Name) → is_name name ≡ true → event_of name ≡ some name
unfolding event_of
name_event [] h = let l = (name_length [] h).0 in absurd (omega arith)
name_event (b ∷ bs) h = refl

oldest_event : (queue : List Name) (bytes event : List ℕ) → bytes ≡ queue_bytes queue → 0 < length queue → all is_name queue ≡ true → event ≡ name_at bytes 0 → event_of event ≡ some (get_or queue 0 [])
oldest_event queue bytes event e l h q =
    let n : is_name (get_or queue 0 []) ≡ true = all_at is_name queue [] h 0 l in
    ap event_of (q ∙ ap (λ (xs : List ℕ). name_at xs 0) (e ∙ ap queue_bytes (oldest_first queue l)) ∙ first_name (get_or queue 0 []) (drop 1 queue) n) ∙
    name_event (get_or queue 0 []) n

-- ---- the definition's round

module _ (c : Chart) (names : Names) (f : Follower) where
  round_eventless : (by : ℕ → ℕ) (ts : List ℕ) → 0 < length ts → ((t : ℕ) → mem t ts ≡ true → by t ≡ chooser c names f.configuration none t) →
      by_eventless c names f ts ≡ round_by Eventless c names f by ts
  unfolding by_eventless round_by internal_after external_after
  round_eventless by [] l h = absurd (omega arith)
  round_eventless by (t ∷ ts) l h = taking_by_lem c names f by none f.internal f.external (t ∷ ts) h

  round_internal : (queue : List Name) → 0 < length queue → by_internal c names f queue ≡ taking c names f (some (get_or queue 0 [])) (drop 1 queue) f.external (selected_by c names f (some (get_or queue 0 [])))
  unfolding by_internal
  round_internal [] l = absurd (omega arith)
  round_internal (e ∷ es) l = refl

  round_external : (queue : List Name) → 0 < length queue → by_external c names f queue ≡ taking c names f (some (get_or queue 0 [])) [] (drop 1 queue) (selected_by c names f (some (get_or queue 0 [])))
  unfolding by_external
  round_external [] l = absurd (omega arith)
  round_external (e ∷ es) l = refl

module _ (chart slots : List ℕ) (g : CompiledWith chart slots) (f : Follower) (numbers internal external : List ℕ) (h : Holds (chart_of chart) f numbers internal external) where
  abbrev c : Chart
  c = chart_of chart

  abbrev names : Names
  names = name_at slots

  abbrev t : Tree c
  t = g.ready.sound.tree

  few : c.rows ≤ 256
  few = let n = g.ready.tables.sized.counts.rows in omega arith

  pub conf_read : rows_of (configuration_in numbers) ≡ f.configuration
  conf_read = reads_configuration c t few f numbers internal external h

  pub conf_within : Within c.rows (rows_of (configuration_in numbers))
  conf_within = record { at = λ i m. set_below c.rows f.configuration (configuration_set c t f h.formed) i (sym (ap (mem i) conf_read) ∙ m) }

  pub history_read : stored_at (history_in numbers) ≡ stored_in f.history
  history_read = fun_ext (reads_stored c t few f numbers internal external h)

  abbrev stored : History
  stored = stored_at (history_in numbers)

  found_is : (event : Option Name) (items : List ℕ) (r : Selected) (o : Option Name) → Found chart slots numbers event items r → event ≡ o → list_of items r.len ≡ selected_by c names f o
  unfolding selected_by
  found_is event items r o k e = k.chosen.is ∙ rw (conf_read, history_read, e)

  found_selects : (event : Option Name) (items : List ℕ) (r : Selected) → Found chart slots numbers event items r → Selects c f.configuration stored items r
  found_selects event items r k = subst (λ (conf : List ℕ). Selects c conf stored items r) conf_read (selects_of c _ stored _ items r k.chosen)

  found_by : (event : Option Name) (items : List ℕ) (r : Selected) (o : Option Name) → Found chart slots numbers event items r → event ≡ o → (t : ℕ) →
      mem t (list_of items r.len) ≡ true → chooser_in (choosers_in items) t ≡ chooser c names f.configuration o t
  found_by event items r o k e t m = k.choosers.at t (sym (ap (mem t) k.chosen.is) ∙ m) ∙ rw (conf_read, e)

  module _ (items : List ℕ) (first : Selected) (k : Found chart slots numbers none items first) where
    eventless_is : list_of items first.len ≡ selected_by c names f none
    eventless_is = found_is none items first none k refl

    first_length : length (list_of items first.len) ≡ first.len
    first_length = chosen_length c.transitions items first.len k.chosen.fits

    pub choose_eventless : 0 < first.len → Chooses c names f stored items (record { source = Eventless; selected = first })
    unfolding round_in
    choose_eventless l = record {
      is = ap (by_eventless c names f) (sym eventless_is) ∙ round_eventless c names f (chooser_in (choosers_in items)) (list_of items first.len) (let e = first_length in omega arith) (found_by none items first none k refl);
      selected = found_selects none items first k;
      internal = λ e. absurd (let z : ◌≡◌ {A = ℕ} 0 1 = cc in omega arith);
      external = λ e. absurd (let z : ◌≡◌ {A = ℕ} 0 1 = cc in omega arith);
    }

    module _ (idle : first.len ≤ 0) where
      not_eventless : round_in Running c names f ≡ by_internal c names f f.internal
      unfolding round_in by_eventless
      not_eventless = ap (by_eventless c names f) (sym eventless_is ∙ no_names (list_of items first.len) (let e = first_length in omega arith))

      pub choose_internal : 0 < internal_in numbers → (event more : List ℕ) (r : Selected) → event ≡ name_at internal 0 → Found chart slots numbers (event_of event) more r → Chooses c names f stored more (record { source = Internal; selected = r })
      unfolding round_by internal_after external_after
      choose_internal l event more r q m =
          let n = reads_internal f numbers internal external h.spells in
          let some_name : 0 < length f.internal = omega arith in
          let e = oldest_event f.internal internal event h.spells.internal_is some_name h.formed.internal_names q in
          record {
            is = not_eventless ∙ round_internal c names f f.internal some_name ∙ ap (taking c names f (some (get_or f.internal 0 [])) (drop 1 f.internal) f.external) (sym (found_is (event_of event) more r _ m e)) ∙
                taking_by_lem c names f (chooser_in (choosers_in more)) (some (get_or f.internal 0 [])) (drop 1 f.internal) f.external (list_of more r.len) (found_by (event_of event) more r _ m e);
            selected = found_selects (event_of event) more r m;
            internal = λ z y. let w = ap {B = ℕ} length y in absurd (omega arith);
            external = λ z. absurd (let w : ◌≡◌ {A = ℕ} 0 1 = cc in omega arith);
          }

      module _ (none_in : internal_in numbers ≤ 0) where
        internal_none : f.internal ≡ []
        internal_none = let n = reads_internal f numbers internal external h.spells in no_names f.internal (omega arith)

        not_internal : round_in Running c names f ≡ by_external c names f f.external
        unfolding by_internal
        not_internal = not_eventless ∙ ap (by_internal c names f) internal_none

        pub choose_external : 0 < external_in numbers → (event more : List ℕ) (r : Selected) → event ≡ name_at external 0 → Found chart slots numbers (event_of event) more r → Chooses c names f stored more (record { source = External; selected = r })
        unfolding round_by internal_after external_after
        choose_external l event more r q m =
            let n = reads_external f numbers internal external h.spells in
            let some_name : 0 < length f.external = omega arith in
            let e = oldest_event f.external external event h.spells.external_is some_name h.formed.external_names q in
            record {
              is = not_internal ∙ round_external c names f f.external some_name ∙ ap (taking c names f (some (get_or f.external 0 [])) [] (drop 1 f.external)) (sym (found_is (event_of event) more r _ m e)) ∙
                  ap (λ (queue : List Name). taking c names f (some (get_or f.external 0 [])) queue (drop 1 f.external) (list_of more r.len)) (sym internal_none) ∙
                  taking_by_lem c names f (chooser_in (choosers_in more)) (some (get_or f.external 0 [])) f.internal (drop 1 f.external) (list_of more r.len) (found_by (event_of event) more r _ m e);
              selected = found_selects (event_of event) more r m;
              internal = λ z. absurd (let w : ◌≡◌ {A = ℕ} 0 1 = cc in omega arith);
              external = λ z y. let w = ap {B = ℕ} length y in absurd (omega arith);
            }

        pub choose_nothing : external_in numbers ≤ 0 → Chooses c names f stored items (record { source = Nothing; selected = first })
        unfolding round_by by_external
        choose_nothing l = record {
          is = not_internal ∙ ap (by_external c names f) (let n = reads_external f numbers internal external h.spells in no_names f.external (omega arith));
          selected = found_selects none items first k;
          internal = λ e. absurd (let z : ◌≡◌ {A = ℕ} 0 1 = cc in omega arith);
          external = λ e. absurd (let z : ◌≡◌ {A = ℕ} 0 1 = cc in omega arith);
        }

-- what a round of a session that is spelled gives to the selection
pub event_ready : (chart names index : List ℕ) (l : Lookup chart names index) (f : Follower) (numbers internal external : List ℕ) (items : List ℕ) →
    Holds (chart_of chart) f numbers internal external → length items ≡ 768 → EventReady chart names index numbers items
event_ready chart names index l f numbers internal external items h e = record {
  looked = l;
  size = numbers_size f numbers internal external h.spells;
  inside = conf_within chart names l.compiled f numbers internal external h;
  places = e;
}

-- ---- an eventless round where no active row is at or below the source of an eventless transition

pub eventless_none : (c : Chart) → Sound c → (slots : Names) (conf : List ℕ) (hist : History) (items at active : List ℕ) (r : Selected) (b : Bool) → Within c.rows conf → length items ≡ 768 → at ≡ conf →
    active ≡ eventless_rows c → b ≡ meets at active → not b ≡ true → r.len ≡ 0 → rows_of r.exits ≡ [] → IsSelectedBy c slots conf hist none items r
unfolding mem
eventless_none c g slots conf hist items at active r b w s q e h n l x = record {
  chosen = selected_as c conf hist (list_of items r.len) (selected c slots conf hist none) items r (selects_none c conf hist items r s l x) (ap (list_of items) l ∙ list_begin items ∙ sym none_selected);
  choosers = record { at = λ t m. absurd (no (sym (ap (mem t) none_selected) ∙ m)) };
}
  where
    none_selected : selected c slots conf hist none ≡ []
    none_selected = nothing_eventless c g slots conf w (sym (h ∙ ap (λ (xs : List ℕ). meets xs active) q ∙ ap (meets conf) e) ∙ not-true b n) hist

pub eventless_found : (c : Chart) (slots : Names) (conf : List ℕ) (hist : History) (event items : List ℕ) (r : Selected) → event ≡ [] →
    IsSelectedBy c slots conf hist (event_of event) items r → IsSelectedBy c slots conf hist none items r
unfolding event_of
eventless_found c slots conf hist event items r e h = subst (λ (o : Option Name). IsSelectedBy c slots conf hist o items r) (ap event_of e) h
