-- The tables that are read from what was written of an accepted chart mean the same chart.
use Rattle.std.specs.Prelude.{◌≡◌, true, false, ◌||◌, ℕ, zero, suc, ◌≤◌, eqb, leb, length}
use Rattle.std.proofs.Math.Path.{refl, subst}
use Rattle.std.proofs.Common.{sym, ap, ap₂, ◌∙◌, zero-add, arith}
use mathlib.Core.List.{List, [], ◌∷◌, ◌++◌, map}
use Rattle.std.proofs.Math.Option.{Option, none, some}
use borrow.Author.Tests.{leb-true, eqb-true}
use Rattle.definition.specs.declared.Answer.TheVariants.{Done}
use Rattle.definition.specs.Rows.{from, flat, is_empty, same}
use Rattle.definition.specs.Names.{is_name, is_descriptor, star, bare}
use Rattle.definition.specs.Tables.{most_rows, most_transitions, most_names, row_count, transition_count, name_count, name_at}
use Rattle.definition.specs.Rules.{counts_fit, sizes_fit, compiled_size, rule1, keeps_rules}
use Rattle.grammar.specs.Grammar.{is_char}
use Rattle.reading.specs.Tags.{tags_of}
use Rattle.reading.specs.Faults.{is_among}
use Rattle.reading.specs.Content.{Act, raises, hosts, if_in, elseif_in, otherwise, end_if, sends, cancels, Row, Transition, Content, of_source, content_of, uses_of, fresh, slots_of}
use Rattle.reading.specs.Layout.{numbers_of, names_of, content}
use Rattle.reading.specs.Print.{print}
use Rattle.laws.specs.Bools.{and_left, and_right, and7, or_elim, clash, not_so}
use Rattle.laws.specs.Lists.{same_eq}
use Rattle.laws.specs.Maps.{map_length}
use Rattle.accepted.specs.Sound.{accepted_rule1, accepted_sound}
use Rattle.written.specs.Sound.{AllOf, no_more, more, always, ConditionFits, DescriptorFits, Shaped, TransitionFits}
use Rattle.written.specs.Spelt.{Plain, plain_byte, spelt_plain, name_is_spelt}
use Rattle.written.specs.Values.{all_both, Bared, whole, starred, bared}
use Rattle.written.specs.Order.{in_order}
use Rattle.written.specs.Whole.{Sound, written_tags}
use Rattle.written.specs.Accepted.{content_sound, with_root, text_content}
use Rattle.written.specs.AcceptedTransitions.{name_fits}
use Rattle.written.specs.Uses.{act_uses}
use Rattle.written.specs.RowUses.{transition_uses, inner_uses, uses_from, pieces_use}
use Rattle.written.specs.Origins.{Origin, used_origins}
use Rattle.written.specs.Slots.{In, fresh_has, fresh_all, alone, fresh_apart, no_more_than, among_mapped}
use Rattle.written.specs.SlotNames.{Lit, Slotted}
use Rattle.written.specs.TablesBack.{ActNamed, RowNamed}
use Rattle.written.specs.TableCells.{all_left, all_right}
use Rattle.written.specs.TableTransitions.{RowOrNone, TransitionNamed}
use Rattle.written.specs.TableContent.{content_back}

-- ---- bytes of descriptors

lit : (b : ℕ) → Plain b → Lit b
lit b p = record { lit = not_so (eqb b 0) (λ e. clash (is_char b) p.char (ap is_char (eqb-true b 0 e) ∙ none)) }
  where
    none : is_char 0 ≡ false
    none = unfold is_char in refl

pub all_lit : (v : List ℕ) → AllOf Plain v → AllOf Lit v
all_lit [] no_more = no_more
all_lit (b ∷ bs) (more f g) = more (lit b f) (all_lit bs g)

star_plain : Plain 42
star_plain = plain_byte 42 (omega arith) (omega arith) (λ e. omega arith)

dot_plain : Plain 46
dot_plain = plain_byte 46 (omega arith) (omega arith) (λ e. omega arith)

pub descriptor_plain : (d : List ℕ) → DescriptorFits d → AllOf Plain d
descriptor_plain d h =
    or_elim (same d star) (is_name (bare d)) (λ e. subst (AllOf Plain) (sym (same_eq d star e)) (more star_plain no_more)) (λ n. by (bared d) (spelt_plain (bare d) true (name_is_spelt (bare d) n)))
    (and_right (leb (length d) 63) (same d star || is_name (bare d)) (unfold is_descriptor in h))
  where
    by : Bared d → AllOf Plain (bare d) → AllOf Plain d
    by (whole e) n = subst (AllOf Plain) (sym e) n
    by (starred e) n = subst (AllOf Plain) (sym e) (all_both n (more dot_plain (more star_plain no_more)))

pub descriptor_short : (d : List ℕ) → DescriptorFits d → length d ≤ 63
descriptor_short d h = leb-true (length d) 63 (and_left (leb (length d) 63) (same d star || is_name (bare d)) (unfold is_descriptor in h))

-- ---- names of actions, rows and transitions

module _ (slots : List (List ℕ)) where
  acts_named : (acts : List Act) → AllOf (Slotted slots) (flat act_uses acts) → AllOf (ActNamed slots) acts
  unfolding flat
  acts_named [] f = no_more
  acts_named (raises v ∷ acts) (more f g) = more f (acts_named acts g)
  acts_named (hosts k ∷ acts) f = more always (acts_named acts f)
  acts_named (if_in i ∷ acts) f = more always (acts_named acts f)
  acts_named (elseif_in i ∷ acts) f = more always (acts_named acts f)
  acts_named (otherwise ∷ acts) f = more always (acts_named acts f)
  acts_named (end_if ∷ acts) f = more always (acts_named acts f)
  acts_named (sends v d none ∷ acts) (more f g) = more f (acts_named acts g)
  acts_named (sends v d (some w) ∷ acts) (more f (more g k)) = more {x = sends v d (some w)} (g, f) (acts_named acts k)
  acts_named (cancels v ∷ acts) (more f g) = more f (acts_named acts g)

  pub record Spoken (t : Transition) : Type 0 where
    pub spoken : AllOf (Slotted slots) (transition_uses t)

  each_spoken : (ts : List Transition) → AllOf (Slotted slots) (flat transition_uses ts) → AllOf Spoken ts
  unfolding flat
  each_spoken [] f = no_more
  each_spoken (t ∷ ts) f = more (record { spoken = all_left (transition_uses t) (flat transition_uses ts) f }) (each_spoken ts (all_right (transition_uses t) (flat transition_uses ts) f))

  module _ (c : Content) where
    row_named : (i : ℕ) (r : Row) → (is_empty r.id ≡ false → Slotted slots r.id) → AllOf (Slotted slots) (inner_uses c i r) → RowNamed slots r
    row_named i r d f =
        record {
          id_named_lem = d;
          acts_named =
              all_both (all_both (acts_named r.entry (all_left (flat act_uses r.entry) _ f)) (acts_named r.exit (all_left (flat act_uses r.exit) _ (all_right (flat act_uses r.entry) _ f))))
              (acts_named r.block (all_left (flat act_uses r.block) _ (all_right (flat act_uses r.exit) _ (all_right (flat act_uses r.entry) _ f))));
        }

    inner_spoken : (i : ℕ) (r : Row) → AllOf (Slotted slots) (inner_uses c i r) → AllOf Spoken (of_source c.transitions i)
    inner_spoken i r f = each_spoken (of_source c.transitions i) (all_right (flat act_uses r.block) _ (all_right (flat act_uses r.exit) _ (all_right (flat act_uses r.entry) _ f)))

    rows_named : (rs : List Row) (i : ℕ) → AllOf (Slotted slots) (uses_from c i rs) → AllOf (RowNamed slots) rs
    unfolding uses_from
    rows_named [] i f = no_more
    rows_named (r ∷ rs) i (more d f) = more (row_named i r (λ e. d) (all_left (inner_uses c i r) (uses_from c (suc i) rs) f)) (rows_named rs (suc i) (all_right (inner_uses c i r) (uses_from c (suc i) rs) f))

    rows_spoken : (rs : List Row) (i : ℕ) → AllOf (Slotted slots) (uses_from c i rs) → AllOf Spoken (flat (of_source c.transitions) (from (length rs) i))
    unfolding uses_from from flat
    rows_spoken [] i f = no_more
    rows_spoken (r ∷ rs) i (more d f) = all_both (inner_spoken i r (all_left (inner_uses c i r) (uses_from c (suc i) rs) f)) (rows_spoken rs (suc i) (all_right (inner_uses c i r) (uses_from c (suc i) rs) f))

  transition_named : (n : ℕ) → n ≤ 65535 → (t : Transition) → TransitionFits n t → Spoken t → TransitionNamed slots t
  transition_named n few t f s =
      record {
        events_named = all_left t.descriptors (flat act_uses t.block) s.spoken;
        condition_low = low t.condition f.condition;
        acts_named = acts_named t.block (all_right t.descriptors (flat act_uses t.block) s.spoken);
      }
    where
      low : (o : Option ℕ) → ConditionFits n o → RowOrNone o
      low none g = always
      low (some i) g = let b = g.below in omega arith

  pub transitions_named : (n : ℕ) → n ≤ 65535 → (ts : List Transition) → AllOf (TransitionFits n) ts → AllOf Spoken ts → AllOf (TransitionNamed slots) ts
  transitions_named n few [] no_more no_more = no_more
  transitions_named n few (t ∷ ts) (more f g) (more s u) = more (transition_named n few t f s) (transitions_named n few ts g u)

-- ---- an accepted chart

abbrev pub uses_rows : Content → List Row → List (List ℕ)
uses_rows c [] = []
uses_rows c (r ∷ rs) = inner_uses c 0 r ++ uses_from c 1 rs

module _ (numbers names : List ℕ) (h : keeps_rules numbers names ≡ Done) where
  abbrev pub c : Content
  c = content numbers names

  abbrev pub s : Sound c
  s = content_sound numbers names h

  abbrev pub used : List (List ℕ)
  used = uses_rows c c.rows

  abbrev pub slots : List (List ℕ)
  slots = fresh [] used

  names_used : flat uses_of (tags_of (print c)) ≡ used
  names_used =
      ap (flat uses_of) (written_tags c s) ∙ (pieces_use c (length c.rows) s.transitions_fit s.root s.others s.rows_are s.root_kind s.laid s.root_fits s.rows_fit).uses 0 ∙
      ap (uses_rows c) (sym s.rows_are)

  -- the slots of the text
  pub slots_are_lem : slots_of (tags_of (print c)) ≡ slots
  slots_are_lem = shown ∙ ap (fresh []) names_used
    where
      shown : slots_of (tags_of (print c)) ≡ fresh [] (flat uses_of (tags_of (print c)))
      shown = unfold slots_of in refl

  pub origins : AllOf (Origin numbers names) used
  origins = by (row_count numbers) refl
    where
      by : (k : ℕ) → row_count numbers ≡ k → AllOf (Origin numbers names) used
      by zero e = absurd (let l = (accepted_sound numbers names h).tree.some in omega arith)
      by (suc m) e = subst (λ (l : List Row). AllOf (Origin numbers names) (uses_rows c l)) (sym (with_root numbers names h m e)) (used_origins numbers names h m e)

  pub origin_fits : (v : List ℕ) → Origin numbers names v → DescriptorFits v
  origin_fits v o = subst DescriptorFits o.is (name_fits numbers names h o.number o.below)

  -- each name has its slot
  slotted_by : (us : List (List ℕ)) → AllOf (Origin numbers names) us → AllOf (In slots) us → AllOf (Slotted slots) us
  slotted_by [] no_more no_more = no_more
  slotted_by (v ∷ us) (more o f) (more i g) =
      more (record { short = descriptor_short v (origin_fits v o); bytes = all_lit v (descriptor_plain v (origin_fits v o)); among = i.among }) (slotted_by us f g)

  slotted : AllOf (Slotted slots) used
  slotted = slotted_by used origins (fresh_has used [])

  -- and there are no more slots than names in the chart's table
  abbrev originals : List (List ℕ)
  originals = map (name_at names) (from (name_count numbers) 0)

  in_originals : (us : List (List ℕ)) → AllOf (Origin numbers names) us → AllOf (In originals) us
  in_originals [] no_more = no_more
  in_originals (v ∷ us) (more o f) = more (record { among = ap (λ (x : List ℕ). is_among x originals) (sym o.is) ∙ ap (λ (k : ℕ). is_among (name_at names k) originals) (sym (zero-add o.number)) ∙ among_mapped (name_at names) (name_count numbers) 0 o.number o.below }) (in_originals us f)

  pub slots_few : length slots ≤ name_count numbers
  slots_few = subst (λ (k : ℕ). length slots ≤ k) (map_length (name_at names) (name_count numbers) 0) (no_more_than slots originals (fresh_apart used [] alone) (fresh_all used [] no_more (in_originals used origins)))

  pub few_names : name_count numbers ≤ 768
  unfolding rule1 counts_fit
  few_names =
      leb-true (name_count numbers) 768
      (and7 (leb 1 (row_count numbers)) (leb (row_count numbers) most_rows) (leb (transition_count numbers) most_transitions) (leb (name_count numbers) most_names) _ _ _
      (and7 (counts_fit numbers) (sizes_fit numbers names (compiled_size numbers) (length names)) _ _ _ _ _ (accepted_rule1 numbers names h)).0).3

  pub slots_low : length slots ≤ 65535
  slots_low = let a = slots_few in let b = few_names in omega arith

  -- ---- the tables of the text

  slotted_rows : AllOf (Slotted slots) (inner_uses c 0 s.root ++ uses_from c 1 s.others)
  slotted_rows = subst (λ (l : List Row). AllOf (Slotted slots) (uses_rows c l)) s.rows_are slotted

  pub rows_have : AllOf (RowNamed slots) c.rows
  rows_have =
      subst (AllOf (RowNamed slots)) (sym s.rows_are)
      (more (row_named slots c 0 s.root (λ e. absurd (clash (is_empty s.root.id) root_empty e)) (all_left (inner_uses c 0 s.root) (uses_from c 1 s.others) slotted_rows))
      (rows_named slots c s.others 1 (all_right (inner_uses c 0 s.root) (uses_from c 1 s.others) slotted_rows)))
    where
      root_empty : is_empty s.root.id ≡ true
      root_empty = ap (is_empty {A = ℕ}) (subst (λ (k : ℕ). Shaped k s.root) s.root_kind s.root_fits.shaped).0 ∙ unfold is_empty in refl

  pub transitions_speak : AllOf (Spoken slots) c.transitions
  transitions_speak =
      subst (AllOf (Spoken slots)) (in_order (length c.rows) 0 (length c.rows) (omega arith) c.transitions s.ordered)
      (subst (λ (k : ℕ). AllOf (Spoken slots) (flat (of_source c.transitions) (from k 0))) (sym (ap (length {A = Row}) s.rows_are)) each)
    where
      each : AllOf (Spoken slots) (flat (of_source c.transitions) (from (suc (length s.others)) 0))
      each =
          unfold from flat in all_both (inner_spoken slots c 0 s.root (all_left (inner_uses c 0 s.root) (uses_from c 1 s.others) slotted_rows))
          (rows_spoken slots c s.others 1 (all_right (inner_uses c 0 s.root) (uses_from c 1 s.others) slotted_rows))

  -- the tables that are read mean the chart that was written
  pub tables_back : content (numbers_of slots c) (names_of slots) ≡ c
  tables_back = content_back slots c slots_low rows_have (transitions_named slots (length c.rows) s.few c.transitions s.transitions_fit transitions_speak)

  -- in the words of the reader: of the tables of a text that was written
  pub written_tables : content (numbers_of (slots_of (tags_of (print c))) (content_of (tags_of (print c)))) (names_of (slots_of (tags_of (print c)))) ≡ c
  written_tables = ap₂ (λ (x : List (List ℕ)) (y : Content). content (numbers_of x y) (names_of x)) slots_are_lem (text_content numbers names h) ∙ tables_back
