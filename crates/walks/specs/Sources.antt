-- The sources of the transitions, tag by tag.
use Rattle.std.specs.Prelude.{◌≡◌, refl, Bool, true, false, not, List, [], ◌∷◌, ◌++◌, ℕ, ◌+◌, ◌*◌, ◌-◌, ◌≤◌, ◌<◌, length, take, set}
use Rattle.std.proofs.Common.{sym, ap, subst, ◌∙◌, append_assoc, append-nil, arith, add-one, length-set, take-suc-set}
use Rattle.std.proofs.lemmas.Bool.{not-true, not-false}
use Rattle.marks.specs.declared.Mark.{Mark}
use Rattle.marks.specs.declared.Mark.TheVariants as marks
use Rattle.marks.specs.Marks.{is_mark}
use Rattle.reading.specs.Tags.{tags_of}
use Rattle.reading.specs.Content.{Fact, row_fact, list_fact, transition_fact, action_fact, facts_from}
use Rattle.weights.specs.Paid.{tags_paid}
use Rattle.weights.specs.Cells.{facts_cells, facts_paid}
use Rattle.tags.specs.Cells.{is_value_mark}
use Rattle.turns.specs.declared.SpotCells.{SpotCells}
use Rattle.turns.specs.declared.Turning.{Turning}
use Rattle.turns.specs.Next.{TurnAt, facts_left, NextTurn}
use Rattle.facts.specs.declared.Said.{Said}
use Rattle.facts.specs.declared.Said.TheVariants.{Nothing, Row, List as ListOf, Transition, Action}
use Rattle.facts.specs.Facts.{said_facts, number_in}
use Rattle.facts.specs.Appended.{row_facts, transition_facts, row_facts_append, transition_facts_append}
use Rattle.items.specs.Items.{sources_of}
use Rattle.walks.specs.declared.sources.Counts.{Counts}
use Rattle.walks.specs.Counts.{rows_said, sources_said, rows_by, transitions_by, sources_append, said_rows, said_transitions, said_sources, CountRoom, CountedBy, counted_none}
use Rattle.walks.specs.Said.{beginning_turn, WalkRoom, begin_at, begin_left, end_said, TagSaid}

-- ---- one tag

pub record NoteRoom (sources : List ℕ) (m : ℕ) (said : Said) : Type 0 where
  pub there : m < length sources
  pub number_fits : number_in said < 65536

pub record SourceNoted (sources sources' : List ℕ) (m : ℕ) (said : Said) : Type 0 where
  pub size : length sources' ≡ length sources
  pub are : take (m + length (sources_said said)) sources' ≡ take m sources ++ sources_said said

module _ (sources : List ℕ) (m : ℕ) (said : Said) where
  unsaid : sources_said said ≡ [] → SourceNoted sources sources m said
  unsaid e =
      record {
        size = refl;
        are =
            ap (λ (l : List ℕ). take (m + length l) sources) e ∙ ap (λ (n : ℕ). take n sources) (plus m) ∙ sym (ap (λ (l : List ℕ). take m sources ++ l) e ∙ append-nil (take m sources));
      }
    where
      plus : (n : ℕ) → n + 0 ≡ n
      plus n = omega arith

  pub note_none : said ≡ Nothing → SourceNoted sources sources m said
  note_none e = unsaid (ap sources_said e)

  pub note_row : (q : ℕ) → said ≡ Row q → SourceNoted sources sources m said
  note_row q e = unsaid (ap sources_said e)

  pub note_list : (i : ℕ) → said ≡ ListOf i → SourceNoted sources sources m said
  note_list i e = unsaid (ap sources_said e)

  pub note_action : (p i : ℕ) → said ≡ Action p i → SourceNoted sources sources m said
  note_action p i e = unsaid (ap sources_said e)

  pub note_number : (i : ℕ) → NoteRoom sources m said → said ≡ Transition i → i < 65536
  note_number i h e = let n = h.number_fits in let q : number_in said ≡ i = ap number_in e in omega arith

  pub note_transition : (i v : ℕ) → NoteRoom sources m said → said ≡ Transition i → v ≡ i → SourceNoted sources (set sources m v) m said
  note_transition i v h e q =
      subst (λ (x : Said). SourceNoted sources (set sources m v) m x) (sym e)
      (record {
        size = length-set sources m v;
        are = ap (λ (n : ℕ). take n (set sources m v)) (add-one m) ∙ take-suc-set sources m v h.there ∙ ap (λ (x : ℕ). take m sources ++ x ∷ []) q;
      })

-- ---- the tag that a mark ends

pub record MarkRoom (cells sources : List ℕ) (c : Counts) (spot : SpotCells) : Type 0 where
  pub cells_room : length cells ≡ 22
  pub counts_fit_lem : CountRoom c
  pub there : c.transitions < length sources
  pub number_fits : spot.number < 65536

pub record MarkNoted (cells sources sources' : List ℕ) (c : Counts) (spot : SpotCells) (m : Mark) (r : Counts) : Type 0 where
  pub said : Said
  pub of : (a s e : ℕ) → m ≡ marks.Tagged a s e → TagSaid cells spot s e said
  pub noted : SourceNoted sources sources' c.transitions said
  pub counted : CountedBy c said r

module _ (cells sources : List ℕ) (c : Counts) (spot : SpotCells) (m : Mark) where
  unmarked : ((a s e : ℕ) → m ≡ marks.Tagged a s e → ⊥) → MarkNoted cells sources sources c spot m c
  unmarked f =
      record { said = Nothing; of = λ a s e g. absurd (f a s e g); noted = note_none sources c.transitions Nothing refl; counted = counted_none c Nothing refl }

  pub mark_none : m ≡ marks.Nothing → MarkNoted cells sources sources c spot m c
  mark_none q = unmarked (λ a s e g. let z : ◌≡◌ {A = ℕ} 0 1 = cc in omega arith)

  pub mark_value : (d w a b : ℕ) → m ≡ marks.Valued d w a b → MarkNoted cells sources sources c spot m c
  mark_value d w a b q = unmarked (λ a' s e g. let z : ◌≡◌ {A = ℕ} 0 1 = cc in omega arith)

  pub mark_room : (s e : ℕ) (said : Said) → MarkRoom cells sources c spot → TagSaid cells spot s e said → NoteRoom sources c.transitions said
  mark_room s e said h t = let n = t.within in let f = h.number_fits in record { there = h.there; number_fits = omega arith }

  pub mark_tag : (a s e : ℕ) (said : Said) (sources' : List ℕ) (r : Counts) → m ≡ marks.Tagged a s e → TagSaid cells spot s e said → SourceNoted sources sources' c.transitions said →
      CountedBy c said r → MarkNoted cells sources sources' c spot m r
  mark_tag a s e said sources' r q t n k =
      record {
        said = said;
        of = λ a' s' e' g. let x : s ≡ s' = cc in let y : e ≡ e' = cc in subst (λ (k : ℕ). TagSaid cells spot k e' said) x (subst (λ (k : ℕ). TagSaid cells spot s k said) y t);
        noted = n;
        counted = k;
      }

-- ---- the walk

pub record SourceRoom (text levels cells spots sources : List ℕ) : Type 0 where
  pub walk : WalkRoom text levels cells spots
  pub room : length sources ≡ 2913

-- the facts by any ids: what is noted does not depend on them
abbrev pub facts_of : List (List ℕ) → List ℕ → List Fact
facts_of ids text = facts_from ids [] 0 0 (tags_of text)

transitions_paid : (fs : List Fact) → transition_facts fs * 9 ≤ facts_cells fs
unfolding transition_facts facts_cells
transitions_paid [] = omega arith
transitions_paid (row_fact k q n l ∷ fs) = let h = transitions_paid fs in omega arith
transitions_paid (list_fact j l ∷ fs) = let h = transitions_paid fs in omega arith
transitions_paid (transition_fact s d c y g ∷ fs) = let h = transitions_paid fs in omega arith
transitions_paid (action_fact k a ∷ fs) = let h = transitions_paid fs in omega arith

-- nine cells for each transition, and five bytes pay for four (crate weights)
text_transitions : (ids : List (List ℕ)) (text : List ℕ) → length text ≤ 32768 → transition_facts (facts_of ids text) ≤ 2912
text_transitions ids text short =
    let a = transitions_paid (facts_of ids text) in let b = facts_paid ids (tags_of text) [] 0 0 in let c = tags_paid text in omega arith

pub record Sourced (text levels cells spots sources : List ℕ) (r : Counts) : Type 0 where
  pub room : SourceRoom text levels cells spots sources
  pub rows_few : r.rows ≤ 32768
  pub transitions_few : r.transitions ≤ 2912
  pub rows_are : (ids : List (List ℕ)) → r.rows ≡ row_facts (facts_of ids text)
  pub transitions_are : (ids : List (List ℕ)) → r.transitions ≡ transition_facts (facts_of ids text)
  pub are : (ids : List (List ℕ)) → take r.transitions sources ≡ sources_of (facts_of ids text)

pub record Sourcing (text levels cells spots sources : List ℕ) (t : Turning) (c : Counts) : Type 0 where
  pub at : TurnAt text levels cells spots t
  pub size : length sources ≡ 2913
  pub rows_few : c.rows ≤ t.walk.index
  pub transitions_few : c.transitions ≤ t.walk.index
  pub before : List (List ℕ) → List Fact
  pub left : (ids : List (List ℕ)) → facts_of ids text ≡ before ids ++ facts_left ids text levels spots t
  pub rows_are : (ids : List (List ℕ)) → c.rows ≡ row_facts (before ids)
  pub transitions_are : (ids : List (List ℕ)) → c.transitions ≡ transition_facts (before ids)
  pub are : (ids : List (List ℕ)) → take c.transitions sources ≡ sources_of (before ids)

pub sources_start : (text levels cells spots sources : List ℕ) (t : Turning) → SourceRoom text levels cells spots sources → t ≡ beginning_turn →
    Sourcing text levels cells spots sources t (record { rows = 0; transitions = 0 })
unfolding row_facts transition_facts sources_of
sources_start text levels cells spots sources t h e =
    rw e
    (record {
      at = begin_at text levels cells spots h.walk;
      size = h.room;
      rows_few = omega arith;
      transitions_few = omega arith;
      before = λ ids. [];
      left = λ ids. sym (begin_left ids text levels spots);
      rows_are = λ ids. refl;
      transitions_are = λ ids. refl;
      are = λ ids. refl;
    })

module _ (text levels cells₀ spots sources : List ℕ) (t : Turning) (c : Counts) (k : Sourcing text levels cells₀ spots sources t c) (levels' cells spots' : List ℕ) (r : Turning)
    (next : NextTurn text levels levels' cells spots spots' t r) (found : Bool) (e : found ≡ is_mark r.walk.mark) where
  counted_few : c.transitions ≤ 2912
  counted_few =
      let a = k.transitions_are [] in let b = ap transition_facts (k.left []) in let d = transition_facts_append (k.before []) (facts_left [] text levels spots t) in
      let f = text_transitions [] text k.at.standing.short in omega arith

  pub sources_end : length levels' ≡ length levels → length spots' ≡ length spots → not found ≡ true → Sourced text levels' cells spots' sources c
  sources_end ll ls q =
      let i = k.at.standing.within in let s = k.at.standing.short in let a = k.rows_few in
      record {
        room =
            record {
              walk = record { short = s; deep = ll ∙ k.at.standing.room; cells_room = next.stated.room; spots_room = ls ∙ k.at.spots_room };
              room = k.size;
            };
        rows_few = omega arith;
        transitions_few = counted_few;
        rows_are = λ ids. k.rows_are ids ∙ ap row_facts (sym (all ids));
        transitions_are = λ ids. k.transitions_are ids ∙ ap transition_facts (sym (all ids));
        are = λ ids. k.are ids ∙ ap sources_of (sym (all ids));
      }
    where
      all : (ids : List (List ℕ)) → facts_of ids text ≡ k.before ids
      all ids = k.left ids ∙ ap (λ (fs : List Fact). k.before ids ++ fs) (next.none (sym e ∙ not-true found q) ids) ∙ append-nil (k.before ids)

  module _ (q : not found ≡ false) where
    is_tag : is_mark r.walk.mark ≡ true
    is_tag = sym e ∙ not-false found q

    pub sources_less : length text - r.walk.index < length text - t.walk.index
    sources_less = let f = next.further is_tag in let i = (next.turn_at is_tag).standing.within in omega arith

    pub sources_room : MarkRoom cells sources c r.spot
    sources_room =
        let f = next.further is_tag in let i = (next.turn_at is_tag).standing.within in let s = k.at.standing.short in let a = k.rows_few in let b = k.transitions_few in let z = k.size in let n = counted_few in
        record { cells_room = next.stated.room; counts_fit_lem = record { rows_fit = omega arith; transitions_fit = omega arith }; there = omega arith; number_fits = next.number_fits is_tag }

    pub sources_more : (sources' : List ℕ) (c' : Counts) → MarkNoted cells sources sources' c r.spot r.walk.mark c' → Sourcing text levels' cells spots' sources' r c'
    sources_more sources' c' n = by r.walk.mark refl
      where
        clash : true ≡ false → ⊥
        clash x = let z : ◌≡◌ {A = ℕ} 0 1 = cc in omega arith

        by : (m : Mark) → r.walk.mark ≡ m → Sourcing text levels' cells spots' sources' r c'
        by marks.Nothing g = absurd (clash (sym is_tag ∙ ap is_mark g))
        by (marks.Valued d w a b) g = absurd (clash (sym (ap is_value_mark g) ∙ next.no_value))
        by (marks.Tagged a s d) g =
            let f = next.further is_tag in let x = n.counted.rows_are in let y = n.counted.transitions_are in let a = k.rows_few in let b = k.transitions_few in
            let u = rows_by n.said in let v = transitions_by n.said in
            record {
              at = next.turn_at is_tag;
              size = n.noted.size ∙ k.size;
              rows_few = omega arith;
              transitions_few = omega arith;
              before = λ ids. k.before ids ++ here ids;
              left = λ ids. k.left ids ∙ ap (λ (fs : List Fact). k.before ids ++ fs) (split ids) ∙ sym (append_assoc (k.before ids) (here ids) (facts_left ids text levels' spots' r));
              rows_are = λ ids.
                  n.counted.rows_are ∙ ap (λ (z : ℕ). z + rows_said n.said) (k.rows_are ids) ∙ ap (λ (z : ℕ). row_facts (k.before ids) + z) (sym (said_rows ids r.spot s d next.parts n.said)) ∙
                  sym (row_facts_append (k.before ids) (here ids));
              transitions_are = λ ids.
                  n.counted.transitions_are ∙ ap (λ (z : ℕ). z + length (sources_said n.said)) (k.transitions_are ids) ∙
                  ap (λ (z : ℕ). transition_facts (k.before ids) + z) (sym (said_transitions ids r.spot s d next.parts n.said)) ∙ sym (transition_facts_append (k.before ids) (here ids));
              are = λ ids.
                  ap (λ (x : ℕ). take x sources') n.counted.transitions_are ∙ n.noted.are ∙ ap (λ (l : List ℕ). l ++ sources_said n.said) (k.are ids) ∙ ap (λ (l : List ℕ). sources_of (k.before ids) ++ l) (sym (said_sources ids r.spot s d next.parts n.said)) ∙
                  sym (sources_append (k.before ids) (here ids));
            }
          where
            here : List (List ℕ) → List Fact
            here ids = said_facts ids d next.parts n.said ++ end_said r.spot s d

            split : (ids : List (List ℕ)) → facts_left ids text levels spots t ≡ here ids ++ facts_left ids text levels' spots' r
            split ids =
                next.more ids a s d g ∙
                ap (λ (fs : List Fact). fs ++ facts_left ids text levels' spots' r)
                ((n.of a s d g).is ids t.rows t.transitions a next.parts (next.stated.there 29 (omega arith) (omega arith)) (next.stated.there 30 (omega arith) (omega arith)))
