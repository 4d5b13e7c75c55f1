-- A walk over the tags of a text without faults: the facts that it has passed, and those of the next tag.
use Rattle.std.specs.Prelude.{◌≡◌, refl, Bool, true, false, not, ℕ, ◌+◌, ◌-◌, ◌≤◌, ◌<◌, length}
use Rattle.std.proofs.Math.Path.{sym, ap}
use Rattle.std.proofs.Common.{◌∙◌, arith}
use mathlib.Core.List.{List, [], ◌∷◌, ◌++◌, append_assoc, append-nil}
use Rattle.std.proofs.Math.Option.{none}
use Rattle.std.proofs.lemmas.Bool.{not-true, not-false}
use Rattle.definition.specs.Rows.{flat}
use Rattle.marks.specs.declared.Mark.{Mark}
use Rattle.marks.specs.declared.Mark.TheVariants as marks
use Rattle.marks.specs.Marks.{is_mark}
use Rattle.marks.specs.Grouped.{shape_of}
use Rattle.reading.specs.Tags.{Markup, tags_of}
use Rattle.reading.specs.Faults.{ids_of, first_fault, part_faults, tag_faults}
use Rattle.reading.specs.Content.{Fact, facts_from}
use Rattle.tags.specs.Cells.{is_value_mark}
use Rattle.tags.specs.Tags.{tags_left, tags_begin}
use Rattle.turns.specs.declared.Turning.{Turning}
use Rattle.turns.specs.Next.{TurnAt, facts_left, NextTurn}
use Rattle.facts.specs.declared.Said.{Said}
use Rattle.facts.specs.Facts.{said_facts}
use Rattle.facts.specs.Appended.{row_facts, transition_facts, row_facts_append, transition_facts_append}
use Rattle.facts.specs.Clean.{clean_text, clean_parts, clean_rest}
use Rattle.walks.specs.declared.sources.Counts.{Counts}
use Rattle.walks.specs.Said.{beginning_turn, WalkRoom, begin_at, begin_left, end_said, TagSaid}
use Rattle.walks.specs.Counts.{rows_said, sources_said, rows_by, transitions_by, said_rows, said_transitions, CountRoom, CountedBy}
use Rattle.walks.specs.Tags.{shape_in, element_in}

module _ (text : List ℕ) (ids : List (List ℕ)) where
  pub record Passed (levels cells spots : List ℕ) (t : Turning) (c : Counts) (before : List Fact) : Type 0 where
    pub at : TurnAt text levels cells spots t
    pub rows_few : c.rows ≤ t.walk.index
    pub transitions_few : c.transitions ≤ t.walk.index
    pub left : facts_from ids [] 0 0 (tags_of text) ≡ before ++ facts_left ids text levels spots t
    pub clean : flat (tag_faults ids) (tags_left text levels t.walk) ≡ []
    pub rows_are : c.rows ≡ row_facts before
    pub transitions_are : c.transitions ≡ transition_facts before

  pub passed_start : (levels cells spots : List ℕ) → WalkRoom text levels cells spots → ids ≡ ids_of (tags_of text) → first_fault (tags_of text) ≡ none →
      Passed levels cells spots beginning_turn (record { rows = 0; transitions = 0 }) []
  unfolding row_facts transition_facts
  passed_start levels cells spots h e f =
      record {
        at = begin_at text levels cells spots h;
        rows_few = omega arith;
        transitions_few = omega arith;
        left = sym (begin_left ids text levels spots);
        clean = ap (flat (tag_faults ids)) (tags_begin text levels) ∙ ap (λ (i : List (List ℕ)). flat (tag_faults i) (tags_of text)) e ∙ clean_text (tags_of text) f;
        rows_are = refl;
        transitions_are = refl;
      }

  module _ (levels cells₀ spots : List ℕ) (t : Turning) (c : Counts) (before : List Fact) (k : Passed levels cells₀ spots t c before) (levels' cells spots' : List ℕ) (r : Turning)
      (turned : NextTurn text levels levels' cells spots spots' t r) (found : Bool) (e : found ≡ is_mark r.walk.mark) where
    pub passed_all : not found ≡ true → before ≡ facts_from ids [] 0 0 (tags_of text)
    passed_all q = sym (k.left ∙ ap (λ (fs : List Fact). before ++ fs) (turned.none (sym e ∙ not-true found q) ids) ∙ append-nil before)

    module _ (q : not found ≡ false) where
      is_tag : is_mark r.walk.mark ≡ true
      is_tag = sym e ∙ not-false found q

      pub passed_further : t.walk.index < r.walk.index
      passed_further = turned.further is_tag

      pub passed_within : r.walk.index ≤ length text
      passed_within = (turned.turn_at is_tag).standing.within

      pub passed_less : length text - r.walk.index < length text - t.walk.index
      passed_less = let f = passed_further in let i = passed_within in omega arith

      pub passed_counts : CountRoom c
      passed_counts =
          let f = passed_further in let i = passed_within in let u = k.at.standing.short in let a = k.rows_few in let b = k.transitions_few in
          record { rows_fit = omega arith; transitions_fit = omega arith }

      module _ (s d : ℕ) (si : s ≡ shape_in r.walk.mark) (di : d ≡ element_in r.walk.mark) where
        clash : true ≡ false → ⊥
        clash x = let z : ◌≡◌ {A = ℕ} 0 1 = cc in omega arith

        -- the mark ends a tag
        with_tag : (A : Type 0) → ((a : ℕ) → r.walk.mark ≡ marks.Tagged a s d → A) → A
        with_tag A f = by r.walk.mark refl
          where
            by : (m : Mark) → r.walk.mark ≡ m → A
            by marks.Nothing g = absurd (clash (sym is_tag ∙ ap is_mark g))
            by (marks.Valued x w a b) g = absurd (clash (sym (ap is_value_mark g) ∙ turned.no_value))
            by (marks.Tagged a s' d') g =
                f a (g ∙ ap (λ (x : ℕ). marks.Tagged a x d') (sym (si ∙ ap shape_in g)) ∙ ap (λ (x : ℕ). marks.Tagged a s x) (sym (di ∙ ap element_in g)))

        abbrev tag_here : ℕ → Markup
        tag_here a = record { at = a; shape = shape_of s; element = d; parts = turned.parts }

        clean_tags : (a : ℕ) → r.walk.mark ≡ marks.Tagged a s d → flat (tag_faults ids) (tag_here a ∷ tags_left text levels' r.walk) ≡ []
        clean_tags a g = ap (flat (tag_faults ids)) (sym (turned.tags a s d g)) ∙ k.clean

        -- the tag has no fault
        pub passed_clean : flat (part_faults ids) turned.parts ≡ []
        passed_clean = with_tag (flat (part_faults ids) turned.parts ≡ []) (λ a g. clean_parts ids (tag_here a) (tags_left text levels' r.walk) (clean_tags a g))

        clean_next : flat (tag_faults ids) (tags_left text levels' r.walk) ≡ []
        clean_next = with_tag (flat (tag_faults ids) (tags_left text levels' r.walk) ≡ []) (λ a g. clean_rest ids (tag_here a) (tags_left text levels' r.walk) (clean_tags a g))

        module _ (said : Said) (of : TagSaid cells r.spot s d said) where
          -- its facts are the first of those that were left
          pub passed_split : facts_left ids text levels spots t ≡ (said_facts ids d turned.parts said ++ end_said r.spot s d) ++ facts_left ids text levels' spots' r
          passed_split =
              with_tag (facts_left ids text levels spots t ≡ (said_facts ids d turned.parts said ++ end_said r.spot s d) ++ facts_left ids text levels' spots' r)
              (λ a g.
              turned.more ids a s d g ∙
              ap (λ (fs : List Fact). fs ++ facts_left ids text levels' spots' r)
              (of.is ids t.rows t.transitions a turned.parts (turned.stated.there 29 (omega arith) (omega arith)) (turned.stated.there 30 (omega arith) (omega arith))))

          pub passed_more : (c' : Counts) → CountedBy c said c' → Passed levels' cells spots' r c' (before ++ (said_facts ids d turned.parts said ++ end_said r.spot s d))
          passed_more c' f =
              let further = passed_further in let a = k.rows_few in let b = k.transitions_few in let x = f.rows_are in let y = f.transitions_are in
              let u = rows_by said in let v = transitions_by said in
              let fs = said_facts ids d turned.parts said ++ end_said r.spot s d in
              record {
                at = turned.turn_at is_tag;
                rows_few = omega arith;
                transitions_few = omega arith;
                left = k.left ∙ ap (λ (gs : List Fact). before ++ gs) passed_split ∙ sym (append_assoc before fs (facts_left ids text levels' spots' r));
                clean = clean_next;
                rows_are =
                    f.rows_are ∙ ap (λ (z : ℕ). z + rows_said said) k.rows_are ∙ ap (λ (z : ℕ). row_facts before + z) (sym (said_rows ids r.spot s d turned.parts said)) ∙
                    sym (row_facts_append before fs);
                transitions_are =
                    f.transitions_are ∙ ap (λ (z : ℕ). z + length (sources_said said)) k.transitions_are ∙
                    ap (λ (z : ℕ). transition_facts before + z) (sym (said_transitions ids r.spot s d turned.parts said)) ∙ sym (transition_facts_append before fs);
              }
