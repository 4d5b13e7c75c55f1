-- The walk that lays the first cells of rows and transitions.
use Rattle.std.specs.Prelude.{◌≡◌, refl, Bool, true, false, not, ℕ, ◌+◌, ◌*◌, ◌-◌, ◌≤◌, ◌<◌, length, drop}
use Rattle.std.proofs.Math.Path.{sym, ap, subst}
use Rattle.std.proofs.Common.{◌∙◌, arith}
use mathlib.Core.List.{List, [], ◌++◌}
use Rattle.std.proofs.Math.ListN.{get_or}
use Rattle.marks.specs.Marks.{is_mark}
use Rattle.reading.specs.Tags.{tags_of}
use Rattle.reading.specs.Content.{Fact, facts_from, slots_of}
use Rattle.turns.specs.declared.Turning.{Turning}
use Rattle.turns.specs.Next.{NextTurn}
use Rattle.facts.specs.Facts.{said_facts}
use Rattle.facts.specs.Appended.{row_facts, transition_facts}
use Rattle.values.specs.Ids.{ids_from}
use Rattle.items.specs.Items.{sources_of, Ranked}
use Rattle.items.specs.Order.{transition_at, sources_length}
use Rattle.walks.specs.declared.plan.Plan.{Plan}
use Rattle.walks.specs.declared.sources.Counts.{Counts}
use Rattle.walks.specs.Said.{beginning_turn, end_said}
use Rattle.walks.specs.Passed.{Passed, passed_start, passed_all, passed_less, passed_counts, passed_clean, passed_more}
use Rattle.walks.specs.Plan.{text_facts, lay_base, Named, HeadRoom, RowHead, TransitionHead, HeadsLaid}
use Rattle.walks.specs.Counts.{CountRoom}
use Rattle.walks.specs.Tags.{shape_in, element_in}
use Rattle.walks.specs.Heads.{heads_from, heads_append, TagHeadRoom, TagLaid}
use Rattle.walks.specs.Headed.{heads_behind, rows_at, transitions_at, ranks_distinct}

-- ---- all cells of all facts

module _ (text ranks out out' : List ℕ) (p : Plan) (ranked : Ranked p.rows p.transitions (sources_of (text_facts text)) ranks) (room : lay_base p.rows p.transitions ≤ length out)
    (laid : out' ≡ heads_from (slots_of (tags_of text)) p.rows p.transitions ranks 0 0 out (text_facts text)) where
  zero-add : (k : ℕ) → 0 + k ≡ k
  zero-add k = omega arith

  all_behind : drop (lay_base p.rows p.transitions) out' ≡ drop (lay_base p.rows p.transitions) out
  all_behind = ap (drop (lay_base p.rows p.transitions)) laid ∙ heads_behind (slots_of (tags_of text)) p.rows p.transitions ranks 0 0 out (text_facts text)

  row_head : (i : ℕ) → i < p.rows → i < row_facts (text_facts text) → RowHead text i out'
  row_head i h l =
      let cells = rows_at (slots_of (tags_of text)) p.rows p.transitions ranks (text_facts text) 0 0 out (text_facts text) (omega arith) i l (omega arith) in
      let at : (o : ℕ) → get_or out' (6 + i * 11 + o) 0 ≡ get_or (heads_from (slots_of (tags_of text)) p.rows p.transitions ranks 0 0 out (text_facts text)) (6 + (0 + i) * 11 + o) 0 =
      λ o. ap (λ (x : List ℕ). get_or x (6 + i * 11 + o) 0) laid ∙
      ap (λ (x : ℕ). get_or (heads_from (slots_of (tags_of text)) p.rows p.transitions ranks 0 0 out (text_facts text)) (6 + x * 11 + o) 0) (sym (zero-add i)) in
      record { kind_is = first ∙ cells.kind_is; parent_is = at 1 ∙ cells.parent_is; id_is = at 2 ∙ cells.id_is }
    where
      first : get_or out' (6 + i * 11) 0 ≡ get_or (heads_from (slots_of (tags_of text)) p.rows p.transitions ranks 0 0 out (text_facts text)) (6 + (0 + i) * 11) 0
      first =
          ap (λ (x : List ℕ). get_or x (6 + i * 11) 0) laid ∙
          ap (λ (x : ℕ). get_or (heads_from (slots_of (tags_of text)) p.rows p.transitions ranks 0 0 out (text_facts text)) (6 + x * 11) 0) (sym (zero-add i))

  many : length (sources_of (text_facts text)) ≡ transition_facts (text_facts text)
  many = sources_length (text_facts text)

  transition_head : (m : ℕ) → m < transition_facts (text_facts text) → get_or ranks m 0 < p.transitions → TransitionHead text p.rows (get_or ranks m 0) m out'
  unfolding transition_at
  transition_head m h l =
      let e = many in
      let z : get_or ranks (0 + m) 0 ≡ get_or ranks m 0 = ap (λ (x : ℕ). get_or ranks x 0) (zero-add m) in
      let cells =
      transitions_at (slots_of (tags_of text)) p.rows p.transitions ranks (length (sources_of (text_facts text)))
      (ranks_distinct p.rows p.transitions (sources_of (text_facts text)) ranks ranked) (text_facts text) 0 0 out (text_facts text) room (omega arith) m h (omega arith) in
      record {
        source_is = at 0 (ap (λ (x : ℕ). get_or (heads_from (slots_of (tags_of text)) p.rows p.transitions ranks 0 0 out (text_facts text)) (6 + p.rows * 11 + x * 9) 0) z) ∙ cells.source_is;
        condition_is = there 3 ∙ cells.condition_is;
        internal_is_lem = there 4 ∙ cells.internal_is_lem;
      }
    where
      at : (o : ℕ) → get_or (heads_from (slots_of (tags_of text)) p.rows p.transitions ranks 0 0 out (text_facts text)) (6 + p.rows * 11 + get_or ranks (0 + m) 0 * 9) 0 ≡
          get_or (heads_from (slots_of (tags_of text)) p.rows p.transitions ranks 0 0 out (text_facts text)) (6 + p.rows * 11 + get_or ranks m 0 * 9) 0 →
          get_or out' (6 + p.rows * 11 + get_or ranks m 0 * 9) 0 ≡
          get_or (heads_from (slots_of (tags_of text)) p.rows p.transitions ranks 0 0 out (text_facts text)) (6 + p.rows * 11 + get_or ranks (0 + m) 0 * 9) 0
      at o q = ap (λ (x : List ℕ). get_or x (6 + p.rows * 11 + get_or ranks m 0 * 9) 0) laid ∙ sym q

      there : (o : ℕ) → get_or out' (6 + p.rows * 11 + get_or ranks m 0 * 9 + o) 0 ≡
          get_or (heads_from (slots_of (tags_of text)) p.rows p.transitions ranks 0 0 out (text_facts text)) (6 + p.rows * 11 + get_or ranks (0 + m) 0 * 9 + o) 0
      there o =
          ap (λ (x : List ℕ). get_or x (6 + p.rows * 11 + get_or ranks m 0 * 9 + o) 0) laid ∙
          ap (λ (x : ℕ). get_or (heads_from (slots_of (tags_of text)) p.rows p.transitions ranks 0 0 out (text_facts text)) (6 + p.rows * 11 + get_or ranks x 0 * 9 + o) 0) (sym (zero-add m))

-- ---- the walk

module _ (text ids slots ranks : List ℕ) (p : Plan) where
  abbrev ids_here : List (List ℕ)
  ids_here = ids_from text ids p.ids 0

  abbrev heads_after : ℕ → ℕ → List ℕ → List Fact → List ℕ
  heads_after i m out fs = heads_from (ids_from text slots p.slots 0) p.rows p.transitions ranks i m out fs

  pub record Heading (out₀ levels cells spots out : List ℕ) (t : Turning) (c : Counts) : Type 0 where
    pub named : Named text ids slots p
    pub ranked : Ranked p.rows p.transitions (sources_of (text_facts text)) ranks
    pub room : lay_base p.rows p.transitions ≤ length out₀
    pub size : length out ≡ length out₀
    pub before : List Fact
    pub passed : Passed text ids_here levels cells spots t c before
    pub laid : out ≡ heads_after 0 0 out₀ before

  pub heading_start : (levels cells spots out : List ℕ) (t : Turning) → HeadRoom text levels spots ids slots ranks out p → length cells ≡ 22 → t ≡ beginning_turn →
      Heading out levels cells spots out t (record { rows = 0; transitions = 0 })
  unfolding heads_from
  heading_start levels cells spots out t h l e =
      subst (λ (x : Turning). Heading out levels cells spots out x (record { rows = 0; transitions = 0 })) (sym e)
      (record {
        named = h.named;
        ranked = h.ranked;
        room = h.room;
        size = refl;
        before = [];
        passed =
            passed_start text ids_here levels cells spots (record { short = h.short; deep = h.deep; cells_room = l; spots_room = h.spots_room }) h.named.ids_are h.named.clean;
        laid = refl;
      })

  module _ (out₀ levels cells₀ spots out : List ℕ) (t : Turning) (c : Counts) (k : Heading out₀ levels cells₀ spots out t c) (levels' cells spots' : List ℕ) (r : Turning)
      (turned : NextTurn text levels levels' cells spots spots' t r) (found : Bool) (e : found ≡ is_mark r.walk.mark) where
    pub heading_end : length levels' ≡ length levels → length spots' ≡ length spots → not found ≡ true → HeadsLaid text levels' spots' ranks out₀ out p
    heading_end ll ls q =
        record {
          deep = ll ∙ k.passed.at.standing.room;
          spots_room = ls ∙ k.passed.at.spots_room;
          behind = all_behind text ranks out₀ out p k.ranked k.room all;
          rows_are = row_head text ranks out₀ out p k.ranked k.room all;
          transitions_are = transition_head text ranks out₀ out p k.ranked k.room all;
        }
      where
        all : out ≡ heads_from (slots_of (tags_of text)) p.rows p.transitions ranks 0 0 out₀ (text_facts text)
        all =
            k.laid ∙ ap (heads_after 0 0 out₀) (passed_all text ids_here levels cells₀ spots t c k.before k.passed levels' cells spots' r turned found e q) ∙
            ap (λ (s : List (List ℕ)). heads_from s p.rows p.transitions ranks 0 0 out₀ (facts_from ids_here [] 0 0 (tags_of text))) k.named.slots_are_lem ∙
            ap (λ (i : List (List ℕ)). heads_from (slots_of (tags_of text)) p.rows p.transitions ranks 0 0 out₀ (facts_from i [] 0 0 (tags_of text))) k.named.ids_are

    module _ (q : not found ≡ false) where
      pub heading_less : length text - r.walk.index < length text - t.walk.index
      heading_less = passed_less text ids_here levels cells₀ spots t c k.before k.passed levels' cells spots' r turned found e q

      module _ (s d : ℕ) (si : s ≡ shape_in r.walk.mark) (di : d ≡ element_in r.walk.mark) where
        pub heading_room : TagHeadRoom text cells ids slots out p × CountRoom c
        heading_room =
            let z = k.size in let b = k.room in (
              record {
                act =
                    record {
                      short = k.passed.at.standing.short;
                      ids_noted = k.named.ids_noted;
                      slots_noted = k.named.slots_noted;
                      parts = turned.parts;
                      stated = turned.stated;
                      clean = passed_clean text ids_here levels cells₀ spots t c k.before k.passed levels' cells spots' r turned found e q s d si di;
                    };
                few = record { rows = k.named.rows_few; transitions = k.named.transitions_few };
                room = omega arith;
              },
              passed_counts text ids_here levels cells₀ spots t c k.before k.passed levels' cells spots' r turned found e q,
            )

        pub heading_more : (out' : List ℕ) (c' : Counts) → TagLaid text cells ids slots ranks out out' p (record { spot = r.spot; shape = s; element = d; counts = c }) c' →
            Heading out₀ levels' cells spots' out' r c'
        heading_more out' c' f =
            record {
              named = k.named;
              ranked = k.ranked;
              room = k.room;
              size = f.size ∙ k.size;
              before = k.before ++ here;
              passed = passed_more text ids_here levels cells₀ spots t c k.before k.passed levels' cells spots' r turned found e q s d si di f.said f.of c' f.counted;
              laid =
                  f.laid turned.parts turned.stated ∙ ap (λ (o : List ℕ). heads_after c.rows c.transitions o here) k.laid ∙
                  ap (λ (x : ℕ). heads_after x c.transitions (heads_after 0 0 out₀ k.before) here) (k.passed.rows_are ∙ plus (row_facts k.before)) ∙
                  ap (λ (x : ℕ). heads_after (0 + row_facts k.before) x (heads_after 0 0 out₀ k.before) here) (k.passed.transitions_are ∙ plus (transition_facts k.before)) ∙
                  sym (heads_append (ids_from text slots p.slots 0) p.rows p.transitions ranks 0 0 out₀ k.before here);
            }
          where
            here : List Fact
            here = said_facts ids_here d turned.parts f.said ++ end_said r.spot s d

            plus : (x : ℕ) → x ≡ 0 + x
            plus x = omega arith
