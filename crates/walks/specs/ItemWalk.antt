-- The walk that counts the items of a text or lays them out.
use Rattle.std.specs.Prelude.{◌≡◌, refl, Bool, true, false, not, cond, ℕ, zero, suc, ◌+◌, ◌*◌, ◌-◌, ◌≤◌, ◌<◌, length, get_or, take, drop}
use Rattle.std.proofs.Common.{sym, ap, ◌∙◌, arith, length-append, length-drop}
use Rattle.std.proofs.Math.Path.{subst}
use mathlib.Core.List.{List, [], ◌∷◌, ◌++◌, append_assoc}
use Rattle.std.proofs.Math.Option.{none, some}
use Rattle.marks.specs.Marks.{is_mark}
use Rattle.reading.specs.Tags.{Part, tags_of}
use Rattle.reading.specs.Faults.{names_in, value_of, initial_word, target_word, event_word}
use Rattle.reading.specs.Content.{Fact, facts_from, Act, raises, hosts, if_in, elseif_in, otherwise, end_if, sends, cancels, act_in, slots_of}
use Rattle.reading.specs.Layout.{act_cells}
use Rattle.tags.specs.Cells.{long_cell, from_in, Stated}
use Rattle.turns.specs.declared.SpotCells.{SpotCells}
use Rattle.turns.specs.declared.Turning.{Turning}
use Rattle.turns.specs.Next.{facts_left, NextTurn}
use Rattle.facts.specs.declared.Said.{Said}
use Rattle.facts.specs.declared.Said.TheVariants.{Nothing, Row, List as ListOf, Transition, Action}
use Rattle.facts.specs.Facts.{part_of, said_facts, ends}
use Rattle.facts.specs.Appended.{row_facts, transition_facts}
use Rattle.values.specs.Ids.{ids_from}
use Rattle.bins.specs.Binned.{Item, values_of, Binned}
use Rattle.items.specs.Items.{under, bin_count, key_of_block, items_from}
use Rattle.items.specs.Values.{items_append, values_append}
use Rattle.walks.specs.declared.plan.Plan.{Plan}
use Rattle.walks.specs.declared.sources.Counts.{Counts}
use Rattle.walks.specs.Filed.{Filed, Awaits}
use Rattle.walks.specs.Keys.{key_of, other_of}
use Rattle.walks.specs.Names.{items_by, names_items, names_few}
use Rattle.walks.specs.Said.{beginning_turn, end_said, TagSaid}
use Rattle.walks.specs.Passed.{Passed, passed_start, passed_all, passed_further, passed_within, passed_less, passed_counts, passed_clean, passed_split, passed_more}
use Rattle.walks.specs.Plan.{text_items, counts_of, lay_base, Named, FileRoom, FiledAll}
use Rattle.walks.specs.TagItems.{said_items, end_items}
use Rattle.walks.specs.Tags.{shape_in, element_in, tag_items_lem, TagRoom, TagFiled}

-- ---- a tag has no more than 65,540 items

take_few : (m : ℕ) (l : List ℕ) → length (take m l) ≤ length l
take_few zero l = omega arith
take_few (suc m) [] = omega arith
take_few (suc m) (x ∷ xs) = let h = take_few m xs in omega arith

pub under_length : (k : ℕ) (vs : List ℕ) → length (under k vs) ≡ length vs
unfolding under
under_length k [] = refl
under_length k (v ∷ vs) = ap suc (under_length k vs)

by_length : (k s : ℕ) (names ds : List (List ℕ)) → length (items_by k s names ds) ≡ length ds
unfolding items_by
by_length k s names [] = refl
by_length k s names (d ∷ ds) = ap suc (by_length k s names ds)

pub four : (slots : List (List ℕ)) (a : Act) → length (act_cells slots a) ≡ 4
four slots (raises n) = refl
four slots (hosts k) = refl
four slots (if_in i) = refl
four slots (elseif_in i) = refl
four slots otherwise = refl
four slots end_if = refl
four slots (sends n d none) = refl
four slots (sends n d (some i)) = refl
four slots (cancels n) = refl

module _ (text cells : List ℕ) (ps : List Part) (h : Stated text cells ps) (short : length text ≤ 32768) where
  value_few : (w : ℕ) → 24 ≤ w → w < 35 → length (value_of w ps) ≤ 32768
  value_few w l u =
      let e = ap length (h.value w l u) in
      let a = take_few (get_or cells (long_cell w) 0 - 1) (drop (from_in cells w) text) in
      let d : length (drop (from_in cells w) text) ≡ length text - from_in cells w = length-drop (from_in cells w) text in
      omega arith

  names_of : (w k s : ℕ) (names : List (List ℕ)) → 24 ≤ w → w < 35 → length (names_items k s names (value_of w ps)) ≤ 32768
  names_of w k s names l u = let a = by_length k s names (names_in (value_of w ps)) in let b = names_few (value_of w ps) in let c = value_few w l u in omega arith

  said_few : (ids slots : List (List ℕ)) (e : ℕ) (said : Said) (k o : ℕ) → length (said_items ids slots e ps said k o) ≤ 65536
  said_few ids slots e Nothing k o = omega arith
  said_few ids slots e (Row q) k o = let a = names_of initial_word k 1 ids (omega arith) (omega arith) in omega arith
  said_few ids slots e (ListOf i) k o = let a = names_of target_word k 1 ids (omega arith) (omega arith) in omega arith
  said_few ids slots e (Transition i) k o =
      let a = names_of target_word k 1 ids (omega arith) (omega arith) in let b = names_of event_word o 0 slots (omega arith) (omega arith) in
      let l = length-append (names_items k 1 ids (value_of target_word ps)) (names_items o 0 slots (value_of event_word ps)) in
      omega arith
  said_few ids slots e (Action b i) k o = let a = under_length k (act_cells slots (act_in ids e ps)) in let c = four slots (act_in ids e ps) in omega arith

  end_few : (n t : ℕ) (ranks : List ℕ) (spot : SpotCells) (s e : ℕ) → length (end_items n t ranks spot s e) ≤ 4
  end_few n t ranks spot s e = by (key_of_block n t ranks (part_of spot.what) spot.number) (ends s e)
    where
      by : (k : ℕ) (z : Bool) → length (cond z (under k (5 ∷ 0 ∷ 0 ∷ 0 ∷ [])) []) ≤ 4
      by k true = let l = under_length k (5 ∷ 0 ∷ 0 ∷ 0 ∷ []) in omega arith
      by k false = omega arith

  tag_few : (ids slots : List (List ℕ)) (n t : ℕ) (ranks : List ℕ) (e i m : ℕ) (spot : SpotCells) (s : ℕ) (said : Said) →
      length (items_from slots n t ranks i m (said_facts ids e ps said ++ end_said spot s e)) ≤ 65540
  tag_few ids slots n t ranks e i m spot s said =
      let q = ap length (tag_items_lem ids slots n t ranks e ps i m spot s said) in
      let l = length-append (said_items ids slots e ps said (key_of n t ranks i m said) (other_of n t ranks m said)) (end_items n t ranks spot s e) in
      let a = said_few ids slots e said (key_of n t ranks i m said) (other_of n t ranks m said) in
      let b = end_few n t ranks spot s e in
      omega arith

-- ---- the items so far

module _ (text ids slots ranks : List ℕ) (p : Plan) where
  abbrev ids_here : List (List ℕ)
  ids_here = ids_from text ids p.ids 0

  abbrev slots_here : List (List ℕ)
  slots_here = ids_from text slots p.slots 0

  abbrev items_after : ℕ → ℕ → List Fact → List Item
  items_after i m fs = items_from slots_here p.rows p.transitions ranks i m fs

  abbrev items_here : List Item
  items_here = items_after 0 0 (facts_from ids_here [] 0 0 (tags_of text))

  items_same : Named text ids slots p → items_here ≡ text_items text ranks p.rows p.transitions
  items_same h =
      ap (λ (s : List (List ℕ)). items_from s p.rows p.transitions ranks 0 0 (facts_from ids_here [] 0 0 (tags_of text))) h.slots_are_lem ∙
      ap (λ (i : List (List ℕ)). items_from (slots_of (tags_of text)) p.rows p.transitions ranks 0 0 (facts_from i [] 0 0 (tags_of text))) h.ids_are

  pub record Walked (out₀ next₀ levels cells spots out next : List ℕ) (t : Turning) (c : Counts) : Type 0 where
    pub out_size : length out ≡ length out₀
    pub next_size : length next ≡ length next₀
    pub named : Named text ids slots p
    pub before : List Fact
    pub passed : Passed text ids_here levels cells spots t c before
    pub filed : Filed (bin_count p.rows p.transitions) (lay_base p.rows p.transitions) p.pass (counts_of items_here) out next (items_after 0 0 before)
    pub few : length (items_after 0 0 before) ≤ t.walk.index * 65544

  pub walked_start : (levels cells spots out next : List ℕ) (t : Turning) → FileRoom text levels spots ids slots ranks out next p → length cells ≡ 22 → t ≡ beginning_turn →
      Walked out next levels cells spots out next t (record { rows = 0; transitions = 0 })
  unfolding items_from values_of
  walked_start levels cells spots out next t h l e =
      subst (λ (x : Turning). Walked out next levels cells spots out next x (record { rows = 0; transitions = 0 })) (sym e)
      (record {
        out_size = refl;
        next_size = refl;
        named = h.named;
        before = [];
        passed =
            passed_start text ids_here levels cells spots (record { short = h.short; deep = h.deep; cells_room = l; spots_room = h.spots_room }) h.named.ids_are h.named.clean;
        filed =
            record {
              room = h.bins;
              few = h.few;
              tallied = λ z k i. h.counting z k i;
              binned = λ z.
                  subst (λ (l : List Item). Binned (bin_count p.rows p.transitions) (lay_base p.rows p.transitions) (counts_of l) out next []) (sym (items_same h.named)) (h.filling z);
            };
        few = omega arith;
      })

  module _ (out₀ next₀ levels cells₀ spots out next : List ℕ) (t : Turning) (c : Counts) (k : Walked out₀ next₀ levels cells₀ spots out next t c) (levels' cells spots' : List ℕ) (r : Turning)
      (turned : NextTurn text levels levels' cells spots spots' t r) (found : Bool) (e : found ≡ is_mark r.walk.mark) where
    pub walked_end : length levels' ≡ length levels → length spots' ≡ length spots → not found ≡ true → FiledAll text levels' spots' ranks out next p
    walked_end ll ls q =
        record {
          deep = ll ∙ k.passed.at.standing.room;
          spots_room = ls ∙ k.passed.at.spots_room;
          tallied = λ z.
              record { room = k.filed.room; count = λ i l. k.filed.tallied z i l ∙ ap (λ (xs : List Item). length (values_of xs i)) (all ∙ items_same k.named) };
          binned = λ z.
              subst (λ (xs : List Item). Binned (bin_count p.rows p.transitions) (lay_base p.rows p.transitions) (counts_of xs) out next xs) (items_same k.named)
              (subst (λ (xs : List Item). Binned (bin_count p.rows p.transitions) (lay_base p.rows p.transitions) (counts_of items_here) out next xs) all (k.filed.binned z));
        }
      where
        all : items_after 0 0 k.before ≡ items_here
        all = ap (items_after 0 0) (passed_all text ids_here levels cells₀ spots t c k.before k.passed levels' cells spots' r turned found e q)

    module _ (q : not found ≡ false) where
      pub walked_less : length text - r.walk.index < length text - t.walk.index
      walked_less = passed_less text ids_here levels cells₀ spots t c k.before k.passed levels' cells spots' r turned found e q

      module _ (s d : ℕ) (si : s ≡ shape_in r.walk.mark) (di : d ≡ element_in r.walk.mark) where
        abbrev here : Said → List Fact
        here said = said_facts ids_here d turned.parts said ++ end_said r.spot s d

        split : (said : Said) → TagSaid cells r.spot s d said → facts_left ids_here text levels spots t ≡ here said ++ facts_left ids_here text levels' spots' r
        split said of = passed_split text ids_here levels cells₀ spots t c k.before k.passed levels' cells spots' r turned found e q s d si di said of

        further : t.walk.index < r.walk.index
        further = passed_further text ids_here levels cells₀ spots t c k.before k.passed levels' cells spots' r turned found e q

        within : r.walk.index ≤ length text
        within = passed_within text ids_here levels cells₀ spots t c k.before k.passed levels' cells spots' r turned found e q

        abbrev more : Said → List Item
        more said = items_after c.rows c.transitions (here said)

        zero-add : (x : ℕ) → 0 + x ≡ x
        zero-add x = omega arith

        -- what stands behind the facts so far is numbered on
        behind : (fs : List Fact) → items_after 0 0 (k.before ++ fs) ≡ items_after 0 0 k.before ++ items_after c.rows c.transitions fs
        behind fs =
            items_append slots_here p.rows p.transitions ranks 0 0 k.before fs ∙
            ap (λ (x : ℕ). items_after 0 0 k.before ++ items_after x (0 + transition_facts k.before) fs) (zero-add (row_facts k.before) ∙ sym k.passed.rows_are) ∙
            ap (λ (x : ℕ). items_after 0 0 k.before ++ items_after c.rows x fs) (zero-add (transition_facts k.before) ∙ sym k.passed.transitions_are)

        module _ (said : Said) (of : TagSaid cells r.spot s d said) where
          all_items : items_here ≡
              items_after 0 0 k.before ++ more said ++
              items_after (c.rows + row_facts (here said)) (c.transitions + transition_facts (here said)) (facts_left ids_here text levels' spots' r)
          all_items =
              let rest = items_after (c.rows + row_facts (here said)) (c.transitions + transition_facts (here said)) (facts_left ids_here text levels' spots' r) in
              ap (items_after 0 0) (k.passed.left ∙ ap (λ (fs : List Fact). k.before ++ fs) (split said of)) ∙ behind (here said ++ facts_left ids_here text levels' spots' r) ∙
              ap (λ (l : List Item). items_after 0 0 k.before ++ l)
              (items_append slots_here p.rows p.transitions ranks c.rows c.transitions (here said) (facts_left ids_here text levels' spots' r)) ∙
              sym (append_assoc (items_after 0 0 k.before) (more said) rest)

          awaits : Awaits (bin_count p.rows p.transitions) p.pass (counts_of items_here) (items_after 0 0 k.before) (more said)
          awaits =
              let f = further in let i = within in let u = k.passed.at.standing.short in let w = k.few in
              let m = tag_few text cells turned.parts turned.stated u ids_here slots_here p.rows p.transitions ranks d c.rows c.transitions r.spot s said in
              record { few = omega arith; fits = λ z b l. fits b }
            where
              rest : List Item
              rest = items_after (c.rows + row_facts (here said)) (c.transitions + transition_facts (here said)) (facts_left ids_here text levels' spots' r)

              fits : (b : ℕ) → length (values_of (items_after 0 0 k.before ++ more said) b) ≤ length (values_of items_here b)
              fits b =
                  let q1 = ap (λ (l : List Item). length (values_of l b)) all_items in
                  let q2 = ap length (values_append (items_after 0 0 k.before ++ more said) rest b) in
                  let q3 = length-append (values_of (items_after 0 0 k.before ++ more said) b) (values_of rest b) in
                  omega arith

        pub walked_room : TagRoom text cells ids slots ranks out next p (record { spot = r.spot; shape = s; element = d; counts = c })
        walked_room =
            record {
              act =
                  record {
                    short = k.passed.at.standing.short;
                    ids_noted = k.named.ids_noted;
                    slots_noted = k.named.slots_noted;
                    parts = turned.parts;
                    stated = turned.stated;
                    clean = passed_clean text ids_here levels cells₀ spots t c k.before k.passed levels' cells spots' r turned found e q s d si di;
                  };
              few = record { rows = k.named.rows_few; transitions = k.named.transitions_few };
              counts_fit_lem = passed_counts text ids_here levels cells₀ spots t c k.before k.passed levels' cells spots' r turned found e q;
              able = λ said of.
                  record { base = lay_base p.rows p.transitions; counts = counts_of items_here; items = items_after 0 0 k.before; filed = k.filed; awaits = awaits said of };
            }

        pub walked_more : (out' next' : List ℕ) (c' : Counts) →
            TagFiled text cells ids slots ranks out out' next next' p (record { spot = r.spot; shape = s; element = d; counts = c }) c' → Walked out₀ next₀ levels' cells spots' out' next' r c'
        walked_more out' next' c' f =
            let more-far = further in let w = k.few in
            let fs = here f.said in
            let l = ap length (behind fs) in let m = length-append (items_after 0 0 k.before) (more f.said) in
            let few =
            tag_few text cells turned.parts turned.stated k.passed.at.standing.short ids_here slots_here p.rows p.transitions ranks d c.rows c.transitions r.spot s f.said in
            let sized = f.filed turned.parts turned.stated in
            record {
              out_size = sized.out_size ∙ k.out_size;
              next_size = sized.next_size ∙ k.next_size;
              named = k.named;
              before = k.before ++ fs;
              passed = passed_more text ids_here levels cells₀ spots t c k.before k.passed levels' cells spots' r turned found e q s d si di f.said f.of c' f.counted;
              filed =
                  subst (λ (xs : List Item). Filed (bin_count p.rows p.transitions) (lay_base p.rows p.transitions) p.pass (counts_of items_here) out' next' xs) (sym (behind fs))
                  ((f.filed turned.parts turned.stated).is (lay_base p.rows p.transitions) (counts_of items_here) (items_after 0 0 k.before) k.filed (awaits f.said f.of));
              few = omega arith;
            }
