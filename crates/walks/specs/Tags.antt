-- A tag's items are those of its facts.
use Rattle.std.specs.Prelude.{◌≡◌, Bool, ℕ, ◌+◌}
use Rattle.std.proofs.Math.Path.{refl, sym, ap}
use Rattle.std.proofs.Common.{subst, ◌∙◌, arith, add-one}
use Rattle.std.proofs.Math.Bool.{true, false, cond}
use mathlib.Core.List.{List, [], ◌∷◌, ◌++◌, map, append-nil}
use Rattle.marks.specs.declared.Mark.{Mark}
use Rattle.marks.specs.declared.Mark.TheVariants as marks
use Rattle.reading.specs.Tags.{Part}
use Rattle.reading.specs.Faults.{names_in, value_of, initial_word, target_word, event_word}
use Rattle.reading.specs.Content.{place_of, row_named, end_if, action_fact}
use Rattle.tags.specs.Cells.{Stated}
use Rattle.turns.specs.declared.SpotCells.{SpotCells}
use Rattle.facts.specs.declared.Said.{Said}
use Rattle.facts.specs.declared.Said.TheVariants.{Nothing, Row, List as ListOf, Transition, Action}
use Rattle.facts.specs.Facts.{part_of, said_facts, ends}
use Rattle.facts.specs.Appended.{row_facts, transition_facts}
use Rattle.values.specs.Ids.{ids_from}
use Rattle.bins.specs.Binned.{Item}
use Rattle.items.specs.Items.{under, bin_count, key_of_block, items_from}
use Rattle.items.specs.Values.{items_append}
use Rattle.walks.specs.declared.plan.Plan.{Plan}
use Rattle.walks.specs.declared.sources.Counts.{Counts}
use Rattle.walks.specs.declared.keys.Keys.{Keys}
use Rattle.walks.specs.declared.tag_items.Tag.{Tag}
use Rattle.walks.specs.declared.item_walk.TagAt.{TagAt}
use Rattle.walks.specs.Filed.{Fileable, FiledBy, fileable_first, fileable_rest, filed_both}
use Rattle.walks.specs.Keys.{Few, key_of, other_of, KeysAre}
use Rattle.walks.specs.Names.{items_by}
use Rattle.walks.specs.Acts.{ActRoom}
use Rattle.walks.specs.Said.{end_said, TagSaid}
use Rattle.walks.specs.Counts.{CountRoom, CountedBy}
use Rattle.walks.specs.TagItems.{said_items, SaidRoom, SaidFiled, end_items, EndRoom}

-- ---- the tag that a mark ends

abbrev pub shape_in : Mark → ℕ
shape_in marks.Nothing = 2
shape_in (marks.Valued e w a b) = 2
shape_in (marks.Tagged a s e) = s

abbrev pub element_in : Mark → ℕ
element_in marks.Nothing = 0
element_in (marks.Valued e w a b) = 0
element_in (marks.Tagged a s e) = e

-- ---- the items of a tag's facts

-- rows are numbered from 1 on by their ids, descriptors by their slots
refs_items : (key : ℕ) (ids ds : List (List ℕ)) → items_by key 1 ids ds ≡ under key (map (row_named ids) ds)
unfolding items_by under
refs_items key ids [] = refl
refs_items key ids (d ∷ ds) =
    ap (λ (n : ℕ). record { key = key; value = n } ∷ items_by key 1 ids ds) (add-one (place_of d ids)) ∙ ap (λ (l : List Item). record { key = key; value = row_named ids d } ∷ l) (refs_items key ids ds)

descs_items : (key : ℕ) (slots ds : List (List ℕ)) → items_by key 0 slots ds ≡ under key (map (λ (d' : List ℕ). place_of d' slots) ds)
unfolding items_by under
descs_items key slots [] = refl
descs_items key slots (d ∷ ds) =
    ap (λ (n : ℕ). record { key = key; value = n } ∷ items_by key 0 slots ds) (plus (place_of d slots)) ∙ ap (λ (l : List Item). record { key = key; value = place_of d slots } ∷ l) (descs_items key slots ds)
  where
    plus : (n : ℕ) → n + 0 ≡ n
    plus n = omega arith

module _ (ids slots : List (List ℕ)) (n t : ℕ) (ranks : List ℕ) (e : ℕ) (ps : List Part) where
  said_items_lem : (i m : ℕ) (said : Said) → items_from slots n t ranks i m (said_facts ids e ps said) ≡ said_items ids slots e ps said (key_of n t ranks i m said) (other_of n t ranks m said)
  unfolding items_from
  said_items_lem i m Nothing = refl
  said_items_lem i m (Row q) = append-nil _ ∙ sym (refs_items (key_of n t ranks i m (Row q)) ids (names_in (value_of initial_word ps)))
  said_items_lem i m (ListOf j) = append-nil _ ∙ sym (refs_items (key_of n t ranks i m (ListOf j)) ids (names_in (value_of target_word ps)))
  said_items_lem i m (Transition s) =
      let k = key_of n t ranks i m (Transition s) in let o = other_of n t ranks m (Transition s) in
      let a = names_in (value_of target_word ps) in let b = names_in (value_of event_word ps) in
      append-nil (under k (map (row_named ids) a) ++ under o (map (λ (d' : List ℕ). place_of d' slots) b)) ∙
      ap (λ (l : List Item). l ++ under o (map (λ (d' : List ℕ). place_of d' slots) b)) (sym (refs_items k ids a)) ∙ ap (λ (l : List Item). items_by k 1 ids a ++ l) (sym (descs_items o slots b))
  said_items_lem i m (Action b o) = append-nil _

  end_items_lem : (i m : ℕ) (spot : SpotCells) (s : ℕ) → items_from slots n t ranks i m (end_said spot s e) ≡ end_items n t ranks spot s e
  unfolding items_from
  end_items_lem i m spot s = by (ends s e)
    where
      by : (z : Bool) → items_from slots n t ranks i m (cond z (action_fact (record { part = part_of spot.what; owner = spot.number }) end_if ∷ []) []) ≡
          cond z (under (key_of_block n t ranks (part_of spot.what) spot.number) (5 ∷ 0 ∷ 0 ∷ 0 ∷ [])) []
      by true = append-nil (under (key_of_block n t ranks (part_of spot.what) spot.number) (5 ∷ 0 ∷ 0 ∷ 0 ∷ []))
      by false = refl

  pub tag_items_lem : (i m : ℕ) (spot : SpotCells) (s : ℕ) (said : Said) →
      items_from slots n t ranks i m (said_facts ids e ps said ++ end_said spot s e) ≡
      said_items ids slots e ps said (key_of n t ranks i m said) (other_of n t ranks m said) ++ end_items n t ranks spot s e
  tag_items_lem i m spot s said =
      items_append slots n t ranks i m (said_facts ids e ps said) (end_said spot s e) ∙
      ap (λ (l : List Item). l ++ items_from slots n t ranks (i + row_facts (said_facts ids e ps said)) (m + transition_facts (said_facts ids e ps said)) (end_said spot s e)) (said_items_lem i m said) ∙
      ap (λ (l : List Item). said_items ids slots e ps said (key_of n t ranks i m said) (other_of n t ranks m said) ++ l)
      (end_items_lem (i + row_facts (said_facts ids e ps said)) (m + transition_facts (said_facts ids e ps said)) spot s)

-- ---- one tag

abbrev pub tag_items : List ℕ → List ℕ → List ℕ → List ℕ → Plan → TagAt → List Part → Said → List Item
tag_items text ids slots ranks p g ps said =
    items_from (ids_from text slots p.slots 0) p.rows p.transitions ranks g.counts.rows g.counts.transitions
    (said_facts (ids_from text ids p.ids 0) g.element ps said ++ end_said g.spot g.shape g.element)

pub record TagRoom (text cells ids slots ranks out next : List ℕ) (p : Plan) (g : TagAt) : Type 0 where
  pub act : ActRoom text cells ids slots p
  pub few : Few p.rows p.transitions
  pub counts_fit_lem : CountRoom g.counts
  pub able : (said : Said) → TagSaid cells g.spot g.shape g.element said →
      Fileable (bin_count p.rows p.transitions) p.pass out next (tag_items text ids slots ranks p g act.parts said)

pub record TagFiled (text cells ids slots ranks out out' next next' : List ℕ) (p : Plan) (g : TagAt) (r : Counts) : Type 0 where
  pub said : Said
  pub of : TagSaid cells g.spot g.shape g.element said
  pub counted : CountedBy g.counts said r
  pub filed : (ps : List Part) → Stated text cells ps → FiledBy (bin_count p.rows p.transitions) p.pass out out' next next' (tag_items text ids slots ranks p g ps said)

module _ (text cells ids slots ranks out next : List ℕ) (p : Plan) (g : TagAt) (said : Said) (keys : Keys) (k : KeysAre p.rows p.transitions ranks g.counts said keys) where
  abbrev bins : ℕ
  bins = bin_count p.rows p.transitions

  abbrev tag : Tag
  tag = record { said = said; element = g.element; key = keys.key; other = keys.other }

  abbrev firsts : List Part → List Item
  firsts ps = said_items (ids_from text ids p.ids 0) (ids_from text slots p.slots 0) g.element ps said keys.key keys.other

  abbrev lasts : List Item
  lasts = end_items p.rows p.transitions ranks g.spot g.shape g.element

  parted : (ps : List Part) → tag_items text ids slots ranks p g ps said ≡ firsts ps ++ lasts
  parted ps =
      tag_items_lem (ids_from text ids p.ids 0) (ids_from text slots p.slots 0) p.rows p.transitions ranks g.element ps g.counts.rows g.counts.transitions g.spot g.shape said ∙
      ap (λ (x : ℕ). said_items (ids_from text ids p.ids 0) (ids_from text slots p.slots 0) g.element ps said x (other_of p.rows p.transitions ranks g.counts.transitions said) ++ lasts)
      (sym k.key_is) ∙
      ap (λ (x : ℕ). said_items (ids_from text ids p.ids 0) (ids_from text slots p.slots 0) g.element ps said keys.key x ++ lasts) (sym k.other_is)

  module _ (h : TagRoom text cells ids slots ranks out next p g) (of : TagSaid cells g.spot g.shape g.element said) where
    able : Fileable bins p.pass out next (firsts h.act.parts ++ lasts)
    able = subst (λ (l : List Item). Fileable bins p.pass out next l) (parted h.act.parts) (h.able said of)

    pub tag_said_room : SaidRoom text cells ids slots out next p tag
    tag_said_room = record { act = h.act; few = h.few; able = fileable_first bins p.pass out next (firsts h.act.parts) lasts able }

    module _ (out1 next1 : List ℕ) (a : SaidFiled text cells ids slots out out1 next next1 p tag) where
      pub tag_end_room : EndRoom ranks out1 next1 p g.spot g.shape g.element
      tag_end_room =
          record { few = h.few; able = fileable_rest bins p.pass out next (firsts h.act.parts) lasts able out1 next1 (a.is h.act.parts h.act.stated) }

      pub tag_filed : (out2 next2 : List ℕ) (r : Counts) → FiledBy bins p.pass out1 out2 next1 next2 lasts → CountedBy g.counts said r →
          TagFiled text cells ids slots ranks out out2 next next2 p g r
      tag_filed out2 next2 r b c =
          record {
            said = said;
            of = of;
            counted = c;
            filed = λ ps s.
                subst (λ (l : List Item). FiledBy bins p.pass out out2 next next2 l) (sym (parted ps)) (filed_both bins p.pass out next out1 next1 out2 next2 (firsts ps) lasts (a.is ps s) b);
          }
