-- The items of one tag.
use Rattle.std.specs.Prelude.{◌≡◌, Bool, true, false, cond, List, [], ◌∷◌, ◌++◌, ℕ, ◌-◌, ◌≤◌, ◌<◌, take, drop}
use Rattle.std.proofs.Common.{sym, ap, subst, ◌∙◌, arith}
use Rattle.reading.specs.Tags.{Part}
use Rattle.reading.specs.Faults.{value_of, initial_word, target_word, event_word}
use Rattle.reading.specs.Content.{act_in}
use Rattle.reading.specs.Layout.{act_cells}
use Rattle.tags.specs.Cells.{from_in, to_in, Stated}
use Rattle.turns.specs.declared.SpotCells.{SpotCells}
use Rattle.attribute.specs.Laws.{value_at_lem}
use Rattle.facts.specs.declared.Said.{Said}
use Rattle.facts.specs.declared.Said.TheVariants.{Nothing, Row, List as ListOf, Transition, Action}
use Rattle.facts.specs.Facts.{part_of, ends}
use Rattle.values.specs.Ids.{ids_from}
use Rattle.bins.specs.Binned.{Item}
use Rattle.items.specs.Items.{under, bin_count, key_of_block}
use Rattle.walks.specs.declared.plan.Plan.{Plan}
use Rattle.walks.specs.declared.name_items.Filing.{Filing}
use Rattle.walks.specs.declared.acts.ActCells.{ActCells}
use Rattle.walks.specs.declared.tag_items.Tag.{Tag}
use Rattle.walks.specs.Filed.{Fileable, FiledBy, filed_none, fileable_first, fileable_rest, filed_both}
use Rattle.walks.specs.Keys.{Few}
use Rattle.walks.specs.Names.{names_items, NamesRoom}
use Rattle.walks.specs.Told.{value_at, part_at, word_room, PlaceRoom}
use Rattle.walks.specs.Acts.{four_of, ActRoom, ActIs, FileActRoom}

abbrev pub filing_of : Plan → ℕ → ℕ → Filing
filing_of p key shift = record { bins = bin_count p.rows p.transitions; pass = p.pass; key = key; shift = shift }

pub filing_so : (p : Plan) (key shift b : ℕ) → b ≡ bin_count p.rows p.transitions → ◌≡◌ {A = Filing} (record { bins = b; pass = p.pass; key = key; shift = shift }) (filing_of p key shift)
filing_so p key shift b e = ap (λ (x : ℕ). record { bins = x; pass = p.pass; key = key; shift = shift }) e

-- ---- the names of an attribute's value

pub record ValueRoom (text cells names : List ℕ) (n w : ℕ) (out next : List ℕ) (f : Filing) : Type 0 where
  pub place : PlaceRoom text cells names n w
  pub small : f.shift ≤ 1
  pub able : Fileable f.bins f.pass out next (names_items f.key f.shift (ids_from text names n 0) (value_at text cells w))

module _ (text cells names : List ℕ) (n w : ℕ) (out next : List ℕ) (f : Filing) (h : ValueRoom text cells names n w out next f) (from to : ℕ) (a : from ≡ from_in cells w) (b : to ≡ to_in cells w) where
  part_is : take (to - from) (drop from text) ≡ value_at text cells w
  part_is = part_at text cells w from to a b

  pub value_names : NamesRoom text names n (take (to - from) (drop from text)) out next f
  value_names =
      record {
        noted = h.place.noted;
        small = h.small;
        able = subst (λ (v : List ℕ). Fileable f.bins f.pass out next (names_items f.key f.shift (ids_from text names n 0) v)) (sym part_is) h.able;
      }

  pub value_filed : (out' next' : List ℕ) →
      FiledBy f.bins f.pass out out' next next' (names_items f.key f.shift (ids_from text names n 0) (take (to - from) (drop from text))) →
      FiledBy f.bins f.pass out out' next next' (names_items f.key f.shift (ids_from text names n 0) (value_at text cells w))
  value_filed out' next' g = subst (λ (v : List ℕ). FiledBy f.bins f.pass out out' next next' (names_items f.key f.shift (ids_from text names n 0) v)) part_is g

-- ---- a transition

abbrev pub transition_items : List ℕ → List ℕ → List ℕ → List ℕ → Plan → ℕ → ℕ → List Item
transition_items text cells ids slots p key other =
    names_items key 1 (ids_from text ids p.ids 0) (value_at text cells 31) ++ names_items other 0 (ids_from text slots p.slots 0) (value_at text cells 29)

pub record TransitionRoom (text cells ids slots out next : List ℕ) (p : Plan) (key other : ℕ) : Type 0 where
  pub act : ActRoom text cells ids slots p
  pub few : Few p.rows p.transitions
  pub able : Fileable (bin_count p.rows p.transitions) p.pass out next (transition_items text cells ids slots p key other)

module _ (text cells ids slots : List ℕ) (p : Plan) (act : ActRoom text cells ids slots p) where
  ids_room : (w : ℕ) → 24 ≤ w → w < 35 → PlaceRoom text cells ids p.ids w
  ids_room w l u = record { word = word_room text cells w act.parts act.stated act.short l u; noted = act.ids_noted }

  slots_room : (w : ℕ) → 24 ≤ w → w < 35 → PlaceRoom text cells slots p.slots w
  slots_room w l u = record { word = word_room text cells w act.parts act.stated act.short l u; noted = act.slots_noted }

  abbrev ids_here : List (List ℕ)
  ids_here = ids_from text ids p.ids 0

  abbrev slots_here : List (List ℕ)
  slots_here = ids_from text slots p.slots 0

  value_room_ids : (w : ℕ) (out next : List ℕ) (key : ℕ) (f : Filing) → 24 ≤ w → w < 35 → f ≡ filing_of p key 1 →
      Fileable (bin_count p.rows p.transitions) p.pass out next (names_items key 1 ids_here (value_at text cells w)) → ValueRoom text cells ids p.ids w out next f
  value_room_ids w out next key f l u e a =
      subst (λ (x : Filing). ValueRoom text cells ids p.ids w out next x) (sym e) (record { place = ids_room w l u; small = omega arith; able = a })

  filed_as : (names : List (List ℕ)) (v : List ℕ) (out out' next next' : List ℕ) (key shift : ℕ) (f : Filing) → f ≡ filing_of p key shift →
      FiledBy f.bins f.pass out out' next next' (names_items f.key f.shift names v) →
      FiledBy (bin_count p.rows p.transitions) p.pass out out' next next' (names_items key shift names v)
  filed_as names v out out' next next' key shift f e b =
      subst (λ (x : Filing). FiledBy x.bins x.pass out out' next next' (names_items x.key x.shift names v)) e b

module _ (text cells ids slots out next : List ℕ) (p : Plan) (key other : ℕ) (h : TransitionRoom text cells ids slots out next p key other) (f g : Filing) (e : f ≡ filing_of p key 1)
    (i : g ≡ filing_of p other 0) where
  abbrev target_items : List Item
  target_items = names_items key 1 (ids_from text ids p.ids 0) (value_at text cells 31)

  abbrev descriptor_items : List Item
  descriptor_items = names_items other 0 (ids_from text slots p.slots 0) (value_at text cells 29)

  pub target_room : ValueRoom text cells ids p.ids 31 out next f
  target_room =
      value_room_ids text cells ids slots p h.act 31 out next key f (omega arith) (omega arith) e
      (fileable_first (bin_count p.rows p.transitions) p.pass out next target_items descriptor_items h.able)

  module _ (out1 next1 : List ℕ) (b : FiledBy f.bins f.pass out out1 next next1 (names_items f.key f.shift (ids_from text ids p.ids 0) (value_at text cells 31))) where
    targets : FiledBy (bin_count p.rows p.transitions) p.pass out out1 next next1 target_items
    targets = filed_as text cells ids slots p h.act (ids_from text ids p.ids 0) (value_at text cells 31) out out1 next next1 key 1 f e b

    pub descriptor_room : ValueRoom text cells slots p.slots 29 out1 next1 g
    descriptor_room =
        subst (λ (x : Filing). ValueRoom text cells slots p.slots 29 out1 next1 x) (sym i)
        (record {
          place = slots_room text cells ids slots p h.act 29 (omega arith) (omega arith);
          small = omega arith;
          able = fileable_rest (bin_count p.rows p.transitions) p.pass out next target_items descriptor_items h.able out1 next1 targets;
        })

    pub transition_filed : (out2 next2 : List ℕ) →
        FiledBy g.bins g.pass out1 out2 next1 next2 (names_items g.key g.shift (ids_from text slots p.slots 0) (value_at text cells 29)) →
        FiledBy (bin_count p.rows p.transitions) p.pass out out2 next next2 (transition_items text cells ids slots p key other)
    transition_filed out2 next2 d =
        filed_both (bin_count p.rows p.transitions) p.pass out next out1 next1 out2 next2 target_items descriptor_items targets
        (filed_as text cells ids slots p h.act (ids_from text slots p.slots 0) (value_at text cells 29) out1 out2 next1 next2 other 0 g i d)

-- ---- what the tag says

abbrev pub said_items : List (List ℕ) → List (List ℕ) → ℕ → List Part → Said → ℕ → ℕ → List Item
said_items ids slots e ps Nothing k o = []
said_items ids slots e ps (Row q) k o = names_items k 1 ids (value_of initial_word ps)
said_items ids slots e ps (ListOf i) k o = names_items k 1 ids (value_of target_word ps)
said_items ids slots e ps (Transition i) k o = names_items k 1 ids (value_of target_word ps) ++ names_items o 0 slots (value_of event_word ps)
said_items ids slots e ps (Action b i) k o = under k (act_cells slots (act_in ids e ps))

pub record SaidRoom (text cells ids slots out next : List ℕ) (p : Plan) (g : Tag) : Type 0 where
  pub act : ActRoom text cells ids slots p
  pub few : Few p.rows p.transitions
  pub able : Fileable (bin_count p.rows p.transitions) p.pass out next
      (said_items (ids_from text ids p.ids 0) (ids_from text slots p.slots 0) g.element act.parts g.said g.key g.other)

pub record SaidFiled (text cells ids slots out out' next next' : List ℕ) (p : Plan) (g : Tag) : Type 0 where
  pub is : (ps : List Part) → Stated text cells ps →
      FiledBy (bin_count p.rows p.transitions) p.pass out out' next next'
      (said_items (ids_from text ids p.ids 0) (ids_from text slots p.slots 0) g.element ps g.said g.key g.other)

module _ (text cells ids slots out next : List ℕ) (p : Plan) (g : Tag) where
  abbrev bins : ℕ
  bins = bin_count p.rows p.transitions

  abbrev ids_all : List (List ℕ)
  ids_all = ids_from text ids p.ids 0

  abbrev slots_all : List (List ℕ)
  slots_all = ids_from text slots p.slots 0

  pub said_nothing : g.said ≡ Nothing → SaidFiled text cells ids slots out out next next p g
  said_nothing e =
      record {
        is = λ ps s. subst (λ (x : Said). FiledBy bins p.pass out out next next (said_items ids_all slots_all g.element ps x g.key g.other)) (sym e) (filed_none bins p.pass out next);
      }

  module _ (h : SaidRoom text cells ids slots out next p g) where
    able_as : (x : Said) → g.said ≡ x → Fileable bins p.pass out next (said_items ids_all slots_all g.element h.act.parts x g.key g.other)
    able_as x e = subst (λ (y : Said). Fileable bins p.pass out next (said_items ids_all slots_all g.element h.act.parts y g.key g.other)) e h.able

    -- references of an attribute
    refs_room : (w : ℕ) (f : Filing) → 24 ≤ w → w < 35 → f ≡ filing_of p g.key 1 → Fileable bins p.pass out next (names_items g.key 1 ids_all (value_of w h.act.parts)) →
        ValueRoom text cells ids p.ids w out next f
    refs_room w f l u e a =
        value_room_ids text cells ids slots p h.act w out next g.key f l u e
        (subst (λ (v : List ℕ). Fileable bins p.pass out next (names_items g.key 1 ids_all v)) (sym (value_at_lem text cells w h.act.parts h.act.stated l u)) a)

    refs_filed : (w : ℕ) (f : Filing) (out' next' : List ℕ) → 24 ≤ w → w < 35 → f ≡ filing_of p g.key 1 →
        FiledBy f.bins f.pass out out' next next' (names_items f.key f.shift ids_all (value_at text cells w)) → (ps : List Part) → Stated text cells ps →
        FiledBy bins p.pass out out' next next' (names_items g.key 1 ids_all (value_of w ps))
    refs_filed w f out' next' l u e b ps s =
        subst (λ (v : List ℕ). FiledBy bins p.pass out out' next next' (names_items g.key 1 ids_all v)) (value_at_lem text cells w ps s l u)
        (filed_as text cells ids slots p h.act ids_all (value_at text cells w) out out' next next' g.key 1 f e b)

    as_said : (x : Said) (out' next' : List ℕ) → g.said ≡ x →
        ((ps : List Part) → Stated text cells ps → FiledBy bins p.pass out out' next next' (said_items ids_all slots_all g.element ps x g.key g.other)) →
        SaidFiled text cells ids slots out out' next next' p g
    as_said x out' next' e b =
        record {
          is = λ ps s. subst (λ (y : Said). FiledBy bins p.pass out out' next next' (said_items ids_all slots_all g.element ps y g.key g.other)) (sym e) (b ps s);
        }

    module _ (f : Filing) (i : f ≡ filing_of p g.key 1) where
      pub row_room : (q : ℕ) → g.said ≡ Row q → ValueRoom text cells ids p.ids 27 out next f
      row_room q e = refs_room 27 f (omega arith) (omega arith) i (able_as (Row q) e)

      pub row_filed : (q : ℕ) (out' next' : List ℕ) → g.said ≡ Row q →
          FiledBy f.bins f.pass out out' next next' (names_items f.key f.shift ids_all (value_at text cells 27)) → SaidFiled text cells ids slots out out' next next' p g
      row_filed q out' next' e b = as_said (Row q) out' next' e (refs_filed 27 f out' next' (omega arith) (omega arith) i b)

      pub list_room : (j : ℕ) → g.said ≡ ListOf j → ValueRoom text cells ids p.ids 31 out next f
      list_room j e = refs_room 31 f (omega arith) (omega arith) i (able_as (ListOf j) e)

      pub list_filed : (j : ℕ) (out' next' : List ℕ) → g.said ≡ ListOf j →
          FiledBy f.bins f.pass out out' next next' (names_items f.key f.shift ids_all (value_at text cells 31)) → SaidFiled text cells ids slots out out' next next' p g
      list_filed j out' next' e b = as_said (ListOf j) out' next' e (refs_filed 31 f out' next' (omega arith) (omega arith) i b)

      -- an action
      module _ (b o : ℕ) (e : g.said ≡ Action b o) (a : ActCells) (c : ActIs text cells ids slots p g.element a) where
        pub action_room : FileActRoom out next f a
        action_room =
            record {
              able =
                  subst (λ (x : Filing). Fileable x.bins x.pass out next (under x.key (four_of a))) (sym i)
                  (subst (λ (l : List ℕ). Fileable bins p.pass out next (under g.key l)) (sym (c.is h.act.parts h.act.stated)) (able_as (Action b o) e));
            }

        pub action_filed : (out' next' : List ℕ) → FiledBy f.bins f.pass out out' next next' (under f.key (four_of a)) → SaidFiled text cells ids slots out out' next next' p g
        action_filed out' next' d =
            as_said (Action b o) out' next' e
            (λ ps s.
            subst (λ (l : List ℕ). FiledBy bins p.pass out out' next next' (under g.key l)) (c.is ps s)
            (subst (λ (x : Filing). FiledBy x.bins x.pass out out' next next' (under x.key (four_of a))) i d))

    module _ (j : ℕ) (e : g.said ≡ Transition j) where
      as_values : (ps : List Part) → Stated text cells ps →
          said_items ids_all slots_all g.element ps (Transition j) g.key g.other ≡ transition_items text cells ids slots p g.key g.other
      as_values ps s =
          sym
          (ap (λ (v : List ℕ). names_items g.key 1 ids_all v ++ names_items g.other 0 slots_all (value_at text cells 29)) (value_at_lem text cells 31 ps s (omega arith) (omega arith)) ∙
          ap (λ (v : List ℕ). names_items g.key 1 ids_all (value_of target_word ps) ++ names_items g.other 0 slots_all v) (value_at_lem text cells 29 ps s (omega arith) (omega arith)))

      pub moves_room : TransitionRoom text cells ids slots out next p g.key g.other
      moves_room =
          record {
            act = h.act;
            few = h.few;
            able = subst (λ (l : List Item). Fileable bins p.pass out next l) (as_values h.act.parts h.act.stated) (able_as (Transition j) e);
          }

      pub moves_filed : (out' next' : List ℕ) → FiledBy bins p.pass out out' next next' (transition_items text cells ids slots p g.key g.other) →
          SaidFiled text cells ids slots out out' next next' p g
      moves_filed out' next' b = as_said (Transition j) out' next' e (λ ps s. subst (λ (l : List Item). FiledBy bins p.pass out out' next next' l) (sym (as_values ps s)) b)

-- ---- the end of an if

abbrev pub end_items : ℕ → ℕ → List ℕ → SpotCells → ℕ → ℕ → List Item
end_items n t ranks spot s e = cond (ends s e) (under (key_of_block n t ranks (part_of spot.what) spot.number) (5 ∷ 0 ∷ 0 ∷ 0 ∷ [])) []

pub record EndRoom (ranks out next : List ℕ) (p : Plan) (spot : SpotCells) (s e : ℕ) : Type 0 where
  pub few : Few p.rows p.transitions
  pub able : Fileable (bin_count p.rows p.transitions) p.pass out next (end_items p.rows p.transitions ranks spot s e)

module _ (ranks out next : List ℕ) (p : Plan) (spot : SpotCells) (s e : ℕ) (ended : Bool) (is : ended ≡ ends s e) where
  pub end_none : ended ≡ false → FiledBy (bin_count p.rows p.transitions) p.pass out out next next (end_items p.rows p.transitions ranks spot s e)
  end_none q =
      subst
      (λ (z : Bool). FiledBy (bin_count p.rows p.transitions) p.pass out out next next (cond z (under (key_of_block p.rows p.transitions ranks (part_of spot.what) spot.number) (5 ∷ 0 ∷ 0 ∷ 0 ∷ [])) []))
      (sym q ∙ is) (filed_none (bin_count p.rows p.transitions) p.pass out next)

  module _ (q : ended ≡ true) (part key : ℕ) (a : part ≡ part_of spot.what) (b : key ≡ key_of_block p.rows p.transitions ranks part spot.number) (f : Filing) (i : f ≡ filing_of p key 0) where
    key_so : key ≡ key_of_block p.rows p.transitions ranks (part_of spot.what) spot.number
    key_so = b ∙ ap (λ (x : ℕ). key_of_block p.rows p.transitions ranks x spot.number) a

    ended_items : end_items p.rows p.transitions ranks spot s e ≡ under key (5 ∷ 0 ∷ 0 ∷ 0 ∷ [])
    ended_items =
        ap (λ (z : Bool). cond z (under (key_of_block p.rows p.transitions ranks (part_of spot.what) spot.number) (5 ∷ 0 ∷ 0 ∷ 0 ∷ [])) []) (sym is ∙ q) ∙
        ap (λ (k : ℕ). under k (5 ∷ 0 ∷ 0 ∷ 0 ∷ [])) (sym key_so)

    pub end_room : EndRoom ranks out next p spot s e → FileActRoom out next f (record { what = 5; first = 0; second = 0; third = 0 })
    end_room h =
        record {
          able =
              subst (λ (x : Filing). Fileable x.bins x.pass out next (under x.key (5 ∷ 0 ∷ 0 ∷ 0 ∷ []))) (sym i)
              (subst (λ (l : List Item). Fileable (bin_count p.rows p.transitions) p.pass out next l) ended_items h.able);
        }

    pub end_filed : (out' next' : List ℕ) → FiledBy f.bins f.pass out out' next next' (under f.key (5 ∷ 0 ∷ 0 ∷ 0 ∷ [])) →
        FiledBy (bin_count p.rows p.transitions) p.pass out out' next next' (end_items p.rows p.transitions ranks spot s e)
    end_filed out' next' d =
        subst (λ (l : List Item). FiledBy (bin_count p.rows p.transitions) p.pass out out' next next' l) (sym ended_items)
        (subst (λ (x : Filing). FiledBy x.bins x.pass out out' next next' (under x.key (5 ∷ 0 ∷ 0 ∷ 0 ∷ []))) i d)
