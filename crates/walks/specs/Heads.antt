-- The first cells of rows and transitions, tag by tag.
use Rattle.std.specs.Prelude.{◌≡◌, Bool, ◌&&◌, cond, ℕ, suc, ◌+◌, ◌*◌, ◌≤◌, ◌<◌, eqb, ltb, length, get_or, set}
use Rattle.std.proofs.Math.Path.{refl, ap}
use Rattle.std.proofs.Common.{sym, ◌∙◌, arith, length-set, lt-ltb, le-ltb}
use Rattle.std.proofs.Math.Bool.{true, false}
use mathlib.Core.List.{List, [], ◌∷◌, ◌++◌}
use Rattle.std.proofs.Math.Option.{none, some}
use Rattle.definition.specs.Rows.{same}
use Rattle.reading.specs.Tags.{Part}
use Rattle.reading.specs.Faults.{plain, external, internal, shallow, deep, states, value_of, id_word, cond_word}
use Rattle.reading.specs.Content.{Block, Act, Fact, row_fact, list_fact, transition_fact, action_fact, end_if, is_internal, kind_in, condition_in, row_in}
use Rattle.reading.specs.Layout.{or_none, id_cell}
use Rattle.tags.specs.Cells.{stated_in, Stated}
use Rattle.turns.specs.declared.SpotCells.{SpotCells}
use Rattle.attribute.specs.Values.{value_in}
use Rattle.attribute.specs.Laws.{value_at_lem, value_or_lem}
use Rattle.facts.specs.declared.Said.{Said}
use Rattle.facts.specs.declared.Said.TheVariants.{Nothing, Row, List as ListOf, Transition, Action}
use Rattle.facts.specs.Facts.{part_of, said_facts, ends}
use Rattle.facts.specs.Appended.{row_facts, transition_facts}
use Rattle.values.specs.Ids.{ids_from}
use Rattle.items.specs.Items.{rows_with, transitions_with}
use Rattle.walks.specs.declared.plan.Plan.{Plan}
use Rattle.walks.specs.declared.sources.Counts.{Counts}
use Rattle.walks.specs.declared.item_walk.TagAt.{TagAt}
use Rattle.walks.specs.declared.heads.HeadAt.{HeadAt}
use Rattle.walks.specs.Keys.{Few}
use Rattle.walks.specs.Told.{value_at, word_room, WordRoom, PlaceRoom, CondAtRoom, condition_room}
use Rattle.walks.specs.Acts.{ActRoom}
use Rattle.walks.specs.Said.{end_said, TagSaid}
use Rattle.walks.specs.Plan.{lay_base}
use Rattle.walks.specs.Counts.{CountedBy}

-- ---- the cells that a fact sets

abbrev pub row_set : List ℕ → ℕ → ℕ → ℕ → ℕ → List ℕ
row_set out i k q d = set (set (set out (6 + i * 11) k) (6 + i * 11 + 1) q) (6 + i * 11 + 2) d

abbrev pub transition_set : List ℕ → ℕ → ℕ → ℕ → ℕ → ℕ → List ℕ
transition_set out n r s c y = set (set (set out (6 + n * 11 + r * 9) s) (6 + n * 11 + r * 9 + 3) c) (6 + n * 11 + r * 9 + 4) y

-- a fact with i rows and m transitions before it, in tables of n rows and t transitions
abbrev pub fact_head : List (List ℕ) → ℕ → ℕ → List ℕ → ℕ → ℕ → List ℕ → Fact → List ℕ
fact_head slots n t ranks i m out (row_fact k q d l) = cond (ltb i n) (row_set out i k q (id_cell slots d)) out
fact_head slots n t ranks i m out (list_fact j l) = out
fact_head slots n t ranks i m out (transition_fact s d c y g) = cond (ltb (get_or ranks m 0) t) (transition_set out n (get_or ranks m 0) s (or_none c) (cond y 1 0)) out
fact_head slots n t ranks i m out (action_fact b a) = out

unfoldable pub heads_from : List (List ℕ) → ℕ → ℕ → List ℕ → ℕ → ℕ → List ℕ → List Fact → List ℕ
heads_from slots n t ranks i m out [] = out
heads_from slots n t ranks i m out (f ∷ fs) = heads_from slots n t ranks (rows_with i f) (transitions_with m f) (fact_head slots n t ranks i m out f) fs

module _ (slots : List (List ℕ)) (n t : ℕ) (ranks : List ℕ) where
  add-zero : (k : ℕ) → k ≡ k + 0
  add-zero k = omega arith

  shift : (a b : ℕ) → suc a + b ≡ a + suc b
  shift a b = omega arith

  -- the rows and transitions of the second are counted on
  pub heads_append : (i m : ℕ) (out : List ℕ) (fs gs : List Fact) →
      heads_from slots n t ranks i m out (fs ++ gs) ≡ heads_from slots n t ranks (i + row_facts fs) (m + transition_facts fs) (heads_from slots n t ranks i m out fs) gs
  unfolding heads_from row_facts transition_facts
  heads_append i m out [] gs = ap (λ (x : ℕ). heads_from slots n t ranks x m out gs) (add-zero i) ∙ ap (λ (x : ℕ). heads_from slots n t ranks (i + 0) x out gs) (add-zero m)
  heads_append i m out (row_fact k q d l ∷ fs) gs =
      heads_append (suc i) m (fact_head slots n t ranks i m out (row_fact k q d l)) fs gs ∙
      ap (λ (x : ℕ). heads_from slots n t ranks x (m + transition_facts fs) (heads_from slots n t ranks (suc i) m (fact_head slots n t ranks i m out (row_fact k q d l)) fs) gs) (shift i (row_facts fs))
  heads_append i m out (list_fact j l ∷ fs) gs = heads_append i m out fs gs
  heads_append i m out (transition_fact s d c y g ∷ fs) gs =
      heads_append i (suc m) (fact_head slots n t ranks i m out (transition_fact s d c y g)) fs gs ∙
      ap (λ (x : ℕ). heads_from slots n t ranks (i + row_facts fs) x (heads_from slots n t ranks i (suc m) (fact_head slots n t ranks i m out (transition_fact s d c y g)) fs) gs) (shift m (transition_facts fs))
  heads_append i m out (action_fact b a ∷ fs) gs = heads_append i m out fs gs

  -- the end of an if sets none
  heads_end : (i m : ℕ) (out : List ℕ) (spot : SpotCells) (s e : ℕ) → heads_from slots n t ranks i m out (end_said spot s e) ≡ out
  unfolding heads_from
  heads_end i m out spot s e = by (ends s e) (record { part = part_of spot.what; owner = spot.number }) end_if
    where
      by : (z : Bool) (b : Block) (a : Act) → heads_from slots n t ranks i m out (cond z (action_fact b a ∷ []) []) ≡ out
      by true b a = refl
      by false b a = refl

-- ---- one tag

pub record TagHeadRoom (text cells ids slots out : List ℕ) (p : Plan) : Type 0 where
  pub act : ActRoom text cells ids slots p
  pub few : Few p.rows p.transitions
  pub room : lay_base p.rows p.transitions ≤ length out

pub record RowLaid (text cells slots out out' : List ℕ) (p : Plan) (i q e : ℕ) : Type 0 where
  pub size : length out' ≡ length out
  pub is : (ps : List Part) → Stated text cells ps →
      out' ≡ cond (ltb i p.rows) (row_set out i (kind_in e ps) q (id_cell (ids_from text slots p.slots 0) (value_of id_word ps))) out

module _ (text cells ids slots out : List ℕ) (p : Plan) where
  module _ (h : TagHeadRoom text cells ids slots out p) where
    pub head_type : WordRoom text cells 28
    head_type = word_room text cells 28 h.act.parts h.act.stated h.act.short (omega arith) (omega arith)

    pub head_id : PlaceRoom text cells slots p.slots 26
    head_id = record { word = word_room text cells 26 h.act.parts h.act.stated h.act.short (omega arith) (omega arith); noted = h.act.slots_noted }

    pub head_cond : CondAtRoom text cells ids p.ids
    head_cond = condition_room text cells ids p.ids h.act.parts h.act.short h.act.stated h.act.clean h.act.ids_noted

    module _ (i : ℕ) (l : i < p.rows) where
      pub row_second : (x : ℕ) → 6 + i * 11 + 1 < length (set out (6 + i * 11) x)
      row_second x = let r = h.room in let s = length-set out (6 + i * 11) x in omega arith

      pub row_third : (x y : ℕ) → 6 + i * 11 + 2 < length (set (set out (6 + i * 11) x) (6 + i * 11 + 1) y)
      row_third x y =
          let r = h.room in let s = length-set out (6 + i * 11) x in let u = length-set (set out (6 + i * 11) x) (6 + i * 11 + 1) y in omega arith

    module _ (r : ℕ) (l : r < p.transitions) where
      pub transition_second : (x : ℕ) → 6 + p.rows * 11 + r * 9 + 3 < length (set out (6 + p.rows * 11 + r * 9) x)
      transition_second x = let b = h.room in let s = length-set out (6 + p.rows * 11 + r * 9) x in omega arith

      pub transition_third : (x y : ℕ) → 6 + p.rows * 11 + r * 9 + 4 < length (set (set out (6 + p.rows * 11 + r * 9) x) (6 + p.rows * 11 + r * 9 + 3) y)
      transition_third x y =
          let b = h.room in let s = length-set out (6 + p.rows * 11 + r * 9) x in
          let u = length-set (set out (6 + p.rows * 11 + r * 9) x) (6 + p.rows * 11 + r * 9 + 3) y in
          omega arith

  pub row_out : (i q e : ℕ) → p.rows ≤ i → RowLaid text cells slots out out p i q e
  row_out i q e l =
      record {
        size = refl;
        is = λ ps s. ap (λ (z : Bool). cond z (row_set out i (kind_in e ps) q (id_cell (ids_from text slots p.slots 0) (value_of id_word ps))) out) (sym (le-ltb i p.rows l));
      }

  set_size : (a b c x y z : ℕ) → length (set (set (set out a x) b y) c z) ≡ length out
  set_size a b c x y z = length-set (set (set out a x) b y) c z ∙ length-set (set out a x) b y ∙ length-set out a x

  pub row_in_lem : (i q e k w d : ℕ) → i < p.rows → k ≡ cond (eqb e 4 && same (plain (value_in text cells 28 shallow)) deep) 5 e → w ≡ q →
      d ≡ id_cell (ids_from text slots p.slots 0) (value_at text cells 26) →
      RowLaid text cells slots out (set (set (set out (6 + i * 11) k) (6 + i * 11 + 1) w) (6 + i * 11 + 2) d) p i q e
  row_in_lem i q e k w d l a b c =
      record {
        size = set_size (6 + i * 11) (6 + i * 11 + 1) (6 + i * 11 + 2) k w d;
        is = λ ps s.
            let slots_here = ids_from text slots p.slots 0 in
            let ki : k ≡ kind_in e ps = a ∙ ap (λ (v : List ℕ). cond (eqb e 4 && same (plain v) deep) 5 e) (value_or_lem text cells shallow 28 ps s (omega arith) (omega arith)) in
            let di : d ≡ id_cell slots_here (value_of id_word ps) = c ∙ ap (id_cell slots_here) (value_at_lem text cells 26 ps s (omega arith) (omega arith)) in
            ap (λ (x : ℕ). row_set out i x w d) ki ∙ ap (λ (x : ℕ). row_set out i (kind_in e ps) x d) b ∙ ap (λ (x : ℕ). row_set out i (kind_in e ps) q x) di ∙
            ap (λ (z : Bool). cond z (row_set out i (kind_in e ps) q (id_cell slots_here (value_of id_word ps))) out) (sym (lt-ltb i p.rows l));
      }

pub record TransitionLaid (text cells ids ranks out out' : List ℕ) (p : Plan) (m q : ℕ) : Type 0 where
  pub size : length out' ≡ length out
  pub is : (ps : List Part) → Stated text cells ps →
      out' ≡
      cond (ltb (get_or ranks m 0) p.transitions)
      (transition_set out p.rows (get_or ranks m 0) q (or_none (condition_in (ids_from text ids p.ids 0) ps)) (cond (is_internal ps) 1 0)) out

module _ (text cells ids ranks out : List ℕ) (p : Plan) (m q : ℕ) (r : ℕ) (rank : r ≡ get_or ranks m 0) where
  abbrev ids_here : List (List ℕ)
  ids_here = ids_from text ids p.ids 0

  abbrev laid : List Part → ℕ → Bool → List ℕ
  laid ps x z = cond z (transition_set out p.rows x q (or_none (condition_in ids_here ps)) (cond (is_internal ps) 1 0)) out

  pub transition_out : p.transitions ≤ r → TransitionLaid text cells ids ranks out out p m q
  transition_out l =
      record {
        size = refl;
        is = λ ps s. ap (laid ps r) (sym (le-ltb r p.transitions l)) ∙ ap (λ (x : ℕ). laid ps x (ltb x p.transitions)) rank;
      }

  or_none_lem : (ps : List Part) → or_none (condition_in ids_here ps) ≡ cond (states cond_word ps) (row_in ids_here (value_of cond_word ps)) 65535
  or_none_lem ps = by (states cond_word ps) (row_in ids_here (value_of cond_word ps))
    where
      by : (z : Bool) (x : ℕ) → or_none (cond z (some x) none) ≡ cond z x 65535
      by true x = refl
      by false x = refl

  pub transition_in_lem : (w c y : ℕ) → r < p.transitions → w ≡ q → c ≡ cond (stated_in cells 30) (row_in ids_here (value_at text cells 30)) 65535 →
      y ≡ cond (same (plain (value_in text cells 28 external)) internal) 1 0 →
      TransitionLaid text cells ids ranks out (set (set (set out (6 + p.rows * 11 + r * 9) w) (6 + p.rows * 11 + r * 9 + 3) c) (6 + p.rows * 11 + r * 9 + 4) y) p m q
  transition_in_lem w c y l a b d =
      record {
        size = set_size text cells ids ids out p (6 + p.rows * 11 + r * 9) (6 + p.rows * 11 + r * 9 + 3) (6 + p.rows * 11 + r * 9 + 4) w c y;
        is = λ ps s.
            let ci : c ≡ or_none (condition_in ids_here ps) =
            b ∙ ap (λ (z : Bool). cond z (row_in ids_here (value_at text cells 30)) 65535) (s.there 30 (omega arith) (omega arith)) ∙
            ap (λ (v : List ℕ). cond (states cond_word ps) (row_in ids_here v) 65535) (value_at_lem text cells 30 ps s (omega arith) (omega arith)) ∙ sym (or_none_lem ps) in
            let yi : y ≡ cond (is_internal ps) 1 0 =
            d ∙ ap (λ (v : List ℕ). cond {A = ℕ} (same (plain v) internal) 1 0) (value_or_lem text cells external 28 ps s (omega arith) (omega arith)) in
            ap (λ (x : ℕ). transition_set out p.rows r x c y) a ∙ ap (λ (x : ℕ). transition_set out p.rows r q x y) ci ∙
            ap (λ (x : ℕ). transition_set out p.rows r q (or_none (condition_in ids_here ps)) x) yi ∙ ap (laid ps r) (sym (lt-ltb r p.transitions l)) ∙
            ap (λ (x : ℕ). laid ps x (ltb x p.transitions)) rank;
      }

-- ---- what a tag says

pub record SaidLaid (text cells ids slots ranks out out' : List ℕ) (p : Plan) (g : HeadAt) : Type 0 where
  pub size : length out' ≡ length out
  pub is : (ps : List Part) → Stated text cells ps →
      out' ≡
      heads_from (ids_from text slots p.slots 0) p.rows p.transitions ranks g.rows g.transitions out (said_facts (ids_from text ids p.ids 0) g.element ps g.said)

module _ (text cells ids slots ranks out : List ℕ) (p : Plan) (g : HeadAt) where
  abbrev headed : List Part → Said → List ℕ
  headed ps x =
      heads_from (ids_from text slots p.slots 0) p.rows p.transitions ranks g.rows g.transitions out (said_facts (ids_from text ids p.ids 0) g.element ps x)

  as_said : (x : Said) (out' : List ℕ) → g.said ≡ x → length out' ≡ length out → ((ps : List Part) → Stated text cells ps → out' ≡ headed ps x) →
      SaidLaid text cells ids slots ranks out out' p g
  as_said x out' e l f = record { size = l; is = λ ps s. f ps s ∙ ap (headed ps) (sym e) }

  pub laid_none : g.said ≡ Nothing → SaidLaid text cells ids slots ranks out out p g
  unfolding heads_from
  laid_none e = as_said Nothing out e refl (λ ps s. refl)

  pub laid_list : (j : ℕ) → g.said ≡ ListOf j → SaidLaid text cells ids slots ranks out out p g
  unfolding heads_from
  laid_list j e = as_said (ListOf j) out e refl (λ ps s. refl)

  pub laid_action : (b o : ℕ) → g.said ≡ Action b o → SaidLaid text cells ids slots ranks out out p g
  unfolding heads_from
  laid_action b o e = as_said (Action b o) out e refl (λ ps s. refl)

  pub laid_row : (q : ℕ) (out' : List ℕ) → g.said ≡ Row q → RowLaid text cells slots out out' p g.rows q g.element → SaidLaid text cells ids slots ranks out out' p g
  unfolding heads_from
  laid_row q out' e r = as_said (Row q) out' e r.size r.is

  pub laid_transition : (s : ℕ) (out' : List ℕ) → g.said ≡ Transition s → TransitionLaid text cells ids ranks out out' p g.transitions s → SaidLaid text cells ids slots ranks out out' p g
  unfolding heads_from
  laid_transition s out' e r = as_said (Transition s) out' e r.size r.is

pub record TagLaid (text cells ids slots ranks out out' : List ℕ) (p : Plan) (g : TagAt) (r : Counts) : Type 0 where
  pub said : Said
  pub of : TagSaid cells g.spot g.shape g.element said
  pub counted : CountedBy g.counts said r
  pub size : length out' ≡ length out
  pub laid : (ps : List Part) → Stated text cells ps →
      out' ≡
      heads_from (ids_from text slots p.slots 0) p.rows p.transitions ranks g.counts.rows g.counts.transitions out
      (said_facts (ids_from text ids p.ids 0) g.element ps said ++ end_said g.spot g.shape g.element)

pub tag_laid : (text cells ids slots ranks out : List ℕ) (p : Plan) (g : TagAt) (said : Said) → TagSaid cells g.spot g.shape g.element said → (out' : List ℕ) →
    SaidLaid text cells ids slots ranks out out' p (record { said = said; element = g.element; rows = g.counts.rows; transitions = g.counts.transitions }) → (r : Counts) →
    CountedBy g.counts said r → TagLaid text cells ids slots ranks out out' p g r
tag_laid text cells ids slots ranks out p g said of out' a r c =
    record {
      said = said;
      of = of;
      counted = c;
      size = a.size;
      laid = λ ps s.
          let slots_here = ids_from text slots p.slots 0 in
          let fs = said_facts (ids_from text ids p.ids 0) g.element ps said in
          a.is ps s ∙
          sym
          (heads_append slots_here p.rows p.transitions ranks g.counts.rows g.counts.transitions out fs (end_said g.spot g.shape g.element) ∙
          heads_end slots_here p.rows p.transitions ranks (g.counts.rows + row_facts fs) (g.counts.transitions + transition_facts fs)
          (heads_from slots_here p.rows p.transitions ranks g.counts.rows g.counts.transitions out fs) g.spot g.shape g.element);
    }
