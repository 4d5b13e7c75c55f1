-- The ids that the tags of a chart state, and that none of its tags has a fault: blocks, transitions, lists.
use Rattle.std.specs.Prelude.{◌≡◌, Bool, not, ◌&&◌, cond, ℕ, ◌≤◌, eqb}
use Rattle.std.proofs.Math.Path.{refl}
use Rattle.std.proofs.Common.{sym, ap, ap₂, ◌∙◌}
use Rattle.std.proofs.Math.Bool.{true, false}
use mathlib.Core.List.{List, [], ◌∷◌, ◌++◌, append_assoc}
use Rattle.std.proofs.Math.Option.{Option, none, some}
use Rattle.definition.specs.Rows.{is_empty, flat}
use Rattle.definition.specs.Names.{is_name}
use Rattle.reading.specs.Tags.{Part, Shape, opening, empty, Markup}
use Rattle.reading.specs.Faults.{id_word, states, value_of, is_row_tag, is_closing, ids_of, is_among, fault_if, part_faults, tag_faults}
use Rattle.reading.specs.Content.{Act, raises, hosts, if_in, elseif_in, otherwise, end_if, sends, cancels, Row, Transition}
use Rattle.reading.specs.Print.{number, id_of, spaced, ids_text, is_end, is_if, row_of_if, is_element_list, is_history_kind}
use Rattle.laws.specs.Bools.{and_left, no}
use Rattle.laws.specs.Lists.{flat_app}
use Rattle.written.specs.Pieces.{Attr, Piece, attrs_at, parts_at, tags_at}
use Rattle.written.specs.Written.{attr, start_tag, empty_tag, end_tag, given_attr, in_text, delay_attr, act_piece, empty_if, block_pieces, element_pieces, type_attr, cond_attr, transition_attrs, transition_pieces, block_element, default_pieces}
use Rattle.written.specs.Sound.{AllOf, no_more, more, Ref, ActFits, ConditionFits, TransitionFits}
use Rattle.written.specs.Values.{all_both}
use Rattle.written.specs.Placed.{list_by}
use Rattle.written.specs.Says.{tags_both, behind_all}
use Rattle.written.specs.Faultless.{Clean, clean_parts, raise_event, send_event, send_id, cancel_id, name_clean, events_clean, label_clean, delay_clean, internal_clean, Tested, if_cond, elseif_cond, transition_cond, in_clean, transition_target, initial_target, list_clean}

pub record Notes (ids : List (List ℕ)) (ps : List Piece) (is : List (List ℕ)) : Type 0 where
  pub noted : (i : ℕ) (ts : List Markup) → ids_of (tags_at i ps ++ ts) ≡ is ++ ids_of ts
  pub faultless : (i : ℕ) → flat (tag_faults ids) (tags_at i ps) ≡ []

pub one_fault : (ids : List (List ℕ)) (m : Markup) → tag_faults ids m ≡ [] → flat (tag_faults ids) (m ∷ []) ≡ []
unfolding flat
one_fault ids m h = ap (λ (l : List ℕ). l ++ []) h

-- ---- a tag that is no row's

abbrev pub started : Shape → ℕ → ℕ → List Part → Markup
started s i e ps = record { at = i; shape = s; element = e; parts = ps }

quiet_id : (s : Shape) (i e : ℕ) (ps : List Part) (ts : List Markup) → is_row_tag e ≡ false → ids_of (started s i e ps ∷ ts) ≡ ids_of ts
quiet_id s i e ps ts h = shown ∙ ap (λ (z : Bool). cond (not (is_closing s) && z) (value_of id_word ps ∷ ids_of ts) (ids_of ts)) h ∙ by (not (is_closing s))
  where
    shown : ids_of (started s i e ps ∷ ts) ≡ cond (not (is_closing s) && is_row_tag e) (value_of id_word ps ∷ ids_of ts) (ids_of ts)
    shown = unfold ids_of in refl

    by : (z : Bool) → cond (z && false) (value_of id_word ps ∷ ids_of ts) (ids_of ts) ≡ ids_of ts
    by true = refl
    by false = refl

quiet_fault : (ids : List (List ℕ)) (s : Shape) (i e : ℕ) (ps : List Part) → is_row_tag e ≡ false → flat (part_faults ids) ps ≡ [] → tag_faults ids (started s i e ps) ≡ []
quiet_fault ids s i e ps h f =
    shown ∙ ap₂ (λ (z : Bool) (l : List ℕ). fault_if (not (is_closing s) && z && not (states id_word ps)) i ++ l) h f ∙ by (not (is_closing s))
  where
    shown : tag_faults ids (started s i e ps) ≡ fault_if (not (is_closing s) && is_row_tag e && not (states id_word ps)) i ++ flat (part_faults ids) ps
    shown = unfold tag_faults in refl

    by : (z : Bool) → fault_if (z && false && not (states id_word ps)) i ++ [] ≡ []
    by true = refl
    by false = refl

module _ {ids : List (List ℕ)} where
  pub notes_none : Notes ids [] []
  notes_none = record { noted = λ (i : ℕ) (ts : List Markup). unfold tags_at in refl; faultless = λ (i : ℕ). unfold tags_at flat in refl }

  pub notes_both : {ps qs : List Piece} {is js : List (List ℕ)} → Notes ids ps is → Notes ids qs js → Notes ids (ps ++ qs) (is ++ js)
  notes_both {ps = ps} {qs = qs} {is = is} {js = js} a b =
      record {
        noted =
            λ (i : ℕ) (ts : List Markup). ap (λ (l : List Markup). ids_of (l ++ ts)) (tags_both i ps qs) ∙ ap ids_of (append_assoc (tags_at i ps) (tags_at (behind_all i ps) qs) ts) ∙
            a.noted i (tags_at (behind_all i ps) qs ++ ts) ∙ ap (λ (l : List (List ℕ)). is ++ l) (b.noted (behind_all i ps) ts) ∙ sym (append_assoc is js (ids_of ts));
        faultless =
            λ (i : ℕ). ap (flat (tag_faults ids)) (tags_both i ps qs) ∙ flat_app (tag_faults ids) (tags_at i ps) (tags_at (behind_all i ps) qs) ∙
            ap₂ (λ (x y : List ℕ). x ++ y) (a.faultless i) (b.faultless (behind_all i ps));
      }

  pub quiet_start : (e : ℕ) (xs : List Attr) → is_row_tag e ≡ false → AllOf (Clean ids e) xs → Notes ids (start_tag e xs ∷ []) []
  unfolding tags_at
  quiet_start e xs h f =
      record {
        noted = λ (i : ℕ) (ts : List Markup). quiet_id opening i e (parts_at (attrs_at i e) e xs) ts h;
        faultless = λ (i : ℕ). one_fault ids _ (quiet_fault ids opening i e (parts_at (attrs_at i e) e xs) h (clean_parts ids e (attrs_at i e) xs f));
      }

  pub quiet_empty : (e : ℕ) (xs : List Attr) → is_row_tag e ≡ false → AllOf (Clean ids e) xs → Notes ids (empty_tag e xs ∷ []) []
  unfolding tags_at
  quiet_empty e xs h f =
      record {
        noted = λ (i : ℕ) (ts : List Markup). quiet_id empty i e (parts_at (attrs_at i e) e xs) ts h;
        faultless = λ (i : ℕ). one_fault ids _ (quiet_fault ids empty i e (parts_at (attrs_at i e) e xs) h (clean_parts ids e (attrs_at i e) xs f));
      }

  pub quiet_end : (e : ℕ) → Notes ids (end_tag e ∷ []) []
  quiet_end e = record { noted = λ (i : ℕ) (ts : List Markup). unfold tags_at ids_of in refl; faultless = λ (i : ℕ). unfold tags_at flat tag_faults in refl }

  pub quiet_element : (e f : ℕ) (xs : List Attr) (inside : List Piece) → is_row_tag e ≡ false → AllOf (Clean ids e) xs → Notes ids inside [] → Notes ids (element_pieces e f xs inside) []
  quiet_element e f xs inside h c n = by (is_empty inside)
    where
      by : (z : Bool) → Notes ids (cond z (empty_tag e xs ∷ []) (start_tag e xs ∷ (inside ++ end_tag f ∷ []))) []
      by true = quiet_empty e xs h c
      by false = notes_both (quiet_start e xs h c) (notes_both n (quiet_end f))

module _ (ids : List (List ℕ)) (rs : List Row) (n : ℕ) (named : (i : ℕ) → Ref n i → is_name (id_of rs i) ≡ true) (among : (i : ℕ) → Ref n i → is_among (id_of rs i) ids ≡ true) where
  in_attr : (e j : ℕ) → Tested e j → (i : ℕ) → Ref n i → AllOf (Clean ids e) (attr j (in_text rs i) ∷ [])
  in_attr e j t i r = more (in_clean ids rs n named among e j t i r) no_more

  delays : (d : ℕ) → d ≤ 4294967295 → AllOf (Clean ids 15) (delay_attr d)
  delays d h = by (eqb d 0)
    where
      by : (z : Bool) → AllOf (Clean ids 15) (cond z [] (attr 1 (number d) ∷ []))
      by true = no_more
      by false = more (delay_clean ids d h) no_more

  act_quiet : (a : Act) → ActFits n a → Notes ids (act_piece rs a ∷ []) []
  act_quiet (raises v) f = quiet_empty 9 (attr 0 v ∷ []) refl (more (name_clean ids 9 0 raise_event v f) no_more)
  act_quiet (hosts k) f = quiet_empty 10 (attr 0 (number k) ∷ []) refl (more (label_clean ids k f) no_more)
  act_quiet (if_in i) f = quiet_start 12 (attr 0 (in_text rs i) ∷ []) refl (in_attr 12 0 if_cond i f)
  act_quiet (elseif_in i) f = quiet_empty 14 (attr 0 (in_text rs i) ∷ []) refl (in_attr 14 0 elseif_cond i f)
  act_quiet otherwise f = quiet_empty 13 [] refl no_more
  act_quiet end_if f = quiet_end 12
  act_quiet (sends v d none) (f, g) = quiet_empty 15 (attr 0 v ∷ delay_attr d) refl (more (name_clean ids 15 0 send_event v f) (delays d g))
  act_quiet (sends v d (some w)) (f, g, h) = quiet_empty 15 (attr 2 w ∷ attr 0 v ∷ delay_attr d) refl (more (name_clean ids 15 2 send_id w h) (more (name_clean ids 15 0 send_event v f) (delays d g)))
  act_quiet (cancels v) f = quiet_empty 16 (attr 0 v ∷ []) refl (more (name_clean ids 16 0 cancel_id v f) no_more)

  if_quiet : (a : Act) → is_if a ≡ true → ActFits n a → Notes ids (empty_if rs (row_of_if a) ∷ []) []
  if_quiet (raises v) e f = absurd (no e)
  if_quiet (hosts k) e f = absurd (no e)
  if_quiet (if_in i) e f = quiet_empty 12 (attr 0 (in_text rs i) ∷ []) refl (in_attr 12 0 if_cond i f)
  if_quiet (elseif_in i) e f = absurd (no e)
  if_quiet otherwise e f = absurd (no e)
  if_quiet end_if e f = absurd (no e)
  if_quiet (sends v d w) e f = absurd (no e)
  if_quiet (cancels v) e f = absurd (no e)

  pub block_quiet : (skip : Bool) (acts : List Act) → AllOf (ActFits n) acts → Notes ids (block_pieces rs skip acts) []
  unfolding block_pieces
  block_quiet skip [] no_more = notes_none
  block_quiet true (a ∷ acts) (more f g) = block_quiet false acts g
  block_quiet false (a ∷ acts) (more f g) = by (is_if a && is_end acts) refl (block_quiet true acts g) (block_quiet false acts g)
    where
      by : (z : Bool) → (is_if a && is_end acts) ≡ z → Notes ids (block_pieces rs true acts) [] → Notes ids (block_pieces rs false acts) [] →
          Notes ids (cond z (empty_if rs (row_of_if a) ∷ block_pieces rs true acts) (act_piece rs a ∷ block_pieces rs false acts)) []
      by true e s t = notes_both (if_quiet a (and_left (is_if a) (is_end acts) e) f) s
      by false e s t = notes_both (act_quiet a f) t

  -- ---- transitions

  type_clean : (y : Bool) → AllOf (Clean ids 6) (type_attr y)
  type_clean true = more (internal_clean ids) no_more
  type_clean false = no_more

  cond_clean : (o : Option ℕ) → ConditionFits n o → AllOf (Clean ids 6) (cond_attr rs o)
  cond_clean none f = no_more
  cond_clean (some i) f = in_attr 6 2 transition_cond i f

  given_clean : (e j : ℕ) (v : List ℕ) → Clean ids e (attr j v) → AllOf (Clean ids e) (given_attr j v)
  given_clean e j v c = by (is_empty v)
    where
      by : (z : Bool) → AllOf (Clean ids e) (cond z [] (attr j v ∷ []))
      by true = no_more
      by false = more c no_more

  transition_clean : (t : Transition) → TransitionFits n t → AllOf (Clean ids 6) (transition_attrs rs t)
  transition_clean t f =
      all_both (type_clean t.internal)
      (all_both (given_clean 6 1 (spaced t.descriptors) (events_clean ids t.descriptors f.descriptors))
      (all_both (cond_clean t.condition f.condition) (given_clean 6 3 (ids_text rs t.targets) (list_clean ids rs n named among 6 3 transition_target t.targets f.targets))))

  pub transitions_quiet : (ts : List Transition) → AllOf (TransitionFits n) ts → Notes ids (flat (transition_pieces rs) ts) []
  unfolding flat transition_pieces
  transitions_quiet [] no_more = notes_none
  transitions_quiet (t ∷ ts) (more f g) =
      notes_both (quiet_element 6 6 (transition_attrs rs t) (block_pieces rs false t.block) refl (transition_clean t f) (block_quiet false t.block f.block.each)) (transitions_quiet ts g)

  -- ---- the blocks and the list of a row

  pub block_element_quiet : (e : ℕ) (acts : List Act) → is_row_tag e ≡ false → AllOf (ActFits n) acts → Notes ids (block_element rs e acts) []
  block_element_quiet e acts h f = by (is_empty acts)
    where
      by : (z : Bool) → Notes ids (cond z [] (element_pieces e e [] (block_pieces rs false acts))) []
      by true = notes_none
      by false = quiet_element e e [] (block_pieces rs false acts) h no_more (block_quiet false acts f)

  pub list_quiet : (k : ℕ) (r : Row) → AllOf (Ref n) r.list → AllOf (ActFits n) r.block → Notes ids (list_by rs r k) []
  list_quiet k r l b = by (is_history_kind k) (is_empty r.list) (is_element_list r)
    where
      by : (h y z : Bool) → Notes ids (cond h (cond y [] (default_pieces rs 6 3 r)) (cond z (start_tag 5 [] ∷ (default_pieces rs 11 1 r ++ end_tag 5 ∷ [])) [])) []
      by true true z = notes_none
      by true false z =
          quiet_element 6 6 (attr 3 (ids_text rs r.list) ∷ []) (block_pieces rs false r.block) refl (more (list_clean ids rs n named among 6 3 transition_target r.list l) no_more) (block_quiet false r.block b)
      by false y true =
          notes_both (quiet_start 5 [] refl no_more)
          (notes_both
          (quiet_element 11 6 (attr 1 (ids_text rs r.list) ∷ []) (block_pieces rs false r.block) refl (more (list_clean ids rs n named among 11 1 initial_target r.list l) no_more) (block_quiet false r.block b))
          (quiet_end 5))
      by false y false = notes_none
