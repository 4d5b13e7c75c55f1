-- The names that the tags of a chart use, in the order of the text: ids, events, names of actions.
use Rattle.std.specs.Prelude.{◌≡◌, Bool, ◌&&◌, cond, ℕ, eqb}
use Rattle.std.proofs.Math.Path.{refl, ap, subst}
use Rattle.std.proofs.Common.{sym, ap₂, ◌∙◌}
use Rattle.std.proofs.Math.Bool.{true, false}
use mathlib.Core.List.{List, [], ◌∷◌, ◌++◌, append-nil, append_assoc, map}
use Rattle.std.proofs.Math.Option.{none, some}
use Rattle.definition.specs.Rows.{is_empty, flat}
use Rattle.definition.specs.Names.{is_name}
use Rattle.grammar.specs.Grammar.{attribute}
use Rattle.grammar.specs.Tables.{attrs}
use Rattle.reading.specs.Faults.{items_at, item_bytes, names_in}
use Rattle.reading.specs.Content.{Act, raises, hosts, if_in, elseif_in, otherwise, end_if, sends, cancels, Row, uses_in, uses_of}
use Rattle.reading.specs.Print.{number, spaced, is_end, is_if, row_of_if}
use Rattle.laws.specs.Bools.{and_left, and_right, no}
use Rattle.laws.specs.Lists.{flat_app, empty_list}
use Rattle.written.specs.Pieces.{Attr, Piece, attrs_at, parts_at, part_at, behind_attr, tags_at}
use Rattle.written.specs.Written.{attr, start_tag, empty_tag, end_tag, in_text, delay_attr, act_piece, empty_if, block_pieces, element_pieces}
use Rattle.written.specs.Sound.{AllOf, no_more, more, ActFits}
use Rattle.written.specs.Items.{name_solid, items_spaced}
use Rattle.written.specs.Says.{tags_both, behind_all}

-- the tags use exactly these names
pub record Uses (ps : List Piece) (us : List (List ℕ)) : Type 0 where
  pub uses : (i : ℕ) → flat uses_of (tags_at i ps) ≡ us

pub uses_none : Uses [] []
uses_none = record { uses = λ (i : ℕ). unfold tags_at flat in refl }

pub uses_both : {ps qs : List Piece} {us vs : List (List ℕ)} → Uses ps us → Uses qs vs → Uses (ps ++ qs) (us ++ vs)
uses_both {ps = ps} {qs = qs} a b =
    record {
      uses = λ (i : ℕ). ap (flat uses_of) (tags_both i ps qs) ∙ flat_app uses_of (tags_at i ps) (tags_at (behind_all i ps) qs) ∙ ap₂ (λ (x y : List (List ℕ)). x ++ y) (a.uses i) (b.uses (behind_all i ps));
    }

-- ---- one tag

-- its attributes use these
pub record AttrUses (e : ℕ) (xs : List Attr) (us : List (List ℕ)) : Type 0 where
  pub parts : (i : ℕ) → flat uses_in (parts_at i e xs) ≡ us

pub attr_none : (e : ℕ) → AttrUses e [] []
attr_none e = record { parts = λ (i : ℕ). unfold parts_at flat in refl }

attr_split : (e : ℕ) (xs ys : List Attr) (vs : List (List ℕ)) → ((i : ℕ) → flat uses_in (parts_at i e ys) ≡ vs) → (i : ℕ) → flat uses_in (parts_at i e (xs ++ ys)) ≡ flat uses_in (parts_at i e xs) ++ vs
unfolding parts_at flat
attr_split e [] ys vs f i = f i
attr_split e (a ∷ xs) ys vs f i = ap (λ (l : List (List ℕ)). uses_in (part_at i e a) ++ l) (attr_split e xs ys vs f (behind_attr i e a)) ∙ sym (append_assoc (uses_in (part_at i e a)) (flat uses_in (parts_at (behind_attr i e a) e xs)) vs)

pub attr_both : {e : ℕ} {xs ys : List Attr} {us vs : List (List ℕ)} → AttrUses e xs us → AttrUses e ys vs → AttrUses e (xs ++ ys) (us ++ vs)
attr_both {e = e} {xs = xs} {ys = ys} {us = us} {vs = vs} a b = record { parts = λ (i : ℕ). attr_split e xs ys vs b.parts i ∙ ap (λ (l : List (List ℕ)). l ++ vs) (a.parts i) }

pub start_uses : (e : ℕ) (xs : List Attr) (us : List (List ℕ)) → AttrUses e xs us → Uses (start_tag e xs ∷ []) us
unfolding tags_at flat
start_uses e xs us a = record { uses = λ (i : ℕ). append-nil (flat uses_in (parts_at (attrs_at i e) e xs)) ∙ a.parts (attrs_at i e) }

pub empty_uses : (e : ℕ) (xs : List Attr) (us : List (List ℕ)) → AttrUses e xs us → Uses (empty_tag e xs ∷ []) us
unfolding tags_at flat
empty_uses e xs us a = record { uses = λ (i : ℕ). append-nil (flat uses_in (parts_at (attrs_at i e) e xs)) ∙ a.parts (attrs_at i e) }

pub end_uses : (e : ℕ) → Uses (end_tag e ∷ []) []
end_uses e = record { uses = λ (i : ℕ). unfold tags_at flat in refl }

pub element_uses : (e f : ℕ) (xs : List Attr) (us vs : List (List ℕ)) (inside : List Piece) → AttrUses e xs us → Uses inside vs → Uses (element_pieces e f xs inside) (us ++ vs)
element_uses e f xs us vs inside a b = by (is_empty inside) refl
  where
    none_inside : is_empty inside ≡ true → vs ≡ []
    none_inside q = sym (b.uses 0) ∙ ap (λ (l : List Piece). flat uses_of (tags_at 0 l)) (empty_list inside q) ∙ uses_none.uses 0

    by : (z : Bool) → is_empty inside ≡ z → Uses (cond z (empty_tag e xs ∷ []) (start_tag e xs ∷ (inside ++ end_tag f ∷ []))) (us ++ vs)
    by true q = subst (Uses (empty_tag e xs ∷ [])) (sym (append-nil us) ∙ ap (λ (l : List (List ℕ)). us ++ l) (sym (none_inside q))) (empty_uses e xs us a)
    by false q = uses_both (start_uses e xs us a) (subst (Uses (inside ++ end_tag f ∷ [])) (append-nil vs) (uses_both b (end_uses f)))

-- ---- attributes

name_itself : (v : List ℕ) → is_name v ≡ true → names_in v ≡ v ∷ []
name_itself v h = ap (λ (l : List ℕ). map item_bytes (items_at 0 l)) (one v) ∙ items_spaced 0 (v ∷ []) (more (name_solid v h) no_more)
  where
    one : (v : List ℕ) → v ≡ spaced (v ∷ [])
    one v = unfold spaced in refl

-- one attribute that is a name: id of a row, event, id of a send, sendid
pub data Naming : ℕ → ℕ → Type 0 where
  of_state : Naming 1 0
  of_parallel : Naming 2 0
  of_final : Naming 3 0
  of_history : Naming 4 0
  of_raise : Naming 9 0
  of_send : Naming 15 0
  of_sent : Naming 15 2
  of_cancel : Naming 16 0

pub name_uses : (e j : ℕ) → Naming e j → (v : List ℕ) → is_name v ≡ true → AttrUses e (attr j v ∷ []) (v ∷ [])
unfolding parts_at flat attribute attrs
name_uses e j of_state v h = record { parts = λ (i : ℕ). append-nil (names_in v) ∙ name_itself v h }
name_uses e j of_parallel v h = record { parts = λ (i : ℕ). append-nil (names_in v) ∙ name_itself v h }
name_uses e j of_final v h = record { parts = λ (i : ℕ). append-nil (names_in v) ∙ name_itself v h }
name_uses e j of_history v h = record { parts = λ (i : ℕ). append-nil (names_in v) ∙ name_itself v h }
name_uses e j of_raise v h = record { parts = λ (i : ℕ). append-nil (names_in v) ∙ name_itself v h }
name_uses e j of_send v h = record { parts = λ (i : ℕ). append-nil (names_in v) ∙ name_itself v h }
name_uses e j of_sent v h = record { parts = λ (i : ℕ). append-nil (names_in v) ∙ name_itself v h }
name_uses e j of_cancel v h = record { parts = λ (i : ℕ). append-nil (names_in v) ∙ name_itself v h }

-- one attribute that uses no name
pub data Silent : ℕ → ℕ → Type 0 where
  log_label : Silent 10 0
  if_cond : Silent 12 0
  elseif_cond : Silent 14 0
  send_delay : Silent 15 1
  of_type : Silent 6 0
  transition_cond : Silent 6 2
  transition_target : Silent 6 3
  initial_target : Silent 11 1
  root_namespace : Silent 0 0
  root_version : Silent 0 1
  root_initial : Silent 0 2
  state_initial : Silent 1 1
  history_type : Silent 4 1

pub silent_uses : (e j : ℕ) → Silent e j → (v : List ℕ) → AttrUses e (attr j v ∷ []) []
unfolding parts_at flat attribute attrs
silent_uses e j log_label v = record { parts = λ (i : ℕ). refl }
silent_uses e j if_cond v = record { parts = λ (i : ℕ). refl }
silent_uses e j elseif_cond v = record { parts = λ (i : ℕ). refl }
silent_uses e j send_delay v = record { parts = λ (i : ℕ). refl }
silent_uses e j of_type v = record { parts = λ (i : ℕ). refl }
silent_uses e j transition_cond v = record { parts = λ (i : ℕ). refl }
silent_uses e j transition_target v = record { parts = λ (i : ℕ). refl }
silent_uses e j initial_target v = record { parts = λ (i : ℕ). refl }
silent_uses e j root_namespace v = record { parts = λ (i : ℕ). refl }
silent_uses e j root_version v = record { parts = λ (i : ℕ). refl }
silent_uses e j root_initial v = record { parts = λ (i : ℕ). refl }
silent_uses e j state_initial v = record { parts = λ (i : ℕ). refl }
silent_uses e j history_type v = record { parts = λ (i : ℕ). refl }

-- ---- blocks

abbrev pub act_uses : Act → List (List ℕ)
act_uses (raises v) = v ∷ []
act_uses (hosts k) = []
act_uses (if_in i) = []
act_uses (elseif_in i) = []
act_uses otherwise = []
act_uses end_if = []
act_uses (sends v d none) = v ∷ []
act_uses (sends v d (some w)) = w ∷ v ∷ []
act_uses (cancels v) = v ∷ []

delay_uses : (d : ℕ) → AttrUses 15 (delay_attr d) []
delay_uses d = by (eqb d 0)
  where
    by : (z : Bool) → AttrUses 15 (cond z [] (attr 1 (number d) ∷ [])) []
    by true = attr_none 15
    by false = silent_uses 15 1 send_delay (number d)

module _ (rs : List Row) (n : ℕ) where
  act_uses_lem : (a : Act) → ActFits n a → Uses (act_piece rs a ∷ []) (act_uses a)
  act_uses_lem (raises v) f = empty_uses 9 (attr 0 v ∷ []) (v ∷ []) (name_uses 9 0 of_raise v f)
  act_uses_lem (hosts k) f = empty_uses 10 (attr 0 (number k) ∷ []) [] (silent_uses 10 0 log_label (number k))
  act_uses_lem (if_in i) f = start_uses 12 (attr 0 (in_text rs i) ∷ []) [] (silent_uses 12 0 if_cond (in_text rs i))
  act_uses_lem (elseif_in i) f = empty_uses 14 (attr 0 (in_text rs i) ∷ []) [] (silent_uses 14 0 elseif_cond (in_text rs i))
  act_uses_lem otherwise f = empty_uses 13 [] [] (attr_none 13)
  act_uses_lem end_if f = end_uses 12
  act_uses_lem (sends v d none) (f, g) = empty_uses 15 (attr 0 v ∷ delay_attr d) (v ∷ []) (attr_both (name_uses 15 0 of_send v f) (delay_uses d))
  act_uses_lem (sends v d (some w)) (f, g, h) = empty_uses 15 (attr 2 w ∷ attr 0 v ∷ delay_attr d) (w ∷ v ∷ []) (attr_both (name_uses 15 2 of_sent w h) (attr_both (name_uses 15 0 of_send v f) (delay_uses d)))
  act_uses_lem (cancels v) f = empty_uses 16 (attr 0 v ∷ []) (v ∷ []) (name_uses 16 0 of_cancel v f)

  -- what is left of a block where the end of an if is written already
  abbrev left : Bool → List Act → List Act
  left false acts = acts
  left true [] = []
  left true (a ∷ acts) = acts

  if_only : (a : Act) → is_if a ≡ true → act_uses a ≡ []
  if_only (raises v) e = absurd (no e)
  if_only (hosts k) e = absurd (no e)
  if_only (if_in i) e = refl
  if_only (elseif_in i) e = absurd (no e)
  if_only otherwise e = absurd (no e)
  if_only end_if e = absurd (no e)
  if_only (sends v d w) e = absurd (no e)
  if_only (cancels v) e = absurd (no e)

  end_only : (acts : List Act) → is_end acts ≡ true → flat act_uses (left true acts) ≡ flat act_uses acts
  unfolding flat
  end_only [] e = refl
  end_only (raises v ∷ acts) e = absurd (no e)
  end_only (hosts k ∷ acts) e = absurd (no e)
  end_only (if_in i ∷ acts) e = absurd (no e)
  end_only (elseif_in i ∷ acts) e = absurd (no e)
  end_only (otherwise ∷ acts) e = absurd (no e)
  end_only (end_if ∷ acts) e = refl
  end_only (sends v d w ∷ acts) e = absurd (no e)
  end_only (cancels v ∷ acts) e = absurd (no e)

  pub block_uses : (skip : Bool) (acts : List Act) → AllOf (ActFits n) acts → Uses (block_pieces rs skip acts) (flat act_uses (left skip acts))
  unfolding block_pieces flat
  block_uses false [] no_more = uses_none
  block_uses true [] no_more = uses_none
  block_uses true (a ∷ acts) (more f g) = block_uses false acts g
  block_uses false (a ∷ acts) (more f g) = by (is_if a && is_end acts) refl (block_uses true acts g) (block_uses false acts g)
    where
      by : (z : Bool) → (is_if a && is_end acts) ≡ z → Uses (block_pieces rs true acts) (flat act_uses (left true acts)) → Uses (block_pieces rs false acts) (flat act_uses acts) →
          Uses (cond z (empty_if rs (row_of_if a) ∷ block_pieces rs true acts) (act_piece rs a ∷ block_pieces rs false acts)) (act_uses a ++ flat act_uses acts)
      by true e s t =
          subst (Uses (empty_if rs (row_of_if a) ∷ block_pieces rs true acts))
          (end_only acts (and_right (is_if a) (is_end acts) e) ∙ ap (λ (l : List (List ℕ)). l ++ flat act_uses acts) (sym (if_only a (and_left (is_if a) (is_end acts) e))))
          (uses_both (empty_uses 12 (attr 0 (in_text rs (row_of_if a)) ∷ []) [] (silent_uses 12 0 if_cond (in_text rs (row_of_if a)))) s)
      by false e s t = uses_both (act_uses_lem a f) t
