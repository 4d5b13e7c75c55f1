-- Rule 4: the lists and blocks of rows and transitions, as they were read.
use Rattle.std.specs.Prelude.{◌≡◌, Bool, not, ◌&&◌, ◌||◌, List, [], ◌∷◌, ℕ, suc, eqb, length}
use Rattle.std.proofs.Math.Path.{refl, sym}
use Rattle.std.proofs.Common.{ap, ◌∙◌, arith, eq-eqb, ne_eqb}
use Rattle.std.proofs.Math.Bool.{true, false}
use Rattle.definition.specs.declared.Action.{Action}
use Rattle.definition.specs.declared.Kind.{Kind}
use Rattle.definition.specs.declared.Kind.TheVariants.{Root, State, Parallel, Final, Shallow, Deep}
use Rattle.definition.specs.Rows.{all, mem, from, is_empty}
use Rattle.definition.specs.Chart.{Chart, kind, is_root, is_state, is_shallow, is_history}
use Rattle.definition.specs.Tables.{part, references_at, block_at, kind_at, parent_at, entry_at, exit_at, list_at, list_block_at, chart_of}
use Rattle.definition.specs.Tree.{is_descendant, is_child, is_compound, is_domain_kind, ancestors}
use Rattle.definition.specs.Rules.{are_apart, is_under, initial_fits, default_fits, list_fits, blocks_fit, row_lists_fit, is_no_root, targets_fit, rule4}
use Rattle.laws.specs.Bools.{no, bool_case}
use Rattle.laws.specs.Lists.{empty_list}
use Rattle.rules1.specs.Inside.{Bare}
use Rattle.tables.specs.Parts.{BlockOf}

-- ---- empty lists and blocks

pub length_empty : {A : Type 0} (xs : List A) → eqb (length xs) 0 ≡ is_empty xs
unfolding is_empty
length_empty [] = refl
length_empty (x ∷ xs) = ne_eqb (suc (length xs)) 0 (λ e. omega arith)

pub block_none : (numbers : List ℕ) (xs : List Action) (b : List ℕ) → BlockOf numbers xs b → eqb (length b) 0 ≡ is_empty xs
unfolding is_empty
block_none numbers [] b h = eq-eqb (length b) 0 h.width
block_none numbers (x ∷ xs) b h = let w = h.width in ne_eqb (length b) 0 (λ e. omega arith)

module _ (xs l : List ℕ) (e : l ≡ xs) where
  pub read_none : length l ≡ 0 → is_empty xs ≡ true
  read_none h = ap is_empty (sym e) ∙ sym (length_empty l) ∙ eq-eqb (length l) 0 h

  pub read_some : (length l ≡ 0 → ⊥) → is_empty xs ≡ false
  read_some h = ap is_empty (sym e) ∙ sym (length_empty l) ∙ ne_eqb (length l) 0 h

-- ---- the tests of one row

-- a history has no initial list
pub history_no_domain : (c : Chart) (i : ℕ) → is_history (kind c i) ≡ true → is_domain_kind c i ≡ false
unfolding is_domain_kind is_compound
history_no_domain c i h = go (kind c i) _ h
  where
    go : (k : Kind) (b : Bool) → is_history k ≡ true → (is_root k || (is_state k && b)) ≡ false
    go Root b h = absurd (no h)
    go State b h = absurd (no h)
    go Parallel b h = absurd (no h)
    go Final b h = absurd (no h)
    go Shallow b h = refl
    go Deep b h = refl

pub descendant_is : (c : Chart) (a i : ℕ) (xs : List ℕ) (h m : Bool) → h ≡ is_history (kind c i) → m ≡ mem a xs → ((x : ℕ) → mem x xs ≡ mem x (ancestors c i)) → (not h && m) ≡ is_descendant c a i
unfolding is_descendant
descendant_is c a i xs h m e f g = rw (e, f, g a)

pub under_is : (c : Chart) (a i : ℕ) (xs : List ℕ) (m : Bool) → m ≡ mem a xs → ((x : ℕ) → mem x xs ≡ mem x (ancestors c i)) → m ≡ is_under c a i
unfolding is_under
under_is c a i xs m f g = f ∙ g a

module _ (numbers : List ℕ) (i : ℕ) (l : List ℕ) (e : l ≡ list_at numbers i) where
  abbrev chart : Chart
  chart = chart_of numbers

  pub initial_none : (b : List ℕ) → length l ≡ 0 → BlockOf numbers (list_block_at numbers i) b → eqb (length b) 0 ≡ initial_fits chart i
  unfolding initial_fits all
  initial_none b h k = let z = read_none (list_at numbers i) l e h in block_none numbers (list_block_at numbers i) b k ∙ sym (rw (z, empty_list (list_at numbers i) z))

  pub initial_some : (t : Bool) → (length l ≡ 0 → ⊥) → t ≡ all (is_under chart i) l → t ≡ initial_fits chart i
  unfolding initial_fits
  initial_some t h f = f ∙ rw e (sym (rw (read_some (list_at numbers i) l e h) (and_yes (all (is_under chart i) (list_at numbers i)))))
    where
      and_yes : (x : Bool) → (x && true) ≡ x
      and_yes true = refl
      and_yes false = refl

  pub default_none : length l ≡ 0 → false ≡ default_fits chart i
  unfolding default_fits
  default_none h = sym (rw (read_none (list_at numbers i) l e h))

  module _ (h : length l ≡ 0 → ⊥) (p : ℕ) (q : p ≡ parent_at numbers i) where
    pub default_children : (t : Bool) → is_shallow (kind_at numbers i) ≡ true → t ≡ all (is_child chart p) l → t ≡ default_fits chart i
    unfolding default_fits
    default_children t k f = f ∙ sym (rw (read_some (list_at numbers i) l e h, k, ← e, ← q))

    pub default_descendants : (t : Bool) → is_shallow (kind_at numbers i) ≡ false → t ≡ all (is_descendant chart p) l → t ≡ default_fits chart i
    unfolding default_fits
    default_descendants t k f = f ∙ sym (rw (read_some (list_at numbers i) l e h, k, ← e, ← q))

module _ (c : Chart) (i : ℕ) where
  pub list_initial : (t : Bool) → is_domain_kind c i ≡ true → t ≡ initial_fits c i → t ≡ list_fits c i
  unfolding list_fits
  list_initial t h e = e ∙ sym (rw h)

  pub list_default : (t : Bool) → is_domain_kind c i ≡ false → is_history (kind c i) ≡ true → t ≡ default_fits c i → t ≡ list_fits c i
  unfolding list_fits
  list_default t h k e = e ∙ sym (rw (h, k))

  pub list_unused : (t : Bool) → is_domain_kind c i ≡ false → is_history (kind c i) ≡ false → t ≡ (is_empty (c.row i).list && is_empty (c.row i).block) → t ≡ list_fits c i
  unfolding list_fits
  list_unused t h k e = e ∙ sym (rw (h, k))

  pub row_apart_no : are_apart c (c.row i).list ≡ false → false ≡ row_lists_fit c i
  unfolding row_lists_fit
  row_apart_no h = sym (rw h)

  pub row_rest : (t : Bool) → are_apart c (c.row i).list ≡ true → t ≡ (list_fits c i && blocks_fit c i) → t ≡ row_lists_fit c i
  unfolding row_lists_fit
  row_rest t h e = e ∙ sym (rw h)

  pub targets_apart_no : are_apart c (c.transition i).targets ≡ false → false ≡ targets_fit c i
  unfolding targets_fit
  targets_apart_no h = sym (rw h)

  pub targets_roots : (t : Bool) → are_apart c (c.transition i).targets ≡ true → t ≡ all (is_no_root c) (c.transition i).targets → t ≡ targets_fit c i
  unfolding targets_fit
  targets_roots t h e = e ∙ sym (rw h)

-- ---- a row without parts

module _ (numbers : List ℕ) (i : ℕ) (b : Bare numbers i) where
  abbrev own : Chart
  own = chart_of numbers

  no_list : list_at numbers i ≡ []
  unfolding list_at references_at part
  no_list = rw b.list

  no_entry : entry_at numbers i ≡ []
  unfolding entry_at block_at from
  no_entry = rw b.entry

  no_exit : exit_at numbers i ≡ []
  unfolding exit_at block_at from
  no_exit = rw b.exit

  no_block : list_block_at numbers i ≡ []
  unfolding list_block_at block_at from
  no_block = rw b.block

  bare_blocks : blocks_fit own i ≡ true
  unfolding blocks_fit is_empty
  bare_blocks = rw (no_entry, no_exit, no_block) (go (is_root (kind_at numbers i)) (is_history (kind_at numbers i)))
    where
      go : (r h : Bool) → ((not r || true) && (not (r || h) || (true && true))) ≡ true
      go true h = refl
      go false true = refl
      go false false = refl

  bare_apart : are_apart own (list_at numbers i) ≡ true
  unfolding are_apart
  bare_apart = rw no_list

  -- its list fits but where a default list has to be
  bare_list : (k : Bool) → is_history (kind_at numbers i) ≡ k → list_fits own i ≡ not k
  bare_list true h = sym (list_default own i false (history_no_domain own i h) h (default_none numbers i [] (sym no_list) refl))
  bare_list false h =
      bool_case (is_domain_kind own i)
      (λ d. sym (list_initial own i true d (unfold initial_fits in unfold all in unfold is_empty in sym (rw (no_list, no_block)))))
      (λ d. sym (list_unused own i true d h (unfold is_empty in sym (rw (no_list, no_block)))))

  pub bare_fits : (h : Bool) → h ≡ is_history (kind_at numbers i) → not h ≡ row_lists_fit own i
  bare_fits h e = row_rest own i (not h) bare_apart (sym (rw (bare_list h (sym e), bare_blocks) (yes (not h))))
    where
      yes : (x : Bool) → (x && true) ≡ x
      yes true = refl
      yes false = refl

pub no_root_is : (c : Chart) (i x : ℕ) (r t : Bool) → i ≡ x → r ≡ is_root (kind c i) → r ≡ t → is_no_root c x ≡ not t
unfolding is_no_root
no_root_is c i x r t e f g = rw (← e, ← f, g)

-- ---- the rule

module _ (c : Chart) where
  pub lists_decide : all (row_lists_fit c) (from c.rows 0) ≡ false → false ≡ rule4 c
  unfolding rule4
  lists_decide h = sym (rw h)

  pub targets_decide : (t : Bool) → all (row_lists_fit c) (from c.rows 0) ≡ true → t ≡ all (targets_fit c) (from c.transitions 0) → t ≡ rule4 c
  unfolding rule4
  targets_decide t h e = e ∙ sym (rw h)
