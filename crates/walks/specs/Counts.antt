-- How many rows and transitions a tag says, and the sources of the transitions.
use Rattle.std.specs.Prelude.{◌≡◌, Bool, cond, List, [], ◌∷◌, ◌++◌, ℕ, ◌+◌, ◌≤◌, ◌<◌, length}
use Rattle.std.proofs.Math.Path.{refl}
use Rattle.std.proofs.Common.{sym, ap, subst, ◌∙◌, append-nil, arith}
use Rattle.std.proofs.Math.Bool.{true, false}
use Rattle.reading.specs.Tags.{Part}
use Rattle.reading.specs.Content.{Block, Act, end_if, Fact, row_fact, list_fact, transition_fact, action_fact}
use Rattle.turns.specs.declared.SpotCells.{SpotCells}
use Rattle.facts.specs.declared.Said.{Said}
use Rattle.facts.specs.declared.Said.TheVariants.{Nothing, Row, List as ListOf, Transition, Action}
use Rattle.facts.specs.Facts.{part_of, said_facts, ends}
use Rattle.facts.specs.Appended.{row_facts, transition_facts, row_facts_append, transition_facts_append}
use Rattle.items.specs.Items.{sources_of}
use Rattle.walks.specs.declared.sources.Counts.{Counts}
use Rattle.walks.specs.Said.{end_said}

-- ---- what is said of rows and transitions

abbrev pub rows_said : Said → ℕ
rows_said Nothing = 0
rows_said (Row q) = 1
rows_said (ListOf i) = 0
rows_said (Transition i) = 0
rows_said (Action p i) = 0

abbrev pub sources_said : Said → List ℕ
sources_said Nothing = []
sources_said (Row q) = []
sources_said (ListOf i) = []
sources_said (Transition i) = i ∷ []
sources_said (Action p i) = []

pub rows_by : (s : Said) → rows_said s ≤ 1
rows_by Nothing = omega arith
rows_by (Row q) = omega arith
rows_by (ListOf i) = omega arith
rows_by (Transition i) = omega arith
rows_by (Action p i) = omega arith

pub transitions_by : (s : Said) → length (sources_said s) ≤ 1
transitions_by Nothing = omega arith
transitions_by (Row q) = omega arith
transitions_by (ListOf i) = omega arith
transitions_by (Transition i) = omega arith
transitions_by (Action p i) = omega arith

pub sources_append : (fs gs : List Fact) → sources_of (fs ++ gs) ≡ sources_of fs ++ sources_of gs
unfolding sources_of
sources_append [] gs = refl
sources_append (row_fact k q n l ∷ fs) gs = sources_append fs gs
sources_append (list_fact j l ∷ fs) gs = sources_append fs gs
sources_append (transition_fact s d c y g ∷ fs) gs = ap (λ (l : List ℕ). s ∷ l) (sources_append fs gs)
sources_append (action_fact k a ∷ fs) gs = sources_append fs gs

-- an if's end says nothing of them
module _ (k : Block) (a : Act) where
  end_rows : (z : Bool) → row_facts (cond z (action_fact k a ∷ []) []) ≡ 0
  unfolding row_facts
  end_rows true = refl
  end_rows false = refl

  end_transitions : (z : Bool) → transition_facts (cond z (action_fact k a ∷ []) []) ≡ 0
  unfolding transition_facts
  end_transitions true = refl
  end_transitions false = refl

  end_sources : (z : Bool) → sources_of (cond z (action_fact k a ∷ []) []) ≡ []
  unfolding sources_of
  end_sources true = refl
  end_sources false = refl

module _ (ids : List (List ℕ)) (spot : SpotCells) (s e : ℕ) (ps : List Part) where
  abbrev last : Block
  last = record { part = part_of spot.what; owner = spot.number }

  plus : (n : ℕ) → n + 0 ≡ n
  plus n = omega arith

  pub said_rows : (r : Said) → row_facts (said_facts ids e ps r ++ end_said spot s e) ≡ rows_said r
  said_rows r =
      row_facts_append (said_facts ids e ps r) (end_said spot s e) ∙ ap (λ (n : ℕ). row_facts (said_facts ids e ps r) + n) (end_rows last end_if (ends s e)) ∙
      plus (row_facts (said_facts ids e ps r)) ∙ by r
    where
      by : (r : Said) → row_facts (said_facts ids e ps r) ≡ rows_said r
      by Nothing = unfold row_facts in refl
      by (Row q) = unfold row_facts in refl
      by (ListOf i) = unfold row_facts in refl
      by (Transition i) = unfold row_facts in refl
      by (Action p i) = unfold row_facts in refl

  pub said_transitions : (r : Said) → transition_facts (said_facts ids e ps r ++ end_said spot s e) ≡ length (sources_said r)
  said_transitions r =
      transition_facts_append (said_facts ids e ps r) (end_said spot s e) ∙ ap (λ (n : ℕ). transition_facts (said_facts ids e ps r) + n) (end_transitions last end_if (ends s e)) ∙
      plus (transition_facts (said_facts ids e ps r)) ∙ by r
    where
      by : (r : Said) → transition_facts (said_facts ids e ps r) ≡ length (sources_said r)
      by Nothing = unfold transition_facts in refl
      by (Row q) = unfold transition_facts in refl
      by (ListOf i) = unfold transition_facts in refl
      by (Transition i) = unfold transition_facts in refl
      by (Action p i) = unfold transition_facts in refl

  pub said_sources : (r : Said) → sources_of (said_facts ids e ps r ++ end_said spot s e) ≡ sources_said r
  said_sources r =
      sources_append (said_facts ids e ps r) (end_said spot s e) ∙ ap (λ (l : List ℕ). sources_of (said_facts ids e ps r) ++ l) (end_sources last end_if (ends s e)) ∙
      append-nil (sources_of (said_facts ids e ps r)) ∙ by r
    where
      by : (r : Said) → sources_of (said_facts ids e ps r) ≡ sources_said r
      by Nothing = unfold sources_of in refl
      by (Row q) = unfold sources_of in refl
      by (ListOf i) = unfold sources_of in refl
      by (Transition i) = unfold sources_of in refl
      by (Action p i) = unfold sources_of in refl

-- ---- counts

pub record CountRoom (c : Counts) : Type 0 where
  pub rows_fit : c.rows < 32768
  pub transitions_fit : c.transitions < 32768

pub record CountedBy (c : Counts) (said : Said) (r : Counts) : Type 0 where
  pub rows_are : r.rows ≡ c.rows + rows_said said
  pub transitions_are : r.transitions ≡ c.transitions + length (sources_said said)

module _ (c : Counts) (said : Said) where
  as_counted : (x : Said) (r : Counts) → said ≡ x → CountedBy c x r → CountedBy c said r
  as_counted x r e h = subst (λ (y : Said). CountedBy c y r) (sym e) h

  pub counted_none : said ≡ Nothing → CountedBy c said c
  counted_none e = as_counted Nothing c e (record { rows_are = omega arith; transitions_are = omega arith })

  pub counted_row : (q : ℕ) → said ≡ Row q → CountedBy c said (record { rows = c.rows + 1; transitions = c.transitions })
  counted_row q e = as_counted (Row q) (record { rows = c.rows + 1; transitions = c.transitions }) e (record { rows_are = refl; transitions_are = omega arith })

  pub counted_list : (i : ℕ) → said ≡ ListOf i → CountedBy c said c
  counted_list i e = as_counted (ListOf i) c e (record { rows_are = omega arith; transitions_are = omega arith })

  pub counted_transition : (i : ℕ) → said ≡ Transition i → CountedBy c said (record { rows = c.rows; transitions = c.transitions + 1 })
  counted_transition i e = as_counted (Transition i) (record { rows = c.rows; transitions = c.transitions + 1 }) e (record { rows_are = omega arith; transitions_are = refl })

  pub counted_action : (b i : ℕ) → said ≡ Action b i → CountedBy c said c
  counted_action b i e = as_counted (Action b i) c e (record { rows_are = omega arith; transitions_are = omega arith })
