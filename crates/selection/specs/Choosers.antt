-- Who chose each transition that a round takes: "the first active atomic state that chose it, through conflict removal" (R-6).
use Rattle.std.specs.Prelude.{ℕ}
use Rattle.std.proofs.Math.Path.{ap}
use Rattle.std.proofs.Common.{◌∙◌}
use mathlib.Core.List.{List}
use Rattle.std.proofs.Math.Option.{Option}
use Rattle.std.proofs.Math.ListN.{get_or}
use Rattle.definition.specs.Names.{Name}
use Rattle.definition.specs.Chart.{Chart, Names}
use Rattle.follower.specs.Selection.{History, chooser, without_conflicts, selected}
use Rattle.theory.specs.Disjoint.{selected_candidate}
use Rattle.matching.specs.Chosen.{list_of}
use Rattle.matching.specs.Choosers.{choosers_in, ChosenBy, AreChosenBy}
use Rattle.selection.specs.declared.Selected.{Selected}
use Rattle.selection.specs.Ready.{IsSelected, Leaves}
use Rattle.selection.specs.Kept.{selected_as, drop_past}

module _ (c : Chart) (names : Names) (conf : List ℕ) (hist : History) (event : Option Name) where
  -- the transitions selected for the event are the first of the items; the places behind say who chose each
  pub record IsSelectedBy (items : List ℕ) (r : Selected) : Type 0 where
    pub chosen : IsSelected c conf hist (selected c names conf hist event) items r
    pub choosers : ChosenBy (chooser c names conf event) (selected c names conf hist event) (choosers_in items)

  -- removing conflicts leaves a part of the candidates, and those places
  pub selected_by_lem : (before after : List ℕ) (n : ℕ) (r : Selected) → AreChosenBy c names conf event before n →
      Leaves c conf hist (without_conflicts c conf hist (list_of before n)) before n after r → IsSelectedBy after r
  unfolding selected
  selected_by_lem before after n r a l = record {
    chosen = selected_as c conf hist _ _ after r l.selected (ap (without_conflicts c conf hist) a.chosen.is);
    choosers = record {
      at = λ t m. ap (λ (xs : List ℕ). get_or xs t 0) (drop_past n 256 after before a.chosen.fits.most l.behind) ∙ a.choosers.at t (selected_candidate c names conf hist event t m);
    };
  }
