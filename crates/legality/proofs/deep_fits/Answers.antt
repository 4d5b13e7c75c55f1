use Rattle.legality.specs.Stored.{deep_not, deep_apart, deep_is, paths_ready}
use mathlib.Core.Bool.{not}
use mathlib.Core.Path.{ap}
use Rattle.legality.proofs.deep_fits.Goals as goal

pub returns-then-not-are_atomic_below : goal.returns-then-not-are_atomic_below
returns-then-not-are_atomic_below c = deep_not _ _ _ _ c.are_atomic_below.ensures (ap not c.if-not-are_atomic_below.true)

pub paths_below-paths-requires : goal.paths_below-paths-requires
paths_below-paths-requires c = let p = c.requires in (p.0, record { at = p.1.inside })

pub children_fit-requires : goal.children_fit-requires
children_fit-requires c = c.requires.0

pub returns-then-not-children_fit : goal.returns-then-not-children_fit
returns-then-not-children_fit c = deep_apart _ _ _ _ c.are_atomic_below.ensures (ap not c.if-not-are_atomic_below.false) _ c.paths_below-paths.ensures _ c.children_fit.ensures (ap not c.if-not-children_fit.true)

pub all_children_fit-requires : goal.all_children_fit-requires
all_children_fit-requires c = paths_ready _ _ _ _ c.requires.1.ready c.paths_below-paths.ensures

pub returns : goal.returns
returns c = deep_is _ _ _ _ c.are_atomic_below.ensures (ap not c.if-not-are_atomic_below.false) _ c.paths_below-paths.ensures _ c.children_fit.ensures _ (ap not c.if-not-children_fit.false) c.all_children_fit.ensures
