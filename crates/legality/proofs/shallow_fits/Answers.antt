use Rattle.legality.specs.Stored.{shallow_not, shallow_parallel, shallow_single}
use Rattle.laws.specs.Loops.{told}
use Rattle.definition.specs.Chart.{is_parallel}
use mathlib.Core.Bool.{not}
use mathlib.Core.Path.{ap}
use Rattle.legality.proofs.shallow_fits.Goals as goal

pub returns-then-not-subset : goal.returns-then-not-subset
returns-then-not-subset c = shallow_not _ _ _ c.requires.1 _ c.children_of-kids.ensures _ c.subset.ensures (ap not c.if-not-subset.true)

pub returns-then-is_parallel : goal.returns-then-is_parallel
returns-then-is_parallel c = shallow_parallel _ _ _ c.requires.1 _ c.children_of-kids.ensures _ c.subset.ensures _ (ap not c.if-not-subset.false) (told is_parallel _ _ _ _ c.kind_of.ensures c.is_parallel.ensures c.if-is_parallel.true) c.subset-then-is_parallel.ensures

pub returns : goal.returns
returns c = shallow_single _ _ _ c.requires.1 _ c.children_of-kids.ensures _ c.subset.ensures _ (ap not c.if-not-subset.false) (told is_parallel _ _ _ _ c.kind_of.ensures c.is_parallel.ensures c.if-is_parallel.false) c.is_single.ensures
