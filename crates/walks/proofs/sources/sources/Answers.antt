use borrow.Author.Rules.{rules}
use Rattle.walks.specs.Sources.{sources_start, sources_end, sources_less, sources_room, sources_more}
use Rattle.walks.proofs.sources.sources.Goals as goal

pub loop-next-init : goal.loop-next-init
loop-next-init c = search (rules, sources_start)

pub shape_of-levels-then-not-found : goal.shape_of-levels-then-not-found
shape_of-levels-then-not-found c = search (rules, c.requires.walk.deep)

pub shape_of-cells-then-not-found : goal.shape_of-cells-then-not-found
shape_of-cells-then-not-found c = search (rules, c.requires.walk.cells_room)

pub shape_of-spots-then-not-found : goal.shape_of-spots-then-not-found
shape_of-spots-then-not-found c = search (rules, c.requires.walk.spots_room)

pub shape_of-sources-then-not-found : goal.shape_of-sources-then-not-found
shape_of-sources-then-not-found c = search (rules, c.requires.room)

pub returns-then-not-found : goal.returns-then-not-found
returns-then-not-found c = search (rules, sources_end)

pub note_mark-c-requires : goal.note_mark-c-requires
note_mark-c-requires c = search (rules, sources_room)

pub loop-next-smaller : goal.loop-next-smaller
loop-next-smaller c = search (rules, sources_less)

pub loop-next-preserved : goal.loop-next-preserved
loop-next-preserved c = search (rules, sources_more)
