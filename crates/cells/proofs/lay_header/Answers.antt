use borrow.Author.Rules.{rules}
use native.Mathlib.Omega.{arith}
use lib.ListN.{length-set}
use Rattle.cells.specs.Header.{references_room, descriptors_room, actions_room, header_laid}
use Rattle.cells.proofs.lay_header.Goals as goal

pub bounds-out-1 : goal.bounds-out-1
bounds-out-1 c = simp length-set (omega (arith, c.requires.room))

pub entries_in-requires : goal.entries_in-requires
entries_in-requires c = search (rules, references_room)

pub bounds-out-2 : goal.bounds-out-2
bounds-out-2 c = simp length-set (omega (arith, c.requires.room))

pub entries_in-requires-2 : goal.entries_in-requires-2
entries_in-requires-2 c = search (rules, descriptors_room)

pub bounds-out-3 : goal.bounds-out-3
bounds-out-3 c = simp length-set (omega (arith, c.requires.room))

pub entries_in-requires-3 : goal.entries_in-requires-3
entries_in-requires-3 c = search (rules, actions_room)

pub bounds-out-4 : goal.bounds-out-4
bounds-out-4 c = simp length-set (omega (arith, c.requires.room))

pub bounds-out-5 : goal.bounds-out-5
bounds-out-5 c = simp length-set (omega (arith, c.requires.room))

pub returns : goal.returns
returns c = search (rules, header_laid)

pub shape_of-out : goal.shape_of-out
shape_of-out c = (returns c).size
