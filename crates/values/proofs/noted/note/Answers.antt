use borrow.Author.Rules.{rules}
use native.Mathlib.Omega.{arith}
use Rattle.values.specs.Notes.{note_known, note_new, note_planted, note_enter, spot_there, note_spot}
use Rattle.values.proofs.noted.note.Goals as goal

pub spot_of-spot-requires : goal.spot_of-spot-requires
spot_of-spot-requires c = search (rules, note_planted)

pub enter-requires : goal.enter-requires
enter-requires c = search (rules, note_enter)

pub returns-then-place-n : goal.returns-then-place-n
returns-then-place-n c = search (rules, note_known)

pub offset_bounds-ids-spot : goal.offset_bounds-ids-spot
offset_bounds-ids-spot c =
    let s = c in
    omega (arith, spot_there s.args.text.now s.args.ids.now s.args.n s.args.at s.args.to s.args.place s.requires c.spot_of-spot.result c.spot_of-spot.ensures)

pub bounds-ids-spot : goal.bounds-ids-spot
bounds-ids-spot c = search (rules, note_spot)

pub returns : goal.returns
returns c = search (rules, note_new)
