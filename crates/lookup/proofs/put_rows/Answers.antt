use mathlib.Core.Path.{sym}
use native.Mathlib.Omega.{arith}
use lib.Seq.{length-take-le}
use Rattle.lookup.specs.Words.{rows_put}
use Rattle.lookup.proofs.put_rows.Goals as goal

pub slice_bounds-put_word-end-2 : goal.slice_bounds-put_word-end-2
slice_bounds-put_word-end-2 c = sym (length-take-le 4 c.args.place.now (let l = c.requires in omega arith))

pub put_word-requires : goal.put_word-requires
put_word-requires c = length-take-le 4 c.args.place.now (let l = c.requires in omega arith)

pub returns : goal.returns
returns c = rows_put c.args.place.now _ _ _ _ c.args.set c.requires c.put_word.ensures c.put_word-2.ensures c.put_word-3.ensures c.put_word-4.ensures
