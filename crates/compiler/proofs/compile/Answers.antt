use Rattle.compiler.specs.Results.{copy_holds, refused, numbers_fit, names_fit, behind_room, accepted}
use Rattle.compiler.proofs.Answers.{not_done}
use Rattle.compiler.proofs.compile.Goals as goal

pub returns-in_default : goal.returns-in_default
returns-in_default c = refused _ _ c.args.place.now c.args.name_place.now _ c.verdict-answer.ensures (not_done _ c.in_default.not-Done)

pub copy-requires : goal.copy-requires
copy-requires c = numbers_fit _ _ c.args.place.now c.args.name_place.now _ c.verdict-answer.ensures c.in-Done.is

pub slice_bounds-write_columns-count : goal.slice_bounds-write_columns-count
slice_bounds-write_columns-count c = copy_holds c.args.numbers.now c.args.place.now _ c.copy.ensures

pub write_columns-requires : goal.write_columns-requires
write_columns-requires c = behind_room _ _ c.args.place.now c.args.name_place.now _ _ c.verdict-answer.ensures c.in-Done.is c.copy.ensures

pub copy-requires-2 : goal.copy-requires-2
copy-requires-2 c = names_fit _ _ c.args.place.now c.args.name_place.now _ c.verdict-answer.ensures c.in-Done.is

pub returns : goal.returns
returns c =
    accepted _ _ c.args.place.now c.args.name_place.now _ _ c.verdict-answer.ensures c.in-Done.is c.copy.ensures _ _
    c.write_columns.ensures c.copy-2.ensures
