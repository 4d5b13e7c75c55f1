use borrow.Author.Rules.{rules}
use Rattle.read_text.proofs.read.Goals as goal

pub read_in-requires : goal.read_in-requires
read_in-requires c = record { work_room = search rules; name_room = search rules; ids_room = search rules; spots_room = search rules; noted_room = search rules; ranks_room = search rules }
