use borrow.Author.Rules.{rules}
use Rattle.read_text.specs.Whole.{read_faulty, read_many, read_hand}
use Rattle.read_text.proofs.read_in.Goals as goal

pub lay_text-tabled-requires : goal.lay_text-tabled-requires
lay_text-tabled-requires c = record { surveys = search rules; work_room = c.requires.work_room }

pub hand_out-requires : goal.hand_out-requires
hand_out-requires c = read_hand _ _ _ _ c.lay_text-tabled.ensures _ c.in-Ok.is _ c.requires.name_room

pub returns-in-Err-Faulty : goal.returns-in-Err-Faulty
returns-in-Err-Faulty c = read_faulty _ _ _ _ c.lay_text-tabled.ensures _ c.in-Err-Faulty.is _ (rw c.in-Err-Faulty.is at c.in-Err-Faulty.field-0-is) _ _ _ c.refusal.ensures

pub returns-in-Err-Many : goal.returns-in-Err-Many
returns-in-Err-Many c = read_many _ _ _ _ c.lay_text-tabled.ensures _ c.in-Err-Many.is (rw c.in-Err-Many.is at c.in-Err-Many.field-0-is) _ _ _ c.refusal-in-Err-Many.ensures
