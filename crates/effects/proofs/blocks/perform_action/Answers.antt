use native.Mathlib.Omega.{arith}
use Rattle.effects.specs.Kinds.{raise_fits_lem, raise_in, raise_wrote, host_fits, host_in, host_wrote, send_fits, send_in, send_wrote, cancel_fits, cancel_in, cancel_wrote, if_wrote, elseif_wrote, else_wrote, end_wrote}
use Rattle.effects.proofs.blocks.perform_action.Goals as goal

pub overflow_cast-n : goal.overflow_cast-n
overflow_cast-n c = record { fits = let l = raise_fits_lem _ _ c.in-Raise.is c.requires.0 in omega arith }

pub emit_join-requires : goal.emit_join-requires
emit_join-requires c = raise_in _ _ _ c.in-Raise.is c.requires.0 c.requires.1

pub overflow_cast-n-in-Host : goal.overflow_cast-n-in-Host
overflow_cast-n-in-Host c = record { fits = let l = host_fits _ _ c.in-Host.is c.requires.0 in omega arith }

pub emit-requires : goal.emit-requires
emit-requires c = host_in _ _ _ c.in-Host.is c.requires.0 c.requires.1

pub returns-in-Raise : goal.returns-in-Raise
returns-in-Raise c = raise_wrote _ _ _ _ _ _ c.in-Raise.is c.emit_join.ensures

pub returns-in-Host : goal.returns-in-Host
returns-in-Host c = host_wrote _ _ _ _ _ _ c.in-Host.is (c.emit.ensures.wrote _)

pub returns-in-If : goal.returns-in-If
returns-in-If c = if_wrote _ _ _ _ c.in-If.is

pub returns-in-ElseIf : goal.returns-in-ElseIf
returns-in-ElseIf c = elseif_wrote _ _ _ _ c.in-ElseIf.is

pub returns-in-Else : goal.returns-in-Else
returns-in-Else c = else_wrote _ _ _ c.in-Else.is

pub returns-in-End : goal.returns-in-End
returns-in-End c = end_wrote _ _ _ c.in-End.is

pub overflow_cast-n-in-Send : goal.overflow_cast-n-in-Send
overflow_cast-n-in-Send c = record { fits = let l = (send_fits _ _ _ _ c.in-Send.is c.requires.0).0 in omega arith }

pub overflow_cast-delay : goal.overflow_cast-delay
overflow_cast-delay c = record { fits = let l = (send_fits _ _ _ _ c.in-Send.is c.requires.0).1 in omega arith }

pub overflow_cast-id : goal.overflow_cast-id
overflow_cast-id c = record { fits = let l = (send_fits _ _ _ _ c.in-Send.is c.requires.0).2 in omega arith }

pub emit_sent-requires : goal.emit_sent-requires
emit_sent-requires c = send_in _ _ _ _ _ c.in-Send.is c.requires.0 c.requires.1

pub overflow_cast-n-in-Cancel : goal.overflow_cast-n-in-Cancel
overflow_cast-n-in-Cancel c = record { fits = let l = cancel_fits _ _ c.in-Cancel.is c.requires.0 in omega arith }

pub emit_cancelled-requires : goal.emit_cancelled-requires
emit_cancelled-requires c = cancel_in _ _ _ c.in-Cancel.is c.requires.0 c.requires.1

pub returns-in-Send : goal.returns-in-Send
returns-in-Send c = send_wrote _ _ _ _ _ _ _ _ c.in-Send.is c.emit_sent.ensures

pub returns-in-Cancel : goal.returns-in-Cancel
returns-in-Cancel c = cancel_wrote _ _ _ _ _ _ c.in-Cancel.is c.emit_cancelled.ensures
