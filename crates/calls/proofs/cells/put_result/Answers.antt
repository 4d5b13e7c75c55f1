use Rattle.calls.proofs.cells.put_result.Goals as goal

pub returns : goal.returns
returns c = c.copy_from_slice.ensures.after
