use Rattle.std.proofs.lemmas.Result.{err_from_is_err_and}
use Rattle.read_text.specs.Survey.{survey_faulty, survey_many}
use Rattle.read_text.proofs.survey.survey.Goals as goal

pub returns-in_err-i : goal.returns-in_err-i
returns-in_err-i c =
    let p = err_from_is_err_and c.from_residual.result c.from_residual.ensures.1 in
    rw (p.1, p.2) (survey_faulty _ _ _ _ _ c.in_err-i.ensures)

pub returns-in_err-m : goal.returns-in_err-m
returns-in_err-m c =
    let p = err_from_is_err_and c.from_residual-in_err-m.result c.from_residual-in_err-m.ensures.1 in
    rw (p.1, p.2) (survey_many _ _ _ _ c.in_ok-i.ensures _ _ _ c.in_err-m.ensures _)
