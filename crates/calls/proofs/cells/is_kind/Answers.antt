use Rattle.calls.specs.Reading.{kind_start, kind_post, kind_run, kind_clock}
use Rattle.calls.proofs.cells.is_kind.Goals as goal

pub returns-then-kind-eq-START : goal.returns-then-kind-eq-START
returns-then-kind-eq-START c = kind_start _ _ _ _ c.if-kind-eq-START.true

pub returns-then-kind-eq-POST : goal.returns-then-kind-eq-POST
returns-then-kind-eq-POST c = kind_post _ _ _ _ c.if-kind-eq-POST.true

pub returns-then-kind-eq-RUN : goal.returns-then-kind-eq-RUN
returns-then-kind-eq-RUN c = kind_run _ _ _ _ c.if-kind-eq-RUN.true

pub returns : goal.returns
returns c = kind_clock _ _ _ _ c.if-kind-eq-START.false c.if-kind-eq-POST.false c.if-kind-eq-RUN.false
