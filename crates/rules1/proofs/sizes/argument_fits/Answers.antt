use Rattle.rules1.specs.Arguments.{argument_name, argument_cancel, argument_host, argument_row, argument_nothing}
use Rattle.rules1.proofs.sizes.argument_fits.Goals as goal

pub returns-then-kind-ge-SEND : goal.returns-then-kind-ge-SEND
returns-then-kind-ge-SEND c = record { is = λ y z d. argument_cancel _ _ _ _ y z c.if-kind-ge-SEND.true d c.name_count.ensures }

pub returns-then-kind-eq-RAISE : goal.returns-then-kind-eq-RAISE
returns-then-kind-eq-RAISE c = record { is = λ y z d. argument_name _ _ _ _ y z c.if-kind-eq-RAISE.true c.name_count-then-kind-eq-RAISE.ensures }

pub returns-then-kind-eq-HOST : goal.returns-then-kind-eq-HOST
returns-then-kind-eq-HOST c = record { is = λ y z d. argument_host _ _ _ 0 y z c.if-kind-eq-HOST.true }

pub returns-then-kind-le-ELSE_IF : goal.returns-then-kind-le-ELSE_IF
returns-then-kind-le-ELSE_IF c = record { is = λ y z d. argument_row _ _ _ _ y z c.if-kind-eq-RAISE.false c.if-kind-eq-HOST.false c.if-kind-le-ELSE_IF.true c.row_count.ensures }

pub returns : goal.returns
returns c = record { is = λ y z d. argument_nothing _ _ _ y z c.if-kind-le-ELSE_IF.false c.if-kind-ge-SEND.false }
