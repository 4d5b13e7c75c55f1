use mathlib.Core.List.{List}
use mathlib.Core.Path.{ap, ◌∙◌}
use Prim.Native.Nat.{ℕ}
use Rattle.definition.specs.Chart.{is_shallow}
use Rattle.definition.specs.Rows.{intersection}
use Rattle.rowset.specs.Member.{rows_of}
use Rattle.laws.specs.Loops.{told}
use Rattle.effects.specs.Entering.{history_later}
use Rattle.microstep.specs.Stored.{store_shallow, store_deep}
use Rattle.microstep.proofs.storing.would_store.Goals as goal

pub parent_row-p-requires : goal.parent_row-p-requires
parent_row-p-requires c = record { row = c.requires.1.row; later = history_later _ _ c.requires.1 }

pub returns-then-is_shallow : goal.returns-then-is_shallow
returns-then-is_shallow c = c.intersection.ensures ∙ ap (intersection (rows_of c.args.conf)) c.children_of.ensures ∙ store_shallow _ _ _ _ c.parent_row-p.ensures.is (told is_shallow _ _ _ _ c.kind_of.ensures c.is_shallow.ensures c.if-is_shallow.true)

pub returns : goal.returns
returns c = c.intersection-3.ensures ∙ ap (λ (xs : List ℕ). intersection xs (rows_of c.descendants_of.result)) c.intersection-2.ensures ∙ ap (intersection (intersection (rows_of c.args.conf) (rows_of c.args.atoms))) c.descendants_of.ensures ∙ store_deep _ _ _ _ c.parent_row-p.ensures.is _ (told is_shallow _ _ _ _ c.kind_of.ensures c.is_shallow.ensures c.if-is_shallow.false) c.requires.0.inside c.requires.0.atomic
