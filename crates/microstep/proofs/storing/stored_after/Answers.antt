use mathlib.Core.Path.{sym, ◌∙◌}
use Rattle.definition.specs.Chart.{is_history}
use Rattle.laws.specs.Loops.{told}
use Rattle.effects.specs.Entering.{HistoryRow, history_later}
use Rattle.microstep.specs.Stored.{stored_words, stored_new, stored_old, stored_plain}
use Rattle.microstep.proofs.storing.stored_after.Goals as goal
use Rattle.microstep.proofs.storing.stored_after.Goals.{Else-not-is_history}

-- row h is a history of the chart
history : (c : Else-not-is_history) → HistoryRow c.args.round.now.chart.now c.args.h.0
history c = record { row = record { ready = c.requires.0.store.ready; inside = c.requires.1 }; history = (told is_history _ _ _ _ c.kind_of.ensures c.is_history.ensures c.if-not-is_history.false) }

pub returns-then-not-is_history : goal.returns-then-not-is_history
returns-then-not-is_history c = stored_words _ _ _ _ c.stored_at.ensures (stored_plain _ _ _ _ _ (told is_history _ _ _ _ c.kind_of.ensures c.is_history.ensures c.if-not-is_history.true))

pub parent_row-requires : goal.parent_row-requires
parent_row-requires c = record { row = (history (goal.at.parent_row-requires c).Else-not-is_history).row; later = history_later _ _ (history (goal.at.parent_row-requires c).Else-not-is_history) }

pub would_store-requires : goal.would_store-requires
would_store-requires c = (c.requires.0.store, history (goal.at.would_store-requires c).Else-not-is_history)

pub returns-then-has : goal.returns-then-has
returns-then-has c = record { set = c.would_store.result; is = c.as_stored.ensures; rows = c.would_store.ensures ∙ stored_new _ _ _ _ _ _ (history (goal.at.returns-then-has c).Else-not-is_history).history c.parent_row.ensures.is (sym c.has.ensures ∙ c.if-has.true) }

pub returns : goal.returns
returns c = stored_words _ _ _ _ c.stored_at-2.ensures (stored_old _ _ _ _ _ _ (history (goal.at.returns c).Else-not-is_history).history c.parent_row.ensures.is (sym c.has.ensures ∙ c.if-has.false))
