use Rattle.read_text.specs.Number.{number_rows, number_transitions, number_done}
use Rattle.read_text.proofs.number.number.Goals as goal

pub returns-then-rows-gt-MOST_ROWS : goal.returns-then-rows-gt-MOST_ROWS
returns-then-rows-gt-MOST_ROWS c = number_rows _ _ _ _ _ _ c.sources-counts.ensures _ c.if-rows-gt-MOST_ROWS.true

pub returns-then-transitions-gt-MOST_TRANSITIONS : goal.returns-then-transitions-gt-MOST_TRANSITIONS
returns-then-transitions-gt-MOST_TRANSITIONS c = number_transitions _ _ _ _ _ _ c.sources-counts.ensures _ _ c.rank-transitions.ensures c.if-transitions-gt-MOST_TRANSITIONS.true

pub returns : goal.returns
returns c = number_done _ _ _ _ _ _ c.sources-counts.ensures _ _ c.rank-transitions.ensures c.if-rows-gt-MOST_ROWS.false c.if-transitions-gt-MOST_TRANSITIONS.false
