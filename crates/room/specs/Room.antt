-- How many entries suffice for any one start or round of a chart. In a round each row is exited at most once and entered at most once, each transition
-- is taken at most once, and the block of each list is performed at most once.
use Rattle.std.specs.Prelude.{cond, List, ℕ, ◌+◌, ◌*◌, length}
use Rattle.definition.specs.Rows.{fold, from}
use Rattle.definition.specs.Chart.{Chart}
use Rattle.definition.specs.Tables.{most_rows, most_transitions, most_actions, chart_of}
use Rattle.definition.specs.Compiled.{own_numbers, is_compiled}

-- of a row beside its blocks: it is exited, it is entered, two done events come with a final
abbrev pub of_row : ℕ
of_row = 4

-- of a transition beside its block: it is taken, and a row chose it
abbrev pub of_transition : ℕ
of_transition = 2

-- of a row: also the actions of its three blocks
unfoldable pub room_in_row : Chart → ℕ → ℕ
room_in_row c i = of_row + length (c.row i).exit + length (c.row i).entry + length (c.row i).block

-- of a transition: also the actions of its block
unfoldable pub transition_room : Chart → ℕ → ℕ
transition_room c t = of_transition + length (c.transition t).block

unfoldable pub add_row : Chart → ℕ → ℕ → ℕ
add_row c sum i = sum + room_in_row c i

unfoldable pub add_transition : Chart → ℕ → ℕ → ℕ
add_transition c sum t = sum + transition_room c t

unfoldable pub rows_room : Chart → ℕ
rows_room c = fold (add_row c) 0 (from c.rows 0)

unfoldable pub transitions_room : Chart → ℕ
transitions_room c = fold (add_transition c) 0 (from c.transitions 0)

unfoldable pub room_for : Chart → ℕ
room_for c = rows_room c + transitions_room c

-- of a lent compiled chart; 0 where what is lent is none
unfoldable pub room_of : List ℕ → List ℕ → ℕ
room_of chart names = cond (is_compiled chart names) (room_for (chart_of (own_numbers chart))) 0

-- ---- the most of each: full blocks, and as many rows and transitions as rule 1 allows

abbrev pub most_row_room : ℕ
most_row_room = of_row + 3 * most_actions

abbrev pub most_transition_room : ℕ
most_transition_room = of_transition + most_actions

abbrev pub most_rows_room : ℕ
most_rows_room = most_rows * most_row_room

abbrev pub most_transitions_room : ℕ
most_transitions_room = most_transitions * most_transition_room

-- of a chart: 43,008
abbrev pub most_room : ℕ
most_room = most_rows_room + most_transitions_room
