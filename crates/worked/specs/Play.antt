-- What the definitions give for a chart and a list of calls, and the columns of actions.
use Rattle.std.specs.Prelude.{List, [], ◌∷◌, ◌++◌, ℕ}
use Rattle.definition.specs.Tables.{chart_of, name_at}
use Rattle.definition.specs.Rules.{keeps_rules}
use Rattle.definition.specs.Answers.{answer_no}
use Rattle.follower.specs.Calls.{Call, starts, posts, clocks, runs, Outcome, follow_all, at_rest}

abbrev pub raises : ℕ → List ℕ
raises n = 0 ∷ n ∷ 0 ∷ 0 ∷ []

abbrev pub hosts : ℕ → List ℕ
hosts n = 1 ∷ n ∷ 0 ∷ 0 ∷ []

abbrev pub if_in : ℕ → List ℕ
if_in i = 2 ∷ i ∷ 0 ∷ 0 ∷ []

abbrev pub else_if_in : ℕ → List ℕ
else_if_in i = 3 ∷ i ∷ 0 ∷ 0 ∷ []

abbrev pub otherwise : List ℕ
otherwise = 4 ∷ 0 ∷ 0 ∷ 0 ∷ []

abbrev pub ends : List ℕ
ends = 5 ∷ 0 ∷ 0 ∷ 0 ∷ []

-- what a start or run hands back: number and rounds, trace, configuration; of a post and a clock call nothing
unfoldable pub shown : Call → Outcome → List (List ℕ)
shown (starts room) o = (o.number ∷ o.rounds ∷ []) ∷ o.trace ∷ o.after.follower.configuration ∷ []
shown (posts name) o = []
shown (clocks ticks) o = []
shown (runs n room) o = (o.number ∷ o.rounds ∷ []) ∷ o.trace ∷ o.after.follower.configuration ∷ []

unfoldable pub shown_all : List Call → List Outcome → List (List ℕ)
shown_all [] os = []
shown_all (call ∷ calls) [] = []
shown_all (call ∷ calls) (o ∷ os) = shown call o ++ shown_all calls os

-- the verdict, then three lists for each start and run
unfoldable pub played : List ℕ → List ℕ → List Call → List (List ℕ)
played numbers names calls =
    (answer_no (keeps_rules numbers names) ∷ []) ∷ shown_all calls (follow_all (chart_of numbers) (name_at names) (at_rest (chart_of numbers)) calls)
