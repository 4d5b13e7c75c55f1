-- What the parts of a round do, one effect after the other, and the effects of a block. The trace, the queued names, the pending sends and
-- the refusals are read off the list of effects.
use Rattle.std.specs.Prelude.{Bool, true, cond, List, [], ◌∷◌, ◌++◌, ℕ, zero, suc, ◌+◌, ◌*◌}
use Rattle.definition.specs.declared.Action.{Action}
use Rattle.definition.specs.declared.Action.TheVariants.{Raise, Host, If, ElseIf, Else, End, Send, Cancel}
use Rattle.definition.specs.declared.Reach.{Reach}
use Rattle.definition.specs.declared.Reach.TheVariants.{Live, Waiting, Past}
use Rattle.definition.specs.Rows.{mem}
use Rattle.definition.specs.Names.{Name, done_name}
use Rattle.definition.specs.Chart.{Chart, Names}

-- "1 exited row, 2 transition, 3 entered row, 4 host action, 5 raised name, 6 done event of row" (68)
pub data Effect : Type 0 where
  exited taken entered acted raised done : ℕ → Effect
  -- 7, the row that chose the transition: "the trace gains kind 7 with that row" (R-6)
  chosen : ℕ → Effect
  -- an event sent: its name's number, the delay, the number of the send id or 65,535; and the send id that is cancelled: "a send as kind 8 and a cancel as kind 9" (R-9)
  sent : ℕ → ℕ → ℕ → Effect
  cancelled : ℕ → Effect

-- "Trace entries are 32-bit numbers, kind × 65,536 + index" (68)
unfoldable pub trace_no : Effect → ℕ
trace_no (exited i) = 1 * 65536 + i
trace_no (taken t) = 2 * 65536 + t
trace_no (entered i) = 3 * 65536 + i
trace_no (acted n) = 4 * 65536 + n
trace_no (raised n) = 5 * 65536 + n
trace_no (done i) = 6 * 65536 + i
-- (R-6)
trace_no (chosen i) = 7 * 65536 + i
trace_no (sent n delay id) = 8 * 65536 + n
trace_no (cancelled n) = 9 * 65536 + n

-- the names that an effect puts into the internal queue
unfoldable pub queued : Chart → Names → Effect → List Name
queued c names (exited i) = []
queued c names (taken t) = []
queued c names (entered i) = []
queued c names (acted n) = []
queued c names (raised n) = names n ∷ []
queued c names (done i) = done_name (names (c.row i).id) ∷ []
-- (R-6)
queued c names (chosen i) = []
queued c names (sent n delay id) = []
queued c names (cancelled n) = []

-- ---- a block, performed where the rows conf are active: "In reads the configuration at that moment" (R-5)

-- an if of that test begins (R-5)
unfoldable pub at_if : Bool → Reach → Reach
at_if b Live = cond b Live (Waiting 0)
at_if b (Waiting n) = Waiting (suc n)
at_if b (Past n) = Past (suc n)

-- another branch of it, of that test; an else has the test true (R-5)
unfoldable pub at_else : Bool → Reach → Reach
at_else b Live = Past 0
at_else b (Waiting zero) = cond b Live (Waiting 0)
at_else b (Waiting (suc n)) = Waiting (suc n)
at_else b (Past n) = Past n

-- (R-5)
unfoldable pub at_end : Reach → Reach
at_end Live = Live
at_end (Waiting zero) = Live
at_end (Waiting (suc n)) = Waiting n
at_end (Past zero) = Live
at_end (Past (suc n)) = Past n

-- where an action leads (R-5)
unfoldable pub after : List ℕ → Action → Reach → Reach
after conf (Raise n) r = r
after conf (Host n) r = r
after conf (If i) r = at_if (mem i conf) r
after conf (ElseIf i) r = at_else (mem i conf) r
after conf Else r = at_else true r
after conf End r = at_end r
after conf (Send n delay id) r = r
after conf (Cancel n) r = r

unfoldable pub perform : Action → List Effect
perform (Raise n) = raised n ∷ []
perform (Host n) = acted n ∷ []
-- (R-5)
perform (If i) = []
perform (ElseIf i) = []
perform Else = []
perform End = []
perform (Send n delay id) = sent n delay id ∷ []
perform (Cancel n) = cancelled n ∷ []

-- "only the branch taken" (R-5)
unfoldable pub perform_if : Reach → Action → List Effect
perform_if Live a = perform a
perform_if (Waiting n) a = []
perform_if (Past n) a = []

-- (R-5)
unfoldable pub performed_from : List ℕ → Reach → List Action → List Effect
performed_from conf r [] = []
performed_from conf r (a ∷ rest) = perform_if r a ++ performed_from conf (after conf a r) rest

-- the effects of a block
unfoldable pub performed : List ℕ → List Action → List Effect
performed conf block = performed_from conf Live block
