-- How many effects a final has, and a block: at most one for each action.
use Rattle.std.specs.Prelude.{◌≡◌, Bool, true, false, not, ◌&&◌, cond, List, [], ◌∷◌, ◌++◌, ℕ, ◌+◌, ◌≤◌, length}
use Rattle.std.proofs.Common.{arith, length-append}
use Rattle.definition.specs.declared.Action.{Action}
use Rattle.definition.specs.declared.Action.TheVariants.{Raise, Host, If, ElseIf, Else, End, Send, Cancel}
use Rattle.definition.specs.declared.Reach.{Reach}
use Rattle.definition.specs.declared.Reach.TheVariants.{Live, Waiting, Past}
use Rattle.definition.specs.Chart.{Chart, kind, parent, is_root, is_final}
use Rattle.follower.specs.Blocks.{done, after, perform, perform_if, performed_from, performed}
use Rattle.follower.specs.Microstep.{is_done_above, done_effects}

pub done_few : (c : Chart) (active : List ℕ) (i : ℕ) → length (done_effects c active i) ≤ 2
unfolding done_effects
done_few c active i = go (is_final (kind c i) && not (is_root (kind c (parent c i)))) (is_done_above c active (parent c (parent c i)))
  where
    go : (a b : Bool) → length (cond a (done (parent c i) ∷ cond b (done (parent c (parent c i)) ∷ []) []) []) ≤ 2
    go true true = omega arith
    go true false = omega arith
    go false b = omega arith

-- "count only the branch taken"

perform_few : (r : Reach) (a : Action) → length (perform_if r a) ≤ 1
unfolding perform_if perform
perform_few Live (Raise n) = omega arith
perform_few Live (Host n) = omega arith
perform_few Live (If i) = omega arith
perform_few Live (ElseIf i) = omega arith
perform_few Live Else = omega arith
perform_few Live End = omega arith
perform_few Live (Send n delay id) = omega arith
perform_few Live (Cancel n) = omega arith
perform_few (Waiting n) a = omega arith
perform_few (Past n) a = omega arith

performed_from_few : (conf : List ℕ) (r : Reach) (block : List Action) → length (performed_from conf r block) ≤ length block
unfolding performed_from
performed_from_few conf r [] = omega arith
performed_from_few conf r (a ∷ block) =
    let p = perform_few r a in
    let q = performed_from_few conf (after conf a r) block in
    let s : length (perform_if r a ++ performed_from conf (after conf a r) block) ≡ length (perform_if r a) + length (performed_from conf (after conf a r) block) = length-append (perform_if r a) _ in
    omega arith

pub performed_few : (conf : List ℕ) (block : List Action) → length (performed conf block) ≤ length block
unfolding performed
performed_few conf block = performed_from_few conf Live block
