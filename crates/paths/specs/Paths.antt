-- A row and its ancestors join a set.
use Rattle.std.specs.Prelude.{◌≡◌, List, [], ℕ}
use Rattle.std.proofs.Common.{ap, ◌∙◌}
use Rattle.definition.specs.Rows.{insert, union}
use Rattle.definition.specs.Chart.{Chart}
use Rattle.definition.specs.Tree.{ancestors}
use Rattle.follower.specs.Microstep.{add_path}
use Rattle.laws.specs.Sets.{Ascends, ascends_insert, union_set}

-- one row more, by the set of its ancestors
pub path_added : (c : Chart) (set above : List ℕ) (x : ℕ) → Ascends 0 set → above ≡ union [] (ancestors c x) → union (insert x set) above ≡ add_path c set x
unfolding add_path
path_added c set above x a e = ap (union (insert x set)) e ∙ union_set (insert x set) (ancestors c x) (ascends_insert x set a)
