-- The actions of a text stand in blocks whose owners are there: a transition's block comes behind its tag.
use Rattle.std.specs.Prelude.{◌≡◌, refl, Bool, true, false, ◌||◌, cond, List, [], ◌∷◌, ◌++◌, ℕ, suc, ◌+◌, ◌≤◌, eqb, leb}
use Rattle.std.proofs.Common.{subst, zero-add, arith}
use Rattle.std.proofs.Math.Option.{Option}
use Rattle.reading.specs.Tags.{Part, Shape, opening, empty, closing, Markup}
use Rattle.reading.specs.Content.{Block, Spot, in_row, in_block, Fact, row_fact, list_fact, transition_fact, action_fact, end_if, settled, block_of, is_default, Turn, turn, end_facts, top, rest, facts_from}
use Rattle.facts.specs.Appended.{transition_facts, transition_facts_append}
use Rattle.items.specs.Picked.{Owned, AllOwned}

-- a spot in a block that is there, with m transitions so far
abbrev SpotOwned : ℕ → Spot → Type 0
SpotOwned m (in_row i d) = Unit {0}
SpotOwned m (in_block b) = Owned m b

abbrev SpotsOwned : ℕ → List Spot → Type 0
SpotsOwned m [] = Unit {0}
SpotsOwned m (s ∷ st) = SpotOwned m s × SpotsOwned m st

owned_more : (m k : ℕ) (b : Block) → m ≤ k → Owned m b → Owned k b
owned_more m k b h o = record { part_few = o.part_few; owner_in = λ e. let l = o.owner_in e in omega arith }

spot_more : (m k : ℕ) (s : Spot) → m ≤ k → SpotOwned m s → SpotOwned k s
spot_more m k (in_row i d) h o = tt
spot_more m k (in_block b) h o = owned_more m k b h o

spots_more : (m k : ℕ) (st : List Spot) → m ≤ k → SpotsOwned m st → SpotsOwned k st
spots_more m k [] h o = tt
spots_more m k (s ∷ st) h o = (spot_more m k s h o.0, spots_more m k st h o.1)

-- the block of a spot; that of a row is part 0
block_owned : (m : ℕ) (s : Spot) → SpotOwned m s → Owned m (block_of s)
block_owned m (in_row i d) o = record { part_few = omega arith; owner_in = λ e. absurd (omega arith) }
block_owned m (in_block b) o = o

settled_owned : (m : ℕ) (s : Spot) → SpotOwned m s → SpotOwned m (settled s)
settled_owned m (in_row i d) o = tt
settled_owned m (in_block b) o = o

top_owned : (m : ℕ) (st : List Spot) → SpotsOwned m st → SpotOwned m (top st)
top_owned m [] o = tt
top_owned m (s ∷ st) o = o.0

rest_owned : (m : ℕ) (st : List Spot) → SpotsOwned m st → SpotsOwned m (rest st)
rest_owned m [] o = tt
rest_owned m (s ∷ st) o = o.1

-- a row's block has a row as owner, whatever it is
row_block_owned : (m p i : ℕ) → p ≤ 3 → Owned m (record { part = p; owner = i })
row_block_owned m p i h = record { part_few = omega arith; owner_in = λ e. absurd (omega arith) }

-- ---- a tag

-- what a tag says is owned, and so are the spots inside and around it
record TurnOwned (m : ℕ) (r : Turn) : Type 0 where
  counted : r.transitions ≡ m + transition_facts r.facts
  said : AllOwned r.transitions r.facts
  within : SpotOwned r.transitions r.inside
  without : SpotOwned r.transitions r.around

pick : (m : ℕ) (z : Bool) (x y : Turn) → TurnOwned m x → TurnOwned m y → TurnOwned m (cond z x y)
pick m true x y o p = o
pick m false x y o p = p

-- a tag that says nothing of transitions and actions
quiet : (m : ℕ) (fs : List Fact) (i a : Spot) (n : ℕ) → transition_facts fs ≡ 0 → AllOwned m fs → SpotOwned m i → SpotOwned m a →
    TurnOwned m (record { facts = fs; inside = i; around = a; rows = n; transitions = m })
quiet m fs i a n e o w v = record { counted = omega arith; said = o; within = w; without = v }

-- a transition begins
beginning : (m r : ℕ) (d : List (List ℕ)) (c : Option ℕ) (y : Bool) (g : List ℕ) (s : Spot) (n : ℕ) → SpotOwned m s →
    TurnOwned m (record { facts = transition_fact r d c y g ∷ []; inside = in_block (record { part = 4; owner = m }); around = s; rows = n; transitions = suc m })
unfolding transition_facts AllOwned
beginning m r d c y g s n o =
    record { counted = omega arith; said = tt; within = record { part_few = omega arith; owner_in = λ _. omega arith }; without = spot_more m (suc m) s (omega arith) o }

turn_owned : (ids : List (List ℕ)) (s : Spot) (n m e : ℕ) (ps : List Part) → SpotOwned m s → TurnOwned m (turn ids s n m e ps)
unfolding turn transition_facts AllOwned
turn_owned ids s n m e ps o =
    pick m (leb e 4) _ _ (quiet m _ _ _ _ refl tt tt o)
    (pick m (eqb e 5) _ _ (quiet m _ _ _ _ refl tt tt o)
    (pick m (eqb e 7) _ _ (quiet m _ _ _ _ refl tt (row_block_owned m 1 _ (omega arith)) o)
    (pick m (eqb e 8) _ _ (quiet m _ _ _ _ refl tt (row_block_owned m 2 _ (omega arith)) o)
    (pick m (eqb e 6 || eqb e 11) _ _
    (pick m (is_default s e ps) _ _ (quiet m _ _ _ _ refl tt (row_block_owned m 3 _ (omega arith)) (settled_owned m s o)) (beginning m _ _ _ _ _ s n o))
    (quiet m _ _ _ _ refl (block_owned m s o, tt) o o)))))

-- ---- all tags

end_owned : (m : ℕ) (s : Spot) (e : ℕ) → SpotOwned m s → AllOwned m (end_facts s e)
unfolding AllOwned
end_owned m s e o = by (eqb e 12)
  where
    by : (z : Bool) → AllOwned m (cond z (action_fact (block_of s) end_if ∷ []) [])
    by true = (block_owned m s o, tt)
    by false = tt

end_none : (s : Spot) (e : ℕ) → transition_facts (end_facts s e) ≡ 0
unfolding transition_facts
end_none s e = by (eqb e 12)
  where
    by : (z : Bool) → transition_facts (cond z (action_fact (block_of s) end_if ∷ []) []) ≡ 0
    by true = refl
    by false = refl

all_more : (m k : ℕ) (fs : List Fact) → m ≤ k → AllOwned m fs → AllOwned k fs
unfolding AllOwned
all_more m k [] h o = tt
all_more m k (row_fact e q n l ∷ fs) h o = all_more m k fs h o
all_more m k (list_fact j l ∷ fs) h o = all_more m k fs h o
all_more m k (transition_fact s d c y g ∷ fs) h o = all_more m k fs h o
all_more m k (action_fact b a ∷ fs) h o = (owned_more m k b h o.0, all_more m k fs h o.1)

pub owned_append : (m : ℕ) (fs gs : List Fact) → AllOwned m fs → AllOwned m gs → AllOwned m (fs ++ gs)
unfolding AllOwned
owned_append m [] gs o p = p
owned_append m (row_fact e q n l ∷ fs) gs o p = owned_append m fs gs o p
owned_append m (list_fact j l ∷ fs) gs o p = owned_append m fs gs o p
owned_append m (transition_fact s d c y g ∷ fs) gs o p = owned_append m fs gs o p
owned_append m (action_fact b a ∷ fs) gs o p = (o.0, owned_append m fs gs o.1 p)

joined : (m k : ℕ) (fs gs : List Fact) → k ≡ m + transition_facts fs → AllOwned k fs → AllOwned (k + transition_facts gs) gs → AllOwned (m + transition_facts (fs ++ gs)) (fs ++ gs)
joined m k fs gs e o p =
    let a = transition_facts_append fs gs in
    let h : k + transition_facts gs ≡ m + transition_facts (fs ++ gs) = omega arith in
    owned_append (m + transition_facts (fs ++ gs)) fs gs (all_more k (m + transition_facts (fs ++ gs)) fs (omega arith) o) (subst (λ (j : ℕ). AllOwned j gs) h p)

by_shape : (P : List Fact → Type 0) (z : Shape) (a b c : List Fact) → P a → P b → P c → P (elim z [ opening ↦ a | empty ↦ b | closing ↦ c ])
by_shape P opening a b c x y z = x
by_shape P empty a b c x y z = y
by_shape P closing a b c x y z = z

-- with m transitions before them
owned_from : (ids : List (List ℕ)) (st : List Spot) (n m : ℕ) (ts : List Markup) → SpotsOwned m st → AllOwned (m + transition_facts (facts_from ids st n m ts)) (facts_from ids st n m ts)
unfolding facts_from AllOwned
owned_from ids st n m [] o = tt
owned_from ids st n m (t ∷ ts) o =
    let r = turn ids (top st) n m t.element t.parts in
    let w = turn_owned ids (top st) n m t.element t.parts (top_owned m st o) in
    let more = spots_more m r.transitions (rest st) (let c = w.counted in omega arith) (rest_owned m st o) in
    let none = end_none r.inside t.element in
    let plain = end_none (top st) t.element in
    let behind = transition_facts_append r.facts (end_facts r.inside t.element) in
    let c = w.counted in
    by_shape (λ (l : List Fact). AllOwned (m + transition_facts l) l) t.shape
    (r.facts ++ facts_from ids (r.inside ∷ r.around ∷ rest st) r.rows r.transitions ts)
    (r.facts ++ end_facts r.inside t.element ++ facts_from ids (r.around ∷ rest st) r.rows r.transitions ts)
    (end_facts (top st) t.element ++ facts_from ids (rest st) n m ts)
    (joined m r.transitions r.facts (facts_from ids (r.inside ∷ r.around ∷ rest st) r.rows r.transitions ts) c w.said
    (owned_from ids (r.inside ∷ r.around ∷ rest st) r.rows r.transitions ts (w.within, (w.without, more))))
    (joined m r.transitions (r.facts ++ end_facts r.inside t.element) (facts_from ids (r.around ∷ rest st) r.rows r.transitions ts) (omega arith)
    (owned_append r.transitions r.facts (end_facts r.inside t.element) w.said (end_owned r.transitions r.inside t.element w.within))
    (owned_from ids (r.around ∷ rest st) r.rows r.transitions ts (w.without, more)))
    (joined m m (end_facts (top st) t.element) (facts_from ids (rest st) n m ts) (omega arith) (end_owned m (top st) t.element (top_owned m st o))
    (owned_from ids (rest st) n m ts (rest_owned m st o)))

pub facts_owned : (ids : List (List ℕ)) (ts : List Markup) → AllOwned (transition_facts (facts_from ids [] 0 0 ts)) (facts_from ids [] 0 0 ts)
facts_owned ids ts = subst (λ (m : ℕ). AllOwned m (facts_from ids [] 0 0 ts)) (zero-add (transition_facts (facts_from ids [] 0 0 ts))) (owned_from ids [] 0 0 ts tt)
