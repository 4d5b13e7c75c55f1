-- What the content of an accepted chart is like, as far as writing and reading it back go by it.
use Rattle.std.specs.Prelude.{◌≡◌, Bool, true, false, List, [], ◌∷◌, ℕ, zero, suc, ◌≤◌, ◌<◌}
use Rattle.std.proofs.Math.Option.{Option, none, some}
use Rattle.definition.specs.Rows.{is_empty}
use Rattle.definition.specs.Names.{is_name, is_descriptor}
use Rattle.reading.specs.Content.{Act, raises, hosts, if_in, elseif_in, otherwise, end_if, sends, cancels, Row, Transition}

pub data AllOf {A : Type 0} (P : A → Type 0) : List A → Type 0 where
  no_more : AllOf P []
  more : {x : A} {xs : List A} → P x → AllOf P xs → AllOf P (x ∷ xs)

pub data Always : Type 0 where
  always : Always

-- a row that a reference may name, of n rows
pub record Ref (n i : ℕ) : Type 0 where
  pub above : 1 ≤ i
  pub below : i < n

-- ---- blocks

abbrev pub ActFits : ℕ → Act → Type 0
ActFits n (raises m) = is_name m ≡ true
ActFits n (hosts k) = k ≤ 65535
ActFits n (if_in i) = Ref n i
ActFits n (elseif_in i) = Ref n i
ActFits n otherwise = Always
ActFits n end_if = Always
ActFits n (sends m d none) = (is_name m ≡ true) × (d ≤ 4294967295)
ActFits n (sends m d (some j)) = (is_name m ≡ true) × (d ≤ 4294967295) × (is_name j ≡ true)
ActFits n (cancels m) = is_name m ≡ true

-- with k ifs open, each end closes one, and all are closed at the end
unfoldable pub balanced : ℕ → List Act → Bool
balanced zero [] = true
balanced (suc k) [] = false
balanced k (raises m ∷ rest) = balanced k rest
balanced k (hosts m ∷ rest) = balanced k rest
balanced k (if_in i ∷ rest) = balanced (suc k) rest
balanced k (elseif_in i ∷ rest) = balanced k rest
balanced k (otherwise ∷ rest) = balanced k rest
balanced zero (end_if ∷ rest) = false
balanced (suc k) (end_if ∷ rest) = balanced k rest
balanced k (sends m d j ∷ rest) = balanced k rest
balanced k (cancels m ∷ rest) = balanced k rest

pub record BlockFits (n : ℕ) (acts : List Act) : Type 0 where
  pub each : AllOf (ActFits n) acts
  pub closed : balanced 0 acts ≡ true

-- ---- rows

-- the root has no id and its list no block; a parallel and a final have no list; a state whose list is empty has no block for it; a history has a list
abbrev pub Shaped : ℕ → Row → Type 0
Shaped zero r = (r.id ≡ []) × (r.block ≡ [])
Shaped (suc zero) r = (is_name r.id ≡ true) × (r.list ≡ [] → r.block ≡ [])
Shaped (suc (suc zero)) r = (is_name r.id ≡ true) × (r.list ≡ []) × (r.block ≡ [])
Shaped (suc (suc (suc zero))) r = (is_name r.id ≡ true) × (r.list ≡ []) × (r.block ≡ [])
Shaped (suc (suc (suc (suc zero)))) r = (is_name r.id ≡ true) × (is_empty r.list ≡ false)
Shaped (suc (suc (suc (suc (suc zero))))) r = (is_name r.id ≡ true) × (is_empty r.list ≡ false)
Shaped (suc (suc (suc (suc (suc (suc k)))))) r = ⊥

pub record RowFits (n : ℕ) (r : Row) : Type 0 where
  pub shaped : Shaped r.kind r
  pub list : AllOf (Ref n) r.list
  pub entry : BlockFits n r.entry
  pub exit : BlockFits n r.exit
  pub block : BlockFits n r.block

-- ---- transitions

abbrev pub ConditionFits : ℕ → Option ℕ → Type 0
ConditionFits n none = Always
ConditionFits n (some i) = Ref n i

abbrev pub DescriptorFits : List ℕ → Type 0
DescriptorFits d = is_descriptor d ≡ true

pub record TransitionFits (n : ℕ) (t : Transition) : Type 0 where
  pub source : t.source < n
  pub descriptors : AllOf DescriptorFits t.descriptors
  pub condition : ConditionFits n t.condition
  pub targets : AllOf (Ref n) t.targets
  pub block : BlockFits n t.block
