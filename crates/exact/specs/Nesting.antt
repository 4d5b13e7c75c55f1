-- Which blocks rule 5 accepts: exactly those made of actions and whole ifs, at most four ifs inside one another, whose tests name a state,
-- a parallel or a final (R-5).
use Rattle.std.specs.Prelude.{◌≡◌, Bool, true, false, not, ◌&&◌, ◌||◌, ◌↔◌, ℕ, zero, suc, ◌+◌, ltb, length, get_or}
use Rattle.std.proofs.Math.Path.{refl}
use Rattle.std.proofs.Common.{ap, sym, ◌∙◌, subst, arith, ltb-true, lt-ltb}
use mathlib.Core.List.{List, [], ◌∷◌, ◌++◌, append-nil, append_assoc}
use Rattle.std.proofs.Math.Option.{Option, none, some}
use Rattle.definition.specs.declared.Action.{Action}
use Rattle.definition.specs.declared.Action.TheVariants.{Raise, Host, If, ElseIf, Else, End, Send, Cancel}
use Rattle.definition.specs.Rows.{all, is_empty}
use Rattle.definition.specs.Chart.{Chart, kind, is_state, is_parallel, is_final}
use Rattle.definition.specs.Tables.{most_nested}
use Rattle.definition.specs.Rules.{condition_fits, awaits_else, with_else, closed, nests, test_fits, branches_fit}
use Rattle.laws.specs.Bools.{no, and_true, and_left, and_right}
use Rattle.theory.specs.Nested.{Branch, others, whole_if, parts_of, Nested}
use Rattle.theory.specs.Nested as Plain

-- actions, and whole ifs whose parts are such actions again, at most n of them inside one another
pub data NestedTo : ℕ → List Action → Type 0 where
  nothing : {n : ℕ} → NestedTo n []
  raising : {n : ℕ} (name : ℕ) {rest : List Action} → NestedTo n rest → NestedTo n (Raise name ∷ rest)
  hosting : {n : ℕ} (number : ℕ) {rest : List Action} → NestedTo n rest → NestedTo n (Host number ∷ rest)
  sending : {n : ℕ} (name delay id : ℕ) {rest : List Action} → NestedTo n rest → NestedTo n (Send name delay id ∷ rest)
  cancelling : {n : ℕ} (name : ℕ) {rest : List Action} → NestedTo n rest → NestedTo n (Cancel name ∷ rest)
  choosing : {n : ℕ} (b : Branch) (bs : List Branch) (last : Option (List Action)) {rest : List Action} → ((k : ℕ) → NestedTo n (get_or (parts_of (b ∷ bs) last) k [])) →
      NestedTo (suc n) rest → NestedTo (suc n) (whole_if b bs last ++ rest)

-- every part is
abbrev pub PartsTo : ℕ → List Branch → Option (List Action) → Type 0
PartsTo n bs last = (k : ℕ) → NestedTo n (get_or (parts_of bs last) k [])

-- without the count, a nested block of the theory
pub nested_any : {n : ℕ} {xs : List Action} → NestedTo n xs → Nested xs
nested_any nothing = Plain.nothing
nested_any (raising name v) = Plain.raising name (nested_any v)
nested_any (hosting number v) = Plain.hosting number (nested_any v)
nested_any (sending name delay id v) = Plain.sending name delay id (nested_any v)
nested_any (cancelling name v) = Plain.cancelling name (nested_any v)
nested_any (choosing b bs last v w) = Plain.choosing b bs last (λ k. nested_any (v k)) (nested_any w)

-- ---- a nested block is accepted: it leaves the ifs that are open as they were

abbrev Neutral : ℕ → List Action → Type 0
Neutral n xs = (ifs : List Bool) → n + length ifs ≡ most_nested → (ys : List Action) → nests ifs (xs ++ ys) ≡ nests ifs ys

others_close : (n : ℕ) (bs : List Branch) (last : Option (List Action)) → ((k : ℕ) → Neutral n (get_or (parts_of bs last) k [])) → (ifs : List Bool) → n + length (false ∷ ifs) ≡ most_nested →
    (ys : List Action) → nests (false ∷ ifs) (others bs last ++ (End ∷ ys)) ≡ nests ifs ys
unfolding others parts_of nests awaits_else with_else closed is_empty
others_close n [] none f ifs e ys = refl
others_close n [] (some xs) f ifs e ys = f 0 (true ∷ ifs) e (End ∷ ys)
others_close n (b ∷ bs) last f ifs e ys =
    ap (nests (false ∷ ifs)) (append_assoc b.actions (others bs last) (End ∷ ys)) ∙ f 0 (false ∷ ifs) e (others bs last ++ (End ∷ ys)) ∙
    others_close n bs last (λ k. f (suc k)) ifs e ys

if_closes : (n : ℕ) (b : Branch) (bs : List Branch) (last : Option (List Action)) → ((k : ℕ) → Neutral n (get_or (parts_of (b ∷ bs) last) k [])) → Neutral (suc n) (whole_if b bs last)
unfolding whole_if nests parts_of
if_closes n b bs last f ifs e ys =
    let l : ltb (length ifs) most_nested ≡ true = lt-ltb (length ifs) most_nested (omega (arith, e)) in
    let d : n + length (false ∷ ifs) ≡ most_nested = omega (arith, e) in
    ap (λ (t : Bool). t && nests (false ∷ ifs) ((b.actions ++ others bs last ++ (End ∷ [])) ++ ys)) l ∙
    ap (nests (false ∷ ifs)) (append_assoc (b.actions ++ others bs last) (End ∷ []) ys ∙ append_assoc b.actions (others bs last) (End ∷ ys)) ∙
    f 0 (false ∷ ifs) d (others bs last ++ (End ∷ ys)) ∙ others_close n bs last (λ k. f (suc k)) ifs d ys

neutral : {n : ℕ} {xs : List Action} → NestedTo n xs → Neutral n xs
unfolding nests
neutral nothing ifs e ys = refl
neutral (raising name v) ifs e ys = neutral v ifs e ys
neutral (hosting number v) ifs e ys = neutral v ifs e ys
neutral (sending name delay id v) ifs e ys = neutral v ifs e ys
neutral (cancelling name v) ifs e ys = neutral v ifs e ys
neutral (choosing {n} b bs last {rest} v w) ifs e ys =
    ap (nests ifs) (append_assoc (whole_if b bs last) rest ys) ∙ if_closes n b bs last (λ k more d zs. neutral (v k) more d zs) ifs e (rest ++ ys) ∙ neutral w ifs e ys

nested_nests : (xs : List Action) → NestedTo most_nested xs → nests [] xs ≡ true
unfolding nests is_empty
nested_nests xs v = ap (nests []) (sym (append-nil xs)) ∙ neutral v [] refl []

-- ---- what is accepted is nested

no_part : {n : ℕ} → PartsTo n [] none
unfolding parts_of
no_part k = nothing

else_part : {n : ℕ} (xs : List Action) → NestedTo n xs → PartsTo n [] (some xs)
unfolding parts_of
else_part xs v zero = v
else_part xs v (suc k) = nothing

more_parts : {n : ℕ} (b : Branch) (bs : List Branch) (last : Option (List Action)) → NestedTo n b.actions → PartsTo n bs last → PartsTo n (b ∷ bs) last
unfolding parts_of
more_parts b bs last v w zero = v
more_parts b bs last v w (suc k) = w k

-- what actions are where ifs are open and n more may be opened, the innermost first: what is left of its branches, its end, and so on
data Open : ℕ → List Bool → List Action → Type 0 where
  outside : {n : ℕ} {xs : List Action} → NestedTo n xs → Open n [] xs
  in_else : {n : ℕ} {ifs : List Bool} (ys rest : List Action) {xs : List Action} → xs ≡ ys ++ (End ∷ rest) → NestedTo n ys → Open (suc n) ifs rest → Open n (true ∷ ifs) xs
  in_branch : {n : ℕ} {ifs : List Bool} (ys rest : List Action) (bs : List Branch) (last : Option (List Action)) {xs : List Action} → xs ≡ ys ++ (others bs last ++ (End ∷ rest)) →
      NestedTo n ys → PartsTo n bs last → Open (suc n) ifs rest → Open n (false ∷ ifs) xs

front : {n : ℕ} (pre : List Action) → ((ys : List Action) → NestedTo n ys → NestedTo n (pre ++ ys)) → {ifs : List Bool} {xs : List Action} → Open n ifs xs → Open n ifs (pre ++ xs)
front pre f (outside {xs} v) = outside (f xs v)
front pre f (in_else ys rest e v o) = in_else (pre ++ ys) rest (ap (λ (zs : List Action). pre ++ zs) e ∙ sym (append_assoc pre ys (End ∷ rest))) (f ys v) o
front pre f (in_branch ys rest bs last e v w o) =
    in_branch (pre ++ ys) rest bs last (ap (λ (zs : List Action). pre ++ zs) e ∙ sym (append_assoc pre ys (others bs last ++ (End ∷ rest)))) (f ys v) w o

none_open : (n : ℕ) (ifs : List Bool) → is_empty ifs ≡ true → Open n ifs []
unfolding is_empty
none_open n [] h = outside nothing
none_open n (seen ∷ ifs) h = absurd (no h)

if_open : (n i : ℕ) {ifs : List Bool} {xs : List Action} → Open n (false ∷ ifs) xs → Open (suc n) ifs (If i ∷ xs)
unfolding whole_if
if_open n i {ifs} {xs} (in_branch ys rest bs last e v w o) =
    let b : Branch = record { test = i; actions = ys } in
    let q : whole_if b bs last ++ rest ≡ If i ∷ xs =
    ap (λ (zs : List Action). If i ∷ zs) (append_assoc (ys ++ others bs last) (End ∷ []) rest ∙ append_assoc ys (others bs last) (End ∷ rest) ∙ sym e) in
    subst (Open (suc n) ifs) q (front (whole_if b bs last) (λ zs u. choosing b bs last (more_parts b bs last v w) u) o)

elseif_open : (n i : ℕ) (ifs : List Bool) {xs : List Action} → awaits_else ifs ≡ true → Open n ifs xs → Open n ifs (ElseIf i ∷ xs)
unfolding awaits_else others
elseif_open n i [] h o = absurd (no h)
elseif_open n i (true ∷ ifs) h o = absurd (no h)
elseif_open n i (false ∷ ifs) h (in_branch ys rest bs last e v w o) =
    let b : Branch = record { test = i; actions = ys } in
    in_branch [] rest (b ∷ bs) last (ap (λ (zs : List Action). ElseIf i ∷ zs) (e ∙ sym (append_assoc ys (others bs last) (End ∷ rest)))) nothing (more_parts b bs last v w) o

else_open : (n : ℕ) (ifs : List Bool) {xs : List Action} → awaits_else ifs ≡ true → Open n (with_else ifs) xs → Open n ifs (Else ∷ xs)
unfolding awaits_else with_else others
else_open n [] h o = absurd (no h)
else_open n (true ∷ ifs) h o = absurd (no h)
else_open n (false ∷ ifs) h (in_else ys rest e v o) = in_branch [] rest [] (some ys) (ap (λ (zs : List Action). Else ∷ zs) e) nothing (else_part ys v) o

-- the innermost if, if there is one, and with it a level more
end_open : (n : ℕ) (ifs : List Bool) {xs : List Action} → not (is_empty ifs) ≡ true → n + length ifs ≡ most_nested → ((m : ℕ) → m + length (closed ifs) ≡ most_nested → Open m (closed ifs) xs) →
    Open n ifs (End ∷ xs)
unfolding is_empty closed others
end_open n [] h e f = absurd (no h)
end_open n (true ∷ ifs) {xs} h e f = in_else [] xs refl nothing (f (suc n) (omega (arith, e)))
end_open n (false ∷ ifs) {xs} h e f = in_branch [] xs [] none refl nothing no_part (f (suc n) (omega (arith, e)))

-- a level less
if_begins : (n i : ℕ) (ifs : List Bool) {xs : List Action} → ltb (length ifs) most_nested ≡ true → n + length ifs ≡ most_nested → ((m : ℕ) → m + length (false ∷ ifs) ≡ most_nested → Open m (false ∷ ifs) xs) →
    Open n ifs (If i ∷ xs)
if_begins zero i ifs h e f = let l = ltb-true (length ifs) most_nested h in absurd (omega (arith, l, e))
if_begins (suc n) i ifs h e f = if_open n i (f n (omega (arith, e)))

else_length : (ifs : List Bool) → length (with_else ifs) ≡ length ifs
unfolding with_else
else_length [] = refl
else_length (seen ∷ ifs) = refl

nests_open : (n : ℕ) (ifs : List Bool) (xs : List Action) → nests ifs xs ≡ true → n + length ifs ≡ most_nested → Open n ifs xs
unfolding nests
nests_open n ifs [] h e = none_open n ifs h
nests_open n ifs (Raise x ∷ xs) h e = front (Raise x ∷ []) (λ ys v. raising x v) (nests_open n ifs xs h e)
nests_open n ifs (Host x ∷ xs) h e = front (Host x ∷ []) (λ ys v. hosting x v) (nests_open n ifs xs h e)
nests_open n ifs (Send x delay id ∷ xs) h e = front (Send x delay id ∷ []) (λ ys v. sending x delay id v) (nests_open n ifs xs h e)
nests_open n ifs (Cancel x ∷ xs) h e = front (Cancel x ∷ []) (λ ys v. cancelling x v) (nests_open n ifs xs h e)
nests_open n ifs (If i ∷ xs) h e =
    if_begins n i ifs (and_left (ltb (length ifs) most_nested) _ h) e (λ m d. nests_open m (false ∷ ifs) xs (and_right (ltb (length ifs) most_nested) _ h) d)
nests_open n ifs (ElseIf i ∷ xs) h e = elseif_open n i ifs (and_left (awaits_else ifs) _ h) (nests_open n ifs xs (and_right (awaits_else ifs) _ h) e)
nests_open n ifs (Else ∷ xs) h e =
    else_open n ifs (and_left (awaits_else ifs) _ h) (nests_open n (with_else ifs) xs (and_right (awaits_else ifs) _ h) (ap (λ (k : ℕ). n + k) (else_length ifs) ∙ e))
nests_open n ifs (End ∷ xs) h e = end_open n ifs (and_left (not (is_empty ifs)) _ h) e (λ m d. nests_open m (closed ifs) xs (and_right (not (is_empty ifs)) _ h) d)

outside_nested : {n : ℕ} {xs : List Action} → Open n [] xs → NestedTo n xs
outside_nested (outside v) = v

nests_nested : (xs : List Action) → nests [] xs ≡ true → NestedTo most_nested xs
nests_nested xs h = outside_nested (nests_open most_nested [] xs h refl)

-- ---- the tests

-- row i is the one that the In of an if or elseif of the block names
pub data Tests (i : ℕ) : List Action → Type 0 where
  by_if : {rest : List Action} → Tests i (If i ∷ rest)
  by_else_if : {rest : List Action} → Tests i (ElseIf i ∷ rest)
  later : (a : Action) {rest : List Action} → Tests i rest → Tests i (a ∷ rest)

module _ (c : Chart) where
  abbrev Named : ℕ → Type 0
  Named i = (is_state (kind c i) || is_parallel (kind c i) || is_final (kind c i)) ≡ true

  tests_named : (xs : List Action) → all (test_fits c) xs ≡ true → (i : ℕ) → Tests i xs → Named i
  unfolding all test_fits condition_fits
  tests_named [] h i x = elim x [ ]
  tests_named (If i ∷ xs) h _ by_if = and_left (condition_fits c (some i)) _ h
  tests_named (ElseIf i ∷ xs) h _ by_else_if = and_left (condition_fits c (some i)) _ h
  tests_named (a ∷ xs) h i (later _ t) = tests_named xs (and_right (test_fits c a) _ h) i t

  named_tests : (xs : List Action) → ((i : ℕ) → Tests i xs → Named i) → all (test_fits c) xs ≡ true
  unfolding all test_fits condition_fits
  named_tests [] f = refl
  named_tests (Raise x ∷ xs) f = named_tests xs (λ i t. f i (later (Raise x) t))
  named_tests (Host x ∷ xs) f = named_tests xs (λ i t. f i (later (Host x) t))
  named_tests (If x ∷ xs) f = and_true (condition_fits c (some x)) (all (test_fits c) xs) (f x by_if) (named_tests xs (λ i t. f i (later (If x) t)))
  named_tests (ElseIf x ∷ xs) f = and_true (condition_fits c (some x)) (all (test_fits c) xs) (f x by_else_if) (named_tests xs (λ i t. f i (later (ElseIf x) t)))
  named_tests (Else ∷ xs) f = named_tests xs (λ i t. f i (later Else t))
  named_tests (End ∷ xs) f = named_tests xs (λ i t. f i (later End t))
  named_tests (Send x delay id ∷ xs) f = named_tests xs (λ i t. f i (later (Send x delay id) t))
  named_tests (Cancel x ∷ xs) f = named_tests xs (λ i t. f i (later (Cancel x) t))

-- ---- rule 5 of a block

pub record Fits (c : Chart) (block : List Action) : Type 0 where
  -- "nested at most four deep"
  pub nested : NestedTo 4 block
  -- "In names a state, parallel or final" (38)
  pub named : (i : ℕ) → Tests i block → (is_state (kind c i) || is_parallel (kind c i) || is_final (kind c i)) ≡ true

pub branches_exact : (c : Chart) (block : List Action) → (branches_fit c block ≡ true) ↔ Fits c block
unfolding branches_fit
branches_exact c block = (
  λ h. record {
    nested = nests_nested block (and_left (nests [] block) (all (test_fits c) block) h);
    named = tests_named c block (and_right (nests [] block) (all (test_fits c) block) h);
  },
  λ f. and_true (nests [] block) (all (test_fits c) block) (nested_nests block f.nested) (named_tests c block f.named),
)
