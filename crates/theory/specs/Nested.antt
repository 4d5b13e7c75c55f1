-- Blocks made of actions and whole ifs: every block that rule 5 accepts is one (R-5).
use Rattle.std.specs.Prelude.{◌≡◌, refl, Bool, true, false, not, List, [], ◌∷◌, ◌++◌, ℕ, zero, suc, ◌<◌, ltb, length, get_or}
use Rattle.std.proofs.Common.{ap, sym, ◌∙◌, subst, append_assoc}
use Rattle.std.proofs.Math.Option.{Option, none, some}
use Rattle.definition.specs.declared.Action.{Action}
use Rattle.definition.specs.declared.Action.TheVariants.{Raise, Host, If, ElseIf, Else, End, Send, Cancel}
use Rattle.definition.specs.Rows.{all, is_empty}
use Rattle.definition.specs.Chart.{Chart}
use Rattle.definition.specs.Tables.{most_nested}
use Rattle.definition.specs.Rules.{each, transition_fits, awaits_else, with_else, closed, nests, test_fits, branches_fit, row_branches_fit, transition_branches_fit, rule5}
use Rattle.laws.specs.Bools.{no, and3, and_left, and_right}
use Rattle.laws.specs.Loops.{each_below}

-- an if or elseif with its actions: the row that its In names
pub record Branch : Type 0 where
  pub test : ℕ
  pub actions : List Action

-- the elseifs of an if, then its else if it has one
unfoldable pub others : List Branch → Option (List Action) → List Action
others [] none = []
others [] (some xs) = Else ∷ xs
others (b ∷ bs) last = ElseIf b.test ∷ (b.actions ++ others bs last)

-- an if with all its branches, up to its end
unfoldable pub whole_if : Branch → List Branch → Option (List Action) → List Action
whole_if b bs last = If b.test ∷ (b.actions ++ others bs last ++ (End ∷ []))

-- the actions of the branches one by one, an else's too
unfoldable pub parts_of : List Branch → Option (List Action) → List (List Action)
parts_of [] none = []
parts_of [] (some xs) = xs ∷ []
parts_of (b ∷ bs) last = b.actions ∷ parts_of bs last

-- actions, and whole ifs whose parts are such actions again
pub data Nested : List Action → Type 0 where
  nothing : Nested []
  raising : (n : ℕ) {rest : List Action} → Nested rest → Nested (Raise n ∷ rest)
  hosting : (n : ℕ) {rest : List Action} → Nested rest → Nested (Host n ∷ rest)
  sending : (n delay id : ℕ) {rest : List Action} → Nested rest → Nested (Send n delay id ∷ rest)
  cancelling : (n : ℕ) {rest : List Action} → Nested rest → Nested (Cancel n ∷ rest)
  choosing : (b : Branch) (bs : List Branch) (last : Option (List Action)) {rest : List Action} → ((n : ℕ) → Nested (get_or (parts_of (b ∷ bs) last) n [])) → Nested rest → Nested (whole_if b bs last ++ rest)

-- every part is
abbrev pub NestedParts : List Branch → Option (List Action) → Type 0
NestedParts bs last = (n : ℕ) → Nested (get_or (parts_of bs last) n [])

-- ---- a block that rule 5 accepts

pub no_part : NestedParts [] none
unfolding parts_of
no_part n = nothing

pub else_part : (xs : List Action) → Nested xs → NestedParts [] (some xs)
unfolding parts_of
else_part xs v zero = v
else_part xs v (suc n) = nothing

pub more_parts : (b : Branch) (bs : List Branch) (last : Option (List Action)) → Nested b.actions → NestedParts bs last → NestedParts (b ∷ bs) last
unfolding parts_of
more_parts b bs last v w zero = v
more_parts b bs last v w (suc n) = w n

-- what actions are where ifs are open, the innermost first: what is left of its branches, its end, and so on
data Open : List Bool → List Action → Type 0 where
  outside : {xs : List Action} → Nested xs → Open [] xs
  in_else : {ifs : List Bool} (ys rest : List Action) {xs : List Action} → xs ≡ ys ++ (End ∷ rest) → Nested ys → Open ifs rest → Open (true ∷ ifs) xs
  in_branch : {ifs : List Bool} (ys rest : List Action) (bs : List Branch) (last : Option (List Action)) {xs : List Action} → xs ≡ ys ++ (others bs last ++ (End ∷ rest)) → Nested ys → NestedParts bs last → Open ifs rest → Open (false ∷ ifs) xs

front : (pre : List Action) → ((ys : List Action) → Nested ys → Nested (pre ++ ys)) → {ifs : List Bool} {xs : List Action} → Open ifs xs → Open ifs (pre ++ xs)
front pre f (outside {xs} v) = outside (f xs v)
front pre f (in_else ys rest e v o) = in_else (pre ++ ys) rest (ap (λ (zs : List Action). pre ++ zs) e ∙ sym (append_assoc pre ys (End ∷ rest))) (f ys v) o
front pre f (in_branch ys rest bs last e v w o) =
    in_branch (pre ++ ys) rest bs last (ap (λ (zs : List Action). pre ++ zs) e ∙ sym (append_assoc pre ys (others bs last ++ (End ∷ rest)))) (f ys v) w o

none_open : (ifs : List Bool) → is_empty ifs ≡ true → Open ifs []
unfolding is_empty
none_open [] h = outside nothing
none_open (seen ∷ ifs) h = absurd (no h)

if_open : (i : ℕ) {ifs : List Bool} {xs : List Action} → Open (false ∷ ifs) xs → Open ifs (If i ∷ xs)
unfolding whole_if
if_open i {ifs} {xs} (in_branch ys rest bs last e v w o) =
    let b : Branch = record { test = i; actions = ys } in
    let q : whole_if b bs last ++ rest ≡ If i ∷ xs =
    ap (λ (zs : List Action). If i ∷ zs) (append_assoc (ys ++ others bs last) (End ∷ []) rest ∙ append_assoc ys (others bs last) (End ∷ rest) ∙ sym e) in
    subst (Open ifs) q (front (whole_if b bs last) (λ zs u. choosing b bs last (more_parts b bs last v w) u) o)

elseif_open : (i : ℕ) (ifs : List Bool) {xs : List Action} → awaits_else ifs ≡ true → Open ifs xs → Open ifs (ElseIf i ∷ xs)
unfolding awaits_else others
elseif_open i [] h o = absurd (no h)
elseif_open i (true ∷ ifs) h o = absurd (no h)
elseif_open i (false ∷ ifs) h (in_branch ys rest bs last e v w o) =
    let b : Branch = record { test = i; actions = ys } in
    in_branch [] rest (b ∷ bs) last (ap (λ (zs : List Action). ElseIf i ∷ zs) (e ∙ sym (append_assoc ys (others bs last) (End ∷ rest)))) nothing (more_parts b bs last v w) o

else_open : (ifs : List Bool) {xs : List Action} → awaits_else ifs ≡ true → Open (with_else ifs) xs → Open ifs (Else ∷ xs)
unfolding awaits_else with_else others
else_open [] h o = absurd (no h)
else_open (true ∷ ifs) h o = absurd (no h)
else_open (false ∷ ifs) h (in_else ys rest e v o) = in_branch [] rest [] (some ys) (ap (λ (zs : List Action). Else ∷ zs) e) nothing (else_part ys v) o

end_open : (ifs : List Bool) {xs : List Action} → not (is_empty ifs) ≡ true → Open (closed ifs) xs → Open ifs (End ∷ xs)
unfolding is_empty closed others
end_open [] h o = absurd (no h)
end_open (true ∷ ifs) {xs} h o = in_else [] xs refl nothing o
end_open (false ∷ ifs) {xs} h o = in_branch [] xs [] none refl nothing no_part o

nests_open : (ifs : List Bool) (xs : List Action) → nests ifs xs ≡ true → Open ifs xs
unfolding nests
nests_open ifs [] h = none_open ifs h
nests_open ifs (Raise n ∷ xs) h = front (Raise n ∷ []) (λ ys v. raising n v) (nests_open ifs xs h)
nests_open ifs (Host n ∷ xs) h = front (Host n ∷ []) (λ ys v. hosting n v) (nests_open ifs xs h)
nests_open ifs (Send n delay id ∷ xs) h = front (Send n delay id ∷ []) (λ ys v. sending n delay id v) (nests_open ifs xs h)
nests_open ifs (Cancel n ∷ xs) h = front (Cancel n ∷ []) (λ ys v. cancelling n v) (nests_open ifs xs h)
nests_open ifs (If i ∷ xs) h = if_open i (nests_open (false ∷ ifs) xs (and_right (ltb (length ifs) most_nested) _ h))
nests_open ifs (ElseIf i ∷ xs) h = elseif_open i ifs (and_left (awaits_else ifs) _ h) (nests_open ifs xs (and_right (awaits_else ifs) _ h))
nests_open ifs (Else ∷ xs) h = else_open ifs (and_left (awaits_else ifs) _ h) (nests_open (with_else ifs) xs (and_right (awaits_else ifs) _ h))
nests_open ifs (End ∷ xs) h = end_open ifs (and_left (not (is_empty ifs)) _ h) (nests_open (closed ifs) xs (and_right (not (is_empty ifs)) _ h))

outside_nested : {xs : List Action} → Open [] xs → Nested xs
outside_nested (outside v) = v

pub fits_blocks : (c : Chart) (block : List Action) → branches_fit c block ≡ true → Nested block
unfolding branches_fit
fits_blocks c block h = outside_nested (nests_open [] block (and_left (nests [] block) (all (test_fits c) block) h))

-- every block of a chart is one
pub record NestedBlocks (c : Chart) : Type 0 where
  pub entry : (i : ℕ) → i < c.rows → Nested (c.row i).entry
  pub exit : (i : ℕ) → i < c.rows → Nested (c.row i).exit
  pub block : (i : ℕ) → i < c.rows → Nested (c.row i).block
  pub transition : (t : ℕ) → t < c.transitions → Nested (c.transition t).block

module _ (c : Chart) (rule : rule5 c ≡ true) where
  rules : (each c.transitions (transition_fits c) ≡ true) × (each c.rows (row_branches_fit c) ≡ true) × (each c.transitions (transition_branches_fit c) ≡ true)
  unfolding rule5
  rules = and3 (each c.transitions (transition_fits c)) (each c.rows (row_branches_fit c)) (each c.transitions (transition_branches_fit c)) rule

  row_fits : (i : ℕ) → i < c.rows → (branches_fit c (c.row i).entry ≡ true) × (branches_fit c (c.row i).exit ≡ true) × (branches_fit c (c.row i).block ≡ true)
  unfolding row_branches_fit
  row_fits i l = and3 (branches_fit c (c.row i).entry) (branches_fit c (c.row i).exit) (branches_fit c (c.row i).block) (each_below (row_branches_fit c) c.rows rules.1 i l)

  pub nested_blocks : NestedBlocks c
  unfolding transition_branches_fit
  nested_blocks =
      record {
        entry = λ i l. fits_blocks c (c.row i).entry (row_fits i l).0;
        exit = λ i l. fits_blocks c (c.row i).exit (row_fits i l).1;
        block = λ i l. fits_blocks c (c.row i).block (row_fits i l).2;
        transition = λ t l. fits_blocks c (c.transition t).block (each_below (transition_branches_fit c) c.transitions rules.2 t l);
      }
