-- What performing a block gives (R-5): of each if the branch taken; and it depends on the configuration by the rows alone that the block's
-- tests name.
use Rattle.std.specs.Prelude.{◌≡◌, Bool, false, cond, ℕ, zero, suc, get_or}
use Rattle.std.proofs.Math.Path.{refl, ap}
use Rattle.std.proofs.Common.{sym, ◌∙◌}
use Rattle.std.proofs.Math.Bool.{true}
use mathlib.Core.List.{List, [], ◌∷◌, ◌++◌, append-nil, append_assoc}
use Rattle.std.proofs.Math.Option.{Option, none, some}
use Rattle.definition.specs.declared.Action.{Action}
use Rattle.definition.specs.declared.Action.TheVariants.{Raise, Host, If, ElseIf, Else, End, Send, Cancel}
use Rattle.definition.specs.declared.Reach.{Reach}
use Rattle.definition.specs.declared.Reach.TheVariants.{Live, Waiting, Past}
use Rattle.definition.specs.Rows.{mem, flat}
use Rattle.follower.specs.Blocks.{Effect, at_if, at_else, at_end, after, perform, perform_if, performed_from, performed}
use Rattle.laws.specs.Bools.{no, bool_case, or_left, or_right}
use Rattle.laws.specs.Sets.{mem_head}
use Rattle.laws.specs.Lists.{mem_app}
use Rattle.theory.specs.Nested.{Branch, others, whole_if, parts_of, Nested, nothing, raising, hosting, sending, cancelling, choosing, NestedParts, no_part, else_part, more_parts}

-- ---- "only the branch taken"

-- the first branch whose test holds, where the rows conf are active; an else holds always
unfoldable pub branch_taken : List ℕ → List Branch → Option (List Action) → List Action
branch_taken conf [] none = []
branch_taken conf [] (some xs) = xs
branch_taken conf (b ∷ bs) last = cond (mem b.test conf) b.actions (branch_taken conf bs last)

-- where actions lead
unfoldable leads : List ℕ → Reach → List Action → Reach
leads conf r [] = r
leads conf r (a ∷ rest) = leads conf (after conf a r) rest

-- in a branch that is not taken
unfoldable is_idle : Reach → Bool
is_idle Live = false
is_idle (Waiting n) = true
is_idle (Past n) = true

-- no further branch of the innermost if can be taken
unfoldable is_shut : Reach → Bool
is_shut Live = true
is_shut (Waiting zero) = false
is_shut (Waiting (suc n)) = true
is_shut (Past n) = true

end_if_lem : (b : Bool) (r : Reach) → at_end (at_if b r) ≡ r
unfolding at_end at_if
end_if_lem true Live = refl
end_if_lem false Live = refl
end_if_lem b (Waiting n) = refl
end_if_lem b (Past n) = refl

end_else : (b : Bool) (s : Reach) → at_end (at_else b s) ≡ at_end s
unfolding at_end at_else
end_else b Live = refl
end_else true (Waiting zero) = refl
end_else false (Waiting zero) = refl
end_else b (Waiting (suc n)) = refl
end_else b (Past n) = refl

if_idle : (b : Bool) (r : Reach) → is_idle r ≡ true → (is_idle (at_if b r) ≡ true) × (is_shut (at_if b r) ≡ true)
unfolding is_idle is_shut at_if
if_idle b Live q = absurd (no q)
if_idle b (Waiting n) q = (refl, refl)
if_idle b (Past n) q = (refl, refl)

else_shut : (b : Bool) (s : Reach) → is_shut s ≡ true → (is_idle (at_else b s) ≡ true) × (is_shut (at_else b s) ≡ true)
unfolding is_idle is_shut at_else
else_shut b Live q = (refl, refl)
else_shut b (Waiting zero) q = absurd (no q)
else_shut b (Waiting (suc n)) q = (refl, refl)
else_shut b (Past n) q = (refl, refl)

idle_quiet : (r : Reach) (a : Action) → is_idle r ≡ true → perform_if r a ≡ []
unfolding perform_if is_idle
idle_quiet Live a q = absurd (no q)
idle_quiet (Waiting n) a q = refl
idle_quiet (Past n) a q = refl

mark_quiet : (r : Reach) (a : Action) → perform a ≡ [] → perform_if r a ≡ []
unfolding perform_if
mark_quiet Live a e = e
mark_quiet (Waiting n) a e = refl
mark_quiet (Past n) a e = refl

module _ (conf : List ℕ) where
  -- actions that lead back to where they began, and have no effect in a branch that is not taken
  record Contained (xs : List Action) : Type 0 where
    back : (r : Reach) → leads conf r xs ≡ r
    quiet : (r : Reach) → is_idle r ≡ true → performed_from conf r xs ≡ []

  abbrev ContainedParts : List Branch → Option (List Action) → Type 0
  ContainedParts bs last = (n : ℕ) → Contained (get_or (parts_of bs last) n [])

  leads_app : (r : Reach) (xs ys : List Action) → leads conf r (xs ++ ys) ≡ leads conf (leads conf r xs) ys
  unfolding leads
  leads_app r [] ys = refl
  leads_app r (x ∷ xs) ys = leads_app (after conf x r) xs ys

  performed_app : (r : Reach) (xs ys : List Action) → performed_from conf r (xs ++ ys) ≡ performed_from conf r xs ++ performed_from conf (leads conf r xs) ys
  unfolding performed_from leads
  performed_app r [] ys = refl
  performed_app r (x ∷ xs) ys = rw (performed_app (after conf x r) xs ys, append_assoc)

  back_app : (r : Reach) (xs ys : List Action) → leads conf r xs ≡ r → performed_from conf r (xs ++ ys) ≡ performed_from conf r xs ++ performed_from conf r ys
  back_app r xs ys e = performed_app r xs ys ∙ ap (λ (s : Reach). performed_from conf r xs ++ performed_from conf s ys) e

  quiet_app : (r : Reach) (xs ys : List Action) → leads conf r xs ≡ r → performed_from conf r xs ≡ [] → performed_from conf r (xs ++ ys) ≡ performed_from conf r ys
  quiet_app r xs ys e q = back_app r xs ys e ∙ ap (λ (es : List Effect). es ++ performed_from conf r ys) q

  idle_app : (xs ys : List Action) → Contained xs → (r : Reach) → is_idle r ≡ true → performed_from conf r (xs ++ ys) ≡ performed_from conf r ys
  idle_app xs ys v r q = quiet_app r xs ys (v.back r) (v.quiet r q)

  mark_step : (r : Reach) (a : Action) (rest : List Action) → perform a ≡ [] → performed_from conf r (a ∷ rest) ≡ performed_from conf (after conf a r) rest
  unfolding performed_from
  mark_step r a rest e = ap (λ (es : List Effect). es ++ performed_from conf (after conf a r) rest) (mark_quiet r a e)

  -- the other branches lead to the same end
  others_lead : (bs : List Branch) (last : Option (List Action)) → ContainedParts bs last → (s : Reach) → at_end (leads conf s (others bs last)) ≡ at_end s
  unfolding leads after others parts_of
  others_lead [] none f s = refl
  others_lead [] (some xs) f s = ap at_end ((f 0).back (at_else true s)) ∙ end_else true s
  others_lead (b ∷ bs) last f s =
      let t = at_else (mem b.test conf) s in
      ap at_end (leads_app t b.actions (others bs last) ∙ ap (λ (r : Reach). leads conf r (others bs last)) ((f 0).back t)) ∙
      others_lead bs last (λ n. f (suc n)) t ∙ end_else (mem b.test conf) s

  others_quiet : (bs : List Branch) (last : Option (List Action)) → ContainedParts bs last → (s : Reach) → is_shut s ≡ true → performed_from conf s (others bs last) ≡ []
  unfolding performed_from perform after others parts_of
  others_quiet [] none f s q = refl
  others_quiet [] (some xs) f s q = mark_step s Else xs refl ∙ (f 0).quiet (at_else true s) (else_shut true s q).0
  others_quiet (b ∷ bs) last f s q =
      let i = else_shut (mem b.test conf) s q in
      mark_step s (ElseIf b.test) (b.actions ++ others bs last) refl ∙ idle_app b.actions (others bs last) (f 0) (at_else (mem b.test conf) s) i.0 ∙
      others_quiet bs last (λ n. f (suc n)) (at_else (mem b.test conf) s) i.1

  if_back : (b : Branch) (bs : List Branch) (last : Option (List Action)) → ContainedParts (b ∷ bs) last → (r : Reach) → leads conf r (whole_if b bs last) ≡ r
  unfolding whole_if leads after parts_of
  if_back b bs last f r =
      let s = at_if (mem b.test conf) r in
      leads_app s (b.actions ++ others bs last) (End ∷ []) ∙
      ap at_end (leads_app s b.actions (others bs last) ∙ ap (λ (t : Reach). leads conf t (others bs last)) ((f 0).back s)) ∙
      others_lead bs last (λ n. f (suc n)) s ∙ end_if_lem (mem b.test conf) r

  if_whole : (b : Branch) (bs : List Branch) (last : Option (List Action)) (r : Reach) →
      performed_from conf r (whole_if b bs last) ≡ performed_from conf (at_if (mem b.test conf) r) (b.actions ++ others bs last)
  unfolding whole_if performed_from perform after
  if_whole b bs last r =
      let s = at_if (mem b.test conf) r in
      let xs = b.actions ++ others bs last in
      mark_step r (If b.test) (xs ++ (End ∷ [])) refl ∙ performed_app s xs (End ∷ []) ∙
      ap (λ (es : List Effect). performed_from conf s xs ++ (es ++ [])) (mark_quiet (leads conf s xs) End refl) ∙ append-nil (performed_from conf s xs)

  -- an if, then what follows it from where the if began
  if_performed : (b : Branch) (bs : List Branch) (last : Option (List Action)) → ContainedParts (b ∷ bs) last → (r : Reach) (rest : List Action) →
      performed_from conf r (whole_if b bs last ++ rest) ≡ performed_from conf (at_if (mem b.test conf) r) (b.actions ++ others bs last) ++ performed_from conf r rest
  if_performed b bs last f r rest =
      back_app r (whole_if b bs last) rest (if_back b bs last f r) ∙ ap (λ (es : List Effect). es ++ performed_from conf r rest) (if_whole b bs last r)

  if_contained : (b : Branch) (bs : List Branch) (last : Option (List Action)) (rest : List Action) → ContainedParts (b ∷ bs) last → Contained rest → Contained (whole_if b bs last ++ rest)
  unfolding parts_of
  if_contained b bs last rest f v =
      record {
        back = λ r. leads_app r (whole_if b bs last) rest ∙ ap (λ (s : Reach). leads conf s rest) (if_back b bs last f r) ∙ v.back r;
        quiet = λ r q. let i = if_idle (mem b.test conf) r q in
            if_performed b bs last f r rest ∙
            ap (λ (es : List Effect). es ++ performed_from conf r rest)
            (idle_app b.actions (others bs last) (f 0) (at_if (mem b.test conf) r) i.0 ∙ others_quiet bs last (λ n. f (suc n)) (at_if (mem b.test conf) r) i.1) ∙
            v.quiet r q;
      }

  contained : {xs : List Action} → Nested xs → Contained xs
  unfolding leads performed_from after
  contained nothing = record { back = λ r. refl; quiet = λ r q. refl }
  contained (raising n {rest} v) =
      let k = contained v in record { back = k.back; quiet = λ r q. ap (λ (es : List Effect). es ++ performed_from conf r rest) (idle_quiet r (Raise n) q) ∙ k.quiet r q }
  contained (hosting n {rest} v) =
      let k = contained v in record { back = k.back; quiet = λ r q. ap (λ (es : List Effect). es ++ performed_from conf r rest) (idle_quiet r (Host n) q) ∙ k.quiet r q }
  contained (sending n delay id {rest} v) =
      let k = contained v in record { back = k.back; quiet = λ r q. ap (λ (es : List Effect). es ++ performed_from conf r rest) (idle_quiet r (Send n delay id) q) ∙ k.quiet r q }
  contained (cancelling n {rest} v) =
      let k = contained v in record { back = k.back; quiet = λ r q. ap (λ (es : List Effect). es ++ performed_from conf r rest) (idle_quiet r (Cancel n) q) ∙ k.quiet r q }
  contained (choosing b bs last {rest} v u) = if_contained b bs last rest (λ n. contained (v n)) (contained u)

  -- the first branch, if its test holds, else what is taken of the others
  first_taken : (b : Branch) (bs : List Branch) (last : Option (List Action)) → ContainedParts (b ∷ bs) last →
      performed_from conf (Waiting 0) (others bs last) ≡ performed conf (branch_taken conf bs last) →
      performed_from conf (cond (mem b.test conf) Live (Waiting 0)) (b.actions ++ others bs last) ≡ performed conf (branch_taken conf (b ∷ bs) last)
  unfolding performed branch_taken is_idle is_shut parts_of
  first_taken b bs last f e =
      bool_case (mem b.test conf)
      (λ q. rw q (back_app Live b.actions (others bs last) ((f 0).back Live) ∙ ap (λ (es : List Effect). performed_from conf Live b.actions ++ es) (others_quiet bs last (λ n. f (suc n)) Live refl) ∙
      append-nil (performed_from conf Live b.actions)))
      (λ q. rw q (idle_app b.actions (others bs last) (f 0) (Waiting 0) refl ∙ e))

  others_taken : (bs : List Branch) (last : Option (List Action)) → ContainedParts bs last → performed_from conf (Waiting 0) (others bs last) ≡ performed conf (branch_taken conf bs last)
  unfolding performed_from perform performed after others at_else branch_taken parts_of
  others_taken [] none f = refl
  others_taken [] (some xs) f = mark_step (Waiting 0) Else xs refl
  others_taken (b ∷ bs) last f = mark_step (Waiting 0) (ElseIf b.test) (b.actions ++ others bs last) refl ∙ first_taken b bs last f (others_taken bs last (λ n. f (suc n)))

  -- of an if the first branch whose test holds is performed, and no other
  pub if_takes : (b : Branch) (bs : List Branch) (last : Option (List Action)) → NestedParts (b ∷ bs) last → (rest : List Action) →
      performed conf (whole_if b bs last ++ rest) ≡ performed conf (branch_taken conf (b ∷ bs) last) ++ performed conf rest
  unfolding performed at_if parts_of
  if_takes b bs last v rest =
      let f : ContainedParts (b ∷ bs) last = λ n. contained (v n) in
      if_performed b bs last f Live rest ∙ ap (λ (es : List Effect). es ++ performed_from conf Live rest) (first_taken b bs last f (others_taken bs last (λ n. f (suc n))))

  -- an if and its else
  pub if_else : (i : ℕ) (xs ys rest : List Action) → Nested xs → Nested ys →
      performed conf (If i ∷ (xs ++ (Else ∷ (ys ++ (End ∷ rest))))) ≡ cond (mem i conf) (performed conf xs) (performed conf ys) ++ performed conf rest
  unfolding whole_if others branch_taken
  if_else i xs ys rest v w =
      let b : Branch = record { test = i; actions = xs } in
      ap (λ (zs : List Action). performed conf (If i ∷ zs)) (sym (append_assoc (xs ++ (Else ∷ ys)) (End ∷ []) rest ∙ append_assoc xs (Else ∷ ys) (End ∷ rest))) ∙
      if_takes b [] (some ys) (more_parts b [] (some ys) v (else_part ys w)) rest ∙ bool_case (mem i conf) (λ q. rw q) (λ q. rw q)

  -- an if alone
  pub if_alone : (i : ℕ) (xs rest : List Action) → Nested xs → performed conf (If i ∷ (xs ++ (End ∷ rest))) ≡ cond (mem i conf) (performed conf xs) [] ++ performed conf rest
  unfolding whole_if others branch_taken performed performed_from
  if_alone i xs rest v =
      let b : Branch = record { test = i; actions = xs } in
      ap (λ (zs : List Action). performed conf (If i ∷ zs)) (sym (append_assoc (xs ++ []) (End ∷ []) rest ∙ append_assoc xs [] (End ∷ rest))) ∙
      if_takes b [] none (more_parts b [] none v no_part) rest ∙ bool_case (mem i conf) (λ q. rw q) (λ q. rw q)

  -- actions and whole ifs, then what follows them
  pub nested_live : {xs : List Action} → Nested xs → (rest : List Action) → performed conf (xs ++ rest) ≡ performed conf xs ++ performed conf rest
  unfolding performed
  nested_live {xs} v rest = back_app Live xs rest ((contained v).back Live)

  -- in a branch that is not taken nothing of them is performed
  pub nested_waiting : {xs : List Action} → Nested xs → (n : ℕ) (rest : List Action) → performed_from conf (Waiting n) (xs ++ rest) ≡ performed_from conf (Waiting n) rest
  unfolding is_idle
  nested_waiting {xs} v n rest = idle_app xs rest (contained v) (Waiting n) refl

  pub nested_past : {xs : List Action} → Nested xs → (n : ℕ) (rest : List Action) → performed_from conf (Past n) (xs ++ rest) ≡ performed_from conf (Past n) rest
  unfolding is_idle
  nested_past {xs} v n rest = idle_app xs rest (contained v) (Past n) refl

-- ---- the rows that the tests of a block name

unfoldable pub tested : Action → List ℕ
tested (Raise n) = []
tested (Host n) = []
tested (If i) = i ∷ []
tested (ElseIf i) = i ∷ []
tested Else = []
tested End = []
tested (Send n delay id) = []
tested (Cancel n) = []

unfoldable pub tested_in : List Action → List ℕ
tested_in block = flat tested block

module _ (conf other : List ℕ) where
  after_alike : (a : Action) (r : Reach) → ((i : ℕ) → mem i (tested a) ≡ true → mem i conf ≡ mem i other) → after conf a r ≡ after other a r
  unfolding after tested
  after_alike (Raise n) r f = refl
  after_alike (Host n) r f = refl
  after_alike (If i) r f = ap (λ (b : Bool). at_if b r) (f i (mem_head i []))
  after_alike (ElseIf i) r f = ap (λ (b : Bool). at_else b r) (f i (mem_head i []))
  after_alike Else r f = refl
  after_alike End r f = refl
  after_alike (Send n delay id) r f = refl
  after_alike (Cancel n) r f = refl

  performed_from_alike : (r : Reach) (block : List Action) → ((i : ℕ) → mem i (tested_in block) ≡ true → mem i conf ≡ mem i other) → performed_from conf r block ≡ performed_from other r block
  unfolding performed_from tested_in flat
  performed_from_alike r [] f = refl
  performed_from_alike r (a ∷ block) f =
      ap (λ (es : List Effect). perform_if r a ++ es)
      (performed_from_alike (after conf a r) block (λ i m. f i (mem_app i (tested a) (flat tested block) ∙ or_right (mem i (tested a)) _ m)) ∙
      ap (λ (s : Reach). performed_from other s block) (after_alike a r (λ i m. f i (mem_app i (tested a) (flat tested block) ∙ or_left (mem i (tested a)) _ m))))

  -- so a block without tests gives the same in every configuration
  pub performed_alike : (block : List Action) → ((i : ℕ) → mem i (tested_in block) ≡ true → mem i conf ≡ mem i other) → performed conf block ≡ performed other block
  unfolding performed
  performed_alike block f = performed_from_alike Live block f
