-- Names and end tags can be completed, and so every place that a text can come to.
use Rattle.std.specs.Prelude.{◌≡◌, false, cond, ℕ, ◌+◌, ◌≤◌, eqb, leb, get_or}
use Rattle.std.proofs.Math.Path.{refl, ap}
use Rattle.std.proofs.Common.{◌∙◌, arith, eq-eqb, leb-true, ne_eqb}
use Rattle.std.proofs.Math.Bool.{true}
use mathlib.Core.List.{List, [], ◌∷◌, ◌++◌}
use Rattle.std.proofs.lemmas.Bool.{lt-leb}
use Rattle.grammar.specs.declared.Place.{Place}
use Rattle.grammar.specs.declared.Place.TheVariants.{Content, Less, Bang, Dash, Comment, CommentDash, CommentEnd, Name, Tag, Space, Attribute, Equals, Quote, Value, Ampersand, Entity, Slash, End, Close}
use Rattle.grammar.specs.declared.Step.TheVariants.{Go}
use Rattle.grammar.specs.Tables.{needed}
use Rattle.grammar.specs.Grammar.{is_space, is_char, is_token, word_byte, attribute, is_complete, owner, after, opens, name_step_at, close_step, end_step, step_of, State, live, next, run}
use Rattle.grammar.specs.Words.{and_left, and_right, both, choose, each, rest, word_read}
use Rattle.grammar.proofs.Levels.{inner, everything, stack_good, Completes, by_way_of, content_completes, fits, in_tag, is_quote, fine}
use Rattle.grammar.proofs.Values.{tag_rest, TagsEnd, tags_end, in_e, in_x, opened_good, tag_completes, space_completes, value_completes, quote_completes, equals_completes, attribute_completes, ampersand_completes, entity_completes}

-- the parent's level stays good when the element begins
pub keeps_after : (t w : ℕ) (st : List ℕ) → fits t w ≡ true → stack_good t st ≡ true → stack_good (after t w) st ≡ true
unfolding fits stack_good after inner
keeps_after t w [] f g =
    let r : eqb w 0 ≡ true = (rw g at (and_right (leb w 23) (cond (leb t 1) (eqb w 0) (leb 1 w)) f)) in rw r
keeps_after t w (u ∷ st) f g = both (inner (after t w)) (stack_good u st) within (and_right (inner t) (stack_good u st) g)
  where
    inside : inner t ≡ true
    inside = and_left (inner t) (stack_good u st) g

    high : leb t 1 ≡ false
    high = let l = leb-true 2 t (and_left (leb 2 t) (leb t 31) inside) in lt-leb t 1 (omega arith)

    some : 1 ≤ w
    some = leb-true 1 w (rw high at (and_right (leb w 23) (cond (leb t 1) (eqb w 0) (leb 1 w)) f))

    within : inner (after t w) ≡ true
    within =
        rw (ne_eqb w 0 (λ z. let s = some in omega arith))
        (choose (λ n. inner n ≡ true) (eqb w 5) 3 (cond (eqb w 11) 9 t) (λ _. refl)
        (λ _. choose (λ n. inner n ≡ true) (eqb w 11) 9 t (λ _. refl) (λ _. inside)))

same_next : (p p' : Place) (t t' b : ℕ) (st : List ℕ) → step_of p t b ≡ step_of p' t' b → next (live p t st) b ≡ next (live p' t' st) b
unfolding next
same_next p p' t t' b st e = rw e

module _ (t w : ℕ) (st : List ℕ) where
  name_goes : (k : ℕ) → step_of (Name w k) t (word_byte w k) ≡ Go (Name w (k + 1)) t
  unfolding step_of name_step_at
  name_goes k = rw (eq-eqb (word_byte w k) (word_byte w k) refl)

  -- behind its last byte a name goes on as a tag, in the parent's new level
  as_tag : (m b : ℕ) → word_byte w m ≡ 0 → eqb 0 b ≡ false → is_token b ≡ false → step_of (Name w m) t b ≡ step_of (Tag w 0) (after t w) b
  unfolding step_of name_step_at
  as_tag m b z n f = rw (z, n, f)

  name_ended : (m : ℕ) → word_byte w m ≡ 0 → run (live (Name w m) t st) (tag_rest w 0) ≡ run (live (Tag w 0) (after t w) st) (tag_rest w 0)
  unfolding tag_rest run
  name_ended m z =
      choose (λ (xs : List ℕ). run (live (Name w m) t st) xs ≡ run (live (Tag w 0) (after t w) st) xs) (is_complete w 0) (62 ∷ []) (32 ∷ rest (attribute w (get_or needed w 4)) 0 ++ 61 ∷ 34 ∷ 97 ∷ 34 ∷ 62 ∷ [])
      (λ _. ap (λ (s : State). run s []) (same_next (Name w m) (Tag w 0) t (after t w) 62 st (as_tag m 62 z refl (unfold is_token in refl))))
      (λ _. ap (λ (s : State). run s (rest (attribute w (get_or needed w 4)) 0 ++ 61 ∷ 34 ∷ 97 ∷ 34 ∷ 62 ∷ []))
      (same_next (Name w m) (Tag w 0) t (after t w) 32 st (as_tag m 32 z refl (unfold is_token in refl))))

  name_completes : (k : ℕ) → fits t w ≡ true → stack_good t st ≡ true → Completes (live (Name w k) t st)
  name_completes k f g =
      let r = word_read (λ (n : ℕ). Name w n) t w st name_goes k in
      let i : in_tag w 0 ≡ true = (unfold in_tag fits in both (leb w 23) true (and_left (leb w 23) (cond (leb t 1) (eqb w 0) (leb 1 w)) f) refl) in
      by_way_of (live (Name w k) t st) (live (Name w r.m) t st) (rest w k) r.ran
      (by_way_of (live (Name w r.m) t st) (live Content (opens w 0) (after t w ∷ st)) (tag_rest w 0)
      (name_ended r.m r.ended ∙ each TagsEnd 24 tags_end w (in_e w 0 i) 0 (in_x w 0 i) (after t w) st)
      (content_completes (opens w 0) (after t w ∷ st) (opened_good w 0 i (after t w) st (keeps_after t w st f g))))

-- ---- completing an end tag

end_goes : (t k : ℕ) → step_of (End k) t (word_byte (owner t) k) ≡ Go (End (k + 1)) t
unfolding step_of end_step
end_goes t k = rw (eq-eqb (word_byte (owner t) k) (word_byte (owner t) k) refl)

end_ended : (t u m : ℕ) (st : List ℕ) → word_byte (owner t) m ≡ 0 → run (live (End m) t (u ∷ st)) (62 ∷ []) ≡ live Content u st
unfolding run next step_of end_step close_step is_char is_space
end_ended t u m st z = rw z

not_bottom : (t : ℕ) → inner t ≡ true → leb t 1 ≡ true → ⊥
unfolding inner
not_bottom t i g = let l = leb-true 2 t (and_left (leb 2 t) (leb t 31) i) in let k = leb-true t 1 g in omega arith

end_completes : (k t : ℕ) (st : List ℕ) → inner t ≡ true → stack_good t st ≡ true → Completes (live (End k) t st)
unfolding stack_good
end_completes k t [] i g = absurd (not_bottom t i g)
end_completes k t (u ∷ st) i g =
    let r = word_read End t (owner t) (u ∷ st) (end_goes t) k in
    by_way_of (live (End k) t (u ∷ st)) (live (End r.m) t (u ∷ st)) (rest (owner t) k) r.ran
    (by_way_of (live (End r.m) t (u ∷ st)) (live Content u st) (62 ∷ []) (end_ended t u r.m st r.ended)
    (content_completes u st (and_right (inner t) (stack_good u st) g)))

close_completes : (t : ℕ) (st : List ℕ) → inner t ≡ true → stack_good t st ≡ true → Completes (live Close t st)
unfolding stack_good
close_completes t [] i g = absurd (not_bottom t i g)
close_completes t (u ∷ st) i g =
    by_way_of (live Close t (u ∷ st)) (live Content u st) (62 ∷ []) (unfold everything in refl)
    (content_completes u st (and_right (inner t) (stack_good u st) g))

-- ---- every place

pub completes : (p : Place) (t : ℕ) (st : List ℕ) → fine p t ≡ true → stack_good t st ≡ true → Completes (live p t st)
completes Content t st f g = content_completes t st g
completes Less t st f g = by_way_of (live Less t st) (live Content t st) (33 ∷ 45 ∷ 45 ∷ 45 ∷ 45 ∷ 62 ∷ []) (unfold everything in refl) (content_completes t st g)
completes Bang t st f g = by_way_of (live Bang t st) (live Content t st) (45 ∷ 45 ∷ 45 ∷ 45 ∷ 62 ∷ []) (unfold everything in refl) (content_completes t st g)
completes Dash t st f g = by_way_of (live Dash t st) (live Content t st) (45 ∷ 45 ∷ 45 ∷ 62 ∷ []) (unfold everything in refl) (content_completes t st g)
completes Comment t st f g = by_way_of (live Comment t st) (live Content t st) (45 ∷ 45 ∷ 62 ∷ []) (unfold everything in refl) (content_completes t st g)
completes CommentDash t st f g = by_way_of (live CommentDash t st) (live Content t st) (45 ∷ 62 ∷ []) (unfold everything in refl) (content_completes t st g)
completes CommentEnd t st f g = by_way_of (live CommentEnd t st) (live Content t st) (62 ∷ []) (unfold everything in refl) (content_completes t st g)
completes (Name w k) t st f g = name_completes t w st k f g
completes (Tag e x) t st f g = tag_completes e x f t st g
completes (Space e x) t st f g = space_completes e x f t st g
completes (Attribute e x j k) t st f g = attribute_completes e x j t st k f g
completes (Equals e x j) t st f g = equals_completes e x j t st f g
completes (Quote e x j) t st f g = quote_completes e x j t st f g
completes (Value e x j q v) t st f g = value_completes e x j t st q v (and_right (in_tag e x) (is_quote q) f) (and_left (in_tag e x) (is_quote q) f) g
completes (Ampersand e x j q) t st f g = ampersand_completes e x j t st q (and_right (in_tag e x) (is_quote q) f) (and_left (in_tag e x) (is_quote q) f) g
completes (Entity e x j q w k) t st f g = entity_completes e x j t st q w k (and_right (in_tag e x) (is_quote q) f) (and_left (in_tag e x) (is_quote q) f) g
completes Slash t st f g = by_way_of (live Slash t st) (live Content t st) (62 ∷ []) (unfold everything in refl) (content_completes t st g)
completes (End k) t st f g = end_completes k t st f g
completes Close t st f g = close_completes t st f g
