-- What the tags of blocks and elements say when they are read back.
use Rattle.std.specs.Prelude.{◌≡◌, Bool, true, false, cond, List, [], ◌∷◌, ◌++◌, ℕ, eqb}
use Rattle.std.proofs.Math.Path.{refl}
use Rattle.std.proofs.Common.{sym, ap, ◌∙◌, subst, append-nil, append_assoc}
use Rattle.definition.specs.Rows.{is_empty}
use Rattle.reading.specs.Tags.{Markup}
use Rattle.reading.specs.Content.{end_if, Spot, Fact, action_fact, Turn, turn, block_of, end_facts, facts_from}
use Rattle.laws.specs.Lists.{empty_list}
use Rattle.written.specs.Pieces.{Attr, Piece, attrs_at, parts_at, markup_at, behind_piece, tags_at}
use Rattle.written.specs.Written.{start_tag, empty_tag, end_tag, element_pieces}

-- ---- tags one behind the other

abbrev pub behind_all : ℕ → List Piece → ℕ
behind_all i [] = i
behind_all i (p ∷ ps) = behind_all (behind_piece i p) ps

pub tags_both : (i : ℕ) (ps qs : List Piece) → tags_at i (ps ++ qs) ≡ tags_at i ps ++ tags_at (behind_all i ps) qs
unfolding tags_at
tags_both i [] qs = refl
tags_both i (p ∷ ps) qs = ap (λ (l : List Markup). markup_at i p ∷ l) (tags_both (behind_piece i p) ps qs)

-- the tags say fs where the spots st are open, behind n rows and m transitions; su, k and l are those behind them
pub record Says (ids : List (List ℕ)) (st : List Spot) (n m : ℕ) (ps : List Piece) (fs : List Fact) (su : List Spot) (k l : ℕ) : Type 0 where
  pub said : (i : ℕ) (ts : List Markup) → facts_from ids st n m (tags_at i ps ++ ts) ≡ fs ++ facts_from ids su k l ts

module _ {ids : List (List ℕ)} where
  pub says_none : {st : List Spot} {n m : ℕ} → Says ids st n m [] [] st n m
  says_none = record { said = λ (i : ℕ) (ts : List Markup). unfold tags_at in refl }

  pub says_both : {st su sv : List Spot} {n m k l p q : ℕ} {ps qs : List Piece} {fs gs : List Fact} → Says ids st n m ps fs su k l → Says ids su k l qs gs sv p q → Says ids st n m (ps ++ qs) (fs ++ gs) sv p q
  says_both {st = st} {sv = sv} {n = n} {m = m} {p = p} {q = q} {ps = ps} {qs = qs} {fs = fs} {gs = gs} a b =
      record {
        said =
            λ (i : ℕ) (ts : List Markup). ap (λ (l : List Markup). facts_from ids st n m (l ++ ts)) (tags_both i ps qs) ∙
            ap (facts_from ids st n m) (append_assoc (tags_at i ps) (tags_at (behind_all i ps) qs) ts) ∙ a.said i (tags_at (behind_all i ps) qs ++ ts) ∙
            ap (λ (l : List Fact). fs ++ l) (b.said (behind_all i ps) ts) ∙ sym (append_assoc fs gs (facts_from ids sv p q ts));
      }

  pub says_as : {st su : List Spot} {n m k l : ℕ} {ps : List Piece} {fs gs : List Fact} → fs ≡ gs → Says ids st n m ps fs su k l → Says ids st n m ps gs su k l
  says_as {st = st} {su = su} {n = n} {m = m} {k = k} {l = l} {ps = ps} e a = subst (λ (f : List Fact). Says ids st n m ps f su k l) e a

  module _ (s : Spot) (st : List Spot) (n m e : ℕ) (xs : List Attr) (r : Turn) (t : (j : ℕ) → turn ids s n m e (parts_at j e xs) ≡ r) where
    pub starts_says : Says ids (s ∷ st) n m (start_tag e xs ∷ []) r.facts (r.inside ∷ r.around ∷ st) r.rows r.transitions
    starts_says = record { said = λ (i : ℕ) (ts : List Markup). step i ts ∙ ap (λ (u : Turn). u.facts ++ facts_from ids (u.inside ∷ u.around ∷ st) u.rows u.transitions ts) (t (attrs_at i e)) }
      where
        step : (i : ℕ) (ts : List Markup) → facts_from ids (s ∷ st) n m (tags_at i (start_tag e xs ∷ []) ++ ts) ≡
            (let u = turn ids s n m e (parts_at (attrs_at i e) e xs) in u.facts ++ facts_from ids (u.inside ∷ u.around ∷ st) u.rows u.transitions ts)
        step i ts = unfold tags_at facts_from in refl

    pub stands_says : eqb e 12 ≡ false → Says ids (s ∷ st) n m (empty_tag e xs ∷ []) r.facts (r.around ∷ st) r.rows r.transitions
    stands_says h = record { said = λ (i : ℕ) (ts : List Markup). step i ts ∙ ap (λ (u : Turn). (u.facts ++ end_facts u.inside e) ++ facts_from ids (u.around ∷ st) u.rows u.transitions ts) (t (attrs_at i e)) ∙ ended ts }
      where
        step : (i : ℕ) (ts : List Markup) → facts_from ids (s ∷ st) n m (tags_at i (empty_tag e xs ∷ []) ++ ts) ≡
            (let u = turn ids s n m e (parts_at (attrs_at i e) e xs) in (u.facts ++ end_facts u.inside e) ++ facts_from ids (u.around ∷ st) u.rows u.transitions ts)
        step i ts = unfold tags_at facts_from in refl

        ended : (ts : List Markup) → (r.facts ++ end_facts r.inside e) ++ facts_from ids (r.around ∷ st) r.rows r.transitions ts ≡ r.facts ++ facts_from ids (r.around ∷ st) r.rows r.transitions ts
        ended ts =
            ap (λ (z : Bool). (r.facts ++ cond z (action_fact (block_of r.inside) end_if ∷ []) []) ++ facts_from ids (r.around ∷ st) r.rows r.transitions ts) h ∙
            ap (λ (l : List Fact). l ++ facts_from ids (r.around ∷ st) r.rows r.transitions ts) (append-nil r.facts)

  pub shuts_says : (s : Spot) (st : List Spot) (n m e : ℕ) → eqb e 12 ≡ false → Says ids (s ∷ st) n m (end_tag e ∷ []) [] st n m
  shuts_says s st n m e h = record { said = λ (i : ℕ) (ts : List Markup). step i ts ∙ ap (λ (z : Bool). cond z (action_fact (block_of s) end_if ∷ []) [] ++ facts_from ids st n m ts) h }
    where
      step : (i : ℕ) (ts : List Markup) → facts_from ids (s ∷ st) n m (tags_at i (end_tag e ∷ []) ++ ts) ≡ cond (eqb e 12) (action_fact (block_of s) end_if ∷ []) [] ++ facts_from ids st n m ts
      step i ts = unfold tags_at facts_from in refl

  -- an element with something inside that leaves its spot as it was
  pub element_says : (s : Spot) (st : List Spot) (n m e f : ℕ) (xs : List Attr) (r : Turn) → ((j : ℕ) → turn ids s n m e (parts_at j e xs) ≡ r) → eqb e 12 ≡ false → eqb f 12 ≡ false →
      (inside : List Piece) (gs : List Fact) → Says ids (r.inside ∷ r.around ∷ st) r.rows r.transitions inside gs (r.inside ∷ r.around ∷ st) r.rows r.transitions →
      Says ids (s ∷ st) n m (element_pieces e f xs inside) (r.facts ++ gs) (r.around ∷ st) r.rows r.transitions
  element_says s st n m e f xs r t h g inside gs w = by (is_empty inside) refl
    where
      nothing : inside ≡ [] → gs ≡ []
      nothing q = sym (append-nil gs) ∙ sym (subst (λ (l : List Piece). facts_from ids (r.inside ∷ r.around ∷ st) r.rows r.transitions (tags_at 0 l ++ []) ≡ gs ++ facts_from ids (r.inside ∷ r.around ∷ st) r.rows r.transitions []) q (w.said 0 []) ∙ ended) ∙ begun
        where
          ended : gs ++ facts_from ids (r.inside ∷ r.around ∷ st) r.rows r.transitions [] ≡ gs ++ []
          ended = ap (λ (l : List Fact). gs ++ l) (unfold facts_from in refl)

          begun : facts_from ids (r.inside ∷ r.around ∷ st) r.rows r.transitions (tags_at 0 [] ++ []) ≡ []
          begun = unfold tags_at facts_from in refl

      by : (z : Bool) → is_empty inside ≡ z → Says ids (s ∷ st) n m (cond z (empty_tag e xs ∷ []) (start_tag e xs ∷ (inside ++ end_tag f ∷ []))) (r.facts ++ gs) (r.around ∷ st) r.rows r.transitions
      by true q = says_as (sym (append-nil r.facts) ∙ ap (λ (l : List Fact). r.facts ++ l) (sym (nothing (empty_list inside q)))) (stands_says s st n m e xs r t h)
      by false q =
          says_both (starts_says s st n m e xs r t)
          (says_as (append-nil gs) (says_both w (shuts_says r.inside (r.around ∷ st) r.rows r.transitions f g)))
