-- Bytes that lead from place to place inside one zone, so that no tag or value begins or ends: what a loop of its own may read at once.
use Rattle.std.specs.Prelude.{◌≡◌, Bool, true, false, List, ℕ, zero, suc, ◌+◌, ◌-◌, ◌≤◌, ◌<◌, eqb, ltb, length, get_or}
use Rattle.std.proofs.Math.Path.{refl, subst}
use Rattle.std.proofs.Common.{ap, ◌∙◌, arith, eqb-true, ltb-true, ltb-false}
use Rattle.std.proofs.lemmas.Bool.{eqb-false}
use Rattle.grammar.specs.declared.Place.{Place}
use Rattle.grammar.specs.declared.Step.TheVariants.{Go}
use Rattle.grammar.specs.Grammar.{is_char, step_of, live, next, is_dead}
use Rattle.reading.specs.declared.Zone.{Zone}
use Rattle.reading.specs.Zones.{zone}
use Rattle.markup.specs.Growth.{word_at, grows}
use Rattle.markup.specs.Passes.{Reached, reached_more}

-- one byte, from a place of the zone to another of it
pub record Led (text : List ℕ) (z : Zone) (q : Place) (u j : ℕ) (q' : Place) (u' : ℕ) : Type 0 where
  pub in_text_lem : j < length text
  pub plain : is_char (get_or text j 0) ≡ true
  pub from_zone : zone q ≡ z
  pub steps : step_of q u (get_or text j 0) ≡ Go q' u'
  pub to_zone : zone q' ≡ z

pub data Leads (text : List ℕ) (z : Zone) (p : Place) (t i : ℕ) : Place → ℕ → ℕ → Type 0 where
  stay : Leads text z p t i p t i
  on : {q q' : Place} {u u' j : ℕ} → Leads text z p t i q u j → Led text z q u j q' u' → Leads text z p t i q' u' (j + 1)

module _ {text : List ℕ} {z : Zone} where
  pub leads_trans : {p : Place} {t i : ℕ} {q : Place} {u j : ℕ} {r : Place} {v k : ℕ} → Leads text z p t i q u j → Leads text z q u j r v k → Leads text z p t i r v k
  leads_trans a stay = a
  leads_trans a (on b o) = on (leads_trans a b) o

  pub leads_order : {p : Place} {t i : ℕ} {q : Place} {u j : ℕ} → Leads text z p t i q u j → i ≤ j
  leads_order stay = omega arith
  leads_order (on b o) = let h = leads_order b in omega arith

  pub leads_within : {p : Place} {t i : ℕ} {q : Place} {u j : ℕ} → Leads text z p t i q u j → i ≤ length text → j ≤ length text
  leads_within stay h = h
  leads_within (on b o) h = let k = o.in_text_lem in omega arith

  pub leads_word : {p : Place} {t i : ℕ} {q : Place} {u j : ℕ} → Leads text z p t i q u j → word_at q + i ≤ word_at p + j
  leads_word stay = omega arith
  leads_word {p = p} (on {q = q} {q' = q'} {u = u} {j = j} b o) =
      let h = leads_word b in
      let g : word_at q' ≤ word_at q + 1 = rw o.steps at (grows q u (get_or text j 0) (word_at q + 1) (omega arith)) in
      omega arith

  pub leads_reached : {p : Place} {t i : ℕ} {q : Place} {u j : ℕ} (st : List ℕ) → Leads text z p t i q u j → j ≤ 32768 → Reached text i (live p t st) → Reached text j (live q u st)
  unfolding next
  leads_reached st stay l r = r
  leads_reached st (on {q = q} {q' = q'} {u = u} {u' = u'} {j = j} b o) l r =
      subst (Reached text (j + 1)) goes (reached_more text j (live q u st) (leads_reached st b (omega arith) r) o.in_text_lem (omega arith) (ap is_dead goes))
    where
      goes : next (live q u st) (get_or text j 0) ≡ live q' u' st
      goes = rw (o.plain, o.steps) refl

-- ---- one place all along

-- bytes of one kind
pub record Run (f : ℕ → Bool) (text : List ℕ) (i j : ℕ) : Type 0 where
  pub order : i ≤ j
  pub each : (n : ℕ) → i ≤ n → n < j → f (get_or text n 0) ≡ true

module _ (f : ℕ → Bool) (text : List ℕ) where
  pub run_start : (i : ℕ) → Run f text i i
  run_start i = record { order = omega arith; each = λ n l h. absurd (omega arith) }

  pub run_more : (i j : ℕ) → Run f text i j → f (get_or text j 0) ≡ true → Run f text i (j + 1)
  run_more i j r e = record { order = let o = r.order in omega arith; each = λ n l h. by n l h (eqb n j) refl }
    where
      by : (n : ℕ) → i ≤ n → n < j + 1 → (b : Bool) → eqb n j ≡ b → f (get_or text n 0) ≡ true
      by n l h true q = ap (λ (m : ℕ). f (get_or text m 0)) (eqb-true n j q) ∙ e
      by n l h false q = r.each n l (let d = eqb-false n j q in omega arith)

  pub run_then : (i j k : ℕ) → Run f text i j → Run f text j k → Run f text i k
  run_then i j k a b = record { order = let o = a.order in let u = b.order in omega arith; each = λ n l h. by n l h (ltb n j) refl }
    where
      by : (n : ℕ) → i ≤ n → n < k → (b' : Bool) → ltb n j ≡ b' → f (get_or text n 0) ≡ true
      by n l h true q = a.each n l (ltb-true n j q)
      by n l h false q = b.each n (ltb-false n j q) h

  module _ (z : Zone) (p : Place) (t : ℕ) (same : zone p ≡ z) (plain : (b : ℕ) → f b ≡ true → is_char b ≡ true) (keeps : (b : ℕ) → f b ≡ true → step_of p t b ≡ Go p t) where
    from_so : (i d : ℕ) → i + d ≤ length text → ((n : ℕ) → i ≤ n → n < i + d → f (get_or text n 0) ≡ true) → Leads text z p t i p t (i + d)
    from_so i zero l h = subst (λ (n : ℕ). Leads text z p t i p t n) (plus i) stay
      where
        plus : (i : ℕ) → i ≡ i + 0
        plus i = omega arith
    from_so i (suc d) l h =
        subst (λ (n : ℕ). Leads text z p t i p t n) (plus i d)
        (on (from_so i d (omega arith) (λ n a b. h n a (omega arith))) (record { in_text_lem = omega arith; plain = plain _ at_end_lem; from_zone = same; steps = keeps _ at_end_lem; to_zone = same }))
      where
        plus : (i d : ℕ) → i + d + 1 ≡ i + suc d
        plus i d = omega arith

        at_end_lem : f (get_or text (i + d) 0) ≡ true
        at_end_lem = h (i + d) (omega arith) (omega arith)

    pub run_leads : (i j : ℕ) → j ≤ length text → Run f text i j → Leads text z p t i p t j
    run_leads i j l r =
        subst (λ (n : ℕ). Leads text z p t i p t n) (less i j r.order) (from_so i (j - i) (let o = r.order in omega arith) (λ n a b. r.each n a (let o = r.order in omega arith)))
      where
        less : (i j : ℕ) → i ≤ j → i + (j - i) ≡ j
        less i j o = omega arith
