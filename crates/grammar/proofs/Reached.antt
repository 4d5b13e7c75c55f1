-- A text comes to such places only: each step leads from one to another.
use Rattle.std.specs.Prelude.{◌≡◌, refl, Bool, false, ◌&&◌, ◌||◌, cond, List, [], ◌∷◌, ℕ, zero, suc, ◌+◌, ◌*◌, ◌<◌, leb, get_or}
use Rattle.std.proofs.Math.Bool.{true, not}
use Rattle.std.proofs.Math.Dec.{eqb}
use Rattle.grammar.specs.declared.Place.{Place}
use Rattle.grammar.specs.declared.Place.TheVariants.{Content, Less, Bang, Dash, Comment, CommentDash, CommentEnd, Name, Tag, Space, Attribute, Equals, Quote, Value, Ampersand, Entity, Slash, End, Close}
use Rattle.grammar.specs.declared.Step.{Step}
use Rattle.grammar.specs.declared.Step.TheVariants.{Fault, Go, Open, Shut}
use Rattle.grammar.specs.Tables.{menus, ends}
use Rattle.grammar.specs.Grammar.{is_space, is_char, is_token, word_byte, follows, pick_from, pick, attribute, added, pick_attribute, is_complete, may_end, owner, after, opens, value_step, value_ends, kind_of, content_step, name_at, less_step, tag_step, name_step_at, attribute_at, space_step, equals_step, attribute_step, quote_step, value_at, value_step_at, entity_at, entity_step, close_step, end_step, only, step_of, State, dead, live, left as leave, moved, next, run}
use Rattle.grammar.specs.Words.{and_left, and_right, both, choose, AllBelow, each}
use Rattle.grammar.proofs.Levels.{inner, stack_good, stack_below, fits, in_tag, is_quote, fine}
use Rattle.grammar.proofs.Values.{opens_inner, tag_after}
use Rattle.grammar.proofs.Completing.{keeps_after}

unfoldable ok_from : (ℕ → Bool) → ℕ → ℕ → Bool
ok_from q zero at = true
ok_from q (suc n) at = q (get_or menus at 48) && ok_from q n (suc at)

pick_ok : (q : ℕ → Bool) (w k b n at : ℕ) → q 48 ≡ true → ok_from q n at ≡ true → q (pick_from n at w k b) ≡ true
unfolding ok_from pick_from
pick_ok q w k b zero at h o = h
pick_ok q w k b (suc n) at h o =
    choose (λ (z : ℕ). q z ≡ true) (follows w (get_or menus at 48) k b) (get_or menus at 48) (pick_from n (suc at) w k b)
    (λ _. and_left (q (get_or menus at 48)) (ok_from q n (suc at)) o)
    (λ _. pick_ok q w k b n (suc at) h (and_right (q (get_or menus at 48)) (ok_from q n (suc at)) o))

unfoldable none_or_fits : ℕ → ℕ → Bool
none_or_fits t w = eqb w 48 || fits t w

abbrev MenuFits : ℕ → Type 0
MenuFits t = ok_from (none_or_fits t) 8 (t * 8) ≡ true

menus_fit : AllBelow MenuFits 32
unfolding AllBelow ok_from none_or_fits fits menus
menus_fit = ((((((((((((((((((((((((((((((((refl, refl), refl), refl), refl), refl), refl), refl), refl), refl), refl), refl), refl), refl), refl), refl), refl), refl), refl), refl), refl), refl), refl), refl), refl), refl), refl), refl), refl), refl), refl), refl), refl)

pick_fits : (t w k b : ℕ) → t < 32 → eqb (pick t w k b) 48 ≡ false → fits t (pick t w k b) ≡ true
unfolding pick none_or_fits
pick_fits t w k b l n =
    rw n at (pick_ok (none_or_fits t) w k b 8 (t * 8) refl (each MenuFits 32 menus_fit t l))

abbrev EndInner : ℕ → Type 0
EndInner t = may_end t ≡ true → inner t ≡ true

ends_inner : AllBelow EndInner 32
unfolding AllBelow may_end ends inner
ends_inner = ((((((((((((((((((((((((((((((((refl, λ h. h), λ h. h), λ h. refl), λ h. refl), λ h. refl), λ h. refl), λ h. refl), λ h. refl), λ h. refl), λ h. refl), λ h. refl), λ h. refl), λ h. refl), λ h. refl), λ h. refl), λ h. refl), λ h. refl), λ h. refl), λ h. refl), λ h. refl), λ h. refl), λ h. refl), λ h. refl), λ h. refl), λ h. refl), λ h. refl), λ h. refl), λ h. refl), λ h. refl), λ h. refl), λ h. refl), λ h. refl)

pub record Keeps (t u : ℕ) : Type 0 where
  pub keeps : (st : List ℕ) → stack_good t st ≡ true → stack_good u st ≡ true

same_level : (t : ℕ) → Keeps t t
same_level t = record { keeps = λ st g. g }

abbrev Sound : ℕ → Step → Type 0
Sound t Fault = ◌≡◌ {A = ℕ} 0 0
Sound t (Go p u) = (fine p u ≡ true) × Keeps t u
Sound t (Open u v) = (inner v ≡ true) × Keeps t u
Sound t Shut = ◌≡◌ {A = ℕ} 0 0

-- by cases on a test, for steps
split : (t : ℕ) (b : Bool) (x y : Step) → (b ≡ true → Sound t x) → (b ≡ false → Sound t y) → Sound t (cond b x y)
split t b x y h k = choose (Sound t) b x y h k

module _ (t : ℕ) where
  sound_only : (a u b : ℕ) (p : Place) → fine p u ≡ true → Keeps t u → Sound t (only a p u b)
  unfolding only
  sound_only a u b p f k = split t (eqb b a) (Go p u) Fault (λ _. (f, k)) (λ _. refl)

  sound_tag : (e x u b : ℕ) → in_tag e x ≡ true → Keeps t u → Sound t (tag_step e x u b)
  unfolding tag_step
  sound_tag e x u b f k =
      split t (is_space b) (Go (Space e x) u) (cond (eqb b 62 && is_complete e x) (Open u (opens e x)) (cond (eqb b 47 && is_complete e x && may_end (opens e x)) (Go Slash u) Fault)) (λ _. (f, k))
      (λ _. split t (eqb b 62 && is_complete e x) (Open u (opens e x)) (cond (eqb b 47 && is_complete e x && may_end (opens e x)) (Go Slash u) Fault) (λ _. (opens_inner e x (unfold in_tag in and_left (leb e 23) (leb x 15) f), k))
      (λ _. split t (eqb b 47 && is_complete e x && may_end (opens e x)) (Go Slash u) Fault (λ _. (refl, k)) (λ _. refl)))

  sound_name_at : (w k b : ℕ) (n : ℕ) → t < 32 → Sound t (name_at (pick t w k b) n t)
  unfolding name_at
  sound_name_at w k b n l = split t (eqb (pick t w k b) 48) Fault (Go (Name (pick t w k b) n) t) (λ _. refl) (λ e. (pick_fits t w k b l e, same_level t))

  sound_content : (b : ℕ) → Sound t (content_step t b)
  unfolding content_step
  sound_content b = split t (is_space b) (Go Content t) (cond (eqb b 60) (Go Less t) Fault) (λ _. (refl, same_level t)) (λ _. split t (eqb b 60) (Go Less t) Fault (λ _. (refl, same_level t)) (λ _. refl))

  sound_less : (b : ℕ) → t < 32 → Sound t (less_step t b)
  unfolding less_step
  sound_less b l =
      split t (eqb b 33) (Go Bang t) (cond (eqb b 47 && may_end t) (Go (End 0) t) (name_at (pick t 48 0 b) 1 t)) (λ _. (refl, same_level t))
      (λ _. split t (eqb b 47 && may_end t) (Go (End 0) t) (name_at (pick t 48 0 b) 1 t) (λ e. (each EndInner 32 ends_inner t l (and_right (eqb b 47) (may_end t) e), same_level t)) (λ _. sound_name_at 48 0 b 1 l))

  sound_name : (w k b : ℕ) → t < 32 → fits t w ≡ true → Sound t (name_step_at w k t b)
  unfolding name_step_at
  sound_name w k b l f =
      split t (eqb (word_byte w k) b) (Go (Name w (k + 1)) t) (cond (eqb (word_byte w k) 0 && not (is_token b)) (tag_step w 0 (after t w) b) (name_at (pick t w k b) (k + 1) t)) (λ _. (f, same_level t))
      (λ _. split t (eqb (word_byte w k) 0 && not (is_token b)) (tag_step w 0 (after t w) b) (name_at (pick t w k b) (k + 1) t)
      (λ _. sound_tag w 0 (after t w) b (unfold in_tag fits in both (leb w 23) true (and_left (leb w 23) (cond (leb t 1) (eqb w 0) (leb 1 w)) f) refl) (record { keeps = λ st g. keeps_after t w st f g }))
      (λ _. sound_name_at w k b (k + 1) l))

  sound_attribute_at : (j k e x : ℕ) → in_tag e x ≡ true → Sound t (attribute_at j k e x t)
  unfolding attribute_at
  sound_attribute_at j k e x f = split t (eqb j 4) Fault (Go (Attribute e x j k) t) (λ _. refl) (λ _. (f, same_level t))

  sound_space : (e x b : ℕ) → in_tag e x ≡ true → Sound t (space_step e x t b)
  unfolding space_step
  sound_space e x b f =
      split t (is_token b) (attribute_at (pick_attribute 4 0 e x 48 0 b) 1 e x t) (tag_step e x t b) (λ _. sound_attribute_at (pick_attribute 4 0 e x 48 0 b) 1 e x f) (λ _. sound_tag e x t b f (same_level t))

  sound_equals : (e x j b : ℕ) → in_tag e x ≡ true → Sound t (equals_step e x j t b)
  unfolding equals_step
  sound_equals e x j b f =
      split t (is_space b) (Go (Equals e x j) t) (cond (eqb b 61) (Go (Quote e x j) t) Fault) (λ _. (f, same_level t)) (λ _. split t (eqb b 61) (Go (Quote e x j) t) Fault (λ _. (f, same_level t)) (λ _. refl))

  sound_attribute : (e x j k b : ℕ) → in_tag e x ≡ true → Sound t (attribute_step e x j k t b)
  unfolding attribute_step
  sound_attribute e x j k b f =
      split t (eqb (word_byte (attribute e j) k) b) (Go (Attribute e x j (k + 1)) t) (cond (eqb (word_byte (attribute e j) k) 0 && not (is_token b)) (equals_step e x j t b) (attribute_at (pick_attribute 4 0 e x (attribute e j) k b) (k + 1) e x t)) (λ _. (f, same_level t))
      (λ _. split t (eqb (word_byte (attribute e j) k) 0 && not (is_token b)) (equals_step e x j t b) (attribute_at (pick_attribute 4 0 e x (attribute e j) k b) (k + 1) e x t) (λ _. sound_equals e x j b f)
      (λ _. sound_attribute_at (pick_attribute 4 0 e x (attribute e j) k b) (k + 1) e x f))

  sound_quote : (e x j b : ℕ) → in_tag e x ≡ true → Sound t (quote_step e x j t b)
  unfolding quote_step
  sound_quote e x j b f =
      split t (is_space b) (Go (Quote e x j) t) (cond (eqb b 34 || eqb b 39) (Go (Value e x j b 0) t) Fault) (λ _. (f, same_level t))
      (λ _. split t (eqb b 34 || eqb b 39) (Go (Value e x j b 0) t) Fault (λ h. (both (in_tag e x) (is_quote b) f (unfold is_quote in h), same_level t)) (λ _. refl))

  sound_value : (e x j q v b : ℕ) → (in_tag e x && is_quote q) ≡ true → Sound t (value_step_at e x j q v t b)
  unfolding value_step_at value_at
  sound_value e x j q v b f =
      split t (eqb b q) (cond (value_ends (kind_of e j) v) (Go (Tag e (added x j)) t) Fault) (cond (eqb b 38 && eqb (kind_of e j) 0) (Go (Ampersand e x j q) t) (cond (eqb (value_step (kind_of e j) v b) 5) Fault (Go (Value e x j q (value_step (kind_of e j) v b)) t)))
      (λ _. split t (value_ends (kind_of e j) v) (Go (Tag e (added x j)) t) Fault (λ _. (tag_after e x j (and_left (in_tag e x) (is_quote q) f), same_level t)) (λ _. refl))
      (λ _. split t (eqb b 38 && eqb (kind_of e j) 0) (Go (Ampersand e x j q) t) (cond (eqb (value_step (kind_of e j) v b) 5) Fault (Go (Value e x j q (value_step (kind_of e j) v b)) t)) (λ _. (f, same_level t))
      (λ _. split t (eqb (value_step (kind_of e j) v b) 5) Fault (Go (Value e x j q (value_step (kind_of e j) v b)) t) (λ _. refl) (λ _. (f, same_level t))))

  sound_entity_at : (w k e x j q : ℕ) → (in_tag e x && is_quote q) ≡ true → Sound t (entity_at w k e x j q t)
  unfolding entity_at
  sound_entity_at w k e x j q f = split t (eqb w 48) Fault (Go (Entity e x j q w k) t) (λ _. refl) (λ _. (f, same_level t))

  sound_entity : (e x j q w k b : ℕ) → (in_tag e x && is_quote q) ≡ true → Sound t (entity_step e x j q w k t b)
  unfolding entity_step
  sound_entity e x j q w k b f =
      split t (eqb (word_byte w k) b) (Go (Entity e x j q w (k + 1)) t) (cond (eqb b 59) (cond (eqb (word_byte w k) 0) (Go (Value e x j q 0) t) Fault) (entity_at (pick 32 w k b) (k + 1) e x j q t)) (λ _. (f, same_level t))
      (λ _. split t (eqb b 59) (cond (eqb (word_byte w k) 0) (Go (Value e x j q 0) t) Fault) (entity_at (pick 32 w k b) (k + 1) e x j q t)
      (λ _. split t (eqb (word_byte w k) 0) (Go (Value e x j q 0) t) Fault (λ _. (f, same_level t)) (λ _. refl)) (λ _. sound_entity_at (pick 32 w k b) (k + 1) e x j q f))

  sound_close : (b : ℕ) → inner t ≡ true → Sound t (close_step t b)
  unfolding close_step
  sound_close b f = split t (is_space b) (Go Close t) (cond (eqb b 62) Shut Fault) (λ _. (f, same_level t)) (λ _. split t (eqb b 62) Shut Fault (λ _. refl) (λ _. refl))

  sound_end : (k b : ℕ) → inner t ≡ true → Sound t (end_step k t b)
  unfolding end_step
  sound_end k b f =
      split t (eqb (word_byte (owner t) k) b) (Go (End (k + 1)) t) (cond (eqb (word_byte (owner t) k) 0) (close_step t b) Fault) (λ _. (f, same_level t))
      (λ _. split t (eqb (word_byte (owner t) k) 0) (close_step t b) Fault (λ _. sound_close b f) (λ _. refl))

sound : (p : Place) (t b : ℕ) → t < 32 → fine p t ≡ true → Sound t (step_of p t b)
unfolding step_of
sound Content t b l f = sound_content t b
sound Less t b l f = sound_less t b l
sound Bang t b l f = sound_only t 45 t b Dash refl (same_level t)
sound Dash t b l f = sound_only t 45 t b Comment refl (same_level t)
sound Comment t b l f = split t (eqb b 45) (Go CommentDash t) (Go Comment t) (λ _. (refl, same_level t)) (λ _. (refl, same_level t))
sound CommentDash t b l f = split t (eqb b 45) (Go CommentEnd t) (Go Comment t) (λ _. (refl, same_level t)) (λ _. (refl, same_level t))
sound CommentEnd t b l f = sound_only t 62 t b Content refl (same_level t)
sound (Name w k) t b l f = sound_name t w k b l f
sound (Tag e x) t b l f = sound_tag t e x t b f (same_level t)
sound (Space e x) t b l f = sound_space t e x b f
sound (Attribute e x j k) t b l f = sound_attribute t e x j k b f
sound (Equals e x j) t b l f = sound_equals t e x j b f
sound (Quote e x j) t b l f = sound_quote t e x j b f
sound (Value e x j q v) t b l f = sound_value t e x j q v b f
sound (Ampersand e x j q) t b l f = sound_entity_at t (pick 32 48 0 b) 1 e x j q f
sound (Entity e x j q w k) t b l f = sound_entity t e x j q w k b f
sound Slash t b l f = sound_only t 62 t b Content refl (same_level t)
sound (End k) t b l f = sound_end t k b f
sound Close t b l f = sound_close t b f

abbrev pub Good : State → Type 0
Good dead = ◌≡◌ {A = ℕ} 0 0
Good (live p t st) = (fine p t ≡ true) × (stack_good t st ≡ true)

good_left : (t : ℕ) (st : List ℕ) → stack_good t st ≡ true → Good (leave st)
unfolding stack_good
good_left t [] g = refl
good_left t (u ∷ st) g = (refl, and_right (inner t) (stack_good u st) g)

good_moved : (t : ℕ) (st : List ℕ) (s : Step) → Sound t s → stack_good t st ≡ true → Good (moved st s)
good_moved t st Fault h g = refl
good_moved t st (Go p u) h g = (h.0, h.1.keeps st g)
good_moved t st (Open u v) h g = (refl, unfold stack_good in both (inner v) (stack_good u st) h.0 (h.1.keeps st g))
good_moved t st Shut h g = good_left t st g

good_next : (s : State) (b : ℕ) → Good s → Good (next s b)
unfolding next
good_next dead b h = refl
good_next (live p t st) b h =
    choose Good (is_char b) (moved st (step_of p t b)) dead
    (λ _. good_moved t st (step_of p t b) (sound p t b (stack_below t st h.1) h.0) h.1) (λ _. refl)

pub good_run : (xs : List ℕ) (s : State) → Good s → Good (run s xs)
unfolding run
good_run [] s h = h
good_run (x ∷ xs) s h = good_run xs (next s x) (good_next s x h)
