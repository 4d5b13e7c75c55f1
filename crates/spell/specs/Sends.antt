-- Sends and cancels, part by part.
use Rattle.std.specs.Prelude.{◌≡◌, refl, Bool, cond, List, [], ◌∷◌, ◌++◌, ℕ, eqb}
use Rattle.std.proofs.Common.{ap, append_assoc, eq-eqb, ne_eqb}
use Rattle.std.proofs.Math.Option.{Option, none, some}
use Rattle.definition.specs.Tables.{no_number, name_at}
use Rattle.reading.specs.Content.{Row, sends, cancels}
use Rattle.reading.specs.Print.{number, quoted, act_text}
use Rattle.spell.specs.Laid.{Laid, laid_as, laid_none, laid_then, laid_three}
use Rattle.spell.specs.Ready.{NameReady}

-- the send id of a number of the table, or none
abbrev pub sent_id : List ℕ → ℕ → Option (List ℕ)
sent_id names z = cond (eqb z no_number) none (some (name_at names z))

pub record IdReady (names : List ℕ) (z : ℕ) : Type 0 where
  pub named : (z ≡ no_number → ⊥) → NameReady names z

pub id_ready : (names : List ℕ) (z : ℕ) → IdReady names z → (z ≡ no_number → ⊥) → NameReady names z
id_ready names z h d = h.named d

pub record SendReady (names : List ℕ) (n z : ℕ) : Type 0 where
  pub event : NameReady names n
  pub id : IdReady names z

-- ---- the attributes that a send may leave out

unfoldable pub id_text : Option (List ℕ) → List ℕ
id_text none = []
id_text (some i) = (32 ∷ 105 ∷ 100 ∷ 61 ∷ []) ++ quoted i

unfoldable pub delay_text : ℕ → List ℕ
delay_text d = cond (eqb d 0) [] ((32 ∷ 100 ∷ 101 ∷ 108 ∷ 97 ∷ 121 ∷ 61 ∷ []) ++ quoted (number d))

module _ (names : List ℕ) (z : ℕ) where
  pub no_id_lem : z ≡ no_number → {out : List ℕ} {at : ℕ} → Laid (id_text (sent_id names z)) out at out at
  unfolding id_text
  no_id_lem e = laid_as (ap (λ (b : Bool). id_text (cond b none (some (name_at names z)))) (eq-eqb z no_number e)) laid_none

  pub id_spelt : (z ≡ no_number → ⊥) → {place o1 o2 out : List ℕ} {from a1 a2 at : ℕ} → Laid (32 ∷ 105 ∷ 100 ∷ 61 ∷ 34 ∷ []) place from o1 a1 → Laid (name_at names z) o1 a1 o2 a2 → Laid (34 ∷ []) o2 a2 out at →
      Laid (id_text (sent_id names z)) place from out at
  unfolding id_text
  id_spelt d p q r = laid_three p q r _ (ap (λ (b : Bool). id_text (cond b none (some (name_at names z)))) (ne_eqb z no_number d))

pub no_delay : (d : ℕ) → d ≡ 0 → {out : List ℕ} {at : ℕ} → Laid (delay_text d) out at out at
unfolding delay_text
no_delay d e = laid_as (rw (eq-eqb d 0 e)) laid_none

pub delay_spelt : (d : ℕ) → (d ≡ 0 → ⊥) → {place o1 o2 out : List ℕ} {from a1 a2 at : ℕ} → Laid (32 ∷ 100 ∷ 101 ∷ 108 ∷ 97 ∷ 121 ∷ 61 ∷ 34 ∷ []) place from o1 a1 → Laid (number d) o1 a1 o2 a2 →
    Laid (34 ∷ []) o2 a2 out at → Laid (delay_text d) place from out at
unfolding delay_text
delay_spelt d f p q r = laid_three p q r _ (rw (ne_eqb d 0 f))

-- ---- send and cancel

send_text : (n : List ℕ) (d : ℕ) (o : Option (List ℕ)) →
    act_text [] (sends n d o) ≡ (60 ∷ 115 ∷ 101 ∷ 110 ∷ 100 ∷ []) ++ id_text o ++ (32 ∷ 101 ∷ 118 ∷ 101 ∷ 110 ∷ 116 ∷ 61 ∷ 34 ∷ []) ++ n ++ (34 ∷ []) ++ delay_text d ++ (47 ∷ 62 ∷ [])
unfolding act_text id_text delay_text
send_text n d none = simp append_assoc
send_text n d (some i) = simp append_assoc

module _ {place o1 o2 o3 o4 o5 o6 out : List ℕ} {from a1 a2 a3 a4 a5 a6 at : ℕ} where
  pub send_spelt : (n : List ℕ) (d : ℕ) (o : Option (List ℕ)) → Laid (60 ∷ 115 ∷ 101 ∷ 110 ∷ 100 ∷ []) place from o1 a1 → Laid (id_text o) o1 a1 o2 a2 → Laid (32 ∷ 101 ∷ 118 ∷ 101 ∷ 110 ∷ 116 ∷ 61 ∷ 34 ∷ []) o2 a2 o3 a3 →
      Laid n o3 a3 o4 a4 → Laid (34 ∷ []) o4 a4 o5 a5 → Laid (delay_text d) o5 a5 o6 a6 → Laid (47 ∷ 62 ∷ []) o6 a6 out at → Laid (act_text [] (sends n d o)) place from out at
  send_spelt n d o p q r s t u v = laid_as (send_text n d o) (laid_then (laid_then (laid_then (laid_then (laid_then (laid_then p q) r) s) t) u) v)

module _ {place o1 o2 out : List ℕ} {from a1 a2 at : ℕ} where
  pub cancel_spelt : (n : List ℕ) → Laid (60 ∷ 99 ∷ 97 ∷ 110 ∷ 99 ∷ 101 ∷ 108 ∷ 32 ∷ 115 ∷ 101 ∷ 110 ∷ 100 ∷ 105 ∷ 100 ∷ 61 ∷ 34 ∷ []) place from o1 a1 → Laid n o1 a1 o2 a2 → Laid (34 ∷ 47 ∷ 62 ∷ []) o2 a2 out at →
      Laid (act_text [] (cancels n)) place from out at
  unfolding act_text
  cancel_spelt n p q r = laid_three p q r _ (simp append_assoc)

-- they go by no row
pub send_rows : (rs : List Row) (n : List ℕ) (d : ℕ) (o : Option (List ℕ)) → act_text rs (sends n d o) ≡ act_text [] (sends n d o)
unfolding act_text
send_rows rs n d none = refl
send_rows rs n d (some i) = refl

pub cancel_rows : (rs : List Row) (n : List ℕ) → act_text rs (cancels n) ≡ act_text [] (cancels n)
unfolding act_text
cancel_rows rs n = refl
