-- The names of slots and of raises, as they were read.
use Rattle.std.specs.Prelude.{◌≡◌, refl, Bool, true, false, ◌&&◌, ◌||◌, List, ℕ, ◌<◌, eqb, leb, ltb}
use Rattle.std.proofs.Common.{◌∙◌, ltb-true, ne_eqb}
use Rattle.definition.specs.declared.Action.{Action}
use Rattle.definition.specs.declared.Action.TheVariants.{Raise, Host, If, ElseIf, Else, End, Send, Cancel}
use Rattle.definition.specs.Names.{is_name, is_descriptor, before_zero, zeros_after}
use Rattle.definition.specs.Tables.{no_number, most_delay, name_count, action_at, name_at}
use Rattle.definition.specs.Rules.{optional_below, slot_fits, raise_fits, action_named}
use Rattle.laws.specs.Bools.{no, and3}
use Rattle.tables.specs.Actions.{fits_number}
use Rattle.tables.specs.Parts.{SlotOf}

pub slot_judged : (names : List ℕ) (n : ℕ) (xs : List ℕ) (b : Bool) → SlotOf names n xs → b ≡ (zeros_after xs && is_descriptor (before_zero xs)) → b ≡ slot_fits names n
unfolding slot_fits name_at
slot_judged names n xs b a e = e ∙ rw a.is

-- the name of a slot
pub slot_named : (names : List ℕ) (n : ℕ) (xs ys : List ℕ) (b : Bool) → SlotOf names n xs → ys ≡ before_zero xs → b ≡ is_name ys → b ≡ is_name (name_at names n)
unfolding name_at
slot_named names n xs ys b s z h = h ∙ rw (z, s.is)

abbrev pub has_no_name : Action → Bool
has_no_name (Raise n) = false
has_no_name (Host n) = true
has_no_name (If i) = true
has_no_name (ElseIf i) = true
has_no_name Else = true
has_no_name End = true
has_no_name (Send n delay id) = false
has_no_name (Cancel n) = false

-- what rule 1 gives of the names of an action
pub raise_low : (numbers : List ℕ) (n : ℕ) (x : Action) → x ≡ Raise n → fits_number numbers x ≡ true → n < name_count numbers
unfolding fits_number
raise_low numbers n x e h = ltb-true _ _ (rw e at h)

pub cancel_low : (numbers : List ℕ) (n : ℕ) (x : Action) → x ≡ Cancel n → fits_number numbers x ≡ true → n < name_count numbers
unfolding fits_number
cancel_low numbers n x e h = ltb-true _ _ (rw e at h)

pub send_low : (numbers : List ℕ) (n delay id : ℕ) (x : Action) → x ≡ Send n delay id → fits_number numbers x ≡ true → (n < name_count numbers) × (optional_below (name_count numbers) id ≡ true)
unfolding fits_number
send_low numbers n delay id x e h =
    let k = and3 (ltb n (name_count numbers)) (leb delay most_delay) (optional_below (name_count numbers) id) (rw e at h) in (ltb-true _ _ k.0, k.2)

-- an action of the table, judged by what it is
pub judged : (numbers names : List ℕ) (a : ℕ) (x y : Action) (b : Bool) → x ≡ action_at numbers a → x ≡ y → b ≡ raise_fits names y → b ≡ action_named numbers names a
unfolding action_named
judged numbers names a x y b e q h = h ∙ rw (← q, e)

pub raise_named : (names : List ℕ) (n : ℕ) → is_name (name_at names n) ≡ raise_fits names (Raise n)
unfolding raise_fits
raise_named names n = refl

pub cancel_named : (names : List ℕ) (n : ℕ) → is_name (name_at names n) ≡ raise_fits names (Cancel n)
unfolding raise_fits
cancel_named names n = refl

pub send_named : (names : List ℕ) (n delay id : ℕ) (a b : Bool) → a ≡ is_name (name_at names n) → b ≡ (eqb id no_number || is_name (name_at names id)) → (a && b) ≡ raise_fits names (Send n delay id)
unfolding raise_fits
send_named names n delay id a b e q = rw (e, q)

-- no other action has a name
pub nameless : (names : List ℕ) (x : Action) → has_no_name x ≡ true → true ≡ raise_fits names x
unfolding raise_fits
nameless names (Raise n) h = absurd (no h)
nameless names (Host n) h = refl
nameless names (If i) h = refl
nameless names (ElseIf i) h = refl
nameless names Else h = refl
nameless names End h = refl
nameless names (Send n delay id) h = absurd (no h)
nameless names (Cancel n) h = absurd (no h)

-- a send id or none
pub none_named : (names : List ℕ) (n : ℕ) → n ≡ no_number → true ≡ (eqb n no_number || is_name (name_at names n))
none_named names n e = rw e

pub other_named : (names : List ℕ) (n : ℕ) (b : Bool) → (n ≡ no_number → ⊥) → b ≡ is_name (name_at names n) → b ≡ (eqb n no_number || is_name (name_at names n))
other_named names n b d e = rw (ne_eqb n no_number d, e)
