-- "done.state." has 11 bytes and a slot 64: for tables that keep the rules the done name of every row fits its slot, with a zero behind it.
use Rattle.std.specs.Prelude.{◌≡◌, refl, true, false, List, [], ◌∷◌, ℕ, zero, suc, ◌≤◌, ◌<◌, length, get_or, replicate}
use Rattle.std.proofs.Common.{ap, ◌∙◌, arith}
use Rattle.definition.specs.declared.Answer.TheVariants.{Done}
use Rattle.definition.specs.Names.{Name, is_id, done_name, before_zero}
use Rattle.definition.specs.Tables.{row_count, id_at, name_at, slot_of}
use Rattle.definition.specs.Rules.{keeps_rules}
use Rattle.follower.specs.Open.{everything}
use Rattle.accepted.specs.NameFacts.{name_length}
use Rattle.accepted.specs.Sound.{accepted_rule1, accepted_rule2, accepted_sound}
use Rattle.theory.specs.Queues.{row_done_name}
use Rattle.names.specs.Slots.{padded, slot_padded, name_in_slot}

-- the done name of an id in its slot: all of its bytes, and at least one zero
pub record DoneSlot (id : Name) : Type 0 where
  pub short : length (done_name id) ≤ 63
  pub found : before_zero (slot_of (done_name id)) ≡ done_name id
  pub last : get_or (slot_of (done_name id)) 63 1 ≡ 0

-- behind a name that leaves room stands a zero
padded_last : (k : ℕ) (n : Name) → length n ≤ k → get_or (padded (suc k) n) k 1 ≡ 0
unfolding padded
padded_last zero [] h = refl
padded_last zero (b ∷ n) h = absurd (omega arith)
padded_last (suc k) [] h = padded_last k [] (omega arith)
padded_last (suc k) (b ∷ n) h = padded_last k n (omega arith)

module _ (numbers names : List ℕ) (kept : keeps_rules numbers names ≡ Done) where
  pub slot_never_overflows : (i : ℕ) → suc i < row_count numbers → DoneSlot (name_at names (id_at numbers (suc i)))
  slot_never_overflows i l =
      let id : Name = name_at names (id_at numbers (suc i)) in
      let n = row_done_name numbers names (accepted_rule1 numbers names kept) (accepted_rule2 numbers names kept) (accepted_sound numbers names kept).tree i l in
      let s = (name_length (done_name id) n).1 in
      record { short = s; found = name_in_slot (done_name id) n; last = ap (λ (b : List ℕ). get_or b 63 1) (slot_padded (done_name id)) ∙ padded_last 63 (done_name id) s }

-- an id of 52 bytes, the longest: its done name has 63, and the slot's last byte is the only zero; one byte more is no id
abbrev longest : Name
longest = replicate 52 97

pub longest_slot : (is_id longest ≡ true) × (length (done_name longest) ≡ 63) × (get_or (slot_of (done_name longest)) 62 1 ≡ 97) × (get_or (slot_of (done_name longest)) 63 1 ≡ 0) × (is_id (97 ∷ longest) ≡ false)
unfolding everything
longest_slot = (refl, refl, refl, refl, refl)
