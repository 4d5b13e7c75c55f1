-- A transition that is taken, piece by piece: itself, the row that chose it, its block.
use Rattle.std.specs.Prelude.{List, [], ◌∷◌, ℕ, get_or}
use Rattle.definition.specs.Chart.{Chart}
use Rattle.follower.specs.Blocks.{taken, chosen, performed}
use Rattle.follower.specs.Microstep.{transition_effects}
use Rattle.effects.specs.declared.Tally.{Tally}
use Rattle.effects.specs.Trace.{Places, Wrote, Room}
use Rattle.effects.specs.Writing.{wrote_both, room_first, room_next}

-- the row that chose transition t, where a list has a place for each transition
abbrev pub chooser_in : List ℕ → ℕ → ℕ
chooser_in by t = get_or by t 0

module _ (c : Chart) (stay : List ℕ) (by : ℕ → ℕ) (u : ℕ) (old : Places) (t : Tally) (m : Room t (transition_effects c stay by u)) where
  whole : Room t (taken u ∷ chosen (by u) ∷ performed stay (c.transition u).block)
  unfolding transition_effects
  whole = m

  pub taken_room : Room t (taken u ∷ [])
  taken_room = room_first t (taken u ∷ []) (chosen (by u) ∷ performed stay (c.transition u).block) whole

  module _ (old1 : Places) (t1 : Tally) (w1 : Wrote old old1 t t1 (taken u ∷ [])) where
    after_taken : Room t1 (chosen (by u) ∷ performed stay (c.transition u).block)
    after_taken = room_next old old1 t t1 (taken u ∷ []) (chosen (by u) ∷ performed stay (c.transition u).block) whole w1

    pub chosen_room : Room t1 (chosen (by u) ∷ [])
    chosen_room = room_first t1 (chosen (by u) ∷ []) (performed stay (c.transition u).block) after_taken

    module _ (old2 : Places) (t2 : Tally) (w2 : Wrote old1 old2 t1 t2 (chosen (by u) ∷ [])) where
      pub taken_block_room : Room t2 (performed stay (c.transition u).block)
      taken_block_room = room_next old1 old2 t1 t2 (chosen (by u) ∷ []) (performed stay (c.transition u).block) after_taken w2

      pub taken_wrote : (old3 : Places) (t3 : Tally) → Wrote old2 old3 t2 t3 (performed stay (c.transition u).block) → Wrote old old3 t t3 (transition_effects c stay by u)
      unfolding transition_effects
      taken_wrote old3 t3 w3 =
          wrote_both old old1 old3 t t1 t3 (taken u ∷ []) (chosen (by u) ∷ performed stay (c.transition u).block) w1
          (wrote_both old1 old2 old3 t1 t2 t3 (chosen (by u) ∷ []) (performed stay (c.transition u).block) w2 w3)
