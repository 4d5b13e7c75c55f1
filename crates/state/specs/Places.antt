-- What is read of places that spell a state, and that a well-formed state is found again in them.
use Rattle.std.specs.Prelude.{◌≡◌, ℕ, ◌≤◌, length, get_or, take}
use Rattle.std.proofs.Common.{sym, ◌∙◌, zero-add}
use Rattle.std.proofs.Math.Path.{ap}
use mathlib.Core.List.{List, [], map}
use Rattle.definition.specs.Rows.{from}
use Rattle.definition.specs.Chart.{Chart}
use Rattle.follower.specs.Microstep.{stored_in}
use Rattle.definition.specs.Answers.{mode_no}
use Rattle.follower.specs.Follower.{Follower}
use Rattle.definition.specs.Compiled.{words}
use Rattle.laws.specs.Maps.{map_reads}
use Rattle.accepted.specs.Tree.{Tree}
use Rattle.rowset.specs.Member.{rows_of}
use Rattle.chart.specs.Ready.{row_set_at}
use Rattle.paths.specs.History.{stored_at}
use Rattle.queue.specs.Queues.{queue_of, queue_length}
use Rattle.state.specs.State.{history_words, rows_at, mode_from, configuration_in, history_in, internal_in, external_in, mode_in, Spells, Holds, state_of}
use Rattle.state.specs.Words.{words_length, history_length}
use Rattle.state.specs.Found.{mode_again, queue_again, history_reads, configuration_is}
use Rattle.state.specs.Numbers.{numbers_length, numbers_words, numbers_history, numbers_internal, numbers_external, numbers_mode, first_set}

module _ (f : Follower) (numbers internal external : List ℕ) (s : Spells f numbers internal external) where
  abbrev conf : List ℕ
  conf = words f.configuration

  abbrev sets : List ℕ
  sets = history_words f.history

  pub numbers_size : length numbers ≡ 1031
  numbers_size = ap length s.numbers_are ∙ numbers_length conf sets (length f.internal) (length f.external) (mode_no f.mode) (words_length _) (history_length _)

  pub internal_size : length internal ≡ 2048
  internal_size = ap length s.internal_is ∙ queue_length f.internal

  pub external_size : length external ≡ 2048
  external_size = ap length s.external_is ∙ queue_length f.external

  pub reads_words : take 4 numbers ≡ conf
  reads_words = ap (take 4) s.numbers_are ∙ numbers_words conf sets (length f.internal) (length f.external) (mode_no f.mode) (words_length _) (history_length _)

  pub reads_history : history_in numbers ≡ sets
  reads_history = ap (λ (ws : List ℕ). history_in ws) s.numbers_are ∙ numbers_history conf sets (length f.internal) (length f.external) (mode_no f.mode) (words_length _) (history_length _)

  pub history_size : length (history_in numbers) ≡ 1024
  history_size = ap length reads_history ∙ history_length f.history

  pub reads_internal : internal_in numbers ≡ length f.internal
  reads_internal = ap (λ (ws : List ℕ). internal_in ws) s.numbers_are ∙ numbers_internal conf sets (length f.internal) (length f.external) (mode_no f.mode) (words_length _) (history_length _)

  pub reads_external : external_in numbers ≡ length f.external
  reads_external = ap (λ (ws : List ℕ). external_in ws) s.numbers_are ∙ numbers_external conf sets (length f.internal) (length f.external) (mode_no f.mode) (words_length _) (history_length _)

  pub reads_number : get_or numbers 1030 0 ≡ mode_no f.mode
  reads_number = ap (λ (ws : List ℕ). get_or ws 1030 0) s.numbers_are ∙ numbers_mode conf sets (length f.internal) (length f.external) (mode_no f.mode) (words_length _) (history_length _)

  pub reads_mode : mode_in numbers ≡ f.mode
  reads_mode = ap mode_from reads_number ∙ mode_again f.mode

module _ (c : Chart) (t : Tree c) (few : c.rows ≤ 256) (f : Follower) (numbers internal external : List ℕ) (h : Holds c f numbers internal external) where
  pub reads_configuration : rows_of (configuration_in numbers) ≡ f.configuration
  reads_configuration =
      sym (ap rows_of (first_set numbers)) ∙ ap (λ (ws : List ℕ). rows_of (row_set_at ws 0)) (reads_words f numbers internal external h.spells) ∙ (unfold rows_at in configuration_is c t few f h.formed)

  pub reads_stored : (i : ℕ) → stored_at (history_in numbers) i ≡ stored_in f.history i
  reads_stored i = ap (λ (ws : List ℕ). stored_at ws i) (reads_history f numbers internal external h.spells) ∙ history_reads c t few f h.formed i

  -- the state is found again in its places
  pub state_again : state_of c.rows numbers internal external ≡ f
  unfolding state_of
  state_again =
      let s = h.spells in
      let w = h.formed in
      let a = reads_configuration in
      let b : map (stored_at (history_in numbers)) (from c.rows 0) ≡ f.history =
      ap (λ (n : ℕ). map (stored_at (history_in numbers)) (from n 0)) (sym w.places) ∙
      map_reads (stored_at (history_in numbers)) f.history 0 [] (λ i l. ap (stored_at (history_in numbers)) (zero-add i) ∙ reads_stored i) in
      let n : queue_of internal (internal_in numbers) ≡ f.internal = rw (s.internal_is, reads_internal f numbers internal external s) (queue_again f.internal w.internal_short w.internal_names) in
      let x : queue_of external (external_in numbers) ≡ f.external = rw (s.external_is, reads_external f numbers internal external s) (queue_again f.external w.external_short w.external_names) in
      let m = reads_mode f numbers internal external s in
      λ i. record { configuration = a i; history = b i; internal = n i; external = x i; mode = m i }
