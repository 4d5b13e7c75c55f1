-- A post over lent places.
use Rattle.std.specs.Prelude.{◌≡◌, true, false, not, List, ◌++◌, ℕ, ◌+◌, ◌*◌, ◌≤◌, ◌<◌, length, get_or, take, drop, set}
use Rattle.std.proofs.Common.{sym, ap, ◌∙◌, arith, length-set, get_or-set_same, get_or-set_other}
use Rattle.std.proofs.lemmas.List.{take-set-le, drop-set-add}
use Rattle.definition.specs.declared.Answer.TheVariants.{Done, NotAName, Full, BadChart, BadSession, SessionEnded}
use Rattle.definition.specs.Names.{Name, is_name}
use Rattle.definition.specs.Tables.{chart_of, slot_of}
use Rattle.definition.specs.Compiled.{is_compiled}
use Rattle.queue.specs.Queues.{SlotInside}
use Rattle.session.specs.declared.Session.{Session}
use Rattle.session.specs.Sessions.{session, is_session, posted, post_of}
use Rattle.session.specs.Posting.{post_bad_chart, post_good_chart, post_bad_session, post_no_name, post_ended, post_full, post_done}
use Rattle.lent.specs.declared.Checks.{Checks}
use Rattle.lent.specs.Places.{session_in, Checked}
use Rattle.lent.specs.Lent.{LengthsIn, in_places, chart_bad, chart_good, session_bad, session_good, known_ready, known_lengths, parted}

-- a slot behind fewer than 32 names
pub slot_inside : (bytes : List ℕ) (k : ℕ) → length bytes ≡ 2048 → k < 32 → SlotInside bytes k
slot_inside bytes k l h = record { inside = omega arith }

-- the count of the names in the external queue set anew
module _ (numbers internal external : List ℕ) (v : ℕ) (size : length numbers ≡ 1031) where
  history_stays : take 1024 (drop 4 (set numbers 1029 v)) ≡ take 1024 (drop 4 numbers)
  history_stays = rw (drop-set-add 4 numbers 1025 v) (take-set-le 1024 (drop 4 numbers) 1025 v (omega arith))

  pub one_more : session_in (set numbers 1029 v) internal external ≡ session (take 4 numbers) (take 1024 (drop 4 numbers)) internal external (get_or numbers 1028 0) v (get_or numbers 1030 0)
  one_more =
      let e0 = take-set-le 4 numbers 1029 v (omega arith) in
      let e1 = history_stays in
      let e4 = get_or-set_other numbers 1029 1028 v 0 (λ e. omega arith) in
      let e5 = get_or-set_same numbers 1029 v 0 (omega arith) in
      let e6 = get_or-set_other numbers 1029 1030 v 0 (λ e. omega arith) in
      in_places (set numbers 1029 v) internal external (length-set numbers 1029 v ∙ size) ∙ (λ j. session (e0 j) (e1 j) internal external (e4 j) (e5 j) (e6 j))

module _ (chart names numbers internal external : List ℕ) (name : Name) (k : Checks) (e : Checked chart names (session_in numbers internal external) k) where
  abbrev s : Session
  s = session_in numbers internal external

  pub post_8 : not k.chart ≡ true → posted s BadChart ≡ post_of s chart names name
  post_8 t = post_bad_chart s chart names name (chart_bad chart names s k e t)

  module _ (a : not k.chart ≡ false) where
    good : is_compiled chart names ≡ true
    good = chart_good chart names s k e a

    pub post_9 : not k.session ≡ true → posted s BadSession ≡ post_of s chart names name
    post_9 t = post_good_chart s chart names name good _ (post_bad_session (chart_of chart) s name (session_bad chart names s k e good t))

    module _ (b : not k.session ≡ false) where
      passes : is_session (chart_of chart) s ≡ true
      passes = session_good chart names s k e b

      apart : s ≡ session (take 4 numbers) (take 1024 (drop 4 numbers)) internal external (get_or numbers 1028 0) (get_or numbers 1029 0) (get_or numbers 1030 0)
      apart = parted chart names numbers internal external good passes

      pub post_lengths : LengthsIn numbers internal external
      post_lengths = known_lengths chart names numbers internal external good passes

      mode_at : s.mode ≡ get_or numbers 1030 0
      mode_at = ap (λ (x : Session). x.mode) apart

      outer_at : s.external_count ≡ get_or numbers 1029 0
      outer_at = ap (λ (x : Session). x.external_count) apart

      external_at : s.external ≡ external
      external_at = ap (λ (x : Session). x.external) apart

      pub post_6 : is_name name ≡ false → posted s NotAName ≡ post_of s chart names name
      post_6 n = post_good_chart s chart names name good _ (post_no_name (chart_of chart) s name passes n)

      module _ (n : is_name name ≡ true) where
        pub post_11 : get_or numbers 1030 0 ≡ 0 → posted s SessionEnded ≡ post_of s chart names name
        post_11 m = post_good_chart s chart names name good _ (post_ended (chart_of chart) s name passes n (mode_at ∙ m))

        module _ (m : get_or numbers 1030 0 ≡ 0 → ⊥) where
          live : s.mode ≡ 0 → ⊥
          live z = m (sym mode_at ∙ z)

          pub post_7 : 32 ≤ get_or numbers 1029 0 → posted s Full ≡ post_of s chart names name
          post_7 l = post_good_chart s chart names name good _ (post_full (chart_of chart) s name passes n live (rw outer_at l))

          pub post_0 : (queue : List ℕ) → get_or numbers 1029 0 < 32 → queue ≡ take (get_or numbers 1029 0 * 64) external ++ (slot_of name ++ drop (get_or numbers 1029 0 * 64 + 64) external) →
              posted (session_in (set numbers 1029 (get_or numbers 1029 0 + 1)) internal queue) Done ≡ post_of s chart names name
          post_0 queue l q =
              let done = post_done (chart_of chart) (known_ready chart names numbers internal external good passes).ready.sound s passes name queue (rw outer_at l) (rw (outer_at, external_at) q) n live in
              let p = one_more numbers internal queue (get_or numbers 1029 0 + 1) (known_lengths chart names numbers internal external good passes).numbers in
              let d = apart in
              let r : posted (session (take 4 numbers) (take 1024 (drop 4 numbers)) internal queue (get_or numbers 1028 0) (get_or numbers 1029 0 + 1) (get_or numbers 1030 0)) Done ≡
              posted (session s.configuration s.history s.internal queue s.internal_count (s.external_count + 1) s.mode) Done =
              sym (λ j. posted (session (d j).configuration (d j).history (d j).internal queue (d j).internal_count ((d j).external_count + 1) (d j).mode) Done) in
              post_good_chart s chart names name good _ (ap (λ (x : Session). posted x Done) p ∙ r ∙ done)
