-- R-13, second half, of the program: every completed round of every run, whatever is lent and whatever session the run is given.
use Rattle.std.specs.Prelude.{◌≡◌, true, false, List, ℕ, suc, ◌<◌}
use Rattle.std.proofs.Math.Path.{sym, ap}
use Rattle.std.proofs.Common.{◌∙◌, arith}
use Rattle.definition.specs.declared.Mode.TheVariants.{Running}
use Rattle.definition.specs.declared.Answer.TheVariants.{Done}
use Rattle.definition.specs.Chart.{Chart}
use Rattle.definition.specs.Tables.{row_count, chart_of, name_at}
use Rattle.definition.specs.Rules.{keeps_rules}
use Rattle.follower.specs.Follower.{Follower, Ran, run}
use Rattle.definition.specs.Compiled.{own_numbers, is_compiled}
use Rattle.laws.specs.Bools.{bool_case}
use Rattle.theory.specs.Runs.{joined}
use Rattle.theory.specs.Shown.{taken_in}
use Rattle.anyorder.specs.OneByOne.{AnyOrder}
use Rattle.anyorder.proofs.AnyOrder.{any_order}
use Rattle.state.specs.State.{mode_from}
use Rattle.session.specs.declared.Session.{Session}
use Rattle.session.specs.declared.Clock.{Clock}
use Rattle.session.specs.Sessions.{view, view_timed, is_timed, refused_run, ran_as, run_of}
use Rattle.faithful.specs.Program.{round_effects}
use Rattle.faithful.proofs.Faithful.{Means}
use Rattle.faithful.specs.Cuts.{one_more, next_round}
use Rattle.faithful.proofs.Completed.{refused_none, runs_as, kept, seen, entries}
use Rattle.faithful.proofs.Demand3.{own_accepted, own_means}

-- round k, counted from 0, of a run: from the session that a run of k rounds hands back to the one that a run of k + 1 hands back
abbrev pub InAnyOrder : Chart → List ℕ → List ℕ → Session → Clock → ℕ → ℕ → ℕ → Type 0
InAnyOrder c chart names s y rounds room k =
    AnyOrder c (view c.rows (run_of s y chart names k room).session) (view c.rows (run_of s y chart names (suc k) room).session) (taken_in (round_effects chart names s y rounds room k))

module _ (numbers names chart slots : List ℕ) (accepted : keeps_rules numbers names ≡ Done) (m : Means numbers names chart slots) (s : Session) (y : Clock) (h : is_timed (chart_of numbers) s y ≡ true)
    (rounds room k : ℕ) where
  abbrev c : Chart
  c = chart_of numbers

  abbrev r : ℕ → Ran
  r n = run c (name_at names) n (view_timed (row_count numbers) s y) room

  seen_by : (n : ℕ) → view (row_count numbers) (run_of s y chart slots n room).session ≡ (r n).state.follower
  seen_by n = seen numbers names chart slots accepted m s y h rounds room n

  passing_ordered : k < (r rounds).rounds → mode_from (run_of s y chart slots k room).session.mode ≡ Running → InAnyOrder c chart slots s y rounds room k
  passing_ordered l q =
      let o = next_round c (name_at names) k rounds (view_timed (row_count numbers) s y) room l in
      let running : (r k).state.follower.mode ≡ Running = unfold view in sym (ap (λ (x : Follower). x.mode) (seen_by k)) ∙ q in
      let next : (r (suc k)).state.follower ≡ o.next = unfold joined in ap (λ (x : Ran). x.state.follower) (one_more c (name_at names) k (view_timed (row_count numbers) s y) room) ∙ o.reached in
      rw (seen_by k, seen_by (suc k), next, entries numbers names chart slots accepted m s y h rounds room k l, o.left)
      (any_order numbers names accepted (r k).state.follower (kept numbers names chart slots accepted m s y h rounds room k).session running o.next o.effects o.did_it)

pub any_order_of_runs : (chart names : List ℕ) (s : Session) (y : Clock) (rounds room k : ℕ) → k < (run_of s y chart names rounds room).rounds →
    mode_from (run_of s y chart names k room).session.mode ≡ Running → InAnyOrder (chart_of (own_numbers chart)) chart names s y rounds room k
any_order_of_runs chart names s y rounds room k l q = bool_case (is_compiled chart names) checked (λ z. absurd (let e = refused_chart z in omega arith))
  where
    refused_chart : is_compiled chart names ≡ false → (run_of s y chart names rounds room).rounds ≡ 0
    refused_chart z = unfold run_of refused_run in rw z

    checked : is_compiled chart names ≡ true → InAnyOrder (chart_of (own_numbers chart)) chart names s y rounds room k
    checked z =
        let a = own_accepted chart names z in
        let m = own_means chart names z in
        bool_case (is_timed (chart_of (own_numbers chart)) s y)
        (λ h. passing_ordered (own_numbers chart) names chart names a m s y h rounds room k (unfold ran_as in rw (runs_as (own_numbers chart) names chart names a m s y h rounds room rounds) at l) q)
        (λ h. absurd (let e = refused_none (own_numbers chart) names chart names a m s y rounds room h in omega arith))
