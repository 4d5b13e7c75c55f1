use Rattle.session.specs.Parts.{session_judged}
use Rattle.session.proofs.judging.parts_hold.Goals as goal

pub returns : goal.returns
returns c =
    session_judged _ _ _ _ _ _ _ _ _ _ _ _ _ c.requires.0 c.requires.1
    (record { fits = λ k. (c.shared_slice_known-2-1.given k).fits }) (record { fits = λ k. (c.shared_slice_known-3-1.given k).fits })
    c.set_at-conf.ensures c.queue_fits.ensures c.queue_fits-2.ensures c.mode_holds.ensures c.history_holds.ensures
