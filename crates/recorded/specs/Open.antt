-- One name that opens every definition of R-10, for a proof by computation: `unfolding everything recording`, with that of crate follower.
use Rattle.recorded.specs.Journal.{behind, unless_full, onwards, exactly, accepted, again, started_at, on_to, through, replayed, unless_no_room, replay}
use Rattle.recorded.specs.Recorded.{entries, journal_after, is_such, is_full, leaving, recorded_by, back_to, back, follow_recorded, follow_all_recorded, recorded_at_rest}

unfoldable pub recording : Unit {0}
unfolding behind unless_full onwards exactly accepted again started_at on_to through replayed unless_no_room replay entries journal_after is_such is_full leaving recorded_by back_to back follow_recorded follow_all_recorded recorded_at_rest
recording = tt
