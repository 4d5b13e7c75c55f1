use Rattle.rounds.specs.Judging.{judged_full, judged_room, judged_did}
use Rattle.rounds.proofs.judging.judge.Goals as goal

pub returns-then-free-tally : goal.returns-then-free-tally
returns-then-free-tally c = judged_full c.args.kept c.args.room c.args.tally c.requires c.if-free-tally.true

pub returns-then-left-tally : goal.returns-then-left-tally
returns-then-left-tally c = judged_room c.args.kept c.args.room c.args.tally c.requires c.if-free-tally.false c.if-left-tally.true

pub returns : goal.returns
returns c = judged_did c.args.kept c.args.room c.args.tally c.requires c.if-free-tally.false c.if-left-tally.false
