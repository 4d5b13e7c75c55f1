use Rattle.match_bench.specs.Ways.{answer_other, answer_four, one_or_none, by_places}
use Rattle.match_bench.proofs.match_bench_one_pass.Goals as goal

pub returns-then-slots : goal.returns-then-slots
returns-then-slots c = answer_other _ _ c.if-slots.true

pub returns : goal.returns
returns c = answer_four _ _ _ _ c.if-slots.false (by_places _ _ _ c.any_matches.ensures) (one_or_none _ _ c.from.ensures)
