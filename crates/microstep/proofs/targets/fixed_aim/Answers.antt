-- `fixed_aim`: the only target, where it is a child of the domain; else the anchors and their ancestors below it.
use mathlib.Core.Path.{ap, ◌∙◌}
use Rattle.follower.specs.Microstep.{paths_below}
use Rattle.microstep.specs.Targets.{child_aim, anchors_within}
use Rattle.microstep.proofs.targets.fixed_aim.Goals as goal

pub returns-then-parent_of-d : goal.returns-then-parent_of-d
returns-then-parent_of-d c =
    let pre = c.requires in
    child_aim _ pre.0.ready.sound _ _ _ pre.0.inside pre.2 _ c.targets_of-targets.ensures.is c.if-targets-eq1.true c.row_at-x.ensures.is _
    c.parent_of.ensures c.if-parent_of-d.true _ c.single.ensures

pub paths_below-requires : goal.paths_below-requires
paths_below-requires c = let pre = c.requires in (pre.1, anchors_within _ pre.0.ready.sound _ pre.0.inside _ c.anchors_of.ensures)

pub returns : goal.returns
returns c = c.paths_below.ensures ∙ ap (paths_below _ _) c.anchors_of.ensures
