use Rattle.tags.specs.Cells.{clear_done}
use Rattle.tags.proofs.next_tag.Goals as goal

pub walk_to_tag-requires : goal.walk_to_tag-requires
walk_to_tag-requires c = (clear_done _ _ c.requires.0 (c.fill.ensures.after (λ y e. e)), c.requires.1)
