use Rattle.read_text.specs.Fill.{fill_file, fill_heads, fill_cells, fill_done}
use Rattle.read_text.proofs.fill.fill_tables.Goals as goal

pub file_items-requires : goal.file_items-requires
file_items-requires c = fill_file _ _ _ _ _ _ _ _ _ c.requires

pub lay_heads-requires : goal.lay_heads-requires
lay_heads-requires c = fill_heads _ _ _ _ _ _ _ _ _ c.requires _ _ _ _ c.file_items.ensures c.file_items.auto.out

pub lay_cells-requires : goal.lay_cells-requires
lay_cells-requires c = fill_cells _ _ _ _ _ _ _ _ _ c.requires _ _ _ _ c.file_items.ensures c.file_items.auto.out _ _ _ c.lay_heads.ensures c.lay_heads.auto.out

pub returns : goal.returns
returns c = fill_done _ _ _ _ _ _ _ _ _ c.requires _ _ _ _ c.file_items.ensures c.file_items.auto.out _ _ _ c.lay_heads.ensures c.lay_heads.auto.out _ c.lay_cells.ensures
