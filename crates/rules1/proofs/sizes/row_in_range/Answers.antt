use mathlib.Core.Path.{sym, ◌∙◌}
use Rattle.definition.specs.Rules.{row_in_range}
use Rattle.rules1.specs.Inside.{no_parts}
use Rattle.rules1.proofs.sizes.row_in_range.Goals as goal

pub returns-then-has_no_parts : goal.returns-then-has_no_parts
returns-then-has_no_parts c =
    no_parts _ _ _ (sym c.has_no_parts.ensures ∙ c.if-has_no_parts.true) (rw (
      c.is_optional_below-2.ensures,
      c.is_optional_below.ensures,
      c.name_count.ensures,
      c.row_count.ensures,
      c.row_cell-id.ensures,
      c.row_cell-parent.ensures,
      c.row_cell-kind.ensures,
      c.from.ensures,
    ))

pub returns : goal.returns
unfolding row_in_range
returns c = rw (
  c.row_block_fits-3.ensures,
  c.is_inside.ensures,
  c.row_block_fits-2.ensures,
  c.row_block_fits.ensures,
  c.is_optional_below-2.ensures,
  c.is_optional_below.ensures,
  c.reference_count.ensures,
  c.name_count.ensures,
  c.row_count.ensures,
  c.row_cell-count.ensures,
  c.row_cell-start.ensures,
  c.row_cell-id.ensures,
  c.row_cell-parent.ensures,
  c.row_cell-kind.ensures,
  c.from.ensures,
)
