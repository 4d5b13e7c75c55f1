use Rattle.compiler.specs.Results.{no_counts, too_short, refused_tables, refused_above, refused_lists, refused_transitions, own_tables, own_tree, own_climbed, own_kept, check_room, checked}
use lib.Seq.{length-take-le}
use mathlib.Core.Path.{refl, sym, ◌∙◌}
use Rattle.tables.specs.Ranges.{counts_of}
use Rattle.compiler.proofs.check.Goals as goal

pub returns-then-not-counts_fit : goal.returns-then-not-counts_fit
returns-then-not-counts_fit c = no_counts _ _ (sym c.counts_fit.ensures ∙ c.if-not-counts_fit.true)

pub tables_size-size-requires : goal.tables_size-size-requires
tables_size-size-requires c = counts_of _ (sym c.counts_fit.ensures ∙ c.if-not-counts_fit.false)

pub returns-then-place-size : goal.returns-then-place-size
returns-then-place-size c = too_short _ _ _ c.tables_size-size.ensures c.if-place-size.true

pub slice_bounds-numbers-end : goal.slice_bounds-numbers-end
slice_bounds-numbers-end c = sym (length-take-le _ _ c.if-place-size.false)

pub returns-then-not-keeps_tables : goal.returns-then-not-keeps_tables
returns-then-not-keeps_tables c = refused_tables _ _ _ c.tables_size-size.ensures c.if-place-size.false _ c.keeps_tables.ensures c.if-not-keeps_tables.true

pub ancestors_hold-requires : goal.ancestors_hold-requires
ancestors_hold-requires c = own_tree _ _ _ c.tables_size-size.ensures c.if-place-size.false _ c.keeps_tables.ensures c.if-not-keeps_tables.false

pub returns-then-not-ancestors_hold : goal.returns-then-not-ancestors_hold
returns-then-not-ancestors_hold c = refused_above _ _ _ c.tables_size-size.ensures c.if-place-size.false _ c.ancestors_hold.ensures c.if-not-ancestors_hold.true

pub lists_keep-requires : goal.lists_keep-requires
lists_keep-requires c = own_climbed _ _ _ c.tables_size-size.ensures c.if-place-size.false _ c.keeps_tables.ensures c.if-not-keeps_tables.false _ c.ancestors_hold.ensures c.if-not-ancestors_hold.false

pub returns-then-not-lists_keep : goal.returns-then-not-lists_keep
returns-then-not-lists_keep c = refused_lists _ _ _ c.tables_size-size.ensures c.if-place-size.false _ c.lists_keep.ensures c.if-not-lists_keep.true

pub keeps_transitions-requires : goal.keeps_transitions-requires
keeps_transitions-requires c = own_tables _ _ _ c.tables_size-size.ensures c.if-place-size.false _ c.keeps_tables.ensures c.if-not-keeps_tables.false

pub returns-then-not-keeps_transitions : goal.returns-then-not-keeps_transitions
returns-then-not-keeps_transitions c = refused_transitions _ _ _ c.tables_size-size.ensures c.if-place-size.false _ c.keeps_transitions.ensures c.if-not-keeps_transitions.true

pub has_columns-requires : goal.has_columns-requires
has_columns-requires c = (check_room _ _ _ _ c.tables_size-size.ensures (own_kept _ _ _ c.tables_size-size.ensures c.if-place-size.false _ c.keeps_tables.ensures c.if-not-keeps_tables.false _ _ c.lists_keep.ensures c.if-not-lists_keep.false c.keeps_transitions.ensures c.if-not-keeps_transitions.false) refl c.if-place-size.false, record { are = sym c.ancestors_hold.ensures ∙ c.if-not-ancestors_hold.false })

pub returns : goal.returns
returns c = checked _ _ _ _ c.tables_size-size.ensures (own_kept _ _ _ c.tables_size-size.ensures c.if-place-size.false _ c.keeps_tables.ensures c.if-not-keeps_tables.false _ _ c.lists_keep.ensures c.if-not-lists_keep.false c.keeps_transitions.ensures c.if-not-keeps_transitions.false) refl c.if-place-size.false _ c.has_columns.ensures
