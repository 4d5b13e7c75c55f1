use borrow.Author.Rules.{rules}
use mathlib.Core.Path.{sym, ◌∙◌}
use Rattle.laws.specs.Loops.{said-laws}
use Rattle.tables.specs.Ranges.{sized_of}
use Rattle.rules1.specs.Verdicts.{size-laws}
use Rattle.rules1.proofs.sizes.keeps_sizes.Goals as goal

pub returns-then-not-counts_fit : goal.returns-then-not-counts_fit
returns-then-not-counts_fit c = search (rules, said-laws, size-laws)

pub sizes_fit-requires : goal.sizes_fit-requires
sizes_fit-requires c = search (rules, said-laws)

pub returns-then-not-sizes_fit : goal.returns-then-not-sizes_fit
returns-then-not-sizes_fit c = search (rules, said-laws, size-laws)

pub rows_in_range-requires : goal.rows_in_range-requires
rows_in_range-requires c =
    let counts = sym c.counts_fit.ensures ∙ c.if-not-counts_fit.false in
    let sizes = sym c.sizes_fit.ensures ∙ c.if-not-sizes_fit.false in
    sized_of _ _ _ _ counts sizes

pub returns-then-not-rows_in_range : goal.returns-then-not-rows_in_range
returns-then-not-rows_in_range c = search (rules, said-laws, size-laws)

pub transitions_in_range-requires : goal.transitions_in_range-requires
transitions_in_range-requires c =
    let counts = sym c.counts_fit.ensures ∙ c.if-not-counts_fit.false in
    let sizes = sym c.sizes_fit.ensures ∙ c.if-not-sizes_fit.false in
    sized_of _ _ _ _ counts sizes

pub returns-then-not-transitions_in_range : goal.returns-then-not-transitions_in_range
returns-then-not-transitions_in_range c = search (rules, said-laws, size-laws)

pub references_in_range-requires : goal.references_in_range-requires
references_in_range-requires c =
    let counts = sym c.counts_fit.ensures ∙ c.if-not-counts_fit.false in
    let sizes = sym c.sizes_fit.ensures ∙ c.if-not-sizes_fit.false in
    sized_of _ _ _ _ counts sizes

pub returns-then-not-references_in_range : goal.returns-then-not-references_in_range
returns-then-not-references_in_range c = search (rules, said-laws, size-laws)

pub descriptors_in_range-requires : goal.descriptors_in_range-requires
descriptors_in_range-requires c =
    let counts = sym c.counts_fit.ensures ∙ c.if-not-counts_fit.false in
    let sizes = sym c.sizes_fit.ensures ∙ c.if-not-sizes_fit.false in
    sized_of _ _ _ _ counts sizes

pub returns-then-not-descriptors_in_range : goal.returns-then-not-descriptors_in_range
returns-then-not-descriptors_in_range c = search (rules, said-laws, size-laws)

pub actions_in_range-requires : goal.actions_in_range-requires
actions_in_range-requires c =
    let counts = sym c.counts_fit.ensures ∙ c.if-not-counts_fit.false in
    let sizes = sym c.sizes_fit.ensures ∙ c.if-not-sizes_fit.false in
    sized_of _ _ _ _ counts sizes

pub returns : goal.returns
returns c = search (rules, said-laws, size-laws)
