use borrow.Author.Rules.{rules}
use Rattle.values.specs.Items.{search_start, search_space, search_further, search_within, search_less, search_found, search_on, search_end}
use Rattle.values.specs.Ids.{ids_from}
use Rattle.values.proofs.item_fault.Goals as goal

pub slice_bounds-is_bad-end : goal.slice_bounds-is_bad-end
slice_bounds-is_bad-end c = search (rules, search_within)

pub loop-i-init : goal.loop-i-init
loop-i-init c = search (rules, search_start)

pub loop-i-preserved-then-space : goal.loop-i-preserved-then-space
loop-i-preserved-then-space c = search (rules, search_space)

pub slice_bounds-is_bad-count : goal.slice_bounds-is_bad-count
slice_bounds-is_bad-count c = search (rules, search_further)

pub returns-then-bad : goal.returns-then-bad
returns-then-bad c =
    search_found c.args.refers (ids_from c.args.text.now c.args.ids.now c.args.n 0) c.args.value.now c.args.from
    c.loop-i.i c.loop-i.invariant c.is_space-space.result c.item_end-j.result c.loop-i-test.true c.is_space-space.ensures
    c.if-space.false c.item_end-j.ensures c.is_bad-bad.result c.is_bad-bad.ensures c.if-bad.true

pub loop-i-smaller : goal.loop-i-smaller
loop-i-smaller c = search (rules, search_less)

pub loop-i-preserved : goal.loop-i-preserved
loop-i-preserved c = search (rules, search_on)

pub returns : goal.returns
returns c = search (rules, search_end)
