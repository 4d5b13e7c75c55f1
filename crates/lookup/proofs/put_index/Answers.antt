use borrow.Author.Rules.{rules}
use mathlib.Core.Path.{sym, subst, ◌∙◌}
use native.Mathlib.Omega.{arith}
use lib.ListN.{take}
use lib.Seq.{length-take-le}
use Rattle.places.specs.Copies.{copy_whole}
use Rattle.matching.specs.Sources.{Indexed}
use Rattle.selection.specs.FixedDomains.{DomainsFixed}
use Rattle.lookup.specs.Lookup.{index_put}
use Rattle.lookup.proofs.put_index.Goals as goal

pub slice_bounds-copy-end-3 : goal.slice_bounds-copy-end-3
slice_bounds-copy-end-3 c = sym (length-take-le 257 c.args.index.now (omega arith))

pub copy-requires : goal.copy-requires
copy-requires c = let l = c.requires.1 in let e = length-take-le 257 c.args.index.now (omega arith) in let s = c.index_of-by_source.ensures.size in omega arith

pub returns : goal.returns
returns c = index_put _ _ _ _ _ _ c.args.index.now c.requires.1 (subst (Indexed _) (sym (c.copy.ensures ∙ copy_whole c.index_of-by_source.result.starts (take 257 c.args.index.now) (length-take-le 257 c.args.index.now (let l = c.requires.1 in omega arith) ∙ sym c.index_of-by_source.ensures.size))) c.index_of-by_source.ensures) (subst (DomainsFixed _) (sym (c.copy-2.ensures ∙ copy_whole c.fixed_domains-fixed.result.domains _ (search rules))) c.fixed_domains-fixed.ensures) _ _ _ c.put_rows.ensures c.put_rows-2.ensures c.put_rows-3.ensures c.atomic_rows-atomic.ensures c.eventless_rows-eventless.ensures c.history_rows-histories.ensures

pub slice_bounds-put_rows-end-2 : goal.slice_bounds-put_rows-end-2
slice_bounds-put_rows-end-2 c = let l = c.requires.1 in search rules

pub slice_bounds-put_rows-end-3 : goal.slice_bounds-put_rows-end-3
slice_bounds-put_rows-end-3 c = let l = c.requires.1 in search rules
