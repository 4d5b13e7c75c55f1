use borrow.Author.Rules.{rules}
use Rattle.std.specs.Prelude.{◌≡◌, ◌+◌, ◌*◌, get_or}
use Rattle.grammar.specs.Tables.{menus}
use Rattle.scan.specs.Words.{pick_start, pick_returns, pick_goes, pick_ends}
use Rattle.scan.proofs.pick_word.Goals as goal

pub loop-j-init : goal.loop-j-init
loop-j-init c = (search rules, pick_start _ _ _ _)

pub returns-then-goes_on : goal.returns-then-goes_on
unfolding menus
returns-then-goes_on c = let v : c.menu_cell-v.result ≡ get_or menus (c.args.row * 8 + c.loop-j.j) 48 = rw c.cell_at.ensures at c.menu_cell-v.ensures in search (rules, pick_returns)

pub loop-j-preserved : goal.loop-j-preserved
unfolding menus
loop-j-preserved c = let v : c.menu_cell-v.result ≡ get_or menus (c.args.row * 8 + c.loop-j.j) 48 = rw c.cell_at.ensures at c.menu_cell-v.ensures in (search rules, search (rules, pick_goes))

pub returns : goal.returns
returns c = search (rules, pick_ends)
