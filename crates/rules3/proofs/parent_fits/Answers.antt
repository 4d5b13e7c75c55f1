use native.Mathlib.Omega.{arith}
use Rattle.laws.specs.Loops.{told}
use Rattle.rules3.specs.Parents.{path_said, path_low, parent_in, fits_root, fits_no_root, fits_off_path, fits_stand}
use Rattle.definition.specs.Chart.{is_root}
use Rattle.definition.specs.Tables.{chart_of}
use Rattle.rules3.proofs.parent_fits.Goals as goal

pub returns-then-i-eq0 : goal.returns-then-i-eq0
returns-then-i-eq0 c = rw (c.is_root.ensures, c.kind_of-kind.ensures, c.parent_of-p.ensures) (fits_root (chart_of _) _ c.if-i-eq0.true)

pub returns-then-is_root : goal.returns-then-is_root
returns-then-is_root c = fits_no_root (chart_of _) _ c.if-i-eq0.false (told is_root _ _ _ _ c.kind_of-kind.ensures c.is_root-2.ensures c.if-is_root.true)

pub returns-then-not-is_on_path : goal.returns-then-not-is_on_path
returns-then-not-is_on_path c =
    let first = c.if-i-eq0.false in
    let no-root = told is_root _ _ _ _ c.kind_of-kind.ensures c.is_root-2.ensures c.if-is_root.false in
    let path = path_said _ _ _ _ _ c.parent_of-p.ensures c.is_on_path.ensures c.if-not-is_on_path.true in
    fits_off_path (chart_of _) _ first no-root path

pub overflow_cast-p : goal.overflow_cast-p
overflow_cast-p c =
    let path = path_said _ _ _ _ _ c.parent_of-p.ensures c.is_on_path.ensures c.if-not-is_on_path.false in
    let l = path_low (chart_of _) _ c.if-i-eq0.false path in
    let k = c.requires.tables.sized.counts.rows in
    omega (arith, c.parent_of-p.ensures)

pub kind_of-requires : goal.kind_of-requires
kind_of-requires c =
    let path = path_said _ _ _ _ _ c.parent_of-p.ensures c.is_on_path.ensures c.if-not-is_on_path.false in
    parent_in _ _ _ c.requires c.parent_of-p.ensures (path_low (chart_of _) _ c.if-i-eq0.false path)

pub returns : goal.returns
returns c =
    let first = c.if-i-eq0.false in
    let no-root = told is_root _ _ _ _ c.kind_of-kind.ensures c.is_root-2.ensures c.if-is_root.false in
    let path = path_said _ _ _ _ _ c.parent_of-p.ensures c.is_on_path.ensures c.if-not-is_on_path.false in
    rw (c.may_stand.ensures, c.kind_of.ensures, c.kind_of-kind.ensures, c.parent_of-p.ensures) (fits_stand (chart_of _) _ first no-root path)
