-- `mark` meets its contract. Assumes nothing.
use Rattle.std.proofs.Common.{◌≤◌, ◌+◌, arith}
use Rattle.scene_sweep.proofs.Columns.{ordered}
use Rattle.scene_sweep.proofs.Marking.{column, marked_on, width}
use Rattle.scene_sweep.proofs.bar.mark.Goals as goal

pub returns : goal.returns
returns c =
    let first = c.column-first.ensures in
    let last = c.column-last.ensures in
    let order = ordered _ _ _ c.requires.0 c.requires.1 in
    let onward : c.column-first.result ≤ c.column-last.result + 1 = omega (arith, first.0, last.0, order) in
    marked_on _ _ _ _ c.requires.0 c.requires.1 _ _ first.0 last.0 _ _
    (width _ _ _ _ _ onward (omega arith) c.raise.ensures)
    (column _ _ _ _ _ onward (omega arith) c.raise.ensures)
