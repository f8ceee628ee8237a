-- `quoted_cell` meets its contract. Assumes nothing.
use Rattle.std.proofs.Common.{arith, ap, ◌∙◌, length}
use Rattle.scene_cells.specs.Cells.{closed_to, from_break}
use Rattle.scene_cells.specs.Marks.{before}
use Rattle.scene_cells.proofs.Splits.{onward}
use Rattle.scene_cells.proofs.Contents.{quote_le, quoted, unclosed}
use Rattle.scene_cells.proofs.quoted_cell.Goals as goal

pub slice_bounds-closed_cell-count : goal.slice_bounds-closed_cell-count
slice_bounds-closed_cell-count c = omega (arith, quote_le c.args.text.now, ap length c.from_quote-close.ensures)

pub returns-in-empty : goal.returns-in-empty
returns-in-empty c = unclosed _ _ _ c.from_quote-close.ensures (omega arith)

pub returns-in-len1-up : goal.returns-in-len1-up
returns-in-len1-up c =
    let close = c.from_quote-close.result.now in
    c.closed_cell.ensures
    ∙ ap (λ l. closed_to (before c.args.text.now close) l (from_break c.args.separator l)) (onward close 1)
    ∙ quoted c.args.separator c.args.text.now _ c.from_quote-close.ensures (omega arith)
