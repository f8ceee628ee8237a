-- `nth_cell` meets its contract. Assumes nothing.
use Rattle.std.proofs.lemmas.Iterator.Consumers.{YieldsList-from_first, nth_from_yields_List}
use Rattle.scene_cells.specs.Contents.{content}
use Rattle.scene_cells.specs.Rows.{cells_left}
use Rattle.scene_cells.proofs.lookup.nth_cell.Goals as goal

pub returns : goal.returns
returns c = nth_from_yields_List _ c.nth.new.self _ c.nth.ensures.ran (YieldsList-from_first content (λ s. cells_left s.separator s.row) _ c.new.ensures)
