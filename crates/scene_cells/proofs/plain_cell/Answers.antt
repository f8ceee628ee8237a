-- `plain_cell` meets its contract. Assumes nothing.
use Rattle.scene_cells.proofs.Contents.{plain}
use Rattle.scene_cells.proofs.plain_cell.Goals as goal

pub returns : goal.returns
returns c = plain _ _ _ c.before_break.ensures.bound c.before_break.ensures.cut _ _ _ c.split_at.ensures.back c.behind_break.ensures c.ends_row.ensures c.split_at.ensures.front
