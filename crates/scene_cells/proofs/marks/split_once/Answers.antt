-- `split_once` meets its contract. Assumes nothing.
use Rattle.scene_cells.proofs.Splits.{split}
use Rattle.scene_cells.proofs.marks.split_once.Goals as goal

pub returns : goal.returns
returns c = split _ _ _ c.in_ok-place.ensures
