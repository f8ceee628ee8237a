-- `clocks` meets its contract. Assumes nothing.
use Rattle.scene_board.proofs.After.{once_more}
use Rattle.scene_board.proofs.clocks.Goals as goal

pub loop-preserved : goal.loop-preserved
loop-preserved c = once_more _ _ _ _ _ c.loop.invariant c.call-board.ensures
