-- `play` meets its contract. Assumes nothing.
use Rattle.scene_board.proofs.After.{one_on}
use Rattle.scene_board.proofs.play.Goals as goal

pub loop-step-preserved : goal.loop-step-preserved
loop-step-preserved c = one_on _ _ _ _ _ _ c.loop-step.invariant c.loop-step-test.true c.play_step-board.ensures
