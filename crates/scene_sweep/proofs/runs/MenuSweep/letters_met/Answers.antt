-- `letters_met` meets its contract. Assumes nothing.
use Rattle.std.proofs.Common.{arith}
use Rattle.scene_sweep.proofs.Meeting.{none, more}
use Rattle.scene_sweep.proofs.runs.MenuSweep.letters_met.Goals as goal

pub loop-k-init : goal.loop-k-init
loop-k-init c = none _ _ _ _

pub loop-k-preserved : goal.loop-k-preserved
loop-k-preserved c =
    rw (c.clock.ensures, c.met_with-met.ensures)
    (more _ _ _ _ _ _ _ c.loop-k.invariant (omega (arith, c.loop-k-test.true, c.ranges.clocks)) _ c.came_in-step.ensures)
