-- `sweep_clocks` meets its contract. Assumes nothing.
use Rattle.std.proofs.Common.{arith}
use Rattle.scene_sweep.proofs.Sweeping.{none, more}
use Rattle.scene_report.proofs.sweeping.sweep_clocks.Goals as goal

pub loop-from-init : goal.loop-from-init
loop-from-init c = none _ _ _ _ _ c.unmarked-bar.ensures

pub run-run-requires : goal.run-run-requires
run-run-requires c = c.loop-from-test.true

pub tallied-tally-requires : goal.tallied-tally-requires
tallied-tally-requires c = omega (arith, c.run-run.ensures.onward)

pub mark-requires : goal.mark-requires
mark-requires c = (c.run-run.ensures.onward, c.run-run.ensures.within)

pub loop-from-smaller : goal.loop-from-smaller
loop-from-smaller c = omega (arith, c.run-run.ensures.onward, c.loop-from-test.true)

pub loop-from-preserved : goal.loop-from-preserved
loop-from-preserved c =
    more _ _ _ _ _ _ _ _ c.loop-from.invariant _ c.run-run.ensures _ _ c.tallied-tally.ensures (rw (← c.mark-told.ensures) c.mark.ensures)
