-- `run` meets its contract. Assumes nothing.
use Rattle.std.proofs.Common.{rules, tests}
use Rattle.scene_sweep.proofs.Running.{starts, goes_on_told}
use Rattle.scene_sweep.proofs.runs.MenuSweep.run.Goals as goal

pub loop-run-init : goal.loop-run-init
loop-run-init c = rw c.of-run.ensures (starts _ _ _ _ _ _ c.requires c.seen.ensures)

pub loop-run-preserved : goal.loop-run-preserved
loop-run-preserved c =
    let told = c.same.ensures.same (search (rules, tests)) in
    rw c.with-run.ensures (goes_on_told _ _ _ _ _ _ c.loop-run.invariant c.loop-run-test.true _ c.seen-seen.ensures told.0 told.1)
