-- `run` meets its contract. Assumes nothing.
use Rattle.std.proofs.Common.{◌-◌}
use Rattle.scene_sweep.proofs.Running.{Going}
use Rattle.scene_sweep.proofs.runs.MenuSweep.run.Given as goal

abbrev pub invariant-loop-run : goal.invariant-loop-run
invariant-loop-run l = Going l.self.sweep l.self.menu.now l.fn.irq l.from l.clocks l.run

abbrev pub decreases-loop-run : goal.decreases-loop-run
decreases-loop-run l = l.clocks - l.run.to
