-- `sweep_clocks` meets its contract. Assumes nothing.
use Rattle.std.proofs.Common.{◌-◌}
use Rattle.scene_sweep.proofs.Sweeping.{Upto}
use Rattle.scene_report.proofs.sweeping.sweep_clocks.Given as goal

abbrev pub invariant-loop-from : goal.invariant-loop-from
invariant-loop-from l = Upto l.given.sweep l.given.menu.now l.initial.irq l.clocks l.from l.irq l.tally l.bar

abbrev pub decreases-loop-from : goal.decreases-loop-from
decreases-loop-from l = l.clocks - l.from
