-- `letters_met` meets its contract. Assumes nothing.
use Rattle.scene_sweep.proofs.Meeting.{Upto}
use Rattle.scene_sweep.proofs.runs.MenuSweep.letters_met.Given as goal

abbrev pub invariant-loop-k : goal.invariant-loop-k
invariant-loop-k l = Upto l.self.sweep l.self.menu.now l.marks l.fn.irq l.k l.q l.met
