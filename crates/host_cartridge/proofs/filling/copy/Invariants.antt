-- What holds while bytes are copied. Assumes nothing.
use Rattle.host_cartridge.proofs.Runs.{Copied}
use Rattle.host_cartridge.proofs.filling.copy.Given as goal

abbrev pub invariant-loop-i : goal.invariant-loop-i
invariant-loop-i l = Copied l.from l.initial.to l.to l.i
