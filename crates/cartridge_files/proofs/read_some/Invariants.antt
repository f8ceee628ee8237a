-- A read that was cut off has lost nothing. Assumes nothing.
use Rattle.std.specs.Io.KnownBytes.{Keeps}
use Rattle.cartridge_files.proofs.read_some.Given as goal

abbrev pub invariant-loop : goal.invariant-loop
invariant-loop g l = Keeps (g.F.Read.remaining l.initial.file) (g.F.Read.remaining l.file)
