-- What holds while text is written out in buffers. Assumes nothing.
use Rattle.std.proofs.Common.{◌≡◌, ◌+◌, ◌++◌, length}
use Rattle.text_output.specs.Appends.{waiting}
use Rattle.text_output.proofs.Output.fill.Given as goal

abbrev pub invariant-loop-self : goal.invariant-loop-self
invariant-loop-self l = waiting (l.fn.self ++ l.fn.bytes) ≡ waiting (l.self ++ l.rest)

abbrev pub decreases-loop-self : goal.decreases-loop-self
decreases-loop-self l = length l.self + length l.rest
