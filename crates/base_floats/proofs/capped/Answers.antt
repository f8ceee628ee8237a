-- `capped` meets its contract. Assumes nothing.
use lib.Ieee.{of_bits, of_int, round}
use Rattle.base_floats.proofs.capped.Goals as goal

pub returns-then-x : goal.returns-then-x
unfolding of_bits of_int round
returns-then-x c = simp c.if-x.true

pub returns-else-x : goal.returns-else-x
unfolding of_bits of_int round
returns-else-x c = simp c.if-x.false
