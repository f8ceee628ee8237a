-- `bits_of` meets its contract. Assumes nothing.
use lib.Ieee.{to_bits}
use Rattle.base_floats.proofs.Nans.{unlike_itself}
use Rattle.base_floats.proofs.pattern.bits_of.Goals as goal

pub returns : goal.returns
unfolding to_bits
returns c = rw (unlike_itself _ c.if-x.false)
