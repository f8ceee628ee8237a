-- `float_of` meets its contract. Assumes nothing.
use mathlib.Core.Path.{sym}
use lib.Ieee.{of_bits, div}
use Rattle.base_floats.proofs.Nans.{no_nan, is_nan_lem}
use Rattle.base_floats.proofs.pattern.float_of.Goals as goal

pub float_from_bits-result : goal.float_from_bits-result
float_from_bits-result c = no_nan _ c.if-n-le2139095040.true

pub returns : goal.returns
unfolding div of_bits
returns c = sym (is_nan_lem _ c.if-n-le2139095040.false)
