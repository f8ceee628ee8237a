-- `is_sum` meets its contract. Assumes nothing.
use Prim.Native.Nat.{ℕ, ◌≤◌, ◌%◌, ◌^◌}
use native.Mathlib.Omega.{arith}
use mathlib.Core.Path.{◌≡◌, refl, sym, subst}
use mathlib.Core.Bool.{false, not}
use lib.IntN.{pos}
use lib.Dec.{T}
use lib.Ieee.{Float, of_bits, is_nan}
use borrow.Author.Rules.{rules}
use Rattle.base_floats.specs.Wholes.{sum_capped}
use Rattle.base_floats.proofs.Exact.{has}
use Rattle.base_floats.proofs.Sums.{float_no_nan}
use Rattle.base_floats.proofs.Guess.{plus_no_nan, capped_no_nan, by_guess}
use Rattle.base_floats.proofs.is_sum.Goals as goal

low : (n : ℕ) → n % 64 ≤ 63
low n = omega arith

low_24 : (n : ℕ) → n % 64 ≤ 2 ^ 24
low_24 n = omega arith

has_bits : (x y : Float) → y ≡ sum_capped x → T (not (is_nan y))
has_bits x y e = subst (λ (z : Float). T (not (is_nan z))) (sym e) (capped_no_nan x)

pub float_to_bits-n : goal.float_to_bits-n
unfolding of_bits
float_to_bits-n c = plus_no_nan _ false 1 (pos 23) (has_bits _ _ c.capped-y.ensures)

pub float_to_bits-result : goal.float_to_bits-result
float_to_bits-result c = float_no_nan _ _ (has _ (low_24 _))

pub float_to_bits-result-2 : goal.float_to_bits-result-2
float_to_bits-result-2 c = has_bits _ _ c.capped-y.ensures

pub returns : goal.returns
unfolding of_bits
returns c = by_guess _ c.capped-y.result _ (search rules) (search rules) c.capped-y.ensures (low _) refl
