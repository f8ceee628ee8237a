-- A register as a signed bank number. Assumes nothing.
use mathlib.Core.Path.{◌≡◌, ap, ◌∙◌}
use Prim.Native.Nat.{ℕ}
use native.Mathlib.Omega.{arith}
use lib.IntN.{ℤ, pos}
use mir.Syntax.{w8, w32}
use mir.Val.{Fits, to_z, of_z}
use mir.Facts.{to_z-of_z}

pub signed : (z : ℤ) (v : ℕ) → z ≡ pos v → Fits w8 v → to_z w32 (of_z w32 z) ≡ pos v
signed z v e f = ap (λ (t : ℤ). to_z w32 (of_z w32 t)) e ∙ to_z-of_z {w = w32} (record { sfits = omega (arith, f.fits) })
