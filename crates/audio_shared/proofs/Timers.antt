-- A period stays in a timer's range. Assumes nothing.
use Prim.Native.Nat.{ℕ, ◌^◌, ◌≤◌}
use native.Mathlib.Omega.{arith}
use native.Mathlib.Nat.{div-le_self}
use Rattle.audio_shared.specs.Channels.{period_of}

pub period_top : (f s : ℕ) → f ≤ 4095 → period_of f s ≤ 4096
period_top f s h = omega (arith, div-le_self f (2 ^ s))
