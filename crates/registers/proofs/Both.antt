-- What decode gives on both revisions: where nothing happens, and how the one follows from the other. Assumes nothing.
use mathlib.Core.Path.{◌≡◌, refl, sym}
use mathlib.Core.Bool.{Bool, true, false}
use Prim.Native.Nat.{ℕ, ◌+◌, ◌*◌, ◌/◌, ◌%◌, ◌<◌}
use native.Mathlib.Omega.{arith}
use Rattle.registers.specs.Decode.{decode, lines, register_at}
use Rattle.std.specs.Prelude.{None}
use Rattle.registers.specs.Laws.{NothingLaw, SwapLaw, exchanged}
use Rattle.registers.proofs.Table.{fourth, low}

lines_low : (b : Bool) (a : ℕ) → lines b a < 4
lines_low true a = omega arith
lines_low false a = omega arith

-- both lines are 1, on either revision
last : (b : Bool) (a : ℕ) → a % 4 ≡ 3 → lines b a ≡ 3
last true a h = omega arith
last false a h = h

-- the fourth register of a row that has none
none : (row : ℕ) → None ≡ register_at row 3 → (b : Bool) (a : ℕ) → a / 4096 ≡ row → a % 4 ≡ 3 → decode b a ≡ None
none row g b a e h = sym (fourth b a row (lines b a) e (refl, lines_low b a) None g (omega (arith, last b a h)))

pub nothing_law : NothingLaw
nothing_law =
    record {
      low = λ b a h. sym (low b a (a / 4096) (lines b a) refl (refl, lines_low b a) (omega arith));
      a003 = none 0xA refl;
      f003 = none 0xF refl;
    }

pub swap_law : SwapLaw
unfolding decode
swap_law a =
    let row : exchanged a / 4096 ≡ a / 4096 = omega arith in
    let line : exchanged a % 4 ≡ a % 2 * 2 + a / 2 % 2 = omega arith in
    rw (row, line)
