-- Each call keeps the prescaler in 0 .. l, and reload and counter bytes. Assumes nothing.
use mathlib.Core.Path.{◌≡◌}
use mathlib.Core.Bool.{true}
use Prim.Native.Nat.{ℕ, ◌≤◌}
use native.Mathlib.Omega.{arith}
use lib.Dec.{leb, eqb}
use borrow.Author.Tests.{leb-true, le-leb, eqb-false}
use Rattle.base_shared.specs.Bits.{bit}
use Rattle.base_shared.proofs.Tests.{either, tested}
use Rattle.base_steps.specs.Falls.{fallen}
use Rattle.base_steps.proofs.Falling.{one_clock}
use Rattle.irq.specs.Interrupt.{irq_ticks, counts_lines, next_counter}
use Rattle.irq.specs.Laws.{PrescalerLaw, Bytes, BytesLaw}

pub prescaler_law : PrescalerLaw
prescaler_law d l pace q =
    record {
      clock = λ h. either (λ (p : ℕ). leb p l ≡ true) (counts_lines q) (le-leb (fallen d l q.prescalar_counter) l ((one_clock d l pace q.prescalar_counter).within (leb-true q.prescalar_counter l h))) h;
      control = λ v h. either (λ (p : ℕ). leb p l ≡ true) (bit 1 v) (le-leb l l (omega arith)) h;
      acknowledge = λ h. h;
      reload = λ v h. h;
      reset = le-leb 0 l (omega arith);
    }

pub bytes_law : BytesLaw
bytes_law d l q =
    record {
      clock = λ b. record { reload = b.reload; counter = either (λ (k : ℕ). k ≤ 255) (irq_ticks d q) (next b) b.counter };
      control = λ v b. record { reload = b.reload; counter = either (λ (k : ℕ). k ≤ 255) (bit 1 v) b.reload b.counter };
      acknowledge = λ b. record { reload = b.reload; counter = b.counter };
      reload = λ v h b. record { reload = h; counter = b.counter };
      reset = record { reload = omega arith; counter = omega arith };
    }
  where
    next : Bytes q → next_counter q.reload q.counter ≤ 255
    next b = tested (eqb q.counter 255) (λ e. rw e b.reload) (λ e. rw e (omega (arith, b.counter, eqb-false q.counter 255 e)))
