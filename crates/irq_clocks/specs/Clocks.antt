-- A run of clocks, and the first of them that sets pending. Assumes nothing.
use Rattle.std.specs.Prelude.{◌≡◌, Bool, true, false, ◌&&◌, ℕ, suc, ◌+◌, ◌≤◌, ◌<◌, eqb}
use Rattle.base_steps.specs.Times.{times, count}
use Rattle.base_steps.specs.Falls.{fell, runs}
use Rattle.irq.specs.declared.VrcIrq.{VrcIrq}
use Rattle.irq.specs.Interrupt.{irq_ticks, irq_answer}
use Rattle.irq_clocks.specs.declared.clocks.Lines.{Lines}

-- the state after n clocks (01, Interrupt 1)
abbrev pub irq_clocked_times : (d l n : ℕ) → VrcIrq → VrcIrq
irq_clocked_times d l n q = times n (λ s. (irq_answer d l s).irq) q

-- how many of n clocks answer that they ticked
abbrev pub reported : (d l n : ℕ) → VrcIrq → ℕ
reported d l n q = count n (λ s. (irq_answer d l s).ticked) (λ s. (irq_answer d l s).irq) q

-- counter and ticks of n clocks are 255 at most together; of a byte, by `QuietLaw`, none of them ticks at 255 (01, Interrupt 1)
abbrev pub Unset : (d l n : ℕ) → VrcIrq → Type 0
Unset d l n q = q.counter + reported d l n q ≤ 255

-- the lines that end within n clocks that count them, and the prescaler after these (01, Interrupt 1)
abbrev pub lines_gone : (d l p n : ℕ) → Lines
lines_gone d l p n = record { ended = runs d l p n; prescaler = fell d l p n }

-- the next clock ticks at 255, and so sets pending (01, Interrupt 1)
abbrev pub irq_sets : (d : ℕ) → VrcIrq → Bool
irq_sets d q = irq_ticks d q && eqb q.counter 255

-- n is the least number of clocks, at least 1, of which the last sets pending: what a forecast is for
pub record LeastClocks (d l : ℕ) (q : VrcIrq) (n : ℕ) : Type 0 where
  -- a clock is needed
  pub one : 1 ≤ n
  -- the last of the n clocks sets pending
  pub sets : (m : ℕ) → suc m ≡ n → irq_sets d (irq_clocked_times d l m q) ≡ true
  -- none of those before it does
  pub none_before : (m : ℕ) → suc m < n → irq_sets d (irq_clocked_times d l m q) ≡ false
