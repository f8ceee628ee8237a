-- The interrupt counter over a step d and a line length l (01, Interrupt; VRC IRQ). Assumes nothing.
use Rattle.std.specs.Prelude.{Bool, true, false, cond, not, ◌&&◌, ◌||◌, ℕ, ◌+◌, ◌-◌, ◌*◌, ◌/◌, eqb, leb, Option, Some, None}
use Rattle.base_shared.specs.Bits.{bit}
use Rattle.base_steps.specs.Falls.{fallen}
use Rattle.irq.specs.declared.VrcIrq.{VrcIrq}
use Rattle.irq.specs.declared.IrqClocked.{IrqClocked}

-- it counts lines: enabled, and not in cycle mode; the wiki's scanline mode (01, Interrupt 1; VRC IRQ)
abbrev pub counts_lines : VrcIrq → Bool
counts_lines q = q.enabled && not q.cycle_mode

-- a clock ticks while enabled: in cycle mode always, else where the prescaler comes to 0 or less (01, Interrupt 1)
abbrev pub irq_ticks : (d : ℕ) → VrcIrq → Bool
irq_ticks d q = q.enabled && (q.cycle_mode || leb q.prescalar_counter d)

-- the counter after a tick: at 255 it reloads, else adds 1 (01, Interrupt 1)
abbrev pub next_counter : (reload counter : ℕ) → ℕ
next_counter r k = cond (eqb k 255) r (k + 1)

-- pending after a tick: at 255 it is set (01, Interrupt 1)
abbrev pub next_pending : (counter : ℕ) → Bool → Bool
next_pending k b = cond (eqb k 255) true b

-- q with another counter, prescaler and pending
abbrev pub irq_at : VrcIrq → (counter prescaler : ℕ) → (pending : Bool) → VrcIrq
irq_at q k p b = record q { counter = k; prescalar_counter = p; irq_pending = b }

-- a tick whose clock leaves the prescaler at p (01, Interrupt 1)
abbrev pub irq_tick : (prescaler : ℕ) → VrcIrq → VrcIrq
irq_tick p q = irq_at q (next_counter q.reload q.counter) p (next_pending q.counter q.irq_pending)

-- a clock: the prescaler falls where lines are counted, and a tick moves the counter (01, Interrupt 1; VRC IRQ)
abbrev pub irq_clocked : (d l : ℕ) → VrcIrq → VrcIrq
irq_clocked d l q =
    irq_at q (cond (irq_ticks d q) (next_counter q.reload q.counter) q.counter)
    (cond (counts_lines q) (fallen d l q.prescalar_counter) q.prescalar_counter)
    (cond (irq_ticks d q) (next_pending q.counter q.irq_pending) q.irq_pending)

-- a clock's answer: the next state, and whether it ticked (01, Interrupt 1)
abbrev pub irq_answer : (d l : ℕ) → VrcIrq → IrqClocked
irq_answer d l q = record { irq = irq_clocked d l q; ticked = irq_ticks d q }

-- $F000, reload (01, Interrupt 1; VRC IRQ)
abbrev pub irq_reload : (v : ℕ) → VrcIrq → VrcIrq
irq_reload v q = record q { reload = v }

-- $F001, control (01, Interrupt 1; VRC IRQ)
abbrev pub irq_control : (l v : ℕ) → VrcIrq → VrcIrq
irq_control l v q =
    record q {
      counter = cond (bit 1 v) q.reload q.counter;
      prescalar_counter = cond (bit 1 v) l q.prescalar_counter;
      irq_pending = false;
      enabled = bit 1 v;
      enabled_after_ack = bit 0 v;
      cycle_mode = bit 2 v;
    }

-- $F002, acknowledge (01, Interrupt 1; VRC IRQ)
abbrev pub irq_acknowledged : VrcIrq → VrcIrq
irq_acknowledged q = record q { irq_pending = false; enabled = q.enabled_after_ack }

-- at creation and after a reset, soft or hard: all clear (01, Interrupt 1; 01, Banks and decode 2)
abbrev pub irq_zero : VrcIrq
irq_zero =
    record {
      reload = 0;
      counter = 0;
      prescalar_counter = 0;
      irq_pending = false;
      enabled = false;
      enabled_after_ack = false;
      cycle_mode = false;
    }

-- the one value that is checked: a prescaler in 0 .. l (01, Records 5)
abbrev pub irq_in_range : (l : ℕ) → VrcIrq → Bool
irq_in_range l q = leb q.prescalar_counter l

-- the forecast of an enabled counter, by the formula (01, The board's calls 2)
abbrev pub forecast_in : (d l : ℕ) → VrcIrq → ℕ
forecast_in d l q =
    cond q.cycle_mode (256 - q.counter) ((l * (255 - q.counter) + q.prescalar_counter + (d - 1)) / d)

-- the forecast: None if not enabled (01, The board's calls 2)
abbrev pub irq_forecast : (d l : ℕ) → VrcIrq → Option ℕ
irq_forecast d l q = cond q.enabled (Some (forecast_in d l q)) None
