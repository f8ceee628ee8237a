-- The interrupt counter of this board, whose clock takes 3 from the prescaler and whose line gives it 341 (01, Interrupt). Assumes nothing.
use Rattle.std.specs.Prelude.{Bool, ℕ, Option}
use Rattle.base_steps.specs.Falls.{fallen}
use Rattle.irq.specs.declared.VrcIrq.{VrcIrq}
use Rattle.irq.specs.declared.IrqClocked.{IrqClocked}
use Rattle.irq.specs.Interrupt.{irq_answer, irq_control, irq_in_range, irq_forecast}

-- what a clock takes from the prescaler (01, Interrupt 1)
abbrev pub line_step : ℕ
line_step = 3

-- what a line gives it (01, Interrupt 1)
abbrev pub line_length : ℕ
line_length = 341

-- the prescaler after a clock that counts lines (01, Interrupt 1)
abbrev pub prescaler_fallen : (prescaler : ℕ) → ℕ
prescaler_fallen p = fallen line_step line_length p

-- a clock (01, Interrupt 1)
abbrev pub clock_answer : VrcIrq → IrqClocked
clock_answer q = irq_answer line_step line_length q

-- $F001, control (01, Interrupt 1)
abbrev pub control_written : (v : ℕ) → VrcIrq → VrcIrq
control_written v q = irq_control line_length v q

-- a prescaler in 0 .. 341 (01, Records 5)
abbrev pub irq_held : VrcIrq → Bool
irq_held q = irq_in_range line_length q

-- the forecast (01, The board's calls 2)
abbrev pub forecast_answer : VrcIrq → Option ℕ
forecast_answer q = irq_forecast line_step line_length q
