-- What a call does to the interrupt counter. Assumes nothing.
use Rattle.std.specs.Prelude.{Bool}
use Rattle.base_steps.specs.Times.{times}
use Rattle.registers.specs.Decode.{decode}
use Rattle.irq.specs.declared.VrcIrq.{VrcIrq}
use Rattle.irq.specs.Interrupt.{irq_zero}
use Rattle.irq.specs.Timing.{clock_answer}
use Rattle.irq.specs.Writes.{irq_written_to}
use Rattle.vrc6_calls.specs.declared.Call.{Call}
use Rattle.vrc6_ledger.specs.Ledger.{Event, cpu_writes, picture_writes, clocks, resets, looks, event}

-- the counter after a call that is not refused: a CPU write may reach its register, a clock moves it, a reset clears it, and no other
-- call touches it (01, Interrupt 1; 01, The board's calls 1)
abbrev pub counter_by : (revision_b : Bool) → Event → VrcIrq → VrcIrq
counter_by b (cpu_writes a v) q = irq_written_to (decode b a) v q
counter_by b (picture_writes a v) q = q
counter_by b (clocks n) q = times n (λ p. (clock_answer p).irq) q
counter_by b resets q = irq_zero
counter_by b looks q = q

-- the counter after a call of a list
abbrev pub counter_after : (revision_b : Bool) → Call → VrcIrq → VrcIrq
counter_after b k q = counter_by b (event k) q
