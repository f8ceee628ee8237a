-- The interrupt counter after a CPU write (01, Interrupt; VRC IRQ). Assumes nothing.
use Rattle.std.specs.Prelude.{ℕ, Some, None}
use Rattle.registers.specs.Decode.{Decoded}
use Rattle.registers.specs.declared.Register.TheVariants.{OfBank, OfAudio, OfIrq}
use Rattle.registers.specs.declared.IrqRegister.{IrqRegister}
use Rattle.registers.specs.declared.IrqRegister.TheVariants.{Reload, Control, Acknowledge}
use Rattle.irq.specs.declared.VrcIrq.{VrcIrq}
use Rattle.irq.specs.Interrupt.{irq_reload, irq_acknowledged}
use Rattle.irq.specs.Timing.{control_written}

-- a register of the interrupt takes a byte (VRC IRQ)
abbrev pub irq_written : IrqRegister → (v : ℕ) → VrcIrq → VrcIrq
irq_written Reload v q = irq_reload v q
irq_written Control v q = control_written v q
irq_written Acknowledge v q = irq_acknowledged q

-- a byte is written to what an address decodes to; where that is no register of the interrupt, the counter stays (01, Banks and decode 1; 01, Interrupt 1)
abbrev pub irq_written_to : Decoded → (v : ℕ) → VrcIrq → VrcIrq
irq_written_to None v q = q
irq_written_to (Some (OfBank _)) v q = q
irq_written_to (Some (OfAudio _)) v q = q
irq_written_to (Some (OfIrq r)) v q = irq_written r v q
