-- The silent cases of `Pulse::level`, where the literal 0.0 is a whole number's f32. Assumes nothing.
use lib.Dec.{leb}
use lib.Ieee.{of_bits, of_int, round}
use borrow.Author.Tests.{lt-leb}
use Rattle.audio_pulse.specs.Pulses.{pulse_level}
use Rattle.audio_pulse.proofs.Pulse.level.Goals as goal

pub returns-else-self-3 : goal.returns-else-self-3
unfolding pulse_level of_bits of_int round
returns-else-self-3 c =
    let p = c.args.self in
    simp (c.if-self.true, c.if-self-3.false, lt-leb p.step p.duty_cycle c.if-self-2.false)

pub returns-else-self : goal.returns-else-self
unfolding pulse_level of_bits of_int round
returns-else-self c = simp c.if-self.false
