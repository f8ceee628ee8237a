-- The silent case of `Saw::level`, where the literal 0.0 is a whole number's f32. Assumes nothing.
use lib.Ieee.{of_bits, of_int, round}
use Rattle.audio_saw.specs.Saws.{saw_level}
use Rattle.audio_saw.proofs.Saw.level.Goals as goal

pub returns-else-self : goal.returns-else-self
unfolding saw_level of_bits of_int round
returns-else-self c = simp c.if-self.false
