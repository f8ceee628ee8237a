-- The ranges as facts, which the clock requires. Assumes nothing.
use Rattle.std.specs.Prelude.{◌≡◌, true}
use Rattle.base_floats.specs.Wholes.{is_sum}
use Rattle.audio_pulse.specs.Required.{PulseIn}
use Rattle.audio_saw.specs.Required.{SawIn}
use Rattle.audio.specs.declared.Audio.{Audio}

-- the whole sound state
pub record AudioIn (a : Audio) : Type 0 where
  pub first : PulseIn a.pulse1
  pub second : PulseIn a.pulse2
  pub third : SawIn a.saw
  pub sum : is_sum a.out ≡ true
