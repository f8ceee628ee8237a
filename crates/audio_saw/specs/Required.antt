-- The ranges of the saw as facts, which its clock requires. Assumes nothing.
use Rattle.std.specs.Prelude.{◌≤◌}
use Rattle.audio_saw.specs.declared.Saw.{Saw}
use Rattle.audio_shared.specs.Required.{ChannelIn}

-- the saw
pub record SawIn (s : Saw) : Type 0 where
  pub rate_top : s.accum_rate ≤ 63
  pub step_top : s.step ≤ 13
  pub channel : ChannelIn s.frequency s.timer s.freq_shift
