-- The ranges of a pulse as facts, which its clock requires. Assumes nothing.
use Rattle.std.specs.Prelude.{◌≤◌}
use Rattle.audio_pulse.specs.declared.Pulse.{Pulse}
use Rattle.audio_shared.specs.Required.{ChannelIn}

-- a pulse
pub record PulseIn (p : Pulse) : Type 0 where
  pub volume_top : p.volume ≤ 15
  pub duty_top : p.duty_cycle ≤ 7
  pub step_top : p.step ≤ 15
  pub channel : ChannelIn p.frequency p.timer p.freq_shift
