-- The ranges of the channels' values (01, Sound; 01, The board's calls). Assumes nothing.
use Rattle.std.specs.Prelude.{Bool, ◌&&◌, leb}
use Rattle.audio_shared.specs.Ranges.{channel_in_range}
use Rattle.audio_pulse.specs.declared.Pulse.{Pulse}
use Rattle.audio_saw.specs.declared.Saw.{Saw}

-- volume 0..15, duty 0..7, pulse step 0..15 (01, The board's calls 4)
unfoldable pub pulse_in_range : Pulse → Bool
pulse_in_range p = leb p.volume 15 && leb p.duty_cycle 7 && leb p.step 15 && channel_in_range p.frequency p.timer p.freq_shift

-- rate 0..63, saw step 0..13 (01, The board's calls 4)
unfoldable pub saw_in_range : Saw → Bool
saw_in_range s = leb s.accum_rate 63 && leb s.step 13 && channel_in_range s.frequency s.timer s.freq_shift

-- every value of the three channels (01, The board's calls 4)
abbrev pub channels_in_range : Pulse → Pulse → Saw → Bool
channels_in_range p q s = pulse_in_range p && pulse_in_range q && saw_in_range s
