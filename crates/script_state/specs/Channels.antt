-- The values of a channel by their names, as numbers (oracle/FORMAT.md). Assumes nothing.
use Rattle.std.specs.Prelude.{Bool, ℕ, ◌%◌, eqb, not}
use Rattle.base_shared.specs.Rows.{flag}
use Rattle.audio_pulse.specs.declared.Pulse.{Pulse}
use Rattle.audio_saw.specs.declared.Saw.{Saw}
use Rattle.script_lines.specs.declared.values.ChannelField.{ChannelField}
use Rattle.script_lines.specs.declared.values.ChannelField.TheVariants.{Enabled, Volume, Duty, IgnoreDuty, Frequency, Timer, Step, Shift, Accumulator, Rate}

-- a number sets a flag, if it is not 0
abbrev pub set_by : ℕ → Bool
set_by n = not (eqb n 0)

-- a pulse's value; 0 for what it has not
abbrev pub pulse_value : Pulse → ChannelField → ℕ
pulse_value p Enabled = flag p.enabled
pulse_value p Volume = p.volume
pulse_value p Duty = p.duty_cycle
pulse_value p IgnoreDuty = flag p.ignore_duty
pulse_value p Frequency = p.frequency
pulse_value p Timer = p.timer
pulse_value p Step = p.step
pulse_value p Shift = p.freq_shift
pulse_value p Accumulator = 0
pulse_value p Rate = 0

-- a saw's
abbrev pub saw_value : Saw → ChannelField → ℕ
saw_value s Enabled = flag s.enabled
saw_value s Volume = 0
saw_value s Duty = 0
saw_value s IgnoreDuty = 0
saw_value s Frequency = s.frequency
saw_value s Timer = s.timer
saw_value s Step = s.step
saw_value s Shift = s.freq_shift
saw_value s Accumulator = s.accum
saw_value s Rate = s.accum_rate

-- a pulse with a value that a number sets, by its low bits if it is too large; what it has not stays
abbrev pub pulse_with : Pulse → ChannelField → ℕ → Pulse
pulse_with p Enabled n = record p { enabled = set_by n }
pulse_with p Volume n = record p { volume = n % 256 }
pulse_with p Duty n = record p { duty_cycle = n % 256 }
pulse_with p IgnoreDuty n = record p { ignore_duty = set_by n }
pulse_with p Frequency n = record p { frequency = n % 65_536 }
pulse_with p Timer n = record p { timer = n % 65_536 }
pulse_with p Step n = record p { step = n % 256 }
pulse_with p Shift n = record p { freq_shift = n % 256 }
pulse_with p Accumulator n = p
pulse_with p Rate n = p

-- a saw with one
abbrev pub saw_with : Saw → ChannelField → ℕ → Saw
saw_with s Enabled n = record s { enabled = set_by n }
saw_with s Volume n = s
saw_with s Duty n = s
saw_with s IgnoreDuty n = s
saw_with s Frequency n = record s { frequency = n % 65_536 }
saw_with s Timer n = record s { timer = n % 65_536 }
saw_with s Step n = record s { step = n % 256 }
saw_with s Shift n = record s { freq_shift = n % 256 }
saw_with s Accumulator n = record s { accum = n % 256 }
saw_with s Rate n = record s { accum_rate = n % 256 }
