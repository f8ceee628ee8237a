-- The pulses: registers, clock and level (VRC6 audio; m024_m026_vrc6.rs, Pulse). Assumes nothing.
use Rattle.std.specs.Prelude.{ℕ, ◌+◌, ◌/◌, ◌%◌, Bool, false, cond, ◌&&◌, ◌||◌, leb}
use Rattle.base_shared.specs.Bits.{bit}
use Rattle.registers.specs.declared.ChannelRegister.{ChannelRegister}
use Rattle.registers.specs.declared.ChannelRegister.TheVariants.{Volume, FrequencyLow, FrequencyHigh}
use Rattle.audio_pulse.specs.declared.Pulse.{Pulse}
use Rattle.audio_shared.specs.Channels.{low_byte, high_bits, enables, period_of, runs_out, timer_next}

-- a pulse that is off, with this frequency and timer: 1 in `Pulse::new`, 0 in the all-zero board (m024_m026_vrc6.rs, Pulse::new)
abbrev pub pulse_at : (frequency : ℕ) → Pulse
pulse_at f =
    record {
      enabled = false;
      volume = 0;
      duty_cycle = 0;
      ignore_duty = false;
      frequency = f;
      timer = f;
      step = 0;
      freq_shift = 0;
    }

-- p with another timer and step
abbrev pub pulse_timed : (timer step : ℕ) → Pulse → Pulse
pulse_timed t k p = record p { timer = t; step = k }

-- p with another frequency
abbrev pub pulse_tuned : (frequency : ℕ) → Pulse → Pulse
pulse_tuned f p = record p { frequency = f }

-- p on or off; off, its step is back at the start (VRC6 audio)
abbrev pub pulse_enabled : Bool → Pulse → Pulse
pulse_enabled on p = record p { enabled = on; step = cond on p.step 0 }

-- $9000, $A000: `MDDD VVVV`, M ignores duty, D duty, V volume (VRC6 audio)
abbrev pub pulse_controlled : (val : ℕ) → Pulse → Pulse
pulse_controlled v p = record p { volume = v % 16; duty_cycle = v / 16 % 8; ignore_duty = bit 7 v }

-- a register of the pulse gets a byte (01, Sound 1; VRC6 audio)
unfoldable pub pulse_written : ChannelRegister → (val : ℕ) → Pulse → Pulse
pulse_written Volume v p = pulse_controlled v p
pulse_written FrequencyLow v p = pulse_tuned (low_byte p.frequency v) p
pulse_written FrequencyHigh v p = pulse_enabled (enables v) (pulse_tuned (high_bits p.frequency v) p)

-- p with another shift, by $9003 (01, Sound 1)
abbrev pub pulse_shifted : (shift : ℕ) → Pulse → Pulse
pulse_shifted s p = record p { freq_shift = s }

-- a clock of an enabled pulse: where the timer runs out, the next of 16 steps, counted up (VRC6 audio; m024_m026_vrc6.rs, Pulse::clock)
abbrev pub pulse_run : Pulse → Pulse
pulse_run p =
    pulse_timed (timer_next p.timer (period_of p.frequency p.freq_shift))
    (cond (runs_out p.timer) ((p.step + 1) % 16) p.step) p

-- a clock of a pulse (01, Sound 1; VRC6 audio)
unfoldable pub pulse_clocked : Pulse → Pulse
pulse_clocked p = cond p.enabled (pulse_run p) p

-- what a pulse puts out: its volume where the step is at most D, or always with M (01, Sound 1; VRC6 audio)
unfoldable pub pulse_level : Pulse → ℕ
pulse_level p = cond (p.enabled && (p.ignore_duty || leb p.step p.duty_cycle)) p.volume 0
