-- The saw: registers, clock and level (VRC6 audio; m024_m026_vrc6.rs, Saw). Assumes nothing.
use Rattle.std.specs.Prelude.{ℕ, ◌+◌, ◌/◌, ◌%◌, ◌^◌, Bool, false, cond, ◌==◌}
use Rattle.registers.specs.declared.ChannelRegister.{ChannelRegister}
use Rattle.registers.specs.declared.ChannelRegister.TheVariants.{Volume, FrequencyLow, FrequencyHigh}
use Rattle.audio_saw.specs.declared.Saw.{Saw}
use Rattle.audio_shared.specs.Channels.{low_byte, high_bits, enables, period_of, runs_out, timer_next}

-- a saw that is off, with this frequency and timer: 1 in `Saw::new`, 0 in the all-zero board (m024_m026_vrc6.rs, Saw::new)
abbrev pub saw_at : (frequency : ℕ) → Saw
saw_at f = record { enabled = false; accum = 0; accum_rate = 0; frequency = f; timer = f; step = 0; freq_shift = 0 }

-- s with another timer, step and accumulator
abbrev pub saw_timed : (timer step accum : ℕ) → Saw → Saw
saw_timed t k a s = record s { accum = a; timer = t; step = k }

-- s with another frequency
abbrev pub saw_tuned : (frequency : ℕ) → Saw → Saw
saw_tuned f s = record s { frequency = f }

-- s on or off; off, its accumulator and step are cleared (VRC6 audio)
abbrev pub saw_enabled : Bool → Saw → Saw
saw_enabled on s = record s { enabled = on; accum = cond on s.accum 0; step = cond on s.step 0 }

-- $B000: `..AA AAAA`, the rate (VRC6 audio)
abbrev pub saw_controlled : (val : ℕ) → Saw → Saw
saw_controlled v s = record s { accum_rate = v % 64 }

-- a register of the saw gets a byte (01, Sound 1; VRC6 audio)
unfoldable pub saw_written : ChannelRegister → (val : ℕ) → Saw → Saw
saw_written Volume v s = saw_controlled v s
saw_written FrequencyLow v s = saw_tuned (low_byte s.frequency v) s
saw_written FrequencyHigh v s = saw_enabled (enables v) (saw_tuned (high_bits s.frequency v) s)

-- s with another shift, by $9003 (01, Sound 1)
abbrev pub saw_shifted : (shift : ℕ) → Saw → Saw
saw_shifted n s = record s { freq_shift = n }

-- the accumulator as a step begins: cleared at 0, the rate added at the other even steps, 8 bits, the carry discarded
-- (01, Sound 1; 01, The form to use in each place 3; VRC6 audio)
abbrev pub accumulated : (step accum rate : ℕ) → ℕ
accumulated k a r = cond (k == 0) 0 (cond (k % 2 == 0) ((a + r) % 2 ^ 8) a)

-- s with this timer at the step k, which begins
abbrev pub saw_stepped : (timer step : ℕ) → Saw → Saw
saw_stepped t k s = saw_timed t k (accumulated k s.accum s.accum_rate) s

-- a clock of an enabled saw: where the timer runs out, the next of 14 steps (VRC6 audio)
abbrev pub saw_run : Saw → Saw
saw_run s =
    let t = timer_next s.timer (period_of s.frequency s.freq_shift) in
    cond (runs_out s.timer) (saw_stepped t ((s.step + 1) % 14) s) (saw_timed t s.step s.accum s)

-- a clock of the saw (01, Sound 1; VRC6 audio)
unfoldable pub saw_clocked : Saw → Saw
saw_clocked s = cond s.enabled (saw_run s) s

-- what the saw puts out: the accumulator's top 5 bits (01, Sound 1; VRC6 audio)
unfoldable pub saw_level : Saw → ℕ
saw_level s = cond s.enabled (s.accum / 8) 0
