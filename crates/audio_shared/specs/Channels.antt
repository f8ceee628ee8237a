-- What every channel has: frequency, enable bit, period and timer (VRC6 audio). Assumes nothing.
use Rattle.std.specs.Prelude.{ℕ, ◌+◌, ◌-◌, ◌*◌, ◌/◌, ◌%◌, ◌^◌, Bool, cond, leb}
use Rattle.base_shared.specs.Bits.{bit}

-- $x001 gives the period's low 8 bits; of a frequency bits 8..11 stay (VRC6 audio; m024_m026_vrc6.rs, Pulse::write_register)
abbrev pub low_byte : (frequency val : ℕ) → ℕ
low_byte f v = f / 256 % 16 * 256 + v % 256

-- $x002 gives the period's high 4 bits (VRC6 audio)
abbrev pub high_bits : (frequency val : ℕ) → ℕ
high_bits f v = v % 16 * 256 + f % 256

-- $x002, E: the channel is enabled (VRC6 audio)
abbrev pub enables : (val : ℕ) → Bool
enables v = bit 7 v

-- the divider's period: the frequency, shifted right, and 1 (VRC6 audio)
abbrev pub period_of : (frequency shift : ℕ) → ℕ
period_of f s = f / 2 ^ s + 1

-- a timer at 1 runs out with the next clock
abbrev pub runs_out : (timer : ℕ) → Bool
runs_out t = leb t 1

-- a timer after a clock: it falls by 1, and starts again from the period where it runs out
abbrev pub timer_next : (timer period : ℕ) → ℕ
timer_next t l = cond (runs_out t) l (t - 1)
