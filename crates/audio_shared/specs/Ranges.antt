-- The ranges of what every channel has: frequency, timer and shift (01, Sound; 01, The board's calls). Assumes nothing.
use Rattle.std.specs.Prelude.{ℕ, Bool, ◌&&◌, ◌||◌, leb, eqb}

-- a shift is 0, 4 or 8 (01, The board's calls 4)
abbrev pub is_shift : (shift : ℕ) → Bool
is_shift s = eqb s 0 || eqb s 4 || eqb s 8

-- frequency 0..4,095, timer 1..4,096, shift 0, 4 or 8 (01, The board's calls 4; 01, Sound 1)
abbrev pub channel_in_range : (frequency timer shift : ℕ) → Bool
channel_in_range f t s = leb f 4095 && leb 1 t && leb t 4096 && is_shift s
