-- Small whole numbers as f32s. Assumes nothing.
use Rattle.std.specs.Prelude.{ℕ, Bool, cond, ◌&&◌, pos, leb, Float}
use Rattle.std.specs.Float.{binary32}
use Rattle.std.specs.Float.Ieee.{of_int, add, lt, in_unsigned, to_unsigned}

-- n as an f32
abbrev pub float : ℕ → Float
float n = of_int binary32 (pos n)

-- three levels by two f32 additions (m024_m026_vrc6.rs, Audio::clock)
abbrev pub mixed : Float → Float → Float → Float
mixed a b c = add binary32 (add binary32 a b) c

-- x is a whole number 0..61, and not negative zero (01, Records 5)
unfoldable pub is_sum : Float → Bool
is_sum x = in_unsigned binary32 8 x && leb (to_unsigned 8 x) 61

-- x where it is below 62, otherwise 62
abbrev pub sum_capped : Float → Float
sum_capped x = cond (lt x (float 62)) x (float 62)
