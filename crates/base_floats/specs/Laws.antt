-- What is proved of sums. Assumes nothing.
use Rattle.std.specs.Prelude.{ℕ, ◌+◌, ◌^◌, ◌≤◌, ◌≡◌, Bool, true, false, ◌↔◌, T, Float}
use Rattle.std.specs.Float.{nan, inf, binary32}
use Rattle.std.specs.Float.Ieee.{fits, of_bits, neg}
use Rattle.base_floats.specs.Wholes.{float, mixed, is_sum}

-- of every f32: it passes the test of a sum exactly where it is the f32 of a whole number 0..61 (01, Records 5)
abbrev pub IsSumLaw : Type 0
IsSumLaw = (x : Float) → T (fits binary32 x) → (is_sum x ≡ true) ↔ ((n : ℕ) × (n ≤ 61) × (x ≡ float n))

-- up to 2 ^ 24, from where on f32s skip whole numbers, the two additions lose nothing (01, The form to use in each place 5)
abbrev pub WholeSumLaw : Type 0
WholeSumLaw = (a b c : ℕ) → a + b + c ≤ 2 ^ 24 → mixed (float a) (float b) (float c) ≡ float (a + b + c)

-- what is no sum, by examples; 0x3f00_0000 is a half (01, Records 5)
pub record NoSums : Type 0 where
  pub not_a_number : is_sum nan ≡ false
  pub infinite : (negative : Bool) → is_sum (inf negative) ≡ false
  pub negative_zero : is_sum (neg (float 0)) ≡ false
  pub negative_one : is_sum (neg (float 1)) ≡ false
  pub half : is_sum (of_bits binary32 0x3f00_0000) ≡ false
  pub sixty_two : is_sum (float 62) ≡ false
