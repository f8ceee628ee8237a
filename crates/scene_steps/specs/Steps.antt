-- The steps of a scene, as a cell's words write them (docs/SCENES.md). Assumes nothing.
use Rattle.std.specs.Prelude.{Result, Ok, Err, Bool, cond, ◌&&◌, ◌||◌, List, ℕ, zero, suc, ◌+◌, ◌*◌, ◌/◌, ◌%◌, eqb, length, drop, get_or}
use Rattle.text_words.specs.declared.number.NumberError.{NumberError}
use Rattle.text_words.specs.Names.{codes, same_name}
use Rattle.text_words.specs.Numbers.{number_of}
use Rattle.scene_cells.specs.Marks.{from_mark, before_mark, behind_mark}
use Rattle.scene_steps.specs.declared.step.Step.{Step}
use Rattle.scene_steps.specs.declared.step.Step.TheVariants.{Write, Clocks, Reset}
use Rattle.scene_steps.specs.declared.step.StepError.{StepError}
use Rattle.scene_steps.specs.declared.step.StepError.TheVariants.{BadAddress, BadByte, BadClocks, NoStep}

-- the word `reset`, capitals or not (docs/SCENES.md)
abbrev pub is_reset : List ℕ → Bool
is_reset w = same_name w (codes "reset")

-- how many bytes stand before the digits of a hexadecimal number: one of `$`, two of `0x` or `0X`, or none (docs/SCENES.md)
abbrev pub prefix_length : List ℕ → ℕ
prefix_length w =
    cond (eqb (get_or w 0 0) 36) 1
    (cond (eqb (get_or w 0 0) 48 && (eqb (get_or w 1 0) 120 || eqb (get_or w 1 0) 88)) 2 0)

-- the number of a word's hexadecimal digits, with or without a prefix; none where there are no digits (docs/SCENES.md)
abbrev pub hex_of : (limit : ℕ) → List ℕ → Result ℕ NumberError
hex_of limit w = number_of 16 limit (drop (prefix_length w) w)

-- the number behind `+` (docs/SCENES.md)
abbrev pub clocks_from : Result ℕ NumberError → Result Step StepError
clocks_from (Ok n) = Ok (Clocks n)
clocks_from (Err e) = Err (BadClocks e)

-- the byte behind `=`, with the address before it (docs/SCENES.md)
abbrev pub byte_from : (address : ℕ) → Result ℕ NumberError → Result Step StepError
byte_from a (Ok v) = Ok (Write a v)
byte_from a (Err e) = Err (BadByte e)

-- the two numbers around `=` (docs/SCENES.md)
abbrev pub write_from : (address byte : Result ℕ NumberError) → Result Step StepError
write_from (Ok a) byte = byte_from a byte
write_from (Err e) byte = Err (BadAddress e)

-- what a word says: `reset`, `+N` with N up to 1,000,000, `AAAA=BB`, or what is wrong with it (docs/SCENES.md)
unfoldable pub step_of : List ℕ → Result Step StepError
step_of w =
    cond (is_reset w) (Ok Reset)
    (cond (eqb (get_or w 0 0) 43) (clocks_from (number_of 10 1_000_000 (drop 1 w)))
    (cond (eqb (length (from_mark 61 w)) 0) (Err NoStep)
    (write_from (hex_of 65_535 (before_mark 61 w)) (hex_of 255 (behind_mark 61 w)))))

-- the clocks that a step waits
abbrev pub wait_of : Step → ℕ
wait_of (Write a v) = 0
wait_of (Clocks n) = n
wait_of Reset = 0

-- a step as one number: its kind above 24 bits, what it carries below
abbrev pub code_of : Step → ℕ
code_of (Write a v) = a * 256 + v
code_of (Clocks n) = 0x1000000 + n % 0x1000000
code_of Reset = 0x2000000

-- the step of a kind with what it carries; there are three kinds
abbrev pub step_from : (kind low : ℕ) → Result Step StepError
step_from zero low = Ok (Write (low / 256) (low % 256))
step_from (suc zero) low = Ok (Clocks low)
step_from (suc (suc zero)) low = Ok Reset
step_from (suc (suc (suc n))) low = Err NoStep

-- the step of such a number
abbrev pub step_coded : ℕ → Result Step StepError
step_coded code = step_from (code / 0x1000000) (code % 0x1000000)
