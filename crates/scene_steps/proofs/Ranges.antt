-- What a word says is within its limits. Assumes nothing.
use mathlib.Core.List.{List, [], ◌∷◌}
use Prim.Native.Nat.{ℕ, ◌≤◌}
use native.Mathlib.Omega.{arith}
use lib.Dec.{eqb, leb}
use lib.ListN.{length, drop, get_or}
use borrow.Author.Tests.{leb-true}
use Rattle.base_shared.proofs.Tests.{either, tested}
use Rattle.text_words.specs.declared.number.NumberError.{NumberError}
use Rattle.text_words.specs.Numbers.{are_digits, limited, number_of, value_of}
use Rattle.scene_cells.specs.Marks.{from_mark, before_mark, behind_mark}
use Rattle.std.proofs.Common.{Result, Ok, Err}
use Rattle.scene_steps.specs.declared.step.StepError.{StepError}
use Rattle.scene_steps.specs.declared.step.StepError.TheVariants.{BadAddress, BadByte, BadClocks, NoStep}
use Rattle.scene_steps.specs.Laws.{Said, SaidLaw}
use Rattle.scene_steps.specs.Steps.{byte_from, clocks_from, hex_of, is_reset, prefix_length, step_of, write_from}

-- a number within its limit
abbrev pub Below : (limit : ℕ) → Result ℕ NumberError → Type 0
Below limit (Ok n) = n ≤ limit
Below limit (Err e) = Unit {0}

limited_below : (limit v : ℕ) → Below limit (limited limit v)
limited_below limit v = tested (leb v limit) (λ e. rw e (leb-true v limit e)) (λ e. rw e tt)

pub below : (base limit : ℕ) (w : List ℕ) → Below limit (number_of base limit w)
unfolding number_of
below base limit [] = tt
below base limit (b ∷ bs) =
    either (Below limit) (are_digits base (b ∷ bs)) (limited_below limit (value_of base (b ∷ bs))) tt

-- what is no step asks nothing
wrong : (e : StepError) → Said (Err e)
wrong e = record { in_range = tt; wait = tt }

clocks_said : (n : Result ℕ NumberError) → Below 1_000_000 n → Said (clocks_from n)
clocks_said (Ok n) h = record { in_range = omega arith; wait = h }
clocks_said (Err e) h = wrong (BadClocks e)

byte_said : (a : ℕ) → a ≤ 65_535 → (n : Result ℕ NumberError) → Below 255 n → Said (byte_from a n)
byte_said a k (Ok v) h = record { in_range = (omega arith, omega arith); wait = omega arith }
byte_said a k (Err e) h = wrong (BadByte e)

write_said : (a b : Result ℕ NumberError) → Below 65_535 a → Below 255 b → Said (write_from a b)
write_said (Ok a) b k h = byte_said a k b h
write_said (Err e) b k h = wrong (BadAddress e)

hex_below : (limit : ℕ) (w : List ℕ) → Below limit (hex_of limit w)
hex_below limit w = below 16 limit (drop (prefix_length w) w)

pub said_law : SaidLaw
unfolding step_of
said_law w =
    either Said (is_reset w) (record { in_range = tt; wait = omega arith })
    (either Said (eqb (get_or w 0 0) 43) (clocks_said (number_of 10 1_000_000 (drop 1 w)) (below 10 1_000_000 (drop 1 w)))
    (either Said (eqb (length (from_mark 61 w)) 0) (wrong NoStep)
    (write_said (hex_of 65_535 (before_mark 61 w)) (hex_of 255 (behind_mark 61 w)) (hex_below 65_535 (before_mark 61 w)) (hex_below 255 (behind_mark 61 w)))))
