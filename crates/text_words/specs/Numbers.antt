-- The numbers that words write. Assumes nothing.
use Rattle.std.specs.Prelude.{Bool, true, cond, ◌&&◌, ℕ, ◌+◌, ◌*◌, ◌-◌, leb, ltb, Option, Some, None, Result, Ok, Err, is_some, unwrap_or}
use mathlib.Core.List.{List, [], ◌∷◌, foldl}
use Rattle.text_words.specs.declared.number.NumberError.{NumberError}
use Rattle.text_words.specs.declared.number.NumberError.TheVariants.{NoNumber, TooLarge}

-- a byte lies between two others, both included
abbrev pub between : (low high byte : ℕ) → Bool
between low high byte = leb low byte && leb byte high

-- what a digit stands for, a letter in either case (ASCII); none for a byte that is no digit
abbrev pub digit_of : ℕ → Option ℕ
digit_of b =
    cond (between 48 57 b) (Some (b - 48))
    (cond (between 65 70 b) (Some (b - 65 + 10))
    (cond (between 97 102 b) (Some (b - 97 + 10))
    None))

-- a digit of the base
abbrev pub below : (base : ℕ) → Option ℕ → Option ℕ
below base None = None
below base (Some d) = cond (ltb d base) (Some d) None

-- every byte is a digit of the base
abbrev pub are_digits : ℕ → List ℕ → Bool
are_digits base [] = true
are_digits base (b ∷ bs) = is_some (below base (digit_of b)) && are_digits base bs

-- what digits stand for, the highest first
abbrev pub value_of : ℕ → List ℕ → ℕ
value_of base bs = foldl (λ (v b : ℕ). v * base + unwrap_or (digit_of b) 0) 0 bs

-- a value within a limit
abbrev pub limited : (limit value : ℕ) → Result ℕ NumberError
limited limit value = cond (leb value limit) (Ok value) (Err TooLarge)

-- a word's number: none where it is empty or has another byte than digits of the base
unfoldable pub number_of : (base limit : ℕ) → List ℕ → Result ℕ NumberError
number_of base limit [] = Err NoNumber
number_of base limit (b ∷ bs) = cond (are_digits base (b ∷ bs)) (limited limit (value_of base (b ∷ bs))) (Err NoNumber)
