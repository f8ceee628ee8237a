-- The bytes of a cell that make a name, and a text's end by its last byte of a kind (docs/SCENES.md). Assumes nothing.
use Rattle.std.specs.Prelude.{Bool, false, cond, not, ◌||◌, List, [], ◌∷◌, ℕ, eqb}
use Rattle.text_words.specs.Words.{from_word, is_blank}

-- a test takes one of the bytes
abbrev pub takes_any : (test : ℕ → Bool) → List ℕ → Bool
takes_any test [] = false
takes_any test (b ∷ bs) = test b || takes_any test bs

-- a text up to its last byte that a test takes, with that byte; nothing where it has none
abbrev pub up_to : (test : ℕ → Bool) → List ℕ → List ℕ
up_to test [] = []
up_to test (b ∷ bs) = cond (takes_any test (b ∷ bs)) (b ∷ up_to test bs) []

-- a slash (ASCII)
abbrev pub is_slash : ℕ → Bool
is_slash b = eqb b 47

-- a byte that is no blank
abbrev pub is_ink : ℕ → Bool
is_ink b = not (is_blank b)

-- a text without the blanks at its ends
abbrev pub trimmed : List ℕ → List ℕ
trimmed text = up_to is_ink (from_word text)
