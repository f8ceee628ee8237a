-- A line's words: runs of bytes that are no blanks. Assumes nothing.
use Rattle.std.specs.Prelude.{Bool, true, false, cond, ◌||◌, List, [], ◌∷◌, ℕ, ◌-◌, eqb, length, take, Option, Some, None}
use Rattle.std.specs.Bool.{beq}
use Rattle.text_words.specs.Numbers.{between}

-- a space, or one of tab, line feed, vertical tab, form feed and carriage return (ASCII)
abbrev pub is_blank : ℕ → Bool
is_blank b = eqb b 32 || between 9 13 b

-- a text from its first byte on that a test takes; nothing where it has none
abbrev pub from_taken : (test : ℕ → Bool) → List ℕ → List ℕ
from_taken test [] = []
from_taken test (b ∷ bs) = cond (test b) (b ∷ bs) (from_taken test bs)

-- a text from its first blank on, or from its first byte on that is none
abbrev pub from_first : (blank : Bool) → List ℕ → List ℕ
from_first blank s = from_taken (λ (b : ℕ). beq (is_blank b) blank) s

-- a text from its first word on
abbrev pub from_word : List ℕ → List ℕ
from_word s = from_first false s

-- a text behind the word that it begins with
abbrev pub past_word : List ℕ → List ℕ
past_word s = from_first true s

-- the word that a text begins with
abbrev pub word_of : List ℕ → List ℕ
word_of s = take (length s - length (past_word s)) s

-- a text has no word (docs/SCENES.md)
abbrev pub is_empty : List ℕ → Bool
is_empty text = eqb (length (word_of (from_word text))) 0

-- the only word of a text; none where it has none or several (docs/SCENES.md)
abbrev pub only_word : List ℕ → Option (List ℕ)
only_word text = cond (is_empty text) None (cond (is_empty (past_word (from_word text))) (Some (word_of (from_word text))) None)
