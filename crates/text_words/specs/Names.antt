-- Names: the words of a text, and which of them a word is, where a capital counts as its small letter. Assumes nothing.
use Rattle.std.specs.Prelude.{Bool, true, false, cond, ◌&&◌, List, [], ◌∷◌, ℕ, zero, suc, ◌+◌, eqb, length, Option, option_and_then, option_map, position, slice_get}
use Rattle.std.specs.List.{find}
use Prim.Native.Char.{code}
use Prim.Native.String.{String, [] as empty, ◌∷◌ as ◌before◌}
use Rattle.text_words.specs.Numbers.{between}
use Rattle.text_words.specs.Words.{from_word, past_word, word_of}

-- the codes of a text's characters (ASCII)
abbrev pub codes : String → List ℕ
codes empty = []
codes (c before s) = code c ∷ codes s

-- the first n words of a text
abbrev pub words_in : (n : ℕ) → List ℕ → List (List ℕ)
words_in zero text = []
words_in (suc n) text = cond (eqb (length (word_of (from_word text))) 0) [] (word_of (from_word text) ∷ words_in n (past_word (from_word text)))

-- the words of a text, which are no more than its bytes
abbrev pub words_of : List ℕ → List (List ℕ)
words_of text = words_in (length text) text

-- a capital as its small letter (ASCII)
abbrev pub small : ℕ → ℕ
small b = cond (between 65 90 b) (b + 32) b

-- two names are equal
abbrev pub same_name : List ℕ → List ℕ → Bool
same_name [] [] = true
same_name [] (y ∷ ys) = false
same_name (x ∷ xs) [] = false
same_name (x ∷ xs) (y ∷ ys) = eqb (small x) (small y) && same_name xs ys

-- the place of a name among the words of a text, from 0; none where it is none of them
unfoldable pub place_in : (names name : List ℕ) → Option ℕ
place_in names name = position (same_name name) (words_of names)

-- what a name stands for, by a table of names
abbrev pub named : {A : Type 0} → List (List ℕ × A) → List ℕ → Option A
named table word = option_map (λ entry. entry.1) (find (λ entry. same_name entry.0 word) table)

-- the n-th word of a text, from 0; none where there are fewer
unfoldable pub nth_word : (n : ℕ) → List ℕ → Option (List ℕ)
nth_word n text = slice_get (words_of text) n

-- a byte of the n-th word, from 0; none behind its end
abbrev pub byte_of_nth : (n i : ℕ) → List ℕ → Option ℕ
byte_of_nth n i text = option_and_then (λ w. slice_get w i) (nth_word n text)
