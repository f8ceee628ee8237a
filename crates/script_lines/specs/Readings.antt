-- A line's arguments, read one after the other (oracle/FORMAT.md). Assumes nothing.
use Rattle.std.specs.Prelude.{cond, List, [], ◌∷◌, ℕ, eqb, drop, get_or, slice_get, Option, Some, None, Result, Ok, Err}
use Rattle.text_words.specs.declared.number.NumberError.{NumberError}
use Rattle.text_words.specs.declared.number.NumberError.TheVariants.{NoNumber, TooLarge}
use Rattle.text_words.specs.Numbers.{number_of}
use Rattle.text_words.specs.Names.{codes, named}
use Rattle.vrc6_slots.specs.declared.Mirroring.{Mirroring}
use Rattle.vrc6_slots.specs.declared.Mirroring.TheVariants.{Vertical, Horizontal, SingleScreenA, SingleScreenB, FourScreen}
use Rattle.script_lines.specs.declared.error.LineError.{LineError}
use Rattle.script_lines.specs.declared.error.LineError.TheVariants as Fault

-- an argument: its value, and the words behind it
pub record Reading (A : Type 0) : Type 0 where
  pub value : A
  pub rest : List (List ℕ)

-- what reads an argument
abbrev pub Reader : Type 0 → Type 0
Reader A = List (List ℕ) → Result (Reading A) LineError

-- an argument from the value that was read, with the words that are left
abbrev pub read : {A : Type 0} → List (List ℕ) → Result A LineError → Result (Reading A) LineError
read rest (Ok v) = Ok (record { value = v; rest = rest })
read rest (Err e) = Err e

-- a value that takes no word
abbrev pub given : {A : Type 0} → A → Reader A
given v words = Ok (record { value = v; rest = words })

-- what follows an argument
abbrev pub behind : {A B : Type 0} → Result (Reading A) LineError → (A → Reader B) → Result (Reading B) LineError
behind (Ok r) next = next r.value r.rest
behind (Err e) next = Err e

-- an argument, and then what follows it
abbrev pub then : {A B : Type 0} → Reader A → (A → Reader B) → Reader B
then first next words = behind (first words) next

-- the next word, by a rule for it
abbrev pub following : {A : Type 0} → (List ℕ → Result A LineError) → Reader A
following rule [] = Err Fault.Missing
following rule (word ∷ rest) = read rest (rule word)

-- ---- numbers
-- what a word that is no such number is wrong by; none is for one that is no number at all
abbrev pub number_fault : (none : LineError) → NumberError → LineError
number_fault none NoNumber = none
number_fault none TooLarge = Fault.TooLarge

-- a number's argument
abbrev pub judged : (none : LineError) → Result ℕ NumberError → Result ℕ LineError
judged none (Ok v) = Ok v
judged none (Err e) = Err (number_fault none e)

-- a word's number, hexadecimal behind `$`
abbrev pub marked_number : (base limit : ℕ) → List ℕ → Result ℕ NumberError
marked_number base limit word = cond (eqb (get_or word 0 0) 36) (number_of 16 limit (drop 1 word)) (number_of base limit word)

-- a number in a base, up to a limit
unfoldable pub number_after : (base limit : ℕ) → (none : LineError) → Reader ℕ
number_after base limit none words = following (λ (word : List ℕ). judged none (marked_number base limit word)) words

-- the largest 32-bit number
abbrev pub largest : ℕ
largest = 4_294_967_295

-- an address
abbrev pub address_after : Reader ℕ
address_after = number_after 16 65_535 Fault.NoHexadecimal

-- a byte
abbrev pub byte_after : Reader ℕ
byte_after = number_after 16 255 Fault.NoHexadecimal

-- any hexadecimal number
abbrev pub hexadecimal_after : Reader ℕ
hexadecimal_after = number_after 16 largest Fault.NoHexadecimal

-- any decimal number
abbrev pub decimal_after : Reader ℕ
decimal_after = number_after 10 largest Fault.NoDecimal

-- ---- names
-- what a choice comes to
abbrev pub chosen : {A : Type 0} → (none : LineError) → Option A → Result A LineError
chosen none (Some v) = Ok v
chosen none None = Err none

-- one of the names, as what it stands for
unfoldable pub named_after : {A : Type 0} → List (List ℕ × A) → Reader A
named_after table words = following (λ (word : List ℕ). chosen Fault.NoChoice (named table word)) words

-- the mirrorings, by their numbers
abbrev pub numbered_mirrorings : List Mirroring
numbered_mirrorings = Vertical ∷ Horizontal ∷ SingleScreenA ∷ SingleScreenB ∷ FourScreen ∷ []

-- a mirroring by its number; a number of none is too large
abbrev pub mirroring_after : Reader Mirroring
mirroring_after = then (number_after 10 255 Fault.NoDecimal) (λ n words. read words (chosen Fault.TooLarge (slice_get numbered_mirrorings n)))

-- the words that stand for numbers
abbrev pub numbers : List (List ℕ × ℕ)
numbers = (codes "no", 0) ∷ (codes "yes", 1) ∷ (codes "silent", 1) ∷ (codes "held", 2) ∷ (codes "playing", 3) ∷ (codes "none", largest) ∷ []

-- a value's word: one of those words, or a decimal number
abbrev pub value_of_word : Option ℕ → List ℕ → Result ℕ LineError
value_of_word (Some n) word = Ok n
value_of_word None word = judged Fault.NoDecimal (marked_number 10 largest word)

-- a value
unfoldable pub value_after : Reader ℕ
value_after words = following (λ (word : List ℕ). value_of_word (named numbers word) word) words
