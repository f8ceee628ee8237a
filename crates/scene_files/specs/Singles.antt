-- What a cell of one word says, and whether a file says otherwise (docs/SCENES.md). Assumes nothing.
use Rattle.std.specs.Prelude.{Bool, cond, List, ℕ, Option, Some, None, Result, Ok, Err}
use Rattle.text_words.specs.declared.number.NumberError.{NumberError}
use Rattle.text_words.specs.declared.number.NumberError.TheVariants as number
use Rattle.text_words.specs.Words.{from_word, is_empty, past_word, word_of}
use Rattle.scene_files.specs.declared.singles.Said.{Said}
use Rattle.scene_files.specs.declared.singles.Said.TheVariants.{File, Default}
use Rattle.scene_files.specs.declared.singles.SingleError.{SingleError}
use Rattle.scene_files.specs.declared.singles.SingleError.TheVariants.{NoValue, TooLarge, ManyWords, NotTheFile}

-- what was said already
abbrev pub value_said : {T : Type 0} → Said T → T
value_said (File value) = value
value_said (Default value) = value

-- the file's value, where there is a file
abbrev pub file_value : {T : Type 0} → Said T → Option T
file_value (File value) = Some value
file_value (Default value) = None

-- what is wrong with a word that is no value of its column
abbrev pub single_error : NumberError → SingleError
single_error number.NoNumber = NoValue
single_error number.TooLarge = TooLarge

-- a value, and where there is a file, the file's and no other
abbrev pub agreed : {T : Type 0} → (same : T → T → Bool) → Said T → T → Result T SingleError
agreed same (File said) value = cond (same value said) (Ok value) (Err NotTheFile)
agreed same (Default said) value = Ok value

-- what a word says, beside what was said
abbrev pub compared : {T : Type 0} → (same : T → T → Bool) → Said T → Result T NumberError → Result T SingleError
compared same said (Ok value) = agreed same said value
compared same said (Err e) = Err (single_error e)

-- what a cell says whose words are read so: what was said already where it is blank; otherwise it has one word, which may not say otherwise
-- than the file
abbrev pub single_of : {T : Type 0} → (same : T → T → Bool) → (reads : List ℕ → Result T NumberError) → Said T → List ℕ → Result T SingleError
single_of same reads said cell =
    cond (is_empty cell) (Ok (value_said said))
    (cond (is_empty (past_word (from_word cell))) (compared same said (reads (word_of (from_word cell)))) (Err ManyWords))
