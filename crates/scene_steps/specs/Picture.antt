-- Where in the picture the writes end, as the cell `at` says it (docs/SCENES.md). Assumes nothing.
use Rattle.std.specs.Prelude.{Result, Ok, Err, Option, Some, None, cond, List, ℕ, eqb, length}
use Rattle.text_words.specs.declared.number.NumberError.{NumberError}
use Rattle.text_words.specs.Numbers.{number_of}
use Rattle.text_words.specs.Words.{from_word, is_empty, past_word, word_of}
use Rattle.scene_cells.specs.Marks.{from_mark, before_mark, behind_mark}
use Rattle.scene_steps.specs.declared.picture.At.{At}
use Rattle.scene_steps.specs.declared.picture.At.TheVariants.{Line, Dot}
use Rattle.scene_steps.specs.declared.picture.AtError.{AtError}
use Rattle.scene_steps.specs.declared.picture.AtError.TheVariants.{NoLine, NoDot, ManyWords}

-- a line alone (docs/SCENES.md)
abbrev pub at_line : Result ℕ NumberError → Result At AtError
at_line (Ok line) = Ok (Line line)
at_line (Err e) = Err NoLine

-- the number behind `:`, with the line before it (docs/SCENES.md)
abbrev pub dot_from : (line : ℕ) → Result ℕ NumberError → Result At AtError
dot_from line (Ok dot) = Ok (Dot line dot)
dot_from line (Err e) = Err NoDot

-- the two numbers around `:` (docs/SCENES.md)
abbrev pub line_and_dot : (line dot : Result ℕ NumberError) → Result At AtError
line_and_dot (Ok line) dot = dot_from line dot
line_and_dot (Err e) dot = Err NoLine

-- what a word says: a line of 0 to 261, or a line and a dot of 0 to 340 behind `:`, decimal; or what is wrong with it (docs/SCENES.md)
unfoldable pub at_of : List ℕ → Result At AtError
at_of w =
    cond (eqb (length (from_mark 58 w)) 0) (at_line (number_of 10 261 w))
    (line_and_dot (number_of 10 261 (before_mark 58 w)) (number_of 10 340 (behind_mark 58 w)))

-- a place that a word says, as what its cell says
abbrev pub said_at : Result At AtError → Result (Option At) AtError
said_at (Ok at) = Ok (Some at)
said_at (Err e) = Err e

-- what a cell says: nothing where it is blank, otherwise what its only word does (docs/SCENES.md)
abbrev pub at_in : List ℕ → Result (Option At) AtError
at_in cell =
    cond (is_empty cell) (Ok None)
    (cond (is_empty (past_word (from_word cell))) (said_at (at_of (word_of (from_word cell)))) (Err ManyWords))
