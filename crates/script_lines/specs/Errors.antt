-- What is printed of a line that is wrong (oracle/FORMAT.md). Assumes nothing.
use Rattle.std.specs.Prelude.{List, ℕ}
use Rattle.text_words.specs.Names.{codes}
use Rattle.script_lines.specs.declared.error.LineError.{LineError}
use Rattle.script_lines.specs.declared.error.LineError.TheVariants.{UnknownLine, Missing, NoHexadecimal, NoDecimal, TooLarge, TooMany, NoChoice}

-- what is wrong with it
abbrev pub error_text : LineError → List ℕ
error_text UnknownLine = codes "no such line"
error_text Missing = codes "a word is missing"
error_text NoHexadecimal = codes "no hexadecimal number"
error_text NoDecimal = codes "no decimal number"
error_text TooLarge = codes "the number is too large"
error_text TooMany = codes "too many words"
error_text NoChoice = codes "none of the words that can stand there"
