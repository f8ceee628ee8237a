-- The examples, computed. Assumes nothing.
use mathlib.Core.Path.{refl}
use Rattle.text_words.specs.Numbers.{number_of}
use Rattle.script_lines.specs.Lines.{call_behind, line_behind, line_read, name_of}
use Rattle.script_lines.specs.Readings.{named_after, number_after}
use Rattle.script_calls.specs.Laws.{CallExamples}

pub examples : CallExamples
unfolding call_behind line_behind line_read name_of named_after number_after number_of
examples = record { read = refl; write_letter = refl; write_word = refl; picture_read = refl; hard = refl; soft = refl; read_bus = refl }
