-- The examples, computed. Assumes nothing.
use mathlib.Core.Path.{refl}
use Rattle.text_words.specs.Numbers.{number_of}
use Rattle.script_lines.specs.Lines.{call_behind, creation_after, layout_after, line_behind, line_read, name_of, revision_after}
use Rattle.script_lines.specs.Readings.{named_after, number_after, value_after}
use Rattle.script_lines.specs.Values.{named_value, value_behind}
use Rattle.script_lines.specs.Laws.{LineExamples}

pub examples : LineExamples
unfolding call_behind creation_after layout_after line_behind line_read name_of named_after named_value number_after number_of revision_after value_after value_behind
examples =
    record {
      read = refl;
      write = refl;
      hard = refl;
      soft = refl;
      registers = refl;
      read_bus = refl;
      clocks = refl;
      create = refl;
      layout_s = refl;
      open_bus = refl;
      lend = refl;
      poke_sum = refl;
      poke_open_bus = refl;
      expect_entry = refl;
      expect_timer = refl;
      expect_none = refl;
      expect_held = refl;
      heading = refl;
      comment = refl;
      blank = refl;
      unknown = refl;
      missing = refl;
      no_number = refl;
      no_decimal = refl;
      too_large = refl;
      no_mirroring = refl;
      too_many = refl;
      no_choice = refl;
      no_setting = refl;
      no_name = refl;
      no_place = refl;
    }
