-- Examples of what the definition gives. Assumes nothing.
use Rattle.std.specs.Prelude.{◌≡◌, List, ℕ, Option, Some, None, Result, Ok}
use Rattle.text_words.specs.Names.{codes}
use Rattle.script_lines.specs.declared.error.LineError.{LineError}
use Rattle.script_lines.specs.declared.line.Line.{Line}
use Rattle.script_lines.specs.Lines.{line_read}
use Rattle.vrc6_calls.specs.declared.Call.{Call}
use Rattle.vrc6_calls.specs.declared.Call.TheVariants.{CpuRead, CpuWrite, PictureRead, SoftReset, HardReset}
use Rattle.script_calls.specs.Calls.{call_of}

-- the call that a line makes; none where it makes none
abbrev pub call_in : Result (Option Line) LineError → Option Call
call_in (Ok (Some (Line.Call call))) = Some (call_of call)
call_in _ = None

-- the call that a text makes
abbrev pub called : List ℕ → Option Call
called text = call_in (line_read text)

-- the calls of lines
pub record CallExamples : Type 0 where
  pub read : called (codes "R 6000") ≡ Some (CpuRead 24_576 0)
  pub write_letter : called (codes "W b003 a0") ≡ Some (CpuWrite 45_059 160)
  pub write_word : called (codes "write b003 a0") ≡ Some (CpuWrite 45_059 160)
  pub picture_read : called (codes "P 2000") ≡ Some (PictureRead 8_192)
  pub hard : called (codes "Z h") ≡ Some HardReset
  pub soft : called (codes "reset soft") ≡ Some SoftReset
  pub read_bus : called (codes "B 6000 5a") ≡ Some (CpuRead 24_576 90)
