-- Examples of what the definitions give. Assumes nothing.
use Rattle.std.specs.Prelude.{◌≡◌, true, Some, None, Ok, Err}
use Rattle.text_words.specs.Names.{codes}
use Rattle.vrc6_banking.specs.declared.banking.Revision.TheVariants.{A, B}
use Rattle.vrc6_slots.specs.declared.Mirroring.TheVariants.{Horizontal, FourScreen}
use Rattle.script_lines.specs.declared.error.LineError.TheVariants as Fault
use Rattle.script_lines.specs.declared.line.Bytes.TheVariants as Bytes
use Rattle.script_lines.specs.declared.line.CallLine.TheVariants as CallLine
use Rattle.script_lines.specs.declared.line.Line.TheVariants as Line
use Rattle.script_lines.specs.declared.names.Shown.TheVariants as Shown
use Rattle.script_lines.specs.declared.values.AnswerValue.TheVariants as AnswerValue
use Rattle.script_lines.specs.declared.values.BoardValue.TheVariants as BoardValue
use Rattle.script_lines.specs.declared.values.Buffer.TheVariants as Buffer
use Rattle.script_lines.specs.declared.values.ChannelField.TheVariants as ChannelField
use Rattle.script_lines.specs.declared.values.ChannelName.TheVariants as ChannelName
use Rattle.script_lines.specs.declared.values.Value.TheVariants as Value
use Rattle.script_lines.specs.Lines.{layout_s, line_read}
use Rattle.script_lines.specs.Readings.{largest}

-- lines, and what is wrong with lines
pub record LineExamples : Type 0 where
  -- lines and their arguments
  -- an address
  pub read : line_read (codes "R 8000") ≡ Ok (Some (Line.Call (CallLine.Read 32_768)))
  -- a call's word, further blanks, a capital, a marked number
  pub write : line_read (codes " Write b003  $A0") ≡ Ok (Some (Line.Call (CallLine.Write 45_059 160)))
  pub hard : line_read (codes "Z h") ≡ Ok (Some (Line.Call CallLine.HardReset))
  pub soft : line_read (codes "reset soft") ≡ Ok (Some (Line.Call CallLine.SoftReset))
  pub registers : line_read (codes "G") ≡ Ok (Some (Line.Show Shown.Registers))
  -- an address and a bus byte
  pub read_bus : line_read (codes "B 5fff a0") ≡ Ok (Some (Line.Call (CallLine.ReadBus 24_575 160)))
  pub clocks : line_read (codes "C 0228") ≡ Ok (Some (Line.Clock 228))
  pub create :
      line_read (codes "N 0 1 w 2 3 4 B ff")
      ≡ Ok
      (Some
      (Line.Create
      (record {
        layout = record { prg_rom = 0; chr = 1; chr_writable = true; prg_ram = 2; ciram = 3 };
        mirroring = FourScreen;
        revision = B;
        bytes = Bytes.Filled 255;
      })))
  pub layout_s : line_read (codes "S 1 A") ≡ Ok (Some (Line.Create (layout_s Horizontal A)))
  pub open_bus : line_read (codes "open-bus yes") ≡ Ok (Some (Line.OpenBus true))
  pub lend : line_read (codes "lend changing 2047") ≡ Ok (Some (Line.Lend Buffer.Changing 2_047))
  pub poke_sum : line_read (codes "poke sum $42780000") ≡ Ok (Some (Line.Poke (Value.Board BoardValue.Sum) 1_115_160_576))
  pub poke_open_bus : line_read (codes "poke open-bus 1") ≡ Ok (Some (Line.Poke (Value.Board BoardValue.OpenBus) 1))
  pub expect_entry : line_read (codes "expect entry e000 123904") ≡ Ok (Some (Line.Expect (Value.Board (BoardValue.Entry 57_344)) 123_904))
  pub expect_timer :
      line_read (codes "expect pulse2 timer 1") ≡ Ok (Some (Line.Expect (Value.Board (BoardValue.Channel ChannelName.Pulse2 ChannelField.Timer)) 1))
  pub expect_none : line_read (codes "expect forecast none") ≡ Ok (Some (Line.Expect (Value.Answer AnswerValue.Forecast) largest))
  pub expect_held : line_read (codes "expect level held") ≡ Ok (Some (Line.Expect (Value.Answer AnswerValue.Level) 2))
  pub heading : line_read (codes "= any text") ≡ Ok (Some Line.Heading)
  pub comment : line_read (codes "# R") ≡ Ok None
  pub blank : line_read (codes "  ") ≡ Ok None
  pub unknown : line_read (codes "RR 1") ≡ Err Fault.UnknownLine
  -- what is wrong with a line
  pub missing : line_read (codes "W 8000") ≡ Err Fault.Missing
  pub no_number : line_read (codes "R 80g0") ≡ Err Fault.NoHexadecimal
  pub no_decimal : line_read (codes "C a") ≡ Err Fault.NoDecimal
  pub too_large : line_read (codes "R 10000") ≡ Err Fault.TooLarge
  -- a number of no mirroring
  pub no_mirroring : line_read (codes "S 5 A") ≡ Err Fault.TooLarge
  pub too_many : line_read (codes "L 1") ≡ Err Fault.TooMany
  pub no_choice : line_read (codes "Z x") ≡ Err Fault.NoChoice
  pub no_setting : line_read (codes "O 1") ≡ Err Fault.NoChoice
  pub no_name : line_read (codes "expect pitch 1") ≡ Err Fault.NoChoice
  pub no_place : line_read (codes "poke chr mode 1") ≡ Err Fault.NoDecimal
