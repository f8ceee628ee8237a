-- The call of the board that a line makes (oracle/FORMAT.md). Assumes nothing.
use Rattle.std.specs.Prelude.{◌%◌}
use Rattle.script_lines.specs.declared.line.CallLine.{CallLine}
use Rattle.vrc6_calls.specs.declared.Call.{Call}
use Rattle.vrc6_calls.specs.declared.Call.TheVariants.{CpuRead, CpuWrite, PictureRead, PictureWrite, SoftReset, HardReset, ReadLevel, PageView, ReadForecast}

-- the board's call, with the arguments of the line, of a number that is too large its low bits; `R` reads with the bus byte 0
abbrev pub call_of : CallLine → Call
call_of (CallLine.Read addr) = CpuRead (addr % 65_536) 0
call_of (CallLine.Write addr val) = CpuWrite (addr % 65_536) (val % 256)
call_of (CallLine.PictureRead addr) = PictureRead (addr % 65_536)
call_of (CallLine.PictureWrite addr val) = PictureWrite (addr % 65_536) (val % 256)
call_of (CallLine.View addr) = PageView (addr % 65_536)
call_of CallLine.SoftReset = SoftReset
call_of CallLine.HardReset = HardReset
call_of CallLine.Level = ReadLevel
call_of CallLine.Forecast = ReadForecast
call_of (CallLine.ReadBus addr bus) = CpuRead (addr % 65_536) (bus % 256)
