-- What `step` returns of an answer: the board, and what the call says beside it. Assumes nothing.
use Rattle.vrc6.specs.declared.board.ByteRead.{ByteRead}
use Rattle.vrc6.specs.declared.board.Changed.{Changed}
use Rattle.vrc6.specs.declared.board.Clocked.{Clocked}
use Rattle.vrc6.specs.declared.board.Leveled.{Leveled}
use Rattle.vrc6.specs.declared.board.Forecasted.{Forecasted}
use Rattle.vrc6_calls.specs.declared.Answer.TheVariants.{Byte, Done, Tick, OfLevel, OfForecast}
use Rattle.vrc6_calls.specs.declared.Stepped.{Stepped}

-- what it returns of a read
abbrev pub of_byte_read : ByteRead → Stepped
of_byte_read r = record { board = r.board; answer = Byte r.byte r.refusal }

-- what it returns of a write or a reset
abbrev pub of_changed : Changed → Stepped
of_changed r = record { board = r.board; answer = Done r.refusal }

-- what it returns of a clock
abbrev pub of_clocked : Clocked → Stepped
of_clocked r = record { board = r.board; answer = Tick r.ticked r.refusal }

-- what it returns of a level
abbrev pub of_leveled : Leveled → Stepped
of_leveled r = record { board = r.board; answer = OfLevel r.level }

-- what it returns of a forecast
abbrev pub of_forecasted : Forecasted → Stepped
of_forecasted r = record { board = r.board; answer = OfForecast r.forecast }
