-- Answers of the lent forms without their board (01, The board's calls). Assumes nothing.
use Rattle.std.specs.Prelude.{ℕ, ◌/◌, eqb}
use Rattle.memory_access.specs.declared.Peeked.{Peeked}
use Rattle.vrc6.specs.declared.board.ByteRead.{ByteRead}
use Rattle.vrc6.specs.declared.board.Clocked.{Clocked}
use Rattle.host_calls.specs.declared.Tick.{Tick}

-- a clock's answer without its board
abbrev pub tick_answer : Clocked → Tick
tick_answer r = record { ticked = r.ticked; refusal = r.refusal }

-- the answer that a number of `vrc6_clock_number` encodes, by host_answers' `tick_number`
abbrev pub tick_decoded : ℕ → Tick
tick_decoded n = record { ticked = eqb n 1; refusal = n / 2 }

-- a read's answer without its board
abbrev pub byte_answer : ByteRead → Peeked
byte_answer r = record { byte = r.byte; refusal = r.refusal }
