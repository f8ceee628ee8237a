-- The board's calls: what each does, and its whole answer, refused or not (01, The board's calls; 00, 1; 00, 2). Assumes nothing.
use Rattle.std.specs.Prelude.{true, false, List, ℕ, length, Some, None}
use Rattle.base_shared.specs.Refusals.{unless}
use Rattle.memory_tables.specs.Paging.{Side, cpu, picture}
use Rattle.memory_access.specs.Access.{stored, viewed}
use Rattle.memory_access.specs.declared.Peeked.{Peeked}
use Rattle.registers.specs.declared.Register.TheVariants.{OfBank, OfAudio, OfIrq}
use Rattle.registers.specs.Decode.{Decoded, decode}
use Rattle.vrc6_banking.specs.Banking.{bank_written}
use Rattle.irq.specs.Writes.{irq_written}
use Rattle.audio.specs.Sound.{audio_written}
use Rattle.vrc6_parts.specs.Reads.{Caller, by_cpu, by_picture, peeked_by}
use Rattle.vrc6_engine.specs.Engine.{engine_clocked, engine_was_reset, engine_level, engine_forecast}
use Rattle.vrc6.specs.declared.board.Board.{Board}
use Rattle.vrc6.specs.declared.board.Changed.{Changed}
use Rattle.vrc6.specs.declared.board.ByteRead.{ByteRead}
use Rattle.vrc6.specs.declared.board.Clocked.{Clocked}
use Rattle.vrc6.specs.declared.board.Leveled.{Leveled}
use Rattle.vrc6.specs.declared.board.Forecasted.{Forecasted}
use Rattle.vrc6.specs.Boards.{State, held_by, Creation, new_board, zero_board, with_banking, with_engine, entry_of}
use Rattle.vrc6.specs.Checks.{create_refusal, engine_refusal, memory_refusal, cpu_write_refusal}

-- ---- create
-- the new board, or refused the all-zero one; both buffers stay as they are (01, The board's calls 1; 01, The board's calls 3)
abbrev pub create : Creation → Changed
create c =
    record {
      board = unless (create_refusal c) (new_board c.layout c.settings) zero_board;
      refusal = create_refusal c;
    }

-- ---- reads
-- the table that a caller reads through
abbrev pub side_of : Caller → Side
side_of (by_cpu bus) = cpu
side_of by_picture = picture

-- a read: the byte handed back, or 0 where it is refused, and the number (01, The board's calls 3; 02, change 1)
abbrev pub read_by : Caller → State → (address : ℕ) → Peeked
read_by k x address = peeked_by k x.board.open_bus x.board.layout (entry_of (side_of k) x.board address) x.fixed x.changing address

-- CPU read, with a bus byte, and picture read: the board as given, the byte, the number
-- (01, The board's calls 1; 01, The board's calls 3; 02, change 1)
abbrev pub byte_read : Caller → State → (address : ℕ) → ByteRead
byte_read k x address = let got = read_by k x address in record { board = x.board; byte = got.byte; refusal = got.refusal }

-- ---- writes
-- a register of the banks, the sound or the interrupt takes a byte; after a bank write all entries are rebuilt
-- (01, Banks and decode 1; 01, Banks and decode 2; 01, Sound 1)
abbrev pub register_written : Decoded → (v : ℕ) → Board → Board
register_written None v b = b
register_written (Some (OfBank r)) v b = with_banking b (bank_written r v b.banking)
register_written (Some (OfAudio r)) v b = record b { audio = audio_written r v b.audio }
register_written (Some (OfIrq r)) v b = record b { irq = irq_written r v b.irq }

-- the register at an address takes a byte, and where there is none the board stays (01, Banks and decode 1)
abbrev pub written_at : Board → (address byte : ℕ) → Board
written_at b address byte = register_written (decode b.banking.revision_b address) byte b

-- a byte goes through the entry of its address, as the entries are (01, Paging 2)
abbrev pub stored_at : Side → State → (address byte : ℕ) → List ℕ
stored_at s x address byte = stored (length x.fixed) (entry_of s x.board address) x.changing address byte

-- a CPU write that is not refused: byte, then register (01, The board's calls 1)
abbrev pub cpu_written : State → (address byte : ℕ) → State
cpu_written x address byte = held_by (written_at x.board address byte) x.fixed (stored_at cpu x address byte)

-- board and buffers after a CPU write; refused, all are as given (01, The board's calls 3)
abbrev pub cpu_write_left : State → (address byte : ℕ) → State
cpu_write_left x address byte = unless (cpu_write_refusal x address) (cpu_written x address byte) x

-- a CPU write's answer: the board, the number (01, The board's calls 1; 01, The board's calls 3)
abbrev pub cpu_write : State → (address byte : ℕ) → Changed
cpu_write x address byte = record { board = (cpu_write_left x address byte).board; refusal = cpu_write_refusal x address }

-- a picture write that is not refused: a byte, and no register (01, The board's calls 1)
abbrev pub picture_written : State → (address byte : ℕ) → State
picture_written x address byte = held_by x.board x.fixed (stored_at picture x address byte)

-- board and buffers after a picture write; refused, all are as given (01, The board's calls 3)
abbrev pub picture_write_left : State → (address byte : ℕ) → State
picture_write_left x address byte = unless (memory_refusal picture x address true) (picture_written x address byte) x

-- a picture write's answer: the board, the number (01, The board's calls 1; 01, The board's calls 3)
abbrev pub picture_write : State → (address byte : ℕ) → Changed
picture_write x address byte =
    record { board = (picture_write_left x address byte).board; refusal = memory_refusal picture x address true }

-- ---- clock, reset, level, forecast
-- a board after a clock that is not refused, which moves interrupt and sound only (01, The board's calls 1)
abbrev pub clocked : Board → Board
clocked b = with_engine b (engine_clocked b.irq b.audio).engine

-- a clock's answer; refused, the board is as given and there is no tick (01, The board's calls 1; 01, The board's calls 3)
abbrev pub clock : Board → Clocked
clock b =
    let n = engine_refusal b in
    record { board = unless n (clocked b) b; ticked = unless n (engine_clocked b.irq b.audio).ticked false; refusal = n }

-- a board after a reset that is not refused, soft or hard: no bank moves (01, Interrupt 1; 01, Sound 1)
abbrev pub was_reset : Board → Board
was_reset b = with_engine b (engine_was_reset b.audio)

-- a reset's answer; refused, the board is as given (01, The board's calls 1; 01, The board's calls 3)
abbrev pub reset : Board → Changed
reset b = let n = engine_refusal b in record { board = unless n (was_reset b) b; refusal = n }

-- the board as given, and the level under its name or the refusal (01, The board's calls 2; 01, The board's calls 3)
abbrev pub level : Board → Leveled
level b = record { board = b; level = engine_level b.irq b.audio }

-- the board as given, and the forecast or the refusal (01, The board's calls 2; 01, The board's calls 3)
abbrev pub forecast : Board → Forecasted
forecast b = record { board = b; forecast = engine_forecast b.irq b.audio }

-- ---- page view
-- nothing but the 1,024 bytes that the picture entry points at; refused, none (01, The board's calls 2; 01, The board's calls 3)
abbrev pub page_view : State → (address : ℕ) → List ℕ
page_view x address = viewed x.board.layout (entry_of picture x.board address) x.fixed x.changing

-- the call beside it gives its number (01, The board's calls 2; 01, The board's calls 4)
abbrev pub page_view_refusal : State → (address : ℕ) → ℕ
page_view_refusal x address = memory_refusal picture x address true
