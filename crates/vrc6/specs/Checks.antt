-- What each call checks: the number of its refusal, 0 for none (01, The board's calls). Assumes nothing.
use Rattle.std.specs.Prelude.{Bool, ℕ, length}
use Rattle.memory_tables.specs.Paging.{Side, cpu}
use Rattle.memory_access.specs.Access.{access_refusal}
use Rattle.vrc6_engine.specs.Engine.{engine_ok, engine_number}
use Rattle.vrc6_parts.specs.Checks.{creation_refusal, values_in_range}
use Rattle.vrc6.specs.declared.board.Board.{Board}
use Rattle.vrc6.specs.Boards.{State, Creation, entry_of}

-- create, of what it is given
abbrev pub create_refusal : Creation → ℕ
create_refusal c = creation_refusal c.layout c.fixed c.changing

-- interrupt and sound values of a board are in range
abbrev pub engine_in_range : Board → Bool
engine_in_range b = engine_ok b.irq b.audio

-- clock, reset, level and forecast: interrupt and sound only (01, The board's calls 4)
abbrev pub engine_refusal : Board → ℕ
engine_refusal b = engine_number b.irq b.audio

-- reads, writes and view: 1, 2, and by 3 the one entry that the address uses, with others that the call also checks (01, The board's calls 4)
abbrev pub memory_refusal : Side → State → (address : ℕ) → (others : Bool) → ℕ
memory_refusal s x address others =
    access_refusal x.board.layout (entry_of s x.board address) (length x.fixed) (length x.changing) others

-- what a CPU write checks of a board beside the entry (01, The board's calls 4)
abbrev pub register_checks : Board → (address : ℕ) → Bool
register_checks b address = values_in_range b.banking b.irq b.audio address

-- a CPU write (01, The board's calls 4)
abbrev pub cpu_write_refusal : State → (address : ℕ) → ℕ
cpu_write_refusal x address = memory_refusal cpu x address (register_checks x.board address)
