-- Refused means given back, of every call and of create, and the order of the numbers (01, The board's calls; 00, 1).
-- Assumes nothing.
use Rattle.std.specs.Prelude.{◌≡◌, Bool, true, ◌&&◌, List, [], ◌∷◌, ℕ, length, take}
use Rattle.base_shared.specs.Numbered.{Numbered}
use Rattle.memory_layout.specs.Layout.{within_limits, lengths_fit}
use Rattle.memory_layout.specs.Entries.{entry_in_range}
use Rattle.memory_tables.specs.Paging.{Side, cpu, picture}
use Rattle.vrc6_calls.specs.declared.Call.{Call}
use Rattle.vrc6_parts.specs.Checks.{all_zero}
use Rattle.vrc6.specs.Boards.{State, Creation, zero_board, entry_of}
use Rattle.vrc6.specs.Checks.{engine_in_range, register_checks}
use Rattle.vrc6.specs.Calls.{create, side_of}
use Rattle.vrc6_calls.specs.Lists.{Shape, reads, writes, views, asks, shape, Given, given, parts, refusal_in, next}

-- ---- refused
-- an answer and the state that the call leaves: board and both buffers as given; byte 0, empty view, no tick, no level, no forecast
-- (01, The board's calls 3; 00, 1)
pub record GivenBack (x : State) (answer : Given) (left : State) : Type 0 where
  pub state : left ≡ x
  pub byte : (parts answer).byte ≡ 0
  pub view : (parts answer).view ≡ []
  pub tick : (parts answer).ticks ≡ 0
  pub level : (parts answer).levels ≡ []
  pub forecast : (parts answer).forecasts ≡ []

-- a call whose refusal number is not 0 returns board and buffers unchanged, whatever they are
abbrev pub RefusedLaw : Type 0
RefusedLaw = (x : State) (k : Call) → (refusal_in (given x k) ≡ 0 → ⊥) → GivenBack x (given x k) (next x k)

-- a refused create returns an all-zero board (01, The board's calls 3; 01, The board's calls 4; 00, 1)
abbrev pub RefusedCreateLaw : Type 0
RefusedCreateLaw = (c : Creation) → ((create c).refusal ≡ 0 → ⊥) → (create c).board ≡ zero_board

-- ---- the order of the numbers
-- reads, writes and view: 1, 2, and by 3 the one entry that the address uses, with others that the call also checks
-- (01, The board's calls 4)
abbrev pub memory_checks : Side → State → (address : ℕ) → (others : Bool) → List (Bool × ℕ)
memory_checks s x a others =
    (within_limits x.board.layout, 1)
    ∷ (lengths_fit x.board.layout (length x.fixed) (length x.changing), 2)
    ∷ (others && entry_in_range x.board.layout (entry_of s x.board a), 3)
    ∷ []

-- clock, reset, level and forecast: interrupt and sound only (01, The board's calls 4)
abbrev pub engine_checks : State → List (Bool × ℕ)
engine_checks x = (engine_in_range x.board, 3) ∷ []

-- what each kind of call checks, in order, with the number of each (01, The board's calls 4)
abbrev pub checks_by : State → Shape → List (Bool × ℕ)
checks_by x (reads k a) = memory_checks (side_of k) x a true
checks_by x (writes cpu a v) = memory_checks cpu x a (register_checks x.board a)
checks_by x (writes picture a v) = memory_checks picture x a true
checks_by x (views a) = memory_checks picture x a true
checks_by x (asks q) = engine_checks x

-- what each call checks
abbrev pub checks : State → Call → List (Bool × ℕ)
checks x k = checks_by x (shape k)

-- what create checks (01, The board's calls 3)
abbrev pub create_checks : Creation → List (Bool × ℕ)
create_checks c =
    (within_limits c.layout, 1)
    ∷ (lengths_fit c.layout (length c.fixed) (length c.changing), 2)
    ∷ (all_zero (take 1024 c.fixed), 4)
    ∷ []

-- create, and every call on any board and buffers, returns the number of the first test that fails, 0 where none does
-- (01, The board's calls 4)
pub record OrderLaw : Type 0 where
  pub create_number : (c : Creation) → Numbered (create_checks c) (create c).refusal
  pub call_number : (x : State) (k : Call) → Numbered (checks x k) (refusal_in (given x k))
