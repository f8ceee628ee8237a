-- A call as a value, and lists of calls: each call's whole answer, and the board and buffers that it leaves to the next
-- (01, Demand 3's lists and their ledger). Assumes nothing.
use Rattle.std.specs.Prelude.{List, [], ◌∷◌, ℕ, Float, Option, Result, Ok, Err}
use Rattle.base_shared.specs.Rows.{flag}
use Rattle.memory_tables.specs.Paging.{Side, cpu, picture}
use Rattle.vrc6_parts.specs.Reads.{Caller, by_cpu, by_picture}
use Rattle.audio.specs.Levels.{level_refusal, level_in}
use Rattle.vrc6.specs.declared.board.Board.{Board}
use Rattle.vrc6.specs.declared.board.ByteRead.{ByteRead}
use Rattle.vrc6.specs.declared.board.Changed.{Changed}
use Rattle.vrc6.specs.declared.board.Clocked.{Clocked}
use Rattle.vrc6.specs.declared.board.Leveled.{Leveled}
use Rattle.vrc6.specs.declared.board.Forecasted.{Forecasted}
use Rattle.base_shared.specs.declared.Refusal.{Refusal}
use Rattle.base_shared.specs.Numbers.{answer_number}
use Rattle.vrc6_calls.specs.declared.Call.{Call}
use Rattle.vrc6_calls.specs.declared.Call.TheVariants.{CpuRead, CpuWrite, LentCpuWrite, PictureRead, PictureWrite, Clock, LentClock, SoftReset, HardReset, ReadLevel, PageView, ReadForecast}
use Rattle.vrc6_calls.specs.declared.Answer.{Answer}
use Rattle.vrc6_calls.specs.declared.Answer.TheVariants.{Byte, Done, Tick, OfLevel, OfForecast, View}
use Rattle.vrc6_calls.specs.declared.Stepped.{Stepped}
use Rattle.vrc6.specs.Boards.{State, held_by}
use Rattle.vrc6.specs.Calls.{byte_read, cpu_write, cpu_write_left, picture_write, picture_write_left, clock, reset, level, forecast, page_view, page_view_refusal}

-- ---- kinds of calls
-- what asks interrupt and sound alone (01, The board's calls 4)
pub data Ask : Type 0 where
  clocking resetting leveling forecasting : Ask

-- what a call is, in either form, by value or lent: a read by a caller, a write of one side, a view, or one that asks interrupt and
-- sound alone (01, The board's calls 1)
pub data Shape : Type 0 where
  reads : Caller → (address : ℕ) → Shape
  writes : Side → (address byte : ℕ) → Shape
  views : (address : ℕ) → Shape
  asks : Ask → Shape

-- the kind of each call: clock and CPU write alike in both forms, of which the lent ones' contracts name the same definitions, and the resets
-- (01, Demand 3's lists and their ledger 1; 01, Rust forms to recast 1)
abbrev pub shape : Call → Shape
shape (CpuRead a bus) = reads (by_cpu bus) a
shape (CpuWrite a v) = writes cpu a v
shape (LentCpuWrite a v) = writes cpu a v
shape (PictureRead a) = reads by_picture a
shape (PictureWrite a v) = writes picture a v
shape Clock = asks clocking
shape LentClock = asks clocking
shape SoftReset = asks resetting
shape HardReset = asks resetting
shape ReadLevel = asks leveling
shape (PageView a) = views a
shape ReadForecast = asks forecasting

-- ---- what a call gives
-- a call's whole answer, as its contract has it; page view's bytes with the number of the call beside it (01, The board's calls 2)
pub data Given : Type 0 where
  of_read : ByteRead → Given
  of_write : Changed → Given
  of_clock : Clocked → Given
  of_level : Leveled → Given
  of_forecast : Forecasted → Given
  of_view : (bytes : List ℕ) (refusal : ℕ) → Given

-- what a call gives that asks interrupt and sound alone
abbrev pub answer_to : Board → Ask → Given
answer_to b clocking = of_clock (clock b)
answer_to b resetting = of_write (reset b)
answer_to b leveling = of_level (level b)
answer_to b forecasting = of_forecast (forecast b)

-- what a call of each kind gives
abbrev pub given_by : State → Shape → Given
given_by x (reads k a) = of_read (byte_read k x a)
given_by x (writes cpu a v) = of_write (cpu_write x a v)
given_by x (writes picture a v) = of_write (picture_write x a v)
given_by x (views a) = of_view (page_view x a) (page_view_refusal x a)
given_by x (asks q) = answer_to x.board q

-- what a call gives: the answer that its contract names
abbrev pub given : State → Call → Given
given x k = given_by x (shape k)

-- the changing buffer after a call of each kind
abbrev pub changing_by : State → Shape → List ℕ
changing_by x (reads k a) = x.changing
changing_by x (writes cpu a v) = (cpu_write_left x a v).changing
changing_by x (writes picture a v) = (picture_write_left x a v).changing
changing_by x (views a) = x.changing
changing_by x (asks q) = x.changing

-- the changing buffer after a call
abbrev pub changing_after : State → Call → List ℕ
changing_after x k = changing_by x (shape k)

-- ---- what an answer says
-- the refusal number of a forecast (01, The form to use in each place 12)
abbrev pub forecast_refusal : Result (Option ℕ) Refusal → ℕ
forecast_refusal answer = answer_number answer

-- the forecast that an answer returns: None is one, a refusal is none (01, The form to use in each place 12)
abbrev pub forecast_part : Result (Option ℕ) Refusal → List (Option ℕ)
forecast_part (Ok clocks) = clocks ∷ []
forecast_part (Err refusal) = []

-- the parts of an answer
pub record Parts : Type 0 where
  -- the board that it hands back; a view hands none back, and leaves the board where it was
  pub board : (before : Board) → Board
  -- its refusal number
  pub refusal : ℕ
  -- how many ticks it reports
  pub ticks : ℕ
  -- its byte; 0 where the call answers none
  pub byte : ℕ
  -- its view's bytes
  pub view : List ℕ
  -- its level and its forecast, if it carries one
  pub levels : List Float
  pub forecasts : List (Option ℕ)
  -- what it says beside the board and the view's bytes, as `step` answers it
  pub answer : Answer

-- the parts of every answer
abbrev pub parts : Given → Parts
parts (of_read r) =
    record {
      board = λ b. r.board;
      refusal = r.refusal;
      ticks = 0;
      byte = r.byte;
      view = [];
      levels = [];
      forecasts = [];
      answer = Byte r.byte r.refusal;
    }
parts (of_write r) =
    record {
      board = λ b. r.board;
      refusal = r.refusal;
      ticks = 0;
      byte = 0;
      view = [];
      levels = [];
      forecasts = [];
      answer = Done r.refusal;
    }
parts (of_clock r) =
    record {
      board = λ b. r.board;
      refusal = r.refusal;
      ticks = flag r.ticked;
      byte = 0;
      view = [];
      levels = [];
      forecasts = [];
      answer = Tick r.ticked r.refusal;
    }
parts (of_level r) =
    record {
      board = λ b. r.board;
      refusal = level_refusal r.level;
      ticks = 0;
      byte = 0;
      view = [];
      levels = level_in r.level;
      forecasts = [];
      answer = OfLevel r.level;
    }
parts (of_forecast r) =
    record {
      board = λ b. r.board;
      refusal = forecast_refusal r.forecast;
      ticks = 0;
      byte = 0;
      view = [];
      levels = [];
      forecasts = forecast_part r.forecast;
      answer = OfForecast r.forecast;
    }
parts (of_view bytes n) =
    record { board = λ b. b; refusal = n; ticks = 0; byte = 0; view = bytes; levels = []; forecasts = []; answer = View n }

-- the board after an answer
abbrev pub board_in : Board → Given → Board
board_in b a = (parts a).board b

-- an answer's refusal number
abbrev pub refusal_in : Given → ℕ
refusal_in a = (parts a).refusal

-- how many ticks an answer reports
abbrev pub ticks_in : Given → ℕ
ticks_in a = (parts a).ticks

-- what the function `step` returns: the board that the call hands back, and what the call says
abbrev pub step : State → Call → Stepped
step x k = record { board = board_in x.board (given x k); answer = (parts (given x k)).answer }

-- ---- the list
-- board and buffers after a call of a kind
abbrev pub next_by : State → Shape → State
next_by x s = held_by (board_in x.board (given_by x s)) x.fixed (changing_by x s)

-- board and buffers after a call; each call gets what the last one left (01, Demand 3's lists and their ledger 1)
abbrev pub next : State → Call → State
next x k = next_by x (shape k)

-- board and buffers after the list
abbrev pub after : State → List Call → State
after x [] = x
after x (k ∷ ks) = after (next x k) ks

-- what the calls of a list give, in order
abbrev pub answers : State → List Call → List Given
answers x [] = []
answers x (k ∷ ks) = given x k ∷ answers (next x k) ks
