-- Demand 3: one claim about every list of the board's calls from a newly created board (00, 3; 01, Demand 3's lists and their ledger).
-- Assumes nothing.
use Rattle.std.specs.Prelude.{◌≡◌, true, false, List, [], ◌∷◌, ℕ, ◌+◌, ◌-◌, ◌*◌, ◌/◌, ◌≤◌, Float, take, drop, Some, None}
use Rattle.base_shared.specs.Lists.{Each}
use Rattle.memory_tables.specs.Paging.{Side}
use Rattle.base_floats.specs.Wholes.{float}
use Rattle.registers.specs.declared.Register.TheVariants.{OfBank, OfAudio, OfIrq}
use Rattle.registers.specs.declared.IrqRegister.TheVariants.{Reload, Control, Acknowledge}
use Rattle.registers.specs.Decode.{Decoded, decode}
use Rattle.vrc6_banking.specs.declared.banking.Settings.{Settings}
use Rattle.vrc6_banking.specs.Banking.{is_b}
use Rattle.irq.specs.declared.VrcIrq.{VrcIrq}
use Rattle.vrc6_calls.specs.declared.Call.{Call}
use Rattle.vrc6.specs.Boards.{State, held_by, Creation, table}
use Rattle.vrc6.specs.Calls.{create}
use Rattle.vrc6_calls.specs.Lists.{Given, refusal_in, ticks_in, after, answers}
use Rattle.vrc6_ledger.specs.Ledger.{Timing, Event, cpu_writes, picture_writes, clocks, resets, looks, event, ledger_of, banking_of, entries}

-- n neighbours, from the i-th on
abbrev pub part : {A : Type 0} → (i n : ℕ) → List A → List A
part i n xs = take n (drop i xs)

-- ---- a stretch
-- how many clocks a call is
abbrev pub weight : Event → ℕ
weight (cpu_writes a v) = 0
weight (picture_writes a v) = 0
weight (clocks n) = n
weight resets = 0
weight looks = 0

-- how many clocks the calls are together: c in the formula (00, 3)
abbrev pub clock_count : List Call → ℕ
clock_count [] = 0
clock_count (k ∷ ks) = weight (event k) + clock_count ks

-- how many ticks the answers report together, a clock's answer one at most (01, Demand 3's lists and their ledger 7)
abbrev pub tick_count : List Given → ℕ
tick_count [] = 0
tick_count (a ∷ rest) = ticks_in a + tick_count rest

-- a register that is not control, $F001, and not acknowledge, $F002 (01, Demand 3's lists and their ledger 7)
abbrev pub QuietRegister : Decoded → Type 0
QuietRegister None = Unit {0}
QuietRegister (Some (OfBank b)) = Unit {0}
QuietRegister (Some (OfAudio s)) = Unit {0}
QuietRegister (Some (OfIrq Reload)) = Unit {0}
QuietRegister (Some (OfIrq Control)) = ⊥
QuietRegister (Some (OfIrq Acknowledge)) = ⊥

-- a call that is no control, acknowledge or reset (01, Demand 3's lists and their ledger 7)
abbrev pub Quiet : Settings → Event → Type 0
Quiet o (cpu_writes a v) = QuietRegister (decode (is_b o.revision) a)
Quiet o (picture_writes a v) = Unit {0}
Quiet o (clocks n) = Unit {0}
Quiet o resets = ⊥
Quiet o looks = Unit {0}

-- enabled and not in cycle mode, the prescaler 1 or more; `Claim` says that it is at most 341
-- (01, Demand 3's lists and their ledger 7; 00, 3)
pub record CountsLines (t : Timing) : Type 0 where
  pub enabled : t.enabled ≡ true
  pub lines : t.cycle ≡ false
  pub low : 1 ≤ t.prescaler

-- the n calls from the i-th on are a stretch: none is control, acknowledge or reset, and the ledger counts lines as it begins
-- (01, Demand 3's lists and their ledger 7)
pub record Stretch (c : Creation) (ks : List Call) (i n : ℕ) : Type 0 where
  pub quiet : Each (λ k. Quiet (ledger_of c (take i ks)).origin (event k)) (part i n ks)
  pub begun : CountsLines (ledger_of c (take i ks)).timing

-- ticks of c clocks from prescaler p: (3 c + 341 - p) / 341, rounded down (00, 3)
abbrev pub stretch_ticks : (c p : ℕ) → ℕ
stretch_ticks c p = (3 * c + 341 - p) / 341

-- ---- what the claim reads off the board
-- the four interrupt values of a board (01, Demand 3's lists and their ledger 7)
abbrev pub timing_of : VrcIrq → Timing
timing_of q =
    record {
      after_acknowledge = q.enabled_after_ack;
      enabled = q.enabled;
      cycle = q.cycle_mode;
      prescaler = q.prescalar_counter;
    }

-- the f32 of a whole number, 0 to 61 (00, 3)
abbrev pub WholeSum : Float → Type 0
WholeSum x = (n : ℕ) × (n ≤ 61) × (x ≡ float n)

-- the board that create answers, and the buffers lent there: where every list starts (01, Demand 3's lists and their ledger 1)
abbrev pub start : Creation → State
start c = held_by (create c).board c.fixed c.changing

-- ---- the claim
-- what holds of one creation and one list of calls (01, Demand 3's lists and their ledger 7; 00, 3)
pub record Claim (c : Creation) (ks : List Call) : Type 0 where
  -- no call is refused
  pub accepted : Each (λ a. refusal_in a ≡ 0) (answers (start c) ks)
  -- the layout is creation's
  pub layout : (after (start c) ks).board.layout ≡ c.layout
  -- every page entry, of the CPU's and of the picture side's, is the ledger's
  pub pages : (s : Side) → table s (after (start c) ks).board ≡ entries s c (ledger_of c ks)
  -- and so are mode, PRG and CHR numbers, mirroring, nametable numbers and revision
  pub banking : (after (start c) ks).board.banking ≡ banking_of (ledger_of c ks)
  -- the bus setting is creation's (02, change 1)
  pub setting : (after (start c) ks).board.open_bus ≡ c.settings.open_bus
  -- the four interrupt values are the ledger's
  pub timing : timing_of (after (start c) ks).board.irq ≡ (ledger_of c ks).timing
  -- where the prescaler never leaves 0 to 341
  pub prescaler : (ledger_of c ks).timing.prescaler ≤ 341
  -- the changing buffer is the ledger's copy
  pub changing : (after (start c) ks).changing ≡ (ledger_of c ks).copy
  -- the fixed buffer is as supplied
  pub fixed : (after (start c) ks).fixed ≡ c.fixed
  -- the sound sum is whole, 0 to 61
  pub sum : WholeSum (after (start c) ks).board.audio.out
  -- each stretch reports exactly so many ticks
  pub stretch : (i n : ℕ) → Stretch c ks i n
      → tick_count (part i n (answers (start c) ks)) ≡ stretch_ticks (clock_count (part i n ks)) (ledger_of c (take i ks)).timing.prescaler

-- demand 3: of every accepted creation and every list of calls, whatever their addresses and bytes (01, Demand 3's lists and their ledger 1; 00, 3)
abbrev pub Demand3 : Type 0
Demand3 = (c : Creation) → (create c).refusal ≡ 0 → (ks : List Call) → Claim c ks
