-- What holds of runs of clocks and of the forecast, for any step d and line length l with 1 ≤ d ≤ l. Assumes nothing.
use Rattle.std.specs.Prelude.{◌≡◌, Some, None, true, false, cond, ◌||◌, ◌⊎◌, ◌↔◌, ℕ, suc, ◌+◌, ◌-◌, ◌*◌, ◌/◌, ◌≤◌, ◌<◌}
use Rattle.base_steps.specs.Falls.{Pace, fell}
use Rattle.irq.specs.declared.VrcIrq.{VrcIrq}
use Rattle.irq.specs.Interrupt.{counts_lines, irq_at, irq_clocked, forecast_in, irq_forecast}
use Rattle.irq.specs.Timing.{line_step, line_length, forecast_answer}
use Rattle.irq_clocks.specs.Clocks.{irq_clocked_times, reported, Unset, irq_sets, LeastClocks}

-- what n clocks leave alone, and the prescaler after them
pub record AfterClocks (d l n : ℕ) (q : VrcIrq) : Type 0 where
  -- all but counter, prescaler and pending stays
  pub rest : let s = irq_clocked_times d l n q in s ≡ irq_at q s.counter s.prescalar_counter s.irq_pending
  -- it falls where lines are counted, and stays otherwise (01, Demand 3's lists and their ledger 4)
  pub prescaler : (irq_clocked_times d l n q).prescalar_counter ≡ cond (counts_lines q) (fell d l q.prescalar_counter n) q.prescalar_counter

-- the same for every d, l, n and state
abbrev pub AfterClocksLaw : Type 0
AfterClocksLaw = (d l n : ℕ) (q : VrcIrq) → AfterClocks d l n q

-- counting lines from a prescaler of 1 or more, c clocks report exactly (d c + l - p) / l ticks, rounded down
-- (01, Demand 3's lists and their ledger 7; 00, 3)
abbrev pub StretchLaw : Type 0
StretchLaw =
    (d l : ℕ) → Pace d l → (q : VrcIrq) (c : ℕ) → counts_lines q ≡ true → 1 ≤ q.prescalar_counter
    → reported d l c q ≡ (d * c + l - q.prescalar_counter) / l

-- in cycle mode each of c clocks ticks, and the prescaler is untouched (01, Interrupt 1; 01, Reference positions 13)
abbrev pub CycleLaw : Type 0
CycleLaw =
    (d l : ℕ) (q : VrcIrq) (c : ℕ) → q.enabled ≡ true → q.cycle_mode ≡ true
    → (reported d l c q ≡ c) × ((irq_clocked_times d l c q).prescalar_counter ≡ q.prescalar_counter)

-- not enabled: no clock ticks, and nothing changes (01, Interrupt 1)
abbrev pub IdleLaw : Type 0
IdleLaw = (d l : ℕ) (q : VrcIrq) (c : ℕ) → q.enabled ≡ false → (reported d l c q ≡ 0) × (irq_clocked_times d l c q ≡ q)

-- pending after a clock: set by a tick at 255, and otherwise as it was (01, Interrupt 1)
abbrev pub PendingLaw : Type 0
PendingLaw = (d l : ℕ) (q : VrcIrq) → (irq_clocked d l q).irq_pending ≡ (irq_sets d q || q.irq_pending)

-- n clocks whose ticks leave the counter at 255 or below: it gains them, the prescaler falls where lines are counted, and the rest stays
-- (01, Interrupt 1)
abbrev pub GainLaw : Type 0
GainLaw =
    (d l n : ℕ) (q : VrcIrq) → Unset d l n q
    → irq_clocked_times d l n q
    ≡ irq_at q (q.counter + reported d l n q) (cond (counts_lines q) (fell d l q.prescalar_counter n) q.prescalar_counter) q.irq_pending

-- the ticks of n clocks leave a byte at 255 or below exactly where none of the clocks sets pending (01, Interrupt 1)
abbrev pub QuietLaw : Type 0
QuietLaw =
    (d l n : ℕ) (q : VrcIrq) → q.counter ≤ 255
    → Unset d l n q ↔ ((i : ℕ) → i < n → irq_sets d (irq_clocked_times d l i q) ≡ false)

-- fewer clocks than the forecast says set nothing (01, The board's calls 2)
abbrev pub SoonerLaw : Type 0
SoonerLaw =
    (d l : ℕ) → Pace d l → (q : VrcIrq) → q.enabled ≡ true → q.counter ≤ 255 → (n : ℕ) → n < forecast_in d l q → Unset d l n q

-- a state has one first clock at most
abbrev pub OneFirstLaw : Type 0
OneFirstLaw = (d l : ℕ) (q : VrcIrq) (m n : ℕ) → LeastClocks d l q m → LeastClocks d l q n → m ≡ n

-- the forecast is None for a state that is not enabled, and only for it (01, The board's calls 2)
abbrev pub NoneLaw : Type 0
NoneLaw = (d l : ℕ) (q : VrcIrq) → (irq_forecast d l q ≡ None) ↔ (q.enabled ≡ false)

-- where the forecast's formula is exact: in cycle mode, or from a prescaler of 1 or more, or with d < l from a counter below 255
abbrev pub Exact : (d l : ℕ) → VrcIrq → Type 0
Exact d l q = (q.cycle_mode ≡ true) ⊎ ((1 ≤ q.prescalar_counter) ⊎ ((q.counter < 255) × (d < l)))

-- the states that are not: not in cycle mode, the prescaler is 0, and the counter is 255 or d = l
pub record Late (d l : ℕ) (q : VrcIrq) : Type 0 where
  pub lines : q.cycle_mode ≡ false
  pub prescaler : q.prescalar_counter ≡ 0
  pub last : (q.counter ≡ 255) ⊎ (d ≡ l)

-- what the forecast's formula says of an enabled state whose counter is a byte (01, The board's calls 2)
pub record Formula (d l : ℕ) (q : VrcIrq) : Type 0 where
  -- where it is exact, it is the least number of clocks of which the last sets pending
  pub exact : Exact d l q → LeastClocks d l q (forecast_in d l q)
  -- elsewhere it is one clock short
  pub late : Late d l q → LeastClocks d l q (suc (forecast_in d l q))

-- the same for every pace and every such state
abbrev pub ForecastLaw : Type 0
ForecastLaw = (d l : ℕ) → Pace d l → (q : VrcIrq) → q.enabled ≡ true → q.counter ≤ 255 → Formula d l q

-- the forecast of this board's formula at prescaler 0 and counter 255, counting lines: it says 0, and one clock is needed (01, The board's calls 2)
pub record ShortForecast (q : VrcIrq) : Type 0 where
  pub says : forecast_answer q ≡ Some 0
  pub needs : LeastClocks line_step line_length q 1

-- the same for every such state
abbrev pub ShortForecastLaw : Type 0
ShortForecastLaw =
    (q : VrcIrq) → counts_lines q ≡ true → q.prescalar_counter ≡ 0 → q.counter ≡ 255 → ShortForecast q
