-- What holds of a falling number, for any step d and length l with 1 ≤ d ≤ l. Assumes nothing.
use Rattle.std.specs.Prelude.{ℕ, suc, ◌+◌, ◌-◌, ◌*◌, ◌/◌, ◌≤◌, ◌<◌, min, max, ◌≡◌, ◌⊎◌, ◌↔◌}
use Rattle.base_steps.specs.Falls.{Pace, fallen, fell, runs, due}

-- one clock from p (01, Interrupt 1)
pub record OneClock (d l p : ℕ) : Type 0 where
  -- it falls by d where that leaves it above 0
  pub falls : d < p → fallen d l p + d ≡ p
  -- it falls by d and gains l where the fall comes to 0 or less
  pub gains : p ≤ d → fallen d l p + d ≡ p + l
  -- it stays in 0 .. l
  pub within : p ≤ l → fallen d l p ≤ l
  -- it stays at 1 or more
  pub above : 1 ≤ p → 1 ≤ fallen d l p

-- the same for every pace and every p
abbrev pub OneClockLaw : Type 0
OneClockLaw = (d l : ℕ) → Pace d l → (p : ℕ) → OneClock d l p

-- c clocks from p ≥ 1 come to 0 or less exactly (d c + l - p) / l times, rounded down (00, 3)
abbrev pub TickLaw : Type 0
TickLaw = (d l : ℕ) → Pace d l → (p c : ℕ) → 1 ≤ p → runs d l p c ≡ (d * c + l - p) / l

-- the number after any c clocks
pub record FallRange (d l p c : ℕ) : Type 0 where
  -- it stays in 0 .. l
  pub within : p ≤ l → fell d l p c ≤ l
  -- from above l too it never rises above its start
  pub most : fell d l p c ≤ max p l
  -- it stays at 1 or more
  pub above : 1 ≤ p → 1 ≤ fell d l p c
  -- from 0 too it is at 1 or more after a clock, but for d = l, where it stays 0
  pub after_zero : d < l → 1 ≤ fell d l p (suc c)

-- the same for every pace, every p and every c
abbrev pub FallRangeLaw : Type 0
FallRangeLaw = (d l : ℕ) → Pace d l → (p c : ℕ) → FallRange d l p c

-- m clocks and then n clocks are m + n clocks, and their runs add up
pub record Add (d l p m n : ℕ) : Type 0 where
  pub number : fell d l (fell d l p m) n ≡ fell d l p (m + n)
  pub counted : runs d l p m + runs d l (fell d l p m) n ≡ runs d l p (m + n)

-- the same for every d, l, p, m and n
abbrev pub AddLaw : Type 0
AddLaw = (d l p m n : ℕ) → Add d l p m n

-- from 1 .. l, l clocks come to 0 or less d times and lead back to the start: what is over is carried, and with 3 and 341 three lines
-- take 341 clocks (01, Reference positions 13; VRC IRQ)
pub record Period (d l p : ℕ) : Type 0 where
  pub counted : runs d l p l ≡ d
  pub number : fell d l p l ≡ p

-- the same for every pace and every p in 1 .. l
abbrev pub PeriodLaw : Type 0
PeriodLaw = (d l : ℕ) → Pace d l → (p : ℕ) → 1 ≤ p → p ≤ l → Period d l p

-- c clocks from any p, 0 included, worked out by a division
pub record WorkedOut (d l p c : ℕ) : Type 0 where
  pub counted : runs d l p c ≡ min c ((d * c + l - p) / l)
  pub number : fell d l p c ≡ p + l * runs d l p c - d * c

-- the same for every pace, every p and every c
abbrev pub WorkedOutLaw : Type 0
WorkedOutLaw = (d l : ℕ) → Pace d l → (p c : ℕ) → WorkedOut d l p c

-- c clocks come to 0 or less k times or more exactly where c is due d l p k or more: that many clocks are needed, and they do
abbrev pub FallDueLaw : Type 0
FallDueLaw = (d l : ℕ) → Pace d l → (p c k : ℕ) → 1 ≤ k → (k ≤ runs d l p c) ↔ (due d l p k ≤ c)

-- where due is the plain quotient (l k + p + d - 1) / d, as the forecast has it, and where one clock more: only from 0, for the first time
-- or with d = l (01, The board's calls 2)
pub record DuePlain (d l p k : ℕ) : Type 0 where
  pub plain : (1 ≤ p) ⊎ ((1 ≤ k) × (d < l)) → due d l p (suc k) ≡ (l * k + p + (d - 1)) / d
  pub one_more : p ≡ 0 → (k ≡ 0) ⊎ (d ≡ l) → due d l p (suc k) ≡ suc ((l * k + p + (d - 1)) / d)

-- the same for every pace, every p and every k
abbrev pub DuePlainLaw : Type 0
DuePlainLaw = (d l : ℕ) → Pace d l → (p k : ℕ) → DuePlain d l p k
