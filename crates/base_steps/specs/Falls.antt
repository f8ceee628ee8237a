-- A number that falls by a step d at each clock, and at 0 or less gains a length l: the prescaler of the interrupt (01, Interrupt; VRC IRQ). Assumes nothing.
use Rattle.std.specs.Prelude.{ℕ, ◌+◌, ◌-◌, ◌*◌, ◌/◌, ◌≤◌, max, cond, leb}
use Rattle.base_steps.specs.Times.{times, count}

-- a step and a length for which the laws hold: 1 ≤ d ≤ l; the board's are 3 and 341 (01, Interrupt 1)
pub record Pace (d l : ℕ) : Type 0 where
  pub low : 1 ≤ d
  pub high : d ≤ l

-- the number after a clock: p falls by d, and where that is 0 or less, gains l (01, Interrupt 1)
abbrev pub fallen : (d l p : ℕ) → ℕ
fallen d l p = cond (leb p d) (p + (l - d)) (p - d)

-- the number after c clocks from p
abbrev pub fell : (d l p c : ℕ) → ℕ
fell d l p c = times c (fallen d l) p

-- how many of c clocks from p come to 0 or less
abbrev pub runs : (d l p c : ℕ) → ℕ
runs d l p c = count c (λ q. leb q d) (fallen d l) p

-- how many clocks from p it takes until k of them have come to 0 or less
abbrev pub due : (d l p k : ℕ) → ℕ
due d l p k = max k ((l * (k - 1) + p + (d - 1)) / d)
