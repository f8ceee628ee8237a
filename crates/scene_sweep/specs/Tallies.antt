-- How many moments of a sweep are wrong, the first of them and the worst. At clock j `at j` is seen (docs/SCENES.md). Assumes nothing.
use Rattle.std.specs.Prelude.{◌≡◌, Option, Some, None, ℕ, zero, suc, ◌+◌, ◌^◌, ◌<◌, ◌≤◌, Bool, true, false, cond}
use Rattle.scene_sweep.specs.declared.runs.Run.{Run}
use Rattle.scene_sweep.specs.declared.tally.Badness.{Badness}
use Rattle.scene_sweep.specs.declared.tally.Badness.TheVariants as badness_kind
use Rattle.scene_sweep.specs.declared.tally.Badness.TheVariants.{Lines}
use Rattle.scene_sweep.specs.declared.tally.Tally.{Tally}
use Rattle.scene_sweep.specs.declared.tally.Wrong.{Wrong}
use Rattle.scene_moments.specs.declared.verdict.Seen.{Seen}
use Rattle.scene_moments.specs.declared.verdict.Verdict.{Verdict}
use Rattle.scene_moments.specs.declared.verdict.Verdict.TheVariants.{Right, Early, Late, Lost, Never}

-- early, late, lost or never
abbrev pub is_wrong : Verdict → Bool
is_wrong (Right line) = false
is_wrong (Early line off) = true
is_wrong (Late line off) = true
is_wrong (Lost line) = true
is_wrong Never = true

-- how bad a verdict is: the lines that it is off; lost is worse than any number of lines, and never is worse than lost
abbrev pub badness : Verdict → ℕ
badness (Right line) = 0
badness (Early line off) = off
badness (Late line off) = off
badness (Lost line) = 2 ^ 32
badness Never = 2 ^ 32 + 1

-- the same of a badness by its kind
abbrev pub weight : Badness → ℕ
weight (Lines off) = off
weight badness_kind.Lost = 2 ^ 32
weight badness_kind.Never = 2 ^ 32 + 1

-- lines are counted in 32 bits
abbrev pub Weighed : Badness → Type 0
Weighed (Lines off) = off < 2 ^ 32
Weighed badness_kind.Lost = Unit {0}
Weighed badness_kind.Never = Unit {0}

-- how many of the clocks before n are wrong
unfoldable pub wrong_before : (at : ℕ → Seen) (n : ℕ) → ℕ
wrong_before at zero = 0
wrong_before at (suc n) = cond (is_wrong (at n).verdict) 1 0 + wrong_before at n

-- a clock before n that is wrong, with what is seen at it
pub record WrongAt (at : ℕ → Seen) (n : ℕ) (w : Wrong) : Type 0 where
  pub before : w.clock < n
  pub seen : w.seen ≡ at w.clock
  pub wrong : is_wrong w.seen.verdict ≡ true

-- the first of them
pub record FirstWrong (at : ℕ → Seen) (n : ℕ) (w : Wrong) : Type 0 where
  pub is : WrongAt at n w
  pub right_before : (j : ℕ) → j < w.clock → is_wrong (at j).verdict ≡ false

-- the worst of them, and of several that are as bad the first
pub record WorstWrong (at : ℕ → Seen) (n : ℕ) (w : Wrong) : Type 0 where
  pub is : WrongAt at n w
  pub none_worse : (j : ℕ) → j < n → is_wrong (at j).verdict ≡ true → badness (at j).verdict ≤ badness w.seen.verdict
  pub first : (j : ℕ) → j < w.clock → is_wrong (at j).verdict ≡ true → badness (at j).verdict < badness w.seen.verdict

-- the tally of the clocks before n, of which some are wrong
pub record SomeWrong (at : ℕ → Seen) (n : ℕ) (t : Tally) : Type 0 where
  pub count : t.count ≡ wrong_before at n
  pub first : FirstWrong at n t.first
  pub worst : WorstWrong at n t.worst

-- the tally of the clocks before n, if some are wrong
abbrev pub Tallied : (at : ℕ → Seen) (n : ℕ) → Option Tally → Type 0
Tallied at n None = wrong_before at n ≡ 0
Tallied at n (Some t) = SomeWrong at n t

-- a run is added: if t is the tally of the clocks before `from`, and those of the run have its verdict, and the first what it says, u is
-- the tally of the clocks before the run's end
abbrev pub TalliedOn : Option Tally → (from : ℕ) → Run → Option Tally → Type 0
TalliedOn t from r u =
    (at : ℕ → Seen) → Tallied at from t → at from ≡ r.first → ((j : ℕ) → from ≤ j → j < r.to → (at j).verdict ≡ r.first.verdict)
    → Tallied at r.to u
