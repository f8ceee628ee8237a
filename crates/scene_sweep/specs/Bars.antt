-- The bar under a sweep: n clocks are cut in 64 equal shares, a column for each (docs/SCENES.md). Assumes nothing.
use Rattle.std.specs.Prelude.{◌≡◌, ℕ, ◌+◌, ◌*◌, ◌/◌, ◌<◌, ◌≤◌, ◌⊎◌, List, length, get_or, cond, nat_lt}
use Rattle.scene_moments.specs.declared.verdict.Mark.{Mark}
use Rattle.scene_moments.specs.declared.verdict.Mark.TheVariants.{Right}
use Rattle.scene_moments.specs.Verdicts.{rank}

-- the column in whose share a 64th part of clock k of n lies
abbrev pub column : (k part n : ℕ) → ℕ
column k part n = (64 * k + part) / n

-- the column whose share clock k of n begins in
abbrev pub first_column : (k n : ℕ) → ℕ
first_column k n = column k 0 n

-- the column whose share clock k of n ends in
abbrev pub last_column : (k n : ℕ) → ℕ
last_column k n = column k 63 n

-- the worse of a mark and that of a column
abbrev pub worse : (m column : Mark) → Mark
worse m column = cond (nat_lt (rank m) (rank column)) column m

-- clock j of n touches column i
pub record Touches (n j i : ℕ) : Type 0 where
  pub first : first_column j n ≤ i
  pub last : i ≤ last_column j n

-- a clock before k that touches column i and has mark m
pub record Shows (at : ℕ → Mark) (n k i : ℕ) (m : Mark) : Type 0 where
  pub clock : ℕ
  pub before : clock < k
  pub touches : Touches n clock i
  pub mark : at clock ≡ m

-- the bar of the clocks before k of n, of which clock j has mark `at j`
pub record Barred (at : ℕ → Mark) (n k : ℕ) (bar : List Mark) : Type 0 where
  pub width : length bar ≡ 64
  -- no clock that touches a column has a worse mark
  pub worst : (j : ℕ) → j < k → (i : ℕ) → i < 64 → Touches n j i → rank (at j) ≤ rank (get_or bar i Right)
  -- a column shows the mark of a clock that touches it, or that of a right one
  pub shown : (i : ℕ) → i < 64 → (get_or bar i Right ≡ Right) ⊎ Shows at n k i (get_or bar i Right)

-- if the old bar is that of the clocks before `from`, and the clocks from there to before `to` have mark m, the new one is that of the clocks before `to`
abbrev pub MarkedOn : (n from to : ℕ) (m : Mark) (bar new : List Mark) → Type 0
MarkedOn n from to m bar new = (at : ℕ → Mark) → Barred at n from bar → ((j : ℕ) → from ≤ j → j < to → at j ≡ m) → Barred at n to new

-- a bar of no clock, whatever the clocks' marks
abbrev pub Unmarked : (bar : List Mark) → Type 0
Unmarked bar = (at : ℕ → Mark) (n : ℕ) → Barred at n 0 bar
