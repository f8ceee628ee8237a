-- The moments at which the interrupt comes while the menu waits with wrong letters (docs/SCENES.md). Assumes nothing.
use Rattle.std.specs.Prelude.{◌≡◌, Option, Some, None, ℕ, zero, suc, ◌+◌, ◌%◌, ◌^◌, ◌<◌, Bool, true, false, cond, List, get_or}
use Rattle.irq.specs.declared.VrcIrq.{VrcIrq}
use Rattle.irq.specs.Timing.{line_step, line_length}
use Rattle.irq_clocks.specs.Clocks.{irq_clocked_times}
use Rattle.scene_steps.specs.declared.step.Step.{Step}
use Rattle.scene_moments.specs.declared.moment.Moment.TheVariants.{Waiting}
use Rattle.scene_moments.specs.Moments.{came_in}
use Rattle.scene_sweep.specs.declared.letters.Met.{Met}
use Rattle.scene_sweep.specs.declared.runs.Sweep.{Sweep}

-- the step of the menu in which the interrupt comes, if it comes in one and the menu runs at clock k, which leaves the counter so
abbrev pub step_at : Sweep → List Step → VrcIrq → (k : ℕ) → Option ℕ
step_at s menu q k = came_in s.revision_b menu (Waiting q k) 0

-- a step is marked; marks are given for the steps of the menu, and none behind them
abbrev pub is_marked : (marks : List Bool) (step : ℕ) → Bool
is_marked marks i = get_or marks i false

-- the interrupt comes in a step that is marked
abbrev pub meets : (marks : List Bool) (step : Option ℕ) → Bool
meets marks None = false
meets marks (Some i) = is_marked marks i

-- it does if the menu runs at clock k, which leaves the counter so
abbrev pub meets_at : Sweep → List Step → (marks : List Bool) → VrcIrq → (k : ℕ) → Bool
meets_at s menu marks q k = meets marks (step_at s menu q k)

-- the same at clock k of a sweep, from the counter at clock 0
abbrev pub meets_in : Sweep → List Step → (marks : List Bool) → VrcIrq → (k : ℕ) → Bool
meets_in s menu marks q k = meets_at s menu marks (irq_clocked_times line_step line_length k q) k

-- one more, at clock k and in step i of the menu
abbrev pub one_met : Option Met → (k i : ℕ) → Met
one_met None k i = record { count = 1; first = k; step = i }
one_met (Some m) k i = record { count = (m.count + 1) % 2 ^ 32; first = m.first; step = m.step }

-- with clock k, at which the interrupt comes in a step, if it comes in one
abbrev pub met_with : Option Met → (marks : List Bool) (k : ℕ) (step : Option ℕ) → Option Met
met_with m marks k None = m
met_with m marks k (Some i) = cond (is_marked marks i) (Some (one_met m k i)) m

-- at how many of the clocks before n a test holds
unfoldable pub holds_before : (at : ℕ → Bool) (n : ℕ) → ℕ
holds_before at zero = 0
holds_before at (suc n) = cond (at n) 1 0 + holds_before at n

-- how many of n clocks meet a mark, the first of them, and the step of the menu there
pub record Meets (s : Sweep) (menu : List Step) (marks : List Bool) (q : VrcIrq) (n : ℕ) (m : Met) : Type 0 where
  pub count : m.count ≡ holds_before (meets_in s menu marks q) n
  pub before : m.first < n
  pub meets : meets_in s menu marks q m.first ≡ true
  pub none_before : (j : ℕ) → j < m.first → meets_in s menu marks q j ≡ false
  pub step : step_at s menu (irq_clocked_times line_step line_length m.first q) m.first ≡ Some m.step

-- what is met within n clocks, if one of them meets a mark
abbrev pub MetOf : (s : Sweep) (menu : List Step) (marks : List Bool) (q : VrcIrq) (n : ℕ) → Option Met → Type 0
MetOf s menu marks q n None = holds_before (meets_in s menu marks q) n ≡ 0
MetOf s menu marks q n (Some m) = Meets s menu marks q n m
