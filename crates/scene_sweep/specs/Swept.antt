-- What a sweep has found (docs/SCENES.md). Assumes nothing.
use Rattle.std.specs.Prelude.{Option, ℕ, List}
use Rattle.irq.specs.declared.VrcIrq.{VrcIrq}
use Rattle.scene_steps.specs.declared.step.Step.{Step}
use Rattle.scene_moments.specs.declared.verdict.Mark.{Mark}
use Rattle.scene_moments.specs.Verdicts.{mark_of}
use Rattle.scene_sweep.specs.declared.runs.Sweep.{Sweep}
use Rattle.scene_sweep.specs.declared.tally.Tally.{Tally}
use Rattle.scene_sweep.specs.Bars.{Barred}
use Rattle.scene_sweep.specs.Runs.{seen_in}
use Rattle.scene_sweep.specs.Tallies.{Tallied}

-- the tally and the bar of the first k of n clocks, from the counter at clock 0
pub record SweptOf (s : Sweep) (menu : List Step) (q : VrcIrq) (n k : ℕ) (t : Option Tally) (bar : List Mark) : Type 0 where
  pub tallied : Tallied (seen_in s menu q) k t
  pub barred : Barred (λ j. mark_of (seen_in s menu q j).verdict) n k bar
