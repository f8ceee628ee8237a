-- Runs of clocks at which the menu has one verdict (docs/SCENES.md). Assumes nothing.
use Rattle.std.specs.Prelude.{◌≡◌, None, ℕ, ◌+◌, ◌-◌, ◌<◌, ◌≤◌, ◌⊎◌, List, ◌≢◌}
use Rattle.irq.specs.declared.VrcIrq.{VrcIrq}
use Rattle.irq.specs.Timing.{clock_answer, line_step, line_length}
use Rattle.irq_clocks.specs.Clocks.{irq_clocked_times}
use Rattle.scene_steps.specs.declared.step.Step.{Step}
use Rattle.scene_sweep.specs.declared.runs.Sweep.{Sweep}
use Rattle.scene_sweep.specs.declared.runs.Run.{Run}
use Rattle.scene_moments.specs.declared.moment.Moment.TheVariants.{Waiting}
use Rattle.scene_moments.specs.declared.verdict.Seen.{Seen}
use Rattle.scene_moments.specs.Moments.{came}
use Rattle.scene_moments.specs.Verdicts.{seen_as}
use Rattle.scene_sweep.specs.Spans.{SpanOf, spanned}

-- what is seen if the menu runs at clock k, which leaves the counter so
abbrev pub seen_at : Sweep → List Step → VrcIrq → (k : ℕ) → Seen
seen_at s menu q k = seen_as s.window (came s.revision_b menu (Waiting q k))

-- what is seen at clock k of a sweep, from the counter at clock 0
abbrev pub seen_in : Sweep → List Step → VrcIrq → (k : ℕ) → Seen
seen_in s menu q k = seen_at s menu (irq_clocked_times line_step line_length k q) k

-- what is seen at clock j, from the counter at an earlier clock
abbrev pub seen_from : Sweep → List Step → VrcIrq → (from j : ℕ) → Seen
seen_from s menu q from j = seen_at s menu (irq_clocked_times line_step line_length (j - from) q) j

-- a run of one clock, at which this is seen
abbrev pub run_of : Seen → VrcIrq → (from : ℕ) → Run
run_of seen q from =
    record {
      first = seen;
      to = from + 1;
      irq = (clock_answer q).irq;
      set = spanned None seen.set;
      cleared = spanned None seen.cleared;
    }

-- a run with the next clock, at which this is seen
abbrev pub run_with : Run → Seen → Run
run_with r seen =
    record {
      first = r.first;
      to = r.to + 1;
      irq = (clock_answer r.irq).irq;
      set = spanned r.set seen.set;
      cleared = spanned r.cleared seen.cleared;
    }

-- the run of a sweep of n clocks that starts at a clock
pub record RunOf (s : Sweep) (menu : List Step) (q : VrcIrq) (from n : ℕ) (r : Run) : Type 0 where
  pub onward : from < r.to
  pub within : r.to ≤ n
  pub first : r.first ≡ seen_from s menu q from from
  -- every clock of it has the first one's verdict
  pub same : (j : ℕ) → from ≤ j → j < r.to → (seen_from s menu q from j).verdict ≡ r.first.verdict
  -- it ends with the sweep, or where the verdict is another
  pub ends : (r.to ≡ n) ⊎ ((seen_from s menu q from r.to).verdict ≢ r.first.verdict)
  -- the counter behind it
  pub counter : r.irq ≡ irq_clocked_times line_step line_length (r.to - from) q
  -- the clocks that count of its interrupts, and those on which they are cleared
  pub set : SpanOf (λ j. (seen_from s menu q from j).set) from r.to r.set
  pub cleared : SpanOf (λ j. (seen_from s menu q from j).cleared) from r.to r.cleared
