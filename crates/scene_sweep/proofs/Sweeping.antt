-- A sweep, run by run. Assumes nothing.
use Rattle.std.proofs.Common.{◌≡◌, ℕ, ◌-◌, ◌<◌, ◌≤◌, Option, None, List, refl, ap, ◌∙◌, subst, arith}
use Rattle.base_steps.specs.Times.{times}
use Rattle.irq.specs.declared.VrcIrq.{VrcIrq}
use Rattle.irq.specs.Timing.{line_step, line_length}
use Rattle.irq_clocks.specs.Clocks.{irq_clocked_times}
use Rattle.scene_sweep.specs.declared.runs.Run.{Run}
use Rattle.scene_sweep.specs.declared.runs.Sweep.{Sweep}
use Rattle.scene_sweep.specs.declared.tally.Tally.{Tally}
use Rattle.scene_steps.specs.declared.step.Step.{Step}
use Rattle.scene_moments.specs.declared.verdict.Mark.{Mark}
use Rattle.scene_moments.specs.Verdicts.{mark_of}
use Rattle.scene_sweep.specs.Bars.{MarkedOn, Unmarked}
use Rattle.scene_sweep.specs.Runs.{RunOf, seen_in}
use Rattle.scene_sweep.specs.Swept.{SweptOf}
use Rattle.scene_sweep.specs.Tallies.{TalliedOn, wrong_before}
use Rattle.scene_sweep.proofs.Running.{first_in_sweep, in_sweep, on_from}

module _ (s : Sweep) (menu : List Step) (q : VrcIrq) (n : ℕ) where
  -- the clocks before `from` are swept, and the counter stands there
  pub record Upto (from : ℕ) (now : VrcIrq) (t : Option Tally) (bar : List Mark) : Type 0 where
    pub within : from ≤ n
    pub counter : now ≡ irq_clocked_times line_step line_length from q
    pub swept : SweptOf s menu q n from t bar

  pub none : (bar : List Mark) → Unmarked bar → Upto 0 q None bar
  unfolding times wrong_before
  none bar b =
      record {
        within = omega arith;
        counter = refl;
        swept = record { tallied = refl; barred = b (λ j. mark_of (seen_in s menu q j).verdict) n };
      }

  module _ (from : ℕ) (now : VrcIrq) (t : Option Tally) (bar : List Mark) (u : Upto from now t bar) (r : Run) (run : RunOf s menu now from n r) where
    -- the clocks of the run have its verdict
    same : (j : ℕ) → from ≤ j → j < r.to → (seen_in s menu q j).verdict ≡ r.first.verdict
    same = in_sweep s menu q from n r (subst (λ (p : VrcIrq). RunOf s menu p from n r) u.counter run)

    first : seen_in s menu q from ≡ r.first
    first = first_in_sweep s menu q from n r (subst (λ (p : VrcIrq). RunOf s menu p from n r) u.counter run)

    pub more : (t' : Option Tally) (bar' : List Mark) → TalliedOn t from r t' → MarkedOn n from r.to (mark_of r.first.verdict) bar bar' → Upto r.to r.irq t' bar'
    more t' bar' a b =
        record {
          within = run.within;
          counter =
              run.counter
              ∙ ap (irq_clocked_times line_step line_length (r.to - from)) u.counter
              ∙ on_from q from r.to (omega (arith, run.onward));
          swept =
              record {
                tallied = a (seen_in s menu q) u.swept.tallied first same;
                barred = b (λ j. mark_of (seen_in s menu q j).verdict) u.swept.barred (λ j x y. ap mark_of (same j x y));
              };
        }

  pub all : (from : ℕ) (now : VrcIrq) (t : Option Tally) (bar : List Mark) → Upto from now t bar → n ≤ from → SweptOf s menu q n n t bar
  all from now t bar u h =
      let e : from ≡ n = omega (arith, u.within) in
      subst (λ (k : ℕ). SweptOf s menu q n k t bar) e u.swept
