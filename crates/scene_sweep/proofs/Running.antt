-- A run of clocks with one verdict, one clock after the other. Assumes nothing.
use Rattle.std.proofs.Common.{◌≡◌, ℕ, suc, ◌+◌, ◌-◌, ◌<◌, ◌≤◌, leb, List, sym, ap, ◌∙◌, inl, inr, arith, leb-false, leb-true}
use Rattle.base_shared.proofs.Tests.{tested}
use Rattle.base_steps.specs.Times.{times}
use Rattle.base_steps.proofs.Iterated.{times_add}
use Rattle.irq.specs.declared.VrcIrq.{VrcIrq}
use Rattle.irq.specs.Timing.{line_step, line_length, clock_answer}
use Rattle.irq_clocks.specs.Clocks.{irq_clocked_times}
use Rattle.scene_steps.specs.declared.step.Step.{Step}
use Rattle.scene_moments.specs.declared.verdict.Seen.{Seen}
use Rattle.scene_sweep.specs.declared.runs.Sweep.{Sweep}
use Rattle.scene_sweep.specs.declared.runs.Run.{Run}
use Rattle.scene_sweep.specs.Spans.{SpanOf}
use Rattle.scene_sweep.proofs.Spanning.{none_spanned, more_spanned}
use Rattle.scene_sweep.proofs.Telling.{same_told}
use Rattle.scene_moments.specs.Verdicts.{line_told, mark_of}
use Rattle.scene_sweep.specs.Runs.{RunOf, run_of, run_with, seen_at, seen_from, seen_in}

module _ (s : Sweep) (menu : List Step) (q : VrcIrq) (from n : ℕ) where
  -- what is seen at a clock
  abbrev at : ℕ → Seen
  at j = seen_from s menu q from j

  -- the clocks up to before the run's end have one verdict
  pub record Going (r : Run) : Type 0 where
    pub onward : from < r.to
    pub within : r.to ≤ n
    pub first : r.first ≡ at from
    pub same : (j : ℕ) → from ≤ j → j < r.to → (at j).verdict ≡ r.first.verdict
    pub counter : r.irq ≡ irq_clocked_times line_step line_length (r.to - from) q
    pub set : SpanOf (λ j. (at j).set) from r.to r.set
    pub cleared : SpanOf (λ j. (at j).cleared) from r.to r.cleared

  -- no clock has gone by
  here : q ≡ irq_clocked_times line_step line_length (from - from) q
  unfolding times
  here = let none : 0 ≡ from - from = omega arith in ap (λ (m : ℕ). irq_clocked_times line_step line_length m q) none

  -- a clock more
  clocked : (now : VrcIrq) (k : ℕ) → from ≤ k → now ≡ irq_clocked_times line_step line_length (k - from) q
      → (clock_answer now).irq ≡ irq_clocked_times line_step line_length (k + 1 - from) q
  unfolding times
  clocked now k l e =
      let one_more : suc (k - from) ≡ k + 1 - from = omega arith in
      ap (λ (p : VrcIrq). (clock_answer p).irq) e ∙ ap (λ (m : ℕ). irq_clocked_times line_step line_length m q) one_more

  pub starts : (seen : Seen) → from < n → seen ≡ seen_at s menu q from → Going (run_of seen q from)
  starts seen h e =
      let first : seen ≡ at from = e ∙ ap (λ (p : VrcIrq). seen_at s menu p from) here in
      record {
        onward = omega arith;
        within = omega arith;
        first = first;
        same = λ j a b. let is : j ≡ from = omega arith in ap (λ (i : ℕ). (at i).verdict) is ∙ ap (λ (x : Seen). x.verdict) (sym first);
        counter = clocked q from (omega arith) here;
        set = more_spanned (λ j. (at j).set) from from (omega arith) _ seen.set (ap (λ (x : Seen). x.set) (sym first)) (none_spanned (λ j. (at j).set) from);
        cleared =
            more_spanned (λ j. (at j).cleared) from from (omega arith) _ seen.cleared (ap (λ (x : Seen). x.cleared) (sym first))
            (none_spanned (λ j. (at j).cleared) from);
      }

  module _ (r : Run) (g : Going r) where
    -- it ends with the sweep
    pub all : n ≤ r.to → RunOf s menu q from n r
    all h =
        record {
          onward = g.onward;
          within = g.within;
          first = g.first;
          same = g.same;
          ends = inl (omega (arith, g.within));
          counter = g.counter;
          set = g.set;
          cleared = g.cleared;
        }

    module _ (h : r.to < n) (seen : Seen) (e : seen ≡ seen_at s menu r.irq r.to) where
      -- what is seen behind it
      told : seen ≡ at r.to
      told = e ∙ ap (λ (p : VrcIrq). seen_at s menu p r.to) g.counter

      pub stops : (seen.verdict ≡ r.first.verdict → ⊥) → RunOf s menu q from n r
      stops d =
          record {
            onward = g.onward;
            within = g.within;
            first = g.first;
            same = g.same;
            ends = inr (λ z. d (ap (λ (x : Seen). x.verdict) told ∙ z));
            counter = g.counter;
            set = g.set;
            cleared = g.cleared;
          }

      pub goes_on : seen.verdict ≡ r.first.verdict → Going (run_with r seen)
      goes_on d =
          let low : from ≤ r.to = omega (arith, g.onward) in
          record {
            onward = omega (arith, g.onward);
            within = omega arith;
            first = g.first;
            same = λ j a b.
                tested (leb r.to j)
                (λ t.
                let is : j ≡ r.to = omega (arith, leb-true r.to j t) in
                ap (λ (i : ℕ). (at i).verdict) is ∙ ap (λ (x : Seen). x.verdict) (sym told) ∙ d)
                (λ t. g.same j a (leb-false r.to j t));
            counter = clocked r.irq r.to low g.counter;
            set = more_spanned (λ j. (at j).set) from r.to low r.set seen.set (ap (λ (x : Seen). x.set) (sym told)) g.set;
            cleared = more_spanned (λ j. (at j).cleared) from r.to low r.cleared seen.cleared (ap (λ (x : Seen). x.cleared) (sym told)) g.cleared;
          }

      pub goes_on_told : mark_of seen.verdict ≡ mark_of r.first.verdict → line_told seen.verdict ≡ line_told r.first.verdict → Going (run_with r seen)
      goes_on_told m l =
          let x = ap (λ (v : Seen). v.verdict) e in
          let y = ap (λ (v : Seen). v.verdict) g.first in
          goes_on
          (x
          ∙ same_told s.window _ _ (ap mark_of (sym x) ∙ m ∙ ap mark_of y) (ap line_told (sym x) ∙ l ∙ ap line_told y)
          ∙ sym y)

-- ---- in a whole sweep
-- the counter at a clock, from the counter at an earlier one
pub on_from : (q : VrcIrq) (from j : ℕ) → from ≤ j → irq_clocked_times line_step line_length (j - from) (irq_clocked_times line_step line_length from q) ≡ irq_clocked_times line_step line_length j q
on_from q from j h =
    let whole : from + (j - from) ≡ j = omega arith in
    times_add (λ (p : VrcIrq). (clock_answer p).irq) q from (j - from) ∙ ap (λ (m : ℕ). irq_clocked_times line_step line_length m q) whole

-- what is seen at a clock of a run, in the sweep that starts at clock 0
pub in_whole : (s : Sweep) (menu : List Step) (q : VrcIrq) (from j : ℕ) → from ≤ j
    → seen_in s menu q j ≡ seen_from s menu (irq_clocked_times line_step line_length from q) from j
in_whole s menu q from j low = ap (λ (p : VrcIrq). seen_at s menu p j) (sym (on_from q from j low))

module _ (s : Sweep) (menu : List Step) (q : VrcIrq) (from n : ℕ) (r : Run) (run : RunOf s menu (irq_clocked_times line_step line_length from q) from n r) where
  pub in_sweep : (j : ℕ) → from ≤ j → j < r.to → (seen_in s menu q j).verdict ≡ r.first.verdict
  in_sweep j low high = ap (λ (x : Seen). x.verdict) (in_whole s menu q from j low) ∙ run.same j low high

  pub first_in_sweep : seen_in s menu q from ≡ r.first
  first_in_sweep = in_whole s menu q from from (omega arith) ∙ sym run.first
