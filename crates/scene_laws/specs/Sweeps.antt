-- What the runs of a sweep say, on the board. `proofs/` proves it. Assumes nothing.
use Rattle.std.specs.Prelude.{◌≡◌, Option, Some, None, Result, Ok, Err, Bool, false, List, [], ◌∷◌, ℕ, ◌≤◌, ◌<◌, length}
use Rattle.base_shared.specs.Lists.{Each}
use Rattle.irq.specs.Timing.{line_step, line_length}
use Rattle.irq_clocks.specs.Clocks.{irq_clocked_times}
use Rattle.vrc6_calls.specs.declared.Call.{Call}
use Rattle.vrc6.specs.Boards.{State, Creation}
use Rattle.vrc6.specs.Calls.{create}
use Rattle.vrc6_calls.specs.Lists.{after}
use Rattle.vrc6_ledger.specs.Demand3.{clock_count, start}
use Rattle.scene_steps.specs.Steps.{step_of}
use Rattle.scene_steps.specs.declared.step.Step.{Step}
use Rattle.scene_steps.specs.declared.step.StepError.{StepError}
use Rattle.scene_moments.specs.declared.moment.Came.{Came}
use Rattle.scene_sweep.specs.declared.runs.Run.{Run}
use Rattle.scene_sweep.specs.declared.spans.Span.{Span}
use Rattle.scene_sweep.specs.declared.runs.Sweep.{Sweep}
use Rattle.scene_moments.specs.declared.lines.Screen.{Screen}
use Rattle.scene_moments.specs.Moments.{clocks_due}
use Rattle.scene_sweep.specs.Runs.{RunOf}
use Rattle.scene_moments.specs.Verdicts.{cleared_of, counted_of, verdict_of}
use Rattle.scene_laws.specs.Rises.{HeldFound, LossFound, OfByte, RiseFound, calls_around, calls_up_to, loss_in, rises_at}

-- the step that a word says before others; nothing where it says none
abbrev pub step_before : Result Step StepError → List Step → List Step
step_before (Ok s) steps = s ∷ steps
step_before (Err e) steps = steps

-- the steps of a cell's words
abbrev pub steps_of : (words : List (List ℕ)) → List Step
steps_of [] = []
steps_of (w ∷ words) = step_before (step_of w) (steps_of words)

-- the sweep from a board at the end of the writes: of its screen, its window and its handler's interrupts nothing is asked
abbrev pub sweep_from : State → (screen : Screen) (window : ℕ) (unmasked : Bool) → Sweep
sweep_from x screen window unmasked =
    record { window = record { screen = screen; line = window; unmasked = unmasked }; revision_b = x.board.banking.revision_b }

-- a number, if there is one, lies in a span, which there is then
abbrev pub Within : Option Span → Option ℕ → Type 0
Within span None = Unit {0}
Within None (Some n) = ⊥
Within (Some s) (Some n) = (s.least ≤ n) × (n ≤ s.most)

-- a board that is clocked j times, makes the menu's calls and is clocked m times has what run r of sweep s, which begins at a clock, says of
-- clock j
pub record HasVerdict (x : State) (j : ℕ) (steps : List Step) (m : ℕ) (s : Sweep) (from : ℕ) (r : Run) : Type 0 where
  pub came : Came
  -- the clock on which pending is first set, if these clocks get that far
  pub found : RiseFound came (clock_count (calls_around j steps m)) (rises_at x (calls_around j steps m) 0)
  -- and the clock on which the menu clears it, if it does
  pub lost : LossFound came (loss_in x (calls_up_to j steps) 0)
  -- or the clock of the menu's last call, if it is pending then
  pub held : HeldFound came (clock_count (calls_up_to j steps))
  pub verdict : verdict_of s.window came ≡ r.first.verdict
  -- at the run's first clock both are those that the run says of it, and at every clock they lie between those that it says
  pub begin : j ≡ from → (counted_of s.window.unmasked came ≡ r.first.set) × (cleared_of came ≡ r.first.cleared)
  pub set : Within r.set (counted_of s.window.unmasked came)
  pub cleared : Within r.cleared (cleared_of came)

-- of every accepted creation, every list of calls before that leaves pending clear, every menu of up to 4,096 words, every screen and line that
-- is right, handlers that leave interrupts open or not, and every run that the contract of `MenuSweep::run` allows: each clock of the run has
-- on the board what the run says
abbrev pub SweepLaw : Type 0
SweepLaw =
    (c : Creation) → (create c).refusal ≡ 0 → (ws : List Call) → Each OfByte ws → (x : State) → x ≡ after (start c) ws
    → x.board.irq.irq_pending ≡ false → (words : List (List ℕ)) → length words ≤ 4_096 → (screen : Screen) (window : ℕ) (unmasked : Bool)
    → (from n : ℕ) → clocks_due x.board.irq ≡ Some n → (r : Run)
    → RunOf (sweep_from x screen window unmasked) (steps_of words) (irq_clocked_times line_step line_length from x.board.irq) from n r
    → (j : ℕ) → from ≤ j → j < r.to → (m : ℕ) → HasVerdict x j (steps_of words) m (sweep_from x screen window unmasked) from r
