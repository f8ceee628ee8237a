-- Each clock of a run has the run's verdict on the board. Assumes nothing.
use mathlib.Core.Path.{◌≡◌, sym, ap, subst, ◌∙◌}
use mathlib.Core.Bool.{false}
use Rattle.std.proofs.Common.{Option as Due, Some, None, Result, Ok, Err}
use Rattle.base_shared.specs.Lists.{Each}
use mathlib.Core.List.{List, [], ◌∷◌}
use Prim.Native.Nat.{ℕ, ◌+◌, ◌*◌, ◌≤◌, ◌<◌}
use native.Mathlib.Omega.{arith}
use lib.ListN.{length}
use borrow.Author.Tests.{lt-leb}
use Rattle.irq.specs.declared.VrcIrq.{VrcIrq}
use Rattle.vrc6.specs.Boards.{State}
use Rattle.vrc6_calls.specs.Lists.{after}
use Rattle.vrc6_ledger.specs.Demand3.{clock_count, start}
use Rattle.vrc6_ledger.proofs.Whole.{demand3}
use Rattle.scene_steps.specs.declared.step.Step.{Step}
use Rattle.scene_steps.specs.declared.step.Step.TheVariants.{Write, Clocks, Reset}
use Rattle.scene_steps.specs.declared.step.StepError.{StepError}
use Rattle.scene_steps.specs.Laws.{Said, StepHeld}
use Rattle.scene_steps.specs.Steps.{step_of, wait_of}
use Rattle.scene_steps.proofs.Ranges.{said_law}
use Rattle.scene_board.specs.Played.{calls_of, step_calls}
use Rattle.scene_moments.specs.Moments.{clocks_due, due_within}
use Rattle.irq.specs.Timing.{line_step, line_length}
use Rattle.irq_clocks.specs.Clocks.{irq_clocked_times}
use Rattle.scene_moments.specs.declared.verdict.Seen.{Seen}
use Rattle.scene_sweep.specs.declared.spans.Span.{Span}
use Rattle.scene_sweep.specs.Spans.{SpanOf}
use Rattle.scene_sweep.specs.Runs.{seen_from, seen_in}
use Rattle.scene_sweep.proofs.Running.{first_in_sweep, in_sweep, in_whole}
use Rattle.scene_laws.specs.Rises.{ByteStep, Waits, came_at}
use Rattle.scene_laws.specs.Laws.{CameOn}
use Rattle.scene_laws.specs.Sweeps.{SweepLaw, Within, step_before, steps_of, sweep_from}
use Rattle.scene_laws.proofs.Comes.{came_law, fine_behind, first_fine}
use Rattle.scene_laws.proofs.Runs.{Fine, due_low}
use Rattle.scene_laws.proofs.Walks.{count_joined, count_run}

-- ---- a menu's clocks fit 32 bits, and it writes bytes
waits : (s : Step) → clock_count (step_calls s) ≡ wait_of s
waits (Write a v) = omega arith
waits (Clocks n) = count_run n
waits Reset = omega arith

word_waits : (r : Result Step StepError) → Said r → (steps : List Step) (n : ℕ) → clock_count (calls_of steps) ≤ n → clock_count (calls_of (step_before r steps)) ≤ 1_000_000 + n
word_waits (Ok s) h steps n l = omega (arith, count_joined (step_calls s) (calls_of steps), waits s, h.wait, l)
word_waits (Err e) h steps n l = omega (arith, l)

menu_waits : (words : List (List ℕ)) → clock_count (calls_of (steps_of words)) ≤ 1_000_000 * length words
menu_waits [] = omega arith
menu_waits (w ∷ words) = omega (arith, word_waits (step_of w) (said_law w) (steps_of words) (1_000_000 * length words) (menu_waits words))

of_byte : (s : Step) → StepHeld s → ByteStep s
of_byte (Write a v) h = omega (arith, h.1)
of_byte (Clocks n) h = tt
of_byte Reset h = tt

word_bytes : (r : Result Step StepError) → Said r → (steps : List Step) → Each ByteStep steps → Each ByteStep (step_before r steps)
word_bytes (Ok s) h steps o = (of_byte s h.in_range, o)
word_bytes (Err e) h steps o = o

pub menu_bytes : (words : List (List ℕ)) → Each ByteStep (steps_of words)
menu_bytes [] = tt
menu_bytes (w ∷ words) = word_bytes (step_of w) (said_law w) (steps_of words) (menu_bytes words)

-- ---- a clock before the interrupt
waits_still : (q : VrcIrq) (j n : ℕ) → q.irq_pending ≡ false → clocks_due q ≡ Some n → j < n → Waits q j
waits_still q j n clear e h = record { clear = clear; not_yet = ap (due_within j) e ∙ lt-leb n j h }

-- a clock's number lies in the span of a run's
in_span : (span : Due Span) (f : ℕ → Due ℕ) (from to : ℕ) → SpanOf f from to span → (j : ℕ) → from ≤ j → j < to → (v : Due ℕ) → v ≡ f j → Within span v
in_span None f from to g j a b None e = tt
in_span (Some s) f from to g j a b None e = tt
in_span None f from to g j a b (Some n) e = let none = g j a b in cc
in_span (Some s) f from to g j a b (Some n) e = (g.low j n a b (sym e), g.high j n a b (sym e))

pub sweep_law : SweepLaw
sweep_law c h ws o x e clear words few screen window unmasked from n due r run j low high m =
    let q = x.board.irq in
    let steps = steps_of words in
    let s = sweep_from x screen window unmasked in
    let fine : Fine q = subst (λ (y : State). Fine y.board.irq) (sym e) (fine_behind ws (start c) (demand3 c h ws).accepted o (first_fine c h)) in
    let soon : j < n = omega (arith, run.within) in
    let still : Waits (after (start c) ws).board.irq j = subst (λ (y : State). Waits y.board.irq j) e (waits_still q j n clear due soon) in
    let law : CameOn x j steps m =
    subst (λ (y : State). CameOn y j steps m) (sym e)
    (came_law c h ws o j still steps (menu_bytes words) (omega (arith, menu_waits words, due_low q fine n due)) m) in
    let here : seen_in s steps q j ≡ seen_from s steps (irq_clocked_times line_step line_length from q) from j = in_whole s steps q from j low in
    record {
      came = came_at x.board.banking.revision_b q j steps;
      found = law.comes;
      lost = law.loses;
      held = law.held;
      verdict = in_sweep s steps q from n r run j low high;
      begin = λ z.
          let first : seen_in s steps q j ≡ r.first =
          ap (seen_in s steps q) z ∙ first_in_sweep s steps q from n r run in
          (ap (λ (y : Seen). y.set) first, ap (λ (y : Seen). y.cleared) first);
      set = in_span r.set _ from r.to run.set j low high _ (ap (λ (y : Seen). y.set) here);
      cleared = in_span r.cleared _ from r.to run.cleared j low high _ (ap (λ (y : Seen). y.cleared) here);
    }
