-- A handler's steps on the counter alone: the walk over its calls finds the clock that `came` tells. Assumes nothing.
use mathlib.Core.Path.{◌≡◌, refl, sym, ap, subst, ◌∙◌}
use mathlib.Core.Bool.{Bool, false, cond}
use mathlib.Core.List.{List, [], ◌∷◌, ◌++◌, append-nil, append_assoc}
use mathlib.Core.Option.{Option, none, some}
use Prim.Native.Nat.{ℕ, zero, suc, ◌+◌, ◌^◌, ◌≤◌, ◌<◌}
use native.Mathlib.Nat.{mod-eq_of_lt}
use native.Mathlib.Omega.{arith}
use lib.Dec.{leb}
use Rattle.std.proofs.Common.{Option as Due, Some, None}
use Rattle.base_shared.specs.Lists.{Each}
use lib.ListN.{replicate}
use borrow.Author.Tests.{lt-leb, leb-true}
use Rattle.base_shared.proofs.Tests.{tested}
use Rattle.registers.specs.Decode.{decode}
use Rattle.irq.specs.declared.VrcIrq.{VrcIrq}
use Rattle.irq.specs.Timing.{line_step, line_length}
use Rattle.irq_clocks.specs.Clocks.{irq_clocked_times}
use Rattle.vrc6_calls.specs.declared.Call.{Call}
use Rattle.vrc6_calls.specs.declared.Call.TheVariants.{CpuWrite, Clock, SoftReset}
use Rattle.vrc6_ledger.specs.Ledger.{event}
use Rattle.vrc6_ledger.specs.Demand3.{weight, clock_count}
use Rattle.scene_steps.specs.declared.step.Step.{Step}
use Rattle.scene_steps.specs.declared.step.Step.TheVariants.{Write, Clocks, Reset}
use Rattle.scene_moments.specs.declared.moment.Moment.{Moment}
use Rattle.scene_moments.specs.declared.moment.Moment.TheVariants.{Waiting, Pending, Cleared}
use Rattle.scene_moments.specs.declared.moment.Came.{Came}
use Rattle.scene_moments.specs.declared.moment.Came.TheVariants.{On}
use Rattle.scene_board.specs.Played.{calls_of, step_calls}
use Rattle.scene_laws.specs.Counter.{counter_after}
use Rattle.scene_moments.specs.Moments.{added, came, clears, coming_in, clocks_due, due_within, ended, gone_by, menu_played, step_pending, step_taken, waited_for}
use Rattle.scene_laws.specs.Rises.{ByteStep, RiseFound}
use Rattle.scene_laws.proofs.Runs.{Ready, rises, quiet, sets_within, first_due, quiet_due, due_low, ready_after, ready_taken, ready_zero}

-- ---- clocks in a list
pub count_joined : (ks js : List Call) → clock_count (ks ++ js) ≡ clock_count ks + clock_count js
count_joined [] js = omega arith
count_joined (k ∷ ks) js = omega (arith, count_joined ks js)

pub count_run : (n : ℕ) → clock_count (replicate n Clock) ≡ n
count_run zero = refl
count_run (suc n) = omega (arith, count_run n)

-- ---- what is found
pub found_same : (a : Came) (n m : ℕ) (r s : Option ℕ) → m ≡ n → s ≡ r → RiseFound a n r → RiseFound a m s
found_same a n m r s e f h = subst (λ (z : ℕ). RiseFound a z s) (sym e) (subst (λ (z : Option ℕ). RiseFound a n z) (sym f) h)

-- sums that fit 32 bits
pub not_over : (clock n : ℕ) → clock + n < 2 ^ 32 → added clock n ≡ clock + n
not_over clock n h = mod-eq_of_lt h

-- an interrupt that is lost stays lost
pub stays_lost : (b : Bool) (steps : List Step) (s clock : ℕ) → menu_played b steps (Cleared s clock) ≡ Cleared s clock
stays_lost b [] s clock = refl
stays_lost b (t ∷ steps) s clock = stays_lost b steps s clock

-- once it has come, no step moves the clock on which it was set
module _ (n s : ℕ) (r : Option ℕ) (f : (s ≤ n → r ≡ some s) × (n < s → r ≡ none)) (b : Bool) where
  cleared : (steps : List Step) (clock : ℕ) → RiseFound (ended (menu_played b steps (Cleared s clock))) n r
  cleared steps clock = subst (λ (m : Moment). RiseFound (ended m) n r) (sym (stays_lost b steps s clock)) f

  -- a step, where the steps behind it are told
  held : (steps : List Step) (clock : ℕ) → ((t : ℕ) → RiseFound (ended (menu_played b steps (Pending s t))) n r)
      → (t : Step) → RiseFound (ended (menu_played b steps (step_pending b t s clock))) n r
  held steps clock again (Write a v) = tested (clears (decode b a)) (λ e. rw e (cleared steps clock)) (λ e. rw e (again clock))
  held steps clock again (Clocks k) = again (added clock k)
  held steps clock again Reset = cleared steps clock

  settled : (steps : List Step) (clock : ℕ) → RiseFound (ended (menu_played b steps (Pending s clock))) n r
  settled [] clock = f
  settled (t ∷ steps) clock = held steps clock (λ k. settled steps k) t

module _ (b : Bool) (m : ℕ) where
  -- the calls that are left of a handler, and m clocks
  abbrev left : List Call → List Call
  left ks = ks ++ replicate m Clock

  -- what the walk must find, from a counter at a clock
  abbrev Told : Came → VrcIrq → (clock : ℕ) → List Call → Type 0
  Told a q clock ks = RiseFound a (clock + clock_count (left ks)) (rises b q (left ks) clock)

  -- ---- no step is left
  module _ (q : VrcIrq) (clock : ℕ) (r : Ready q) (room : clock + 100_000 < 2 ^ 32) where
    none_left : due_within m (clocks_due q) ≡ false → rises b q (replicate m Clock) clock ≡ none
    none_left h =
        ap (λ (ks : List Call). rises b q ks clock) (sym (append-nil (replicate m Clock)))
        ∙ quiet b m q [] clock r (quiet_due q r.fine m h)

    some_left : (d : ℕ) → clocks_due q ≡ Some d → d ≤ m → rises b q (replicate m Clock) clock ≡ some (clock + d)
    some_left d e h =
        ap (λ (ks : List Call). rises b q ks clock) (sym (append-nil (replicate m Clock)))
        ∙ sets_within b d m q [] clock r (first_due q r.fine d e) h

    by_due : (d : Due ℕ) → clocks_due q ≡ d → Told (coming_in clock d) q clock []
    by_due None e = none_left (ap (due_within m) e)
    by_due (Some d) e =
        subst (λ (t : ℕ). Told (On t) q clock []) (sym (not_over clock d (omega (arith, due_low q r.fine d e)))) (
          λ h. some_left d e (omega (arith, count_run m)),
          λ h. none_left (ap (due_within m) e ∙ lt-leb d m (omega (arith, count_run m))),
        )

    at_end : Told (ended (Waiting q clock)) q clock []
    at_end = by_due (clocks_due q) refl

  -- ---- a step, where the steps behind it are told
  module _ (steps : List Step) (q : VrcIrq) (clock : ℕ) (r : Ready q)
      (again : (p : VrcIrq) (t : ℕ) → Ready p → t + clock_count (calls_of steps) + 100_000 < 2 ^ 32
      → Told (came b steps (Waiting p t)) p t (calls_of steps)) where
    -- a call that is no clock and leaves pending clear
    by_call : (k : Call) → Ready (counter_after b k q) → weight (event k) ≡ 0 → clock + clock_count (calls_of steps) + 100_000 < 2 ^ 32
        → Told (came b steps (Waiting (counter_after b k q) clock)) q clock (k ∷ calls_of steps)
    by_call k f w room =
        let p = counter_after b k q in
        let same : clock + weight (event k) ≡ clock = omega (arith, w) in
        found_same (came b steps (Waiting p clock)) (clock + clock_count (left (calls_of steps)))
        (clock + clock_count (left (k ∷ calls_of steps))) (rises b p (left (calls_of steps)) clock)
        (rises b q (k ∷ left (calls_of steps)) clock)
        (omega (arith, w))
        (ap (λ (t : ℕ). cond p.irq_pending (some t) (rises b p (left (calls_of steps)) t)) same
        ∙ ap (λ (c : Bool). cond c (some clock) (rises b p (left (calls_of steps)) clock)) f.clear)
        (again p clock f room)

    -- ---- clocks
    module _ (n : ℕ) (room : clock + clock_count (replicate n Clock ++ calls_of steps) + 100_000 < 2 ^ 32) where
      -- the clocks of the step, and those behind them
      counted : clock_count (left (replicate n Clock ++ calls_of steps)) ≡ n + clock_count (left (calls_of steps))
      counted =
          ap clock_count (append_assoc (replicate n Clock) (calls_of steps) (replicate m Clock))
          ∙ count_joined (replicate n Clock) (left (calls_of steps))
          ∙ ap (λ (k : ℕ). k + clock_count (left (calls_of steps))) (count_run n)

      fits : clock + n + clock_count (calls_of steps) + 100_000 < 2 ^ 32
      fits = omega (arith, count_joined (replicate n Clock) (calls_of steps), count_run n)

      regroup : rises b q (left (replicate n Clock ++ calls_of steps)) clock ≡ rises b q (replicate n Clock ++ left (calls_of steps)) clock
      regroup = ap (λ (ks : List Call). rises b q ks clock) (append_assoc (replicate n Clock) (calls_of steps) (replicate m Clock))

      -- what must hold of what the step leaves
      abbrev Wanted : Moment → Type 0
      Wanted x = Told (ended (menu_played b steps x)) q clock (replicate n Clock ++ calls_of steps)

      comes_within : (d : ℕ) → clocks_due q ≡ Some d → d ≤ n → Wanted (Pending (added clock d) (added clock n))
      comes_within d e low =
          let all = clock + clock_count (left (replicate n Clock ++ calls_of steps)) in
          settled all (added clock d) (rises b q (left (replicate n Clock ++ calls_of steps)) clock)
          (rw (not_over clock d (omega (arith, fits))) (
            λ l. regroup ∙ sets_within b d n q (left (calls_of steps)) clock r (first_due q r.fine d e) low,
            λ l. absurd (omega (arith, counted)),
          ))
          b steps (added clock n)

      goes_by : due_within n (clocks_due q) ≡ false → Wanted (gone_by n q clock)
      goes_by h =
          let still = quiet_due q r.fine n h in
          let p = irq_clocked_times line_step line_length n q in
          subst (λ (t : ℕ). Wanted (Waiting p t)) (sym (not_over clock n (omega (arith, fits))))
          (found_same (came b steps (Waiting p (clock + n))) (clock + n + clock_count (left (calls_of steps)))
          (clock + clock_count (left (replicate n Clock ++ calls_of steps))) (rises b p (left (calls_of steps)) (clock + n))
          (rises b q (left (replicate n Clock ++ calls_of steps)) clock)
          (omega (arith, counted))
          (regroup ∙ quiet b n q (left (calls_of steps)) clock r still)
          (again p (clock + n) (ready_after n q r still) fits))

      waits : (d : Due ℕ) → clocks_due q ≡ d → Wanted (waited_for d n q clock)
      waits None e = goes_by (ap (due_within n) e)
      waits (Some d) e =
          let Chosen : Bool → Type 0 = λ c. Wanted (cond c (Pending (added clock d) (added clock n)) (gone_by n q clock)) in
          tested (leb d n)
          (λ h. subst Chosen (sym h) (comes_within d e (leb-true d n h)))
          (λ h. subst Chosen (sym h) (goes_by (ap (due_within n) e ∙ h)))

    by_step : (s : Step) → ByteStep s → clock + clock_count (step_calls s ++ calls_of steps) + 100_000 < 2 ^ 32
        → Told (ended (menu_played b steps (step_taken b s q clock))) q clock (step_calls s ++ calls_of steps)
    by_step (Write a v) h room = by_call (CpuWrite a v) (ready_taken (decode b a) v q h r) refl (omega arith)
    by_step (Clocks n) h room = waits n room (clocks_due q) refl
    by_step Reset h room = by_call SoftReset ready_zero refl (omega arith)

  -- ---- the steps
  pub told : (steps : List Step) (q : VrcIrq) (clock : ℕ) → Ready q → Each ByteStep steps → clock + clock_count (calls_of steps) + 100_000 < 2 ^ 32
      → Told (came b steps (Waiting q clock)) q clock (calls_of steps)
  told [] q clock r o room = at_end q clock r (omega arith)
  told (s ∷ steps) q clock r o room = by_step steps q clock r (λ p t f l. told steps p t f o.1 l) s o.0 room
