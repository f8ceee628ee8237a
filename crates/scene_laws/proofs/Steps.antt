-- The step of a handler in which the interrupt comes. Assumes nothing.
use mathlib.Core.Path.{◌≡◌, refl, sym, ap, subst, ◌∙◌}
use mathlib.Core.Bool.{Bool, true, false, cond}
use mathlib.Core.List.{List, [], ◌∷◌, ◌++◌}
use mathlib.Core.Option.{Option, none, some}
use Prim.Native.Nat.{ℕ, suc, ◌+◌, ◌^◌, ◌≤◌, ◌<◌}
use native.Mathlib.Omega.{arith}
use lib.Dec.{leb}
use Rattle.std.proofs.Common.{Option as Due, Some, None, option_map, max}
use lib.ListN.{take, replicate}
use borrow.Author.Tests.{leb-false, leb-true}
use Rattle.base_shared.proofs.Tests.{tested}
use Rattle.registers.specs.Decode.{decode}
use Rattle.irq.specs.declared.VrcIrq.{VrcIrq}
use Rattle.irq.specs.Interrupt.{irq_zero}
use Rattle.irq.specs.Timing.{forecast_answer, line_step, line_length}
use Rattle.irq.specs.Writes.{irq_written_to}
use Rattle.irq_clocks.specs.Clocks.{irq_clocked_times}
use Rattle.vrc6_calls.specs.declared.Call.TheVariants.{Clock}
use Rattle.vrc6.specs.Boards.{State}
use Rattle.vrc6_ledger.specs.Demand3.{clock_count, start}
use Rattle.scene_steps.specs.declared.step.Step.{Step}
use Rattle.scene_steps.specs.declared.step.Step.TheVariants.{Write, Clocks, Reset}
use Rattle.scene_board.specs.Played.{calls_of, step_calls}
use Rattle.scene_moments.specs.declared.moment.Came.{Came}
use Rattle.scene_moments.specs.declared.moment.Came.TheVariants.{Never, On, Held, Lost}
use Rattle.scene_moments.specs.declared.moment.Moment.{Moment}
use Rattle.scene_moments.specs.declared.moment.Moment.TheVariants.{Waiting, Pending, Cleared}
use Rattle.scene_moments.specs.Moments.{added, came, came_in, clears, clocks_due, due_from, ended, gone_by, has_come, menu_played, step_pending, stepped, waited_for}
use Rattle.scene_moments.specs.Verdicts.{set_of}
use Rattle.vrc6_calls.specs.Lists.{after}
use Rattle.scene_laws.specs.Rises.{RiseFound, Waits, calls_around, came_at, rises_at}
use Rattle.scene_laws.specs.Laws.{Comes}
use Rattle.scene_laws.specs.Letters.{InStep, StepLaw}
use Rattle.scene_laws.proofs.Comes.{came_law}
use Rattle.scene_laws.proofs.Walks.{count_joined, count_run, not_over, stays_lost}

module _ (b : Bool) where
  -- ---- the clock that sets it stays
  module _ (s : ℕ) where
    abbrev Kept : Moment → List Step → Type 0
    Kept m steps = set_of (ended (menu_played b steps m)) ≡ Some s

    kept_lost : (steps : List Step) (clock : ℕ) → Kept (Cleared s clock) steps
    kept_lost steps clock = ap (λ (m : Moment). set_of (ended m)) (stays_lost b steps s clock)

    kept_by : (steps : List Step) (clock : ℕ) → ((t : ℕ) → Kept (Pending s t) steps) → (t : Step) → Kept (step_pending b t s clock) steps
    kept_by steps clock again (Write a v) = tested (clears (decode b a)) (λ e. rw e (kept_lost steps clock)) (λ e. rw e (again clock))
    kept_by steps clock again (Clocks n) = again (added clock n)
    kept_by steps clock again Reset = kept_lost steps clock

    kept : (steps : List Step) (clock : ℕ) → Kept (Pending s clock) steps
    kept [] clock = refl
    kept (t ∷ steps) clock = kept_by steps clock (λ k. kept steps k) t

  -- ---- steps are counted on
  abbrev on : (k : ℕ) → Due ℕ → Due ℕ
  on k z = option_map (λ j. k + j) z

  one_on : (c : Bool) (k : ℕ) (x y z : Due ℕ) → x ≡ on (k + 1) z → y ≡ on 1 z → cond c (Some k) x ≡ on k (cond c (Some 0) y)
  one_on true k x y z e f = ap Some (omega arith)
  one_on false k x y None e f = e ∙ sym (ap (on k) f)
  one_on false k x y (Some z) e f = e ∙ ap Some (omega arith) ∙ sym (ap (on k) f)

  counted_on : (steps : List Step) (m : Moment) (k : ℕ) → came_in b steps m k ≡ on k (came_in b steps m 0)
  counted_on [] m k = refl
  counted_on (s ∷ steps) m k =
      let x = stepped b s m in
      one_on (has_come x) k (came_in b steps x (k + 1)) (came_in b steps x 1) (came_in b steps x 0) (counted_on steps x (k + 1)) (counted_on steps x 1)

  -- the step before one that is counted on from 1
  one_back : (z : Due ℕ) (i : ℕ) → on 1 z ≡ Some i → (j : ℕ) × (i ≡ suc j) × (z ≡ Some j)
  one_back None i e = cc
  one_back (Some j) i e = let same : 1 + j ≡ i = cc in (j, omega (arith, same), refl)

  -- ---- the step in which it comes
  -- what must hold of the step that is named, and of the clock that sets it, from a counter at a clock
  abbrev Found : (steps : List Step) → VrcIrq → (clock : ℕ) → Type 0
  Found steps q clock =
      (i t : ℕ) → came_in b steps (Waiting q clock) 0 ≡ Some i → set_of (came b steps (Waiting q clock)) ≡ Some t → InStep clock steps i t

  module _ (s : Step) (steps : List Step) (clock n : ℕ) (waits : clock_count (step_calls s) ≡ n) where
    -- the clocks of the first step, and of those behind it
    first_waits : (j : ℕ) → clock_count (calls_of (take (suc j) (s ∷ steps))) ≡ n + clock_count (calls_of (take j steps))
    first_waits j = omega (arith, count_joined (step_calls s) (calls_of (take j steps)), waits)

    -- it comes in a step behind the first
    later : (p : VrcIrq) → Found steps p (clock + n) → (i t : ℕ) → came_in b steps (Waiting p (clock + n)) 1 ≡ Some i
        → set_of (came b steps (Waiting p (clock + n))) ≡ Some t → InStep clock (s ∷ steps) i t
    later p found i t e f =
        let back = one_back (came_in b steps (Waiting p (clock + n)) 0) i (sym (counted_on steps (Waiting p (clock + n)) 1) ∙ e) in
        let here : InStep (clock + n) steps back.0 t = found back.0 t back.2 f in
        subst (λ (k : ℕ). InStep clock (s ∷ steps) k t) (sym back.1)
        (record {
          behind = omega (arith, first_waits back.0, here.behind);
          within = omega (arith, first_waits (suc back.0), here.within);
        })

  -- an interrupt that is due is due in a clock or more
  some_due : (f : Due ℕ) (d : ℕ) → due_from f ≡ Some d → 1 ≤ d
  some_due None d e = cc
  some_due (Some n) d e = let same : max n 1 ≡ d = cc in omega (arith, same)

  -- a wait, which the interrupt may end
  module _ (steps : List Step) (q : VrcIrq) (clock n : ℕ) (room : clock + clock_count (replicate n Clock ++ calls_of steps) < 2 ^ 32)
      (again : (p : VrcIrq) (t : ℕ) → t + clock_count (calls_of steps) < 2 ^ 32 → Found steps p t) (i t : ℕ) where
    fits : clock + n + clock_count (calls_of steps) < 2 ^ 32
    fits = omega (arith, count_joined (replicate n Clock) (calls_of steps), count_run n)

    -- what must hold of what the wait leaves
    abbrev Wanted : Moment → Type 0
    Wanted x = cond (has_come x) (Some 0) (came_in b steps x 1) ≡ Some i → set_of (ended (menu_played b steps x)) ≡ Some t → InStep clock (Clocks n ∷ steps) i t

    in_wait : (d : ℕ) → clocks_due q ≡ Some d → d ≤ n → Wanted (Pending (added clock d) (added clock n))
    in_wait d e low first set =
        let kept_here = kept (added clock d) steps (added clock n) in
        let sum : added clock d ≡ clock + d = not_over clock d (omega (arith, fits)) in
        let at : t ≡ added clock d = cc in
        let zeroth : 0 ≡ i = cc in
        let one : 1 ≤ d = some_due (forecast_answer q) d e in
        subst (λ (k : ℕ). InStep clock (Clocks n ∷ steps) k t) zeroth
        (record {
          behind = omega (arith, at, sum, one);
          within = omega (arith, at, sum, low, first_waits (Clocks n) steps clock n (count_run n) 0);
        })

    behind_wait : Wanted (gone_by n q clock)
    behind_wait =
        let p = irq_clocked_times line_step line_length n q in
        subst (λ (k : ℕ). Wanted (Waiting p k)) (sym (not_over clock n (omega (arith, fits))))
        (later (Clocks n) steps clock n (count_run n) p (again p (clock + n) fits) i t)

    by_due : (d : Due ℕ) → clocks_due q ≡ d → Wanted (waited_for d n q clock)
    by_due None e = behind_wait
    by_due (Some d) e =
        let Chosen : Bool → Type 0 = λ c. Wanted (cond c (Pending (added clock d) (added clock n)) (gone_by n q clock)) in
        tested (leb d n) (λ h. subst Chosen (sym h) (in_wait d e (leb-true d n h))) (λ h. subst Chosen (sym h) behind_wait)

  module _ (steps : List Step) (again : (p : VrcIrq) (t : ℕ) → t + clock_count (calls_of steps) < 2 ^ 32 → Found steps p t) where
    -- a step that is no clock
    on_call : (s : Step) → clock_count (step_calls s) ≡ 0 → (p : VrcIrq) (clock : ℕ) → clock + clock_count (calls_of steps) < 2 ^ 32
        → (i t : ℕ) → came_in b steps (Waiting p clock) 1 ≡ Some i → set_of (came b steps (Waiting p clock)) ≡ Some t → InStep clock (s ∷ steps) i t
    on_call s w p clock room i t e f =
        let same : clock + 0 ≡ clock = omega arith in
        later s steps clock 0 w p (again p (clock + 0) (omega arith)) i t
        (ap (λ (k : ℕ). came_in b steps (Waiting p k) 1) same ∙ e) (ap (λ (k : ℕ). set_of (came b steps (Waiting p k))) same ∙ f)

    by_step : (s : Step) (q : VrcIrq) (clock : ℕ) → clock + clock_count (step_calls s ++ calls_of steps) < 2 ^ 32 → Found (s ∷ steps) q clock
    by_step (Write a v) q clock room i t e f = on_call (Write a v) refl (irq_written_to (decode b a) v q) clock (omega arith) i t e f
    by_step Reset q clock room i t e f = on_call Reset refl irq_zero clock (omega arith) i t e f
    by_step (Clocks n) q clock room i t e f = by_due steps q clock n room again i t (clocks_due q) refl e f

  pub in_step : (steps : List Step) (q : VrcIrq) (clock : ℕ) → clock + clock_count (calls_of steps) < 2 ^ 32 → Found steps q clock
  in_step [] q clock room = λ i t e f. cc
  in_step (s ∷ steps) q clock room = by_step steps (λ p t r. in_step steps p t r) s q clock room

-- ---- on the board
-- what is found is the clock that sets pending
found_clock : (s n : ℕ) (r : Option ℕ) (t : ℕ) → (s ≤ n → r ≡ some s) × (n < s → r ≡ none) → r ≡ some t → Some s ≡ Some t
found_clock s n r t f e =
    tested (leb s n)
    (λ h. let found = f.0 (leb-true s n h) in let same : s ≡ t = cc in ap Some same)
    (λ h. let found = f.1 (leb-false s n h) in cc)

set_found : (a : Came) (n : ℕ) (r : Option ℕ) (t : ℕ) → RiseFound a n r → r ≡ some t → set_of a ≡ Some t
set_found Never n r t f e = cc
set_found (On s) n r t f e = found_clock s n r t f e
set_found (Held s d) n r t f e = found_clock s n r t f e
set_found (Lost s c) n r t f e = found_clock s n r t f e

pub step_law : StepLaw
step_law c h ws o x e k w steps bytes room i named t r =
    let b = x.board.banking.revision_b in
    let q = x.board.irq in
    let still : Waits (after (start c) ws).board.irq k = subst (λ (y : State). Waits y.board.irq k) e w in
    let comes : Comes x k steps 0 = subst (λ (y : State). Comes y k steps 0) (sym e) (came_law c h ws o k still steps bytes room 0).comes in
    in_step b steps (irq_clocked_times line_step line_length k q) k (omega arith) i t named
    (set_found (came_at b q k steps) (clock_count (calls_around k steps 0)) (rises_at x (calls_around k steps 0) 0) t comes r)
