-- Clocks that no interrupt ends. Assumes nothing.
use Rattle.std.proofs.Common.{◌≡◌, ℕ, ◌<◌, ◌≤◌, max, Bool, true, false, cond, Some, None, eqb, sym, ap, ◌∙◌, arith, leb-false}
use borrow.Author.Tests.{eqb-false, eqb-true}
use Rattle.base_shared.proofs.Tests.{tested}
use Rattle.irq.specs.declared.VrcIrq.{VrcIrq}
use Rattle.irq.specs.Interrupt.{forecast_in}
use Rattle.irq.specs.Timing.{line_step, line_length}
use Rattle.irq.proofs.Board.{pace}
use Rattle.irq_clocks.specs.Clocks.{Unset}
use Rattle.irq_clocks.proofs.Runs.{idle_law}
use Rattle.irq_clocks.proofs.Forecasts.{quiet_law, sooner_law}
use Rattle.scene_moments.specs.Moments.{clocks_due, due_from, due_within}

-- what is due of a counter that is enabled, and of one that is not
pub due_on : (q : VrcIrq) → q.enabled ≡ true → clocks_due q ≡ Some (max (forecast_in line_step line_length q) 1)
due_on q e = ap (λ (b : Bool). due_from (cond b (Some (forecast_in line_step line_length q)) None)) e

pub due_off : (q : VrcIrq) → q.enabled ≡ false → clocks_due q ≡ None
due_off q e = ap (λ (b : Bool). due_from (cond b (Some (forecast_in line_step line_length q)) None)) e

-- n clocks within which no interrupt is due set nothing
pub undisturbed : (q : VrcIrq) (n : ℕ) → q.counter ≤ 255 → due_within n (clocks_due q) ≡ false → Unset line_step line_length n q
undisturbed q n k quiet = tested q.enabled on (λ e. omega (arith, (idle_law line_step line_length q n e).0))
  where
    f : ℕ
    f = forecast_in line_step line_length q

    -- no clock, or fewer than the formula says
    sooner : n < max f 1 → q.enabled ≡ true → Unset line_step line_length n q
    sooner h e =
        tested (eqb f 0)
        (λ z. (quiet_law line_step line_length n q k).1 (λ i g. absurd (omega (arith, eqb-true f 0 z))))
        (λ z. sooner_law line_step line_length pace q e k n (omega (arith, eqb-false f 0 z)))

    on : q.enabled ≡ true → Unset line_step line_length n q
    on e = sooner (leb-false (max f 1) n (sym (ap (due_within n) (due_on q e)) ∙ quiet)) e
