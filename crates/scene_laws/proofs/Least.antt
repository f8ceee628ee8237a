-- The clocks due are the least number of which the last sets pending. Assumes nothing.
use mathlib.Core.Path.{◌≡◌, ap, subst}
use mathlib.Core.Bool.{true, false}
use mathlib.Core.Logic.{inl, inr}
use Prim.Native.Nat.{◌≤◌}
use native.Mathlib.Omega.{arith}
use lib.Dec.{eqb}
use Rattle.std.proofs.Common.{Some, max}
use borrow.Author.Tests.{eqb-true, eqb-false, ne_eqb}
use Rattle.base_shared.proofs.Tests.{tested}
use Rattle.irq.specs.declared.VrcIrq.{VrcIrq}
use Rattle.irq.specs.Interrupt.{forecast_in}
use Rattle.irq.specs.Timing.{line_step, line_length}
use Rattle.irq.proofs.Board.{pace}
use Rattle.irq_clocks.specs.Clocks.{LeastClocks}
use Rattle.irq_clocks.specs.Laws.{Exact}
use Rattle.irq_clocks.proofs.Forecasts.{forecast_law}
use Rattle.irq_clocks.proofs.Board.{short_forecast_law}
use Rattle.scene_moments.specs.Lines.{line_of}
use Rattle.scene_moments.specs.Moments.{clocks_due, due_from}
use Rattle.scene_moments.proofs.Waiting.{due_off, due_on}
use Rattle.scene_laws.specs.Laws.{ClocksDueLaw, LineLaw}

module _ (q : VrcIrq) (low : q.counter ≤ 255) (on : q.enabled ≡ true) where
  -- where the formula is exact it is not 0
  exact : Exact line_step line_length q → LeastClocks line_step line_length q (max (forecast_in line_step line_length q) 1)
  exact h =
      let first = (forecast_law line_step line_length pace q on low).exact h in
      let one : 1 ≤ forecast_in line_step line_length q = first.one in
      let same : forecast_in line_step line_length q ≡ max (forecast_in line_step line_length q) 1 = omega arith in
      subst (LeastClocks line_step line_length q) same first

  -- prescaler 0 and counter 255, counting lines
  short : q.cycle_mode ≡ false → q.prescalar_counter ≡ 0 → q.counter ≡ 255 → LeastClocks line_step line_length q (max (forecast_in line_step line_length q) 1)
  short m z k =
      let s = short_forecast_law q (rw (on, m)) z k in
      let told : clocks_due q ≡ Some 1 = ap due_from s.says in
      let due = due_on q on in
      let same : 1 ≡ max (forecast_in line_step line_length q) 1 = cc in
      subst (LeastClocks line_step line_length q) same s.needs

  least : LeastClocks line_step line_length q (max (forecast_in line_step line_length q) 1)
  least =
      tested q.cycle_mode (λ m. exact (inl m))
      (λ m. tested (eqb q.prescalar_counter 0)
      (λ z. tested (eqb q.counter 255) (λ k. short m (eqb-true q.prescalar_counter 0 z) (eqb-true q.counter 255 k))
      (λ k. exact (inr (inr (omega (arith, eqb-false q.counter 255 k), omega arith)))))
      (λ z. exact (inr (inl (omega (arith, eqb-false q.prescalar_counter 0 z))))))

pub clocks_due_law : ClocksDueLaw
clocks_due_law q low =
    record {
      least = λ d e.
          tested q.enabled
          (λ h. let on = due_on q h in let same : max (forecast_in line_step line_length q) 1 ≡ d = cc in subst (LeastClocks line_step line_length q) same (least q low h))
          (λ h. let off = due_off q h in cc);
      never = (λ e. tested q.enabled (λ h. let on = due_on q h in cc) (λ h. h), λ h. due_off q h);
    }

-- ---- lines
pub line_law : LineLaw
unfolding line_of
line_law line c p low high = rw (ne_eqb p 0 (λ z. omega (arith, z))) (omega arith)
