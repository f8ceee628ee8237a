-- Some clocks worked out: the lines that end within them, and the counter that gains these. Assumes nothing.
use mathlib.Core.Path.{◌≡◌, refl, sym, ap, ap₂, ◌∙◌}
use mathlib.Core.Bool.{Bool, true, false, cond}
use Prim.Native.Nat.{ℕ, ◌+◌, ◌-◌, ◌*◌, ◌/◌, ◌^◌, ◌≤◌, ◌<◌, min, max}
use native.Mathlib.Omega.{arith}
use native.Mathlib.Nat.{mul-le-mul_right, div-eq_of_lt}
use Rattle.base_steps.specs.Falls.{Pace, fell, runs}
use Rattle.base_steps.proofs.Balance.{ran}
use Rattle.base_steps.proofs.Falling.{fall_range_law, worked_out_law}
use Rattle.irq.specs.declared.VrcIrq.{VrcIrq}
use Rattle.irq.specs.Interrupt.{counts_lines, irq_at}
use Rattle.irq_clocks.specs.declared.clocks.Lines.{Lines}
use Rattle.irq_clocks.specs.Clocks.{irq_clocked_times, reported, lines_gone, Unset}
use Rattle.irq_clocks.proofs.Runs.{lines_report, cycle_law}
use Rattle.irq_clocks.proofs.Forecasts.{gain_law}

-- what holds of the t lines that end within n clocks
pub record Ended (d l p n t : ℕ) : Type 0 where
  pub told : t ≡ runs d l p n
  pub balance : p + l * t ≡ fell d l p n + d * n
  pub most : fell d l p n ≤ max p l

module _ {d l : ℕ} (pace : Pace d l) (p n t : ℕ) where
  ended : t ≡ runs d l p n → Ended d l p n t
  ended e =
      record {
        told = e;
        balance = omega (arith, (ran d l pace p n).balance, ap (λ (k : ℕ). l * k) e);
        most = (fall_range_law d l pace p n).most;
      }

  -- by the quotient
  pub by_quotient : t ≡ min n ((d * n + l - p) / l) → Ended d l p n t
  by_quotient e = ended (e ∙ sym (worked_out_law d l pace p n).counted)

  -- the fall does not come to 0
  pub none_ended : d * n < p → t ≡ 0 → Ended d l p n t
  none_ended h z =
      let none : (d * n + l - p) / l ≡ 0 = div-eq_of_lt (omega arith) in
      by_quotient (omega arith)

pub gone : {d l p n t : ℕ} (rest : ℕ) → Ended d l p n t → rest ≡ p + l * t - d * n → record { ended = t; prescaler = rest } ≡ lines_gone d l p n
gone {d} {l} {p} {n} {t} rest w f =
    let left : rest ≡ fell d l p n = omega arith in
    λ i. record { ended = w.told i; prescaler = left i }

-- ---- the counter gains what ticks
module _ (d l n : ℕ) (q : VrcIrq) (u : Unset d l n q) where
  gain : (t rest : ℕ) {b : Bool} → reported d l n q ≡ t → counts_lines q ≡ b → cond b (fell d l q.prescalar_counter n) q.prescalar_counter ≡ rest
      → irq_at q (q.counter + t) rest q.irq_pending ≡ irq_clocked_times d l n q
  gain t rest e h f =
      sym
      (gain_law d l n q u
      ∙ ap₂ (λ (k : ℕ) (b : Bool). irq_at q (q.counter + k) (cond b (fell d l q.prescalar_counter n) q.prescalar_counter) q.irq_pending) e h
      ∙ ap (λ (p : ℕ). irq_at q (q.counter + t) p q.irq_pending) f)

  module _ (on : q.enabled ≡ true) where
    module _ (mode : q.cycle_mode ≡ true) where
      pub cycles_low : q.counter + n ≤ 255
      cycles_low = omega (arith, (cycle_law d l q n on mode).0)

      pub by_cycles : irq_at q (q.counter + n) q.prescalar_counter q.irq_pending ≡ irq_clocked_times d l n q
      by_cycles = gain n q.prescalar_counter {b = false} (cycle_law d l q n on mode).0 (rw (on, mode)) refl

    module _ (mode : q.cycle_mode ≡ false) where
      told : reported d l n q ≡ runs d l q.prescalar_counter n
      told = lines_report d l q n (rw (on, mode))

      -- the clocks are few, however long a line is
      pub few : Pace d l → q.prescalar_counter ≤ 65535 → l ≤ 65535 → d * n + 65535 < 2 ^ 32
      few pace h g =
          omega (arith, told, (ran d l pace q.prescalar_counter n).balance, mul-le-mul_right {m = l} {n = 65535} (runs d l q.prescalar_counter n) g)

      module _ (r : Lines) (e : r ≡ lines_gone d l q.prescalar_counter n) where
        pub lines_low : q.counter + r.ended ≤ 255
        lines_low = omega (arith, told, ap (λ (x : Lines). x.ended) e)

        pub by_lines : irq_at q (q.counter + r.ended) r.prescaler q.irq_pending ≡ irq_clocked_times d l n q
        by_lines =
            gain r.ended r.prescaler {b = true} (told ∙ sym (ap (λ (x : Lines). x.ended) e)) (rw (on, mode)) (sym (ap (λ (x : Lines). x.prescaler) e))
