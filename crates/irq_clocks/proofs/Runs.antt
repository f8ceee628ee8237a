-- The laws of a run of clocks: what they leave alone, and how many tick. Assumes nothing.
use mathlib.Core.Path.{◌≡◌, refl, ap, ap₂, ◌∙◌}
use mathlib.Core.Bool.{Bool, true, false, cond, not, ◌&&◌, ◌||◌, false≢true}
use Prim.Native.Nat.{ℕ, zero, suc}
use lib.Dec.{leb}
use Rattle.base_shared.proofs.Tests.{and_left, and_right}
use Rattle.base_steps.specs.Times.{times}
use Rattle.base_steps.specs.Falls.{fallen, fell, runs}
use Rattle.base_steps.proofs.Iterated.{still, count_same, count_none, count_all}
use Rattle.base_steps.proofs.Falling.{tick_law}
use Rattle.irq.specs.declared.VrcIrq.{VrcIrq}
use Rattle.irq.specs.Interrupt.{irq_at, irq_ticks, irq_clocked, counts_lines}
use Rattle.irq_clocks.specs.Clocks.{irq_clocked_times, reported}
use Rattle.irq_clocks.specs.Laws.{AfterClocksLaw, StretchLaw, CycleLaw, IdleLaw}

pub after_clocks_law : AfterClocksLaw
unfolding times
after_clocks_law d l n q = record { rest = stays n; prescaler = fall n }
  where
    stays : (n : ℕ) → let s = irq_clocked_times d l n q in s ≡ irq_at q s.counter s.prescalar_counter s.irq_pending
    stays zero = refl
    stays (suc n) =
        let t = irq_clocked_times d l (suc n) q in
        ap (λ (s : VrcIrq). irq_at s t.counter t.prescalar_counter t.irq_pending) (stays n)

    none : (b : Bool) (p : ℕ) → p ≡ cond b p p
    none true p = refl
    none false p = refl

    more : (b : Bool) (p n : ℕ) → cond b (fallen d l (cond b (fell d l p n) p)) (cond b (fell d l p n) p) ≡ cond b (fell d l p (suc n)) p
    more true p n = refl
    more false p n = refl

    fall : (n : ℕ) → (irq_clocked_times d l n q).prescalar_counter ≡ cond (counts_lines q) (fell d l q.prescalar_counter n) q.prescalar_counter
    fall zero = none (counts_lines q) q.prescalar_counter
    fall (suc n) =
        ap₂ (λ (b : Bool) (p : ℕ). cond b (fallen d l p) p) (ap counts_lines (stays n)) (fall n)
        ∙ more (counts_lines q) q.prescalar_counter n

still_enabled : (d l n : ℕ) (q : VrcIrq) → (irq_clocked_times d l n q).enabled ≡ q.enabled
still_enabled d l n q = ap (λ (s : VrcIrq). s.enabled) (after_clocks_law d l n q).rest

still_cycle : (d l n : ℕ) (q : VrcIrq) → (irq_clocked_times d l n q).cycle_mode ≡ q.cycle_mode
still_cycle d l n q = ap (λ (s : VrcIrq). s.cycle_mode) (after_clocks_law d l n q).rest

-- whether a clock ticks, by the three tests
ticks_by : (d : ℕ) (q : VrcIrq) {en cy : Bool} {p : ℕ} → q.enabled ≡ en → q.cycle_mode ≡ cy → q.prescalar_counter ≡ p → irq_ticks d q ≡ (en && (cy || leb p d))
ticks_by d q e f g = λ i. e i && (f i || leb (g i) d)

-- ---- counting lines: enabled, and not in cycle mode
not_cycle : (b : Bool) → not b ≡ true → b ≡ false
not_cycle true h = absurd (false≢true h)
not_cycle false h = refl

pub lines_enabled : (q : VrcIrq) → counts_lines q ≡ true → q.enabled ≡ true
lines_enabled q h = and_left q.enabled (not q.cycle_mode) h

pub lines_mode : (q : VrcIrq) → counts_lines q ≡ true → q.cycle_mode ≡ false
lines_mode q h = not_cycle q.cycle_mode (and_right q.enabled (not q.cycle_mode) h)

-- the ticks are the runs of the prescaler
pub lines_report : (d l : ℕ) (q : VrcIrq) (c : ℕ) → counts_lines q ≡ true → reported d l c q ≡ runs d l q.prescalar_counter c
lines_report d l q c h =
    count_same (irq_ticks d) (λ p. leb p d) (irq_clocked d l) (fallen d l) q q.prescalar_counter tick c
  where
    tick : (n : ℕ) → irq_ticks d (irq_clocked_times d l n q) ≡ leb (fell d l q.prescalar_counter n) d
    tick n =
        ticks_by d (irq_clocked_times d l n q) (still_enabled d l n q ∙ lines_enabled q h) (still_cycle d l n q ∙ lines_mode q h)
        ((after_clocks_law d l n q).prescaler ∙ ap (λ (b : Bool). cond b (fell d l q.prescalar_counter n) q.prescalar_counter) h)

pub stretch_law : StretchLaw
stretch_law d l pace q c h k = lines_report d l q c h ∙ tick_law d l pace q.prescalar_counter c k

pub cycle_law : CycleLaw
cycle_law d l q c e f = (
  count_all (irq_ticks d) (irq_clocked d l) q tick c,
  (after_clocks_law d l c q).prescaler ∙ ap₂ (λ (x y : Bool). cond (x && not y) (fell d l q.prescalar_counter c) q.prescalar_counter) e f,
)
  where
    tick : (n : ℕ) → irq_ticks d (irq_clocked_times d l n q) ≡ true
    tick n = ticks_by d (irq_clocked_times d l n q) (still_enabled d l n q ∙ e) (still_cycle d l n q ∙ f) refl

-- a clock of a counter that is not enabled
idle : (d l : ℕ) (q : VrcIrq) → q.enabled ≡ false → irq_clocked d l q ≡ q
idle d l q e = rw e

pub idle_law : IdleLaw
idle_law d l q c e = (
  count_none (irq_ticks d) (irq_clocked d l) q tick c,
  still (irq_clocked d l) q (idle d l q e) c,
)
  where
    tick : (n : ℕ) → irq_ticks d (irq_clocked_times d l n q) ≡ false
    tick n = ticks_by d (irq_clocked_times d l n q) (still_enabled d l n q ∙ e) refl refl
