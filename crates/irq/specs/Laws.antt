-- What holds of the interrupt counter, for any step d and line length l with 1 ≤ d ≤ l. Assumes nothing.
use Rattle.std.specs.Prelude.{◌≡◌, true, ℕ, ◌≤◌}
use Rattle.base_steps.specs.Falls.{Pace}
use Rattle.irq.specs.declared.VrcIrq.{VrcIrq}
use Rattle.irq.specs.Interrupt.{irq_clocked, irq_reload, irq_control, irq_acknowledged, irq_zero, irq_in_range}

-- each call keeps the prescaler in 0 .. l (01, Records 5)
pub record PrescalerKept (d l : ℕ) (q : VrcIrq) : Type 0 where
  pub clock : irq_in_range l q ≡ true → irq_in_range l (irq_clocked d l q) ≡ true
  pub control : (v : ℕ) → irq_in_range l q ≡ true → irq_in_range l (irq_control l v q) ≡ true
  pub acknowledge : irq_in_range l q ≡ true → irq_in_range l (irq_acknowledged q) ≡ true
  pub reload : (v : ℕ) → irq_in_range l q ≡ true → irq_in_range l (irq_reload v q) ≡ true
  pub reset : irq_in_range l irq_zero ≡ true

-- the same for every pace and every state
abbrev pub PrescalerLaw : Type 0
PrescalerLaw = (d l : ℕ) → Pace d l → (q : VrcIrq) → PrescalerKept d l q

-- reload and counter are bytes
pub record Bytes (q : VrcIrq) : Type 0 where
  pub reload : q.reload ≤ 255
  pub counter : q.counter ≤ 255

-- each call keeps them bytes
pub record BytesKept (d l : ℕ) (q : VrcIrq) : Type 0 where
  pub clock : Bytes q → Bytes (irq_clocked d l q)
  pub control : (v : ℕ) → Bytes q → Bytes (irq_control l v q)
  pub acknowledge : Bytes q → Bytes (irq_acknowledged q)
  pub reload : (v : ℕ) → v ≤ 255 → Bytes q → Bytes (irq_reload v q)
  pub reset : Bytes irq_zero

-- the same for every d, l and state
abbrev pub BytesLaw : Type 0
BytesLaw = (d l : ℕ) (q : VrcIrq) → BytesKept d l q
