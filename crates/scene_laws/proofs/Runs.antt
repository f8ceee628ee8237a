-- Runs of clocks of the counter alone: the first that sets pending, or none. Assumes nothing.
use mathlib.Core.Path.{◌≡◌, refl, sym, ap, ap₂, ◌∙◌}
use mathlib.Core.Bool.{Bool, true, false, cond, ◌||◌}
use mathlib.Core.List.{List, [], ◌∷◌, ◌++◌, append_assoc}
use mathlib.Core.Option.{Option, none, some}
use Prim.Native.Nat.{ℕ, zero, suc, ◌+◌, ◌-◌, ◌≤◌, ◌<◌}
use native.Mathlib.Nat.{add-zero}
use native.Mathlib.Omega.{arith}
use Rattle.std.proofs.Common.{Some, max, None}
use lib.ListN.{replicate, replicate-append-replicate}
use borrow.Author.Tests.{leb-true}
use Rattle.base_shared.proofs.Tests.{either, tested}
use Rattle.base_steps.specs.Times.{times}
use Rattle.registers.specs.Decode.{Decoded}
use Rattle.registers.specs.declared.Register.TheVariants.{OfBank, OfAudio, OfIrq}
use Rattle.registers.specs.declared.IrqRegister.TheVariants.{Reload, Control, Acknowledge}
use Rattle.irq.specs.declared.VrcIrq.{VrcIrq}
use Rattle.irq.specs.Interrupt.{irq_in_range, irq_zero, forecast_in}
use Rattle.irq.specs.Timing.{line_step, line_length, clock_answer}
use Rattle.irq.specs.Laws.{Bytes}
use Rattle.irq.proofs.Ranges.{prescaler_law, bytes_law}
use Rattle.irq.proofs.Board.{pace}
use Rattle.irq.specs.Writes.{irq_written_to}
use Rattle.irq_clocks.specs.Clocks.{irq_clocked_times, irq_sets, LeastClocks}
use Rattle.irq_clocks.proofs.Forecasts.{pending_law, quiet_law}
use Rattle.vrc6_calls.specs.declared.Call.{Call}
use Rattle.vrc6_calls.specs.declared.Call.TheVariants.{Clock}
use Rattle.vrc6_ledger.specs.Ledger.{event}
use Rattle.vrc6_ledger.specs.Demand3.{weight}
use Rattle.scene_laws.specs.Counter.{counter_after}
use Rattle.scene_moments.specs.Moments.{clocks_due, due_within}
use Rattle.scene_moments.proofs.Waiting.{due_off, due_on, undisturbed}
use Rattle.scene_laws.proofs.Least.{clocks_due_law}

-- ---- the counters that a board can hold
pub record Fine (q : VrcIrq) : Type 0 where
  pub bytes : Bytes q
  pub range : irq_in_range line_length q ≡ true

pub fine_clocked : (q : VrcIrq) → Fine q → Fine (clock_answer q).irq
fine_clocked q f = record { bytes = (bytes_law line_step line_length q).clock f.bytes; range = (prescaler_law line_step line_length pace q).clock f.range }

pub fine_taken : (r : Decoded) (v : ℕ) (q : VrcIrq) → v ≤ 255 → Fine q → Fine (irq_written_to r v q)
fine_taken None v q h f = f
fine_taken (Some (OfBank r)) v q h f = f
fine_taken (Some (OfAudio r)) v q h f = f
fine_taken (Some (OfIrq Reload)) v q h f =
    record { bytes = (bytes_law line_step line_length q).reload v h f.bytes; range = (prescaler_law line_step line_length pace q).reload v f.range }
fine_taken (Some (OfIrq Control)) v q h f =
    record { bytes = (bytes_law line_step line_length q).control v f.bytes; range = (prescaler_law line_step line_length pace q).control v f.range }
fine_taken (Some (OfIrq Acknowledge)) v q h f =
    record { bytes = (bytes_law line_step line_length q).acknowledge f.bytes; range = (prescaler_law line_step line_length pace q).acknowledge f.range }

pub fine_zero : Fine irq_zero
fine_zero = record { bytes = (bytes_law line_step line_length irq_zero).reset; range = (prescaler_law line_step line_length pace irq_zero).reset }

-- ---- with pending clear
pub record Ready (q : VrcIrq) : Type 0 where
  pub fine : Fine q
  pub clear : q.irq_pending ≡ false

-- a register leaves pending alone or clears it
pub taken_clear : (r : Decoded) (v : ℕ) (q : VrcIrq) → q.irq_pending ≡ false → (irq_written_to r v q).irq_pending ≡ false
taken_clear None v q h = h
taken_clear (Some (OfBank r)) v q h = h
taken_clear (Some (OfAudio r)) v q h = h
taken_clear (Some (OfIrq Reload)) v q h = h
taken_clear (Some (OfIrq Control)) v q h = refl
taken_clear (Some (OfIrq Acknowledge)) v q h = refl

pub ready_taken : (r : Decoded) (v : ℕ) (q : VrcIrq) → v ≤ 255 → Ready q → Ready (irq_written_to r v q)
ready_taken r v q h f = record { fine = fine_taken r v q h f.fine; clear = taken_clear r v q f.clear }

pub ready_zero : Ready irq_zero
ready_zero = record { fine = fine_zero; clear = refl }

-- a clock leaves pending clear unless it sets it
pub clocked_clear : (q : VrcIrq) → q.irq_pending ≡ false → irq_sets line_step q ≡ false → (clock_answer q).irq.irq_pending ≡ false
clocked_clear q h s = pending_law line_step line_length q ∙ ap₂ (λ (a b : Bool). a || b) s h

pub ready_clocked : (q : VrcIrq) → Ready q → irq_sets line_step q ≡ false → Ready (clock_answer q).irq
ready_clocked q r s = record { fine = fine_clocked q r.fine; clear = clocked_clear q r.clear s }

-- none of n clocks sets pending
abbrev pub Quiet : (n : ℕ) → VrcIrq → Type 0
Quiet n q = (i : ℕ) → i < n → irq_sets line_step (irq_clocked_times line_step line_length i q) ≡ false

pub ready_after : (n : ℕ) (q : VrcIrq) → Ready q → Quiet n q → Ready (irq_clocked_times line_step line_length n q)
unfolding times
ready_after zero q r h = r
ready_after (suc n) q r h =
    ready_clocked (irq_clocked_times line_step line_length n q) (ready_after n q r (λ i l. h i (omega arith))) (h n (omega arith))

-- a clock, then i
pub shift : (i : ℕ) (q : VrcIrq) → irq_clocked_times line_step line_length i (clock_answer q).irq ≡ irq_clocked_times line_step line_length (suc i) q
unfolding times
shift zero q = refl
shift (suc i) q = ap (λ (s : VrcIrq). (clock_answer s).irq) (shift i q)

-- ---- the walk over calls, on the counter alone
abbrev pub rises : (revision_b : Bool) → VrcIrq → List Call → (n : ℕ) → Option ℕ
rises b q [] n = none
rises b q (k ∷ ks) n =
    cond (counter_after b k q).irq_pending (some (n + weight (event k))) (rises b (counter_after b k q) ks (n + weight (event k)))

module _ (b : Bool) where
  pub quiet : (n : ℕ) (q : VrcIrq) (rest : List Call) (j : ℕ) → Ready q → Quiet n q
      → rises b q (replicate n Clock ++ rest) j ≡ rises b (irq_clocked_times line_step line_length n q) rest (j + n)
  unfolding times
  quiet zero q rest j r h = ap (rises b q rest) (sym (add-zero j))
  quiet (suc n) q rest j r h =
      let p = (clock_answer q).irq in
      ap (λ (c : Bool). cond c (some (j + 1)) (rises b p (replicate n Clock ++ rest) (j + 1))) (clocked_clear q r.clear (h 0 (omega arith)))
      ∙ quiet n p rest (j + 1) (ready_clocked q r (h 0 (omega arith))) (λ i l. ap (irq_sets line_step) (shift i q) ∙ h (suc i) (omega arith))
      ∙ ap₂ (λ (s : VrcIrq) (t : ℕ). rises b s rest t) (shift n q) (omega arith)

  -- e clocks that do not, one that does, and g more
  sets_after : (e g : ℕ) (q : VrcIrq) (rest : List Call) (j : ℕ) → Ready q → LeastClocks line_step line_length q (suc e)
      → rises b q (replicate (e + suc g) Clock ++ rest) j ≡ some (j + suc e)
  unfolding times
  sets_after e g q rest j r f =
      let s = irq_clocked_times line_step line_length e q in
      ap (λ (ks : List Call). rises b q (ks ++ rest) j) (sym (replicate-append-replicate e (suc g) Clock))
      ∙ ap (λ (ks : List Call). rises b q ks j) (append_assoc (replicate e Clock) (replicate (suc g) Clock) rest)
      ∙ quiet e q (replicate (suc g) Clock ++ rest) j r (λ i l. f.none_before i (omega arith))
      ∙ ap (λ (c : Bool). cond c (some (j + e + 1)) (rises b (clock_answer s).irq (replicate g Clock ++ rest) (j + e + 1)))
      (pending_law line_step line_length s ∙ ap (λ (c : Bool). c || s.irq_pending) (f.sets e refl))
      ∙ ap some (omega arith)

  pub sets_within : (d n : ℕ) (q : VrcIrq) (rest : List Call) (j : ℕ) → Ready q → LeastClocks line_step line_length q d → d ≤ n
      → rises b q (replicate n Clock ++ rest) j ≡ some (j + d)
  sets_within zero n q rest j r f h = absurd (omega (arith, f.one))
  sets_within (suc e) n q rest j r f h =
      let same : n ≡ e + suc (n - suc e) = omega arith in
      ap (λ (k : ℕ). rises b q (replicate k Clock ++ rest) j) same ∙ sets_after e (n - suc e) q rest j r f

-- ---- what is due
module _ (q : VrcIrq) (f : Fine q) where
  -- an interrupt that is due is due while enabled
  pub first_due : (d : ℕ) → clocks_due q ≡ Some d → LeastClocks line_step line_length q d
  first_due d e = (clocks_due_law q f.bytes.counter).least d e

  pub quiet_due : (n : ℕ) → due_within n (clocks_due q) ≡ false → Quiet n q
  quiet_due n h = (quiet_law line_step line_length n q f.bytes.counter).0 (undisturbed q n f.bytes.counter h)

  -- the longest wait is below 30,000 clocks
  short_wait : forecast_in line_step line_length q ≤ 30_000
  short_wait =
      either (λ (k : ℕ). k ≤ 30_000) q.cycle_mode (omega arith) (omega (arith, leb-true q.prescalar_counter line_length f.range))

  pub due_low : (d : ℕ) → clocks_due q ≡ Some d → d ≤ 30_000
  due_low d e =
      tested q.enabled
      (λ h. let on = due_on q h in let same : max (forecast_in line_step line_length q) 1 ≡ d = cc in omega (arith, short_wait, same))
      (λ h. let off = due_off q h in cc)
