-- A call's next counter on the board. Assumes nothing.
use mathlib.Core.Path.{◌≡◌, refl, sym, ap, ◌∙◌}
use mathlib.Core.Bool.{Bool}
use Prim.Native.Nat.{ℕ}
use Rattle.std.specs.Prelude.{Some, None}
use Rattle.base_steps.proofs.Iterated.{carried, keeps}
use Rattle.registers.specs.declared.BankRegister.{BankRegister}
use Rattle.registers.specs.declared.BankRegister.TheVariants.{Prg16, Prg8, Mode, Chr}
use Rattle.registers.specs.declared.Register.TheVariants.{OfBank, OfAudio, OfIrq}
use Rattle.registers.specs.Decode.{Decoded, decode}
use Rattle.vrc6_banking.specs.declared.banking.Banking.{Banking}
use Rattle.vrc6_banking.specs.Banking.{bank_written}
use Rattle.irq.specs.Timing.{clock_answer}
use Rattle.irq.specs.Writes.{irq_written_to}
use Rattle.vrc6.specs.declared.board.Board.{Board}
use Rattle.vrc6.specs.Boards.{State}
use Rattle.vrc6.specs.Calls.{register_written, clocked}
use Rattle.vrc6_calls.specs.Lists.{shape}
use Rattle.vrc6_ledger.specs.Ledger.{Event, cpu_writes, picture_writes, clocks, resets, looks, event}
use Rattle.vrc6_ledger.specs.Played.{done}
use Rattle.vrc6_ledger.proofs.Shown.{answered, next_done}
use Rattle.scene_laws.specs.Counter.{counter_by}
use Rattle.scene_laws.specs.Laws.{CounterLaw}

-- ---- a register takes a byte
same_revision : (r : BankRegister) (v : ℕ) (b : Banking) → (bank_written r v b).revision_b ≡ b.revision_b
same_revision Prg16 v b = refl
same_revision Prg8 v b = refl
same_revision Mode v b = refl
same_revision (Chr i) v b = refl

module _ (v : ℕ) (b : Board) where
  counter_taken : (r : Decoded) → (register_written r v b).irq ≡ irq_written_to r v b.irq
  counter_taken None = refl
  counter_taken (Some (OfBank r)) = refl
  counter_taken (Some (OfAudio r)) = refl
  counter_taken (Some (OfIrq r)) = refl

  revision_kept : (r : Decoded) → (register_written r v b).banking.revision_b ≡ b.banking.revision_b
  revision_kept None = refl
  revision_kept (Some (OfBank r)) = same_revision r v b.banking
  revision_kept (Some (OfAudio r)) = refl
  revision_kept (Some (OfIrq r)) = refl

-- ---- what a call does
module _ (x : State) where
  abbrev b : Bool
  b = x.board.banking.revision_b

  counter_by_lem : (e : Event) → (done x e).board.irq ≡ counter_by b e x.board.irq
  counter_by_lem (cpu_writes a v) = counter_taken v x.board (decode b a)
  counter_by_lem (picture_writes a v) = refl
  counter_by_lem (clocks n) = carried clocked (λ q. (clock_answer q).irq) (λ c. c.irq) (λ c. refl) x.board n
  counter_by_lem resets = refl
  counter_by_lem looks = refl

  revision_by : (e : Event) → (done x e).board.banking.revision_b ≡ b
  revision_by (cpu_writes a v) = revision_kept v x.board (decode b a)
  revision_by (picture_writes a v) = refl
  revision_by (clocks n) = keeps clocked (λ c. c.banking.revision_b ≡ b) (λ c h. h) x.board refl n
  revision_by resets = refl
  revision_by looks = refl

-- ---- every call
pub counter_law : CounterLaw
counter_law x k h =
    let left = next_done x k (sym (answered x (shape k)) ∙ h) in
    record {
      counter = ap (λ (y : State). y.board.irq) left ∙ counter_by_lem x (event k);
      revision = ap (λ (y : State). y.board.banking.revision_b) left ∙ revision_by x (event k);
    }
