-- The accepted creations and the stretches that show demand 3 not to be empty. Assumes nothing.
use mathlib.Core.Path.{◌≡◌, refl, ap, ◌∙◌}
use mathlib.Core.Bool.{true}
use Prim.Native.Nat.{ℕ, zero, suc}
use native.Mathlib.Omega.{arith}
use lib.Dec.{eqb}
use lib.ListN.{length, take, replicate, length-replicate}
use borrow.Author.Tests.{eq-eqb}
use Rattle.base_shared.specs.Lists.{Each}
use Rattle.base_shared.proofs.Tests.{both}
use Rattle.base_shared.proofs.Numbers.{none_fails}
use Rattle.memory_layout.specs.declared.regions.MemoryLayout.{MemoryLayout}
use Rattle.memory_layout.specs.Layout.{within_limits, fixed_length, changing_length}
use Rattle.registers.specs.Decode.{decode}
use Rattle.vrc6_slots.specs.declared.Mirroring.{Mirroring}
use Rattle.vrc6_banking.specs.declared.banking.Settings.{Settings}
use Rattle.vrc6_banking.specs.declared.banking.Revision.{Revision}
use Rattle.vrc6_banking.specs.declared.banking.Revision.TheVariants.{A, B}
use Rattle.vrc6_slots.specs.Chr.{chr_slots}
use Rattle.vrc6_tables.specs.Tables.{picture_entries}
use Rattle.vrc6_calls.specs.declared.Call.TheVariants.{Clock}
use Rattle.vrc6_parts.specs.Checks.{all_zero}
use Rattle.vrc6.specs.Checks.{create_refusal}
use Rattle.vrc6_ledger.specs.Ledger.{event, ledger_of}
use Rattle.vrc6_ledger.specs.Refused.{create_checks}
use Rattle.vrc6_ledger.specs.Demand3.{Quiet, CountsLines, Stretch, stretch_ticks}
use Rattle.vrc6_ledger.specs.Exhibited.{zeros, one_line, ExhibitedLaw, StoredExample}
use Rattle.vrc6_ledger.proofs.Whole.{demand3}

-- zeros, and a part of them
all_zero_lem : (k n : ℕ) → all_zero (take k (replicate n 0)) ≡ true
all_zero_lem zero n = refl
all_zero_lem (suc k) zero = refl
all_zero_lem (suc k) (suc n) = all_zero_lem k n

pub zeros_accepted : (l : MemoryLayout) → within_limits l ≡ true → (m : Mirroring) (r : Revision) → create_refusal (zeros l m r) ≡ 0
zeros_accepted l h m r =
    let fit = both (sized (fixed_length l)) (sized (changing_length l)) in
    (none_fails (create_checks (zeros l m r)) refl).1 (h, (fit, (all_zero_lem 1024 (fixed_length l), tt)))
  where
    sized : (n : ℕ) → eqb (length {A = ℕ} (replicate n 0)) n ≡ true
    sized n = eq-eqb (length {A = ℕ} (replicate n 0)) n (length-replicate n 0)

-- clocks are quiet
quiet : (o : Settings) (n : ℕ) → Each (λ k. Quiet o (event k)) (replicate n Clock)
quiet o zero = tt
quiet o (suc n) = (tt, quiet o n)

module _ (l : MemoryLayout) (m : Mirroring) where
  begins : (r : Revision) → CountsLines (ledger_of (zeros l m r) (take 1 (one_line r))).timing
  unfolding decode
  begins A = record { enabled = refl; lines = refl; low = omega arith }
  begins B = record { enabled = refl; lines = refl; low = omega arith }

  starts : (r : Revision) → (ledger_of (zeros l m r) (take 1 (one_line r))).timing.prescaler ≡ 341
  unfolding decode
  starts A = refl
  starts B = refl

pub exhibited_law : ExhibitedLaw
exhibited_law l h m r =
    let c = zeros l m r in
    let fine = zeros_accepted l h m r in
    let s : Stretch c (one_line r) 1 114 = record { quiet = quiet (ledger_of c (take 1 (one_line r))).origin 114; begun = begins l m r } in
    record {
      accepted = fine;
      stretch = s;
      clocks = refl;
      prescaler = starts l m r;
      ticks = (demand3 c fine (one_line r)).stretch 1 114 s ∙ ap (λ (p : ℕ). stretch_ticks 114 p) (starts l m r);
    }

pub stored_example : StoredExample
unfolding picture_entries chr_slots
stored_example = record { before = refl; noted = refl; left = refl }
