-- Demand 3 is not empty: for every layout within its limits, every mirroring and both revisions an accepted creation, and a list with a
-- stretch of 114 clocks that reports a tick. Assumes nothing.
use Rattle.std.specs.Prelude.{◌≡◌, true, false, List, [], ◌∷◌, ℕ, get_or, take, replicate}
use Rattle.memory_layout.specs.declared.regions.MemoryLayout.{MemoryLayout}
use Rattle.memory_layout.specs.Layout.{within_limits, fixed_length, changing_length}
use Rattle.vrc6_slots.specs.declared.Mirroring.{Mirroring}
use Rattle.vrc6_slots.specs.declared.Mirroring.TheVariants.{Vertical}
use Rattle.vrc6_banking.specs.declared.banking.Revision.{Revision}
use Rattle.vrc6_banking.specs.declared.banking.Revision.TheVariants.{A, B}
use Rattle.vrc6_banking.specs.Banking.{settings_of}
use Rattle.vrc6_calls.specs.declared.Call.{Call}
use Rattle.vrc6_calls.specs.declared.Call.TheVariants.{CpuWrite, PictureWrite, Clock}
use Rattle.vrc6.specs.Boards.{Creation}
use Rattle.vrc6.specs.Calls.{create}
use Rattle.vrc6_calls.specs.Lists.{after, answers}
use Rattle.vrc6_ledger.specs.Ledger.{ledger_of}
use Rattle.vrc6_ledger.specs.Demand3.{part, clock_count, tick_count, Stretch, start}

-- a creation of this layout with a mirroring and a revision, its buffers all zero
abbrev pub zeros : MemoryLayout → Mirroring → Revision → Creation
zeros l m r =
    record {
      layout = l;
      settings = settings_of m r;
      fixed = replicate (fixed_length l) 0;
      changing = replicate (changing_length l) 0;
    }

-- where a revision has control: $F001, and on B with the two lines exchanged $F002 (01, Banks and decode 1; iNES mappers 024 and 026)
abbrev pub control_at : Revision → ℕ
control_at A = 0xF001
control_at B = 0xF002

-- control 2, then 114 clocks: the clocks are a stretch
abbrev pub one_line : Revision → List Call
one_line r = CpuWrite (control_at r) 2 ∷ replicate 114 Clock

-- what holds of one layout, mirroring and revision
pub record Exhibited (l : MemoryLayout) (m : Mirroring) (r : Revision) : Type 0 where
  -- the creation is accepted
  pub accepted : (create (zeros l m r)).refusal ≡ 0
  -- the 114 calls from the second on are a stretch, begun with prescaler 341
  pub stretch : Stretch (zeros l m r) (one_line r) 1 114
  pub clocks : clock_count (part 1 114 (one_line r)) ≡ 114
  pub prescaler : (ledger_of (zeros l m r) (take 1 (one_line r))).timing.prescaler ≡ 341
  -- it reports one tick
  pub ticks : tick_count (part 1 114 (answers (start (zeros l m r)) (one_line r))) ≡ 1

-- of every layout within its limits
abbrev pub ExhibitedLaw : Type 0
ExhibitedLaw = (l : MemoryLayout) → within_limits l ≡ true → (m : Mirroring) (r : Revision) → Exhibited l m r

-- no ROM, no RAM, and CIRAM's 2,048 bytes
abbrev pub smallest : Creation
smallest = zeros (record { prg_rom = 0; chr = 0; chr_writable = false; prg_ram = 0; ciram = 0 }) Vertical A

-- a byte that goes into the ledger's copy, and so into the changing buffer: $2000 is CIRAM's first byte
pub record StoredExample : Type 0 where
  pub before : get_or (ledger_of smallest []).copy 0 0 ≡ 0
  pub noted : get_or (ledger_of smallest (PictureWrite 0x2000 7 ∷ [])).copy 0 0 ≡ 7
  pub left : get_or (after (start smallest) (PictureWrite 0x2000 7 ∷ [])).changing 0 0 ≡ 7
