-- After every rebuild the nametables' entries are those of 01's rule, at $2000 and at $3000. Assumes nothing.
use mathlib.Core.Path.{◌≡◌, refl, sym, ap, ◌∙◌}
use Prim.Native.Nat.{ℕ, ◌+◌, ◌-◌, ◌/◌, ◌%◌, ◌≤◌, ◌<◌}
use native.Mathlib.Omega.{arith}
use lib.ListN.{get_or, length-set}
use Rattle.base_shared.specs.Refusals.{unless}
use Rattle.memory_pages.specs.Pages.{unmapped}
use Rattle.memory_layout.specs.declared.regions.MemoryLayout.{MemoryLayout}
use Rattle.memory_tables.specs.Paging.{picture}
use Rattle.registers.specs.Decode.{Decoded}
use Rattle.registers.specs.declared.BankRegister.{BankRegister}
use Rattle.registers.specs.declared.BankRegister.TheVariants.{Prg16, Prg8, Mode, Chr}
use Rattle.vrc6_slots.proofs.Counts.{mirroring_count, numbers_count}
use Rattle.vrc6_banking.specs.declared.banking.Banking.{Banking}
use Rattle.vrc6_banking.specs.Banking.{bank_written}
use Rattle.vrc6_tables.specs.Laws.{Sized, nametable_entry}
use Rattle.vrc6_tables.specs.Tables.{picture_entries}
use Rattle.vrc6_tables.proofs.Counts.{nametable_law}
use Rattle.vrc6.specs.declared.board.Board.{Board}
use Rattle.vrc6.specs.Boards.{new_board, zero_board, entry_of, table}
use Rattle.vrc6.specs.Calls.{register_written, cpu_written}
use Rattle.vrc6_ledger.specs.Rebuilt.{Rebuild, creation, bank_write, rebuild_refusal, rebuilt, layout_used, banking_used, ReachesBank, LentSized, NametablesShown, RebuiltLaw}

-- ---- a board whose picture entries follow from a layout and banking values
module _ (l : MemoryLayout) (k : Banking) (w : Sized k) (b : Board) (e : table picture b ≡ picture_entries l k) where
  low : (n : ℕ) → n < 4 → get_or (table picture b) (8 + n) unmapped ≡ nametable_entry l k n
  low n h = rw e (nametable_law.at_2000 l k w n h)

  high : (n : ℕ) → n < 4 → get_or (table picture b) (12 + n) unmapped ≡ nametable_entry l k n
  high n h = rw e (nametable_law.at_3000 l k w n h)

  both : (n : ℕ) → n < 4 → get_or (table picture b) (12 + n) unmapped ≡ get_or (table picture b) (8 + n) unmapped
  both n h = high n h ∙ sym (low n h)

  serves : (address : ℕ) → 0x2000 ≤ address → address < 0x3000 → entry_of picture b (address + 0x1000) ≡ entry_of picture b address
  serves address h m =
      let n = address / 1024 - 8 in
      let far : (address + 0x1000) / 1024 % 16 ≡ 12 + n = omega arith in
      let near : 8 + n ≡ address / 1024 % 16 = omega arith in
      ap (λ (i : ℕ). get_or (table picture b) i unmapped) far ∙ both n (omega arith) ∙ ap (λ (i : ℕ). get_or (table picture b) i unmapped) near

  shows : NametablesShown l k b
  shows = record { at_2000 = low; at_3000 = high; same = both; again = serves }

-- ---- the two calls
-- a bank write keeps the counts
sized : (r : BankRegister) (v : ℕ) (b : Banking) → Sized b → Sized (bank_written r v b)
sized Prg16 v b w = record { chrs = w.chrs; names = w.names }
sized Prg8 v b w = record { chrs = w.chrs; names = w.names }
sized Mode v b w = record { chrs = w.chrs; names = numbers_count v b.chr }
sized (Chr i) v b w = record { chrs = length-set b.chr (i % 8) v ∙ w.chrs; names = numbers_count b.banking_mode _ }

-- what the call leaves where its number is 0
done : (r : Rebuild) → ReachesBank r → rebuild_refusal r ≡ 0 → table picture (rebuilt r) ≡ picture_entries (layout_used r) (banking_used r)
done (creation c) t h = ap (λ (n : ℕ). table picture (unless n (new_board c.layout c.settings) zero_board)) h
done (bank_write x address byte r) t h =
    ap (λ (n : ℕ). table picture (unless n (cpu_written x address byte) x).board) h
    ∙ ap (λ (d : Decoded). table picture (register_written d byte x.board)) t

counted : (r : Rebuild) → LentSized r → Sized (banking_used r)
counted (creation c) t = record { chrs = refl; names = mirroring_count c.settings.mirroring }
counted (bank_write x address byte r) t = sized r byte x.board.banking t

pub rebuilt_law : RebuiltLaw
rebuilt_law r t w h = shows (layout_used r) (banking_used r) (counted r w) (rebuilt r) (done r t h)
