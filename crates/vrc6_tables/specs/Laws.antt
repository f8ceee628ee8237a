-- Laws of both tables; `proofs/` proves them. Assumes nothing.
use Rattle.std.specs.Prelude.{◌≡◌, Bool, true, cond, not, ◌||◌, ℕ, ◌+◌, ◌^◌, ◌<◌, eqb, ltb, pos, length, get_or}
use Rattle.base_shared.specs.Bits.{bit}
use Rattle.memory_pages.specs.declared.page.Page.{Page}
use Rattle.memory_pages.specs.Pages.{is_unmapped, unmapped}
use Rattle.memory_layout.specs.declared.regions.MemoryLayout.{MemoryLayout}
use Rattle.memory_layout.specs.Layout.{region, within_limits}
use Rattle.memory_layout.specs.Entries.{entry_in_range}
use Rattle.memory_rule.specs.Rule.{shown}
use Rattle.memory_tables.specs.Paging.{Side, cpu, entry_count, entry_for}
use Rattle.vrc6_banking.specs.declared.banking.Banking.{Banking}
use Rattle.vrc6_banking.specs.Laws.{WellFormed}
use Rattle.vrc6_tables.specs.Tables.{cpu_entries, nametable_source, table_of, picture_entries}

-- of a layout within its limits every entry of either table is one that its boards can hold, whatever the banking values (01, The board's calls 4)
abbrev pub EntriesLaw : Type 0
EntriesLaw =
    (s : Side) (l : MemoryLayout) (b : Banking) → within_limits l ≡ true → (n : ℕ) → entry_in_range l (get_or (table_of s l b) n unmapped) ≡ true

-- 64 entries serve the CPU, 16 the picture side (01, Records 3)
abbrev pub CountLaw : Type 0
CountLaw = (s : Side) (l : MemoryLayout) (b : Banking) → WellFormed b → length (table_of s l b) ≡ entry_count s

-- banking values have eight CHR registers and four nametable numbers, as their type says (01, Records 4)
pub record Sized (b : Banking) : Type 0 where
  pub chrs : length b.chr ≡ 8
  pub names : length b.nt_banks ≡ 4

-- the entry of nametable n: a window of 1,024 bytes on the bank that its number says, of CHR if mode bit 4, else of CIRAM
-- (01, Paging 2; 01, Banks and decode 4; 01, Banks and decode 5)
abbrev pub nametable_entry : MemoryLayout → Banking → (n : ℕ) → Page
nametable_entry l b n = shown (region l (nametable_source b.banking_mode)) 1024 (pos (get_or b.nt_banks n 0)) 0

-- picture entry 8 + n is the entry of nametable n, and entry 12 + n is it again (01, Banks and decode 4; 01, Reference positions 13;
-- 02, change 3)
pub record NametableLaw : Type 0 where
  pub at_2000 : (l : MemoryLayout) (b : Banking) → Sized b → (n : ℕ) → n < 4 → get_or (picture_entries l b) (8 + n) unmapped ≡ nametable_entry l b n
  pub at_3000 : (l : MemoryLayout) (b : Banking) → Sized b → (n : ℕ) → n < 4 → get_or (picture_entries l b) (12 + n) unmapped ≡ nametable_entry l b n

-- where nothing is there for the CPU: below $6000; from $6000 to $7FFF with mode bit 7 clear or no PRG RAM; from $8000 up with no PRG ROM
-- (02, change 1; 01, Banks and decode 2; 01, Paging 2)
abbrev pub nothing_at : MemoryLayout → Banking → (address : ℕ) → Bool
nothing_at l b address =
    cond (ltb address 0x6000) true
    (cond (ltb address 0x8000) (not (bit 7 b.banking_mode) || eqb l.prg_ram 0) (eqb l.prg_rom 0))

-- of a layout within its limits the entry of a CPU address is the unmapped one exactly where nothing is there (02, change 1; 01, Paging 2)
abbrev pub NothingAtLaw : Type 0
NothingAtLaw =
    (l : MemoryLayout) (b : Banking) → within_limits l ≡ true → (address : ℕ) → address < 2 ^ 16
    → is_unmapped (entry_for cpu (cpu_entries l b) address) ≡ nothing_at l b address
