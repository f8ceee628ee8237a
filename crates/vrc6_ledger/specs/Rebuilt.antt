-- What a rebuild of all entries leaves at $2000 and at $3000, of every board that a host may lend (02, change 3; 01, Banks and decode).
-- Assumes nothing.
use Rattle.std.specs.Prelude.{◌≡◌, ℕ, ◌+◌, ◌≤◌, ◌<◌, get_or, Some}
use Rattle.memory_pages.specs.Pages.{unmapped}
use Rattle.memory_layout.specs.declared.regions.MemoryLayout.{MemoryLayout}
use Rattle.memory_tables.specs.Paging.{picture}
use Rattle.registers.specs.declared.BankRegister.{BankRegister}
use Rattle.registers.specs.declared.Register.TheVariants.{OfBank}
use Rattle.registers.specs.Decode.{decode}
use Rattle.vrc6_banking.specs.declared.banking.Banking.{Banking}
use Rattle.vrc6_banking.specs.Banking.{first_banking, bank_written}
use Rattle.vrc6_tables.specs.Laws.{Sized, nametable_entry}
use Rattle.vrc6.specs.declared.board.Board.{Board}
use Rattle.vrc6.specs.Boards.{State, Creation, entry_of, table}
use Rattle.vrc6.specs.Calls.{create, cpu_write}

-- a call that rebuilds: a creation, or a CPU write of a byte to an address where it reaches a bank register (01, Banks and decode 2)
pub data Rebuild : Type 0 where
  creation : Creation → Rebuild
  bank_write : State → (address byte : ℕ) → BankRegister → Rebuild

-- the call's number
abbrev pub rebuild_refusal : Rebuild → ℕ
rebuild_refusal (creation c) = (create c).refusal
rebuild_refusal (bank_write x address byte r) = (cpu_write x address byte).refusal

-- the board that it gives
abbrev pub rebuilt : Rebuild → Board
rebuilt (creation c) = (create c).board
rebuilt (bank_write x address byte r) = (cpu_write x address byte).board

-- the layout that the entries follow from, by the call's arguments (01, Banks and decode 2)
abbrev pub layout_used : Rebuild → MemoryLayout
layout_used (creation c) = c.layout
layout_used (bank_write x address byte r) = x.board.layout

-- and the banking values: creation's first ones, or, of a write, those of the lent board once the register has taken the byte
-- (01, Banks and decode 2; 01, Banks and decode 6)
abbrev pub banking_used : Rebuild → Banking
banking_used (creation c) = first_banking c.settings
banking_used (bank_write x address byte r) = bank_written r byte x.board.banking

-- the address of a write reaches the bank register (01, Banks and decode 1)
abbrev pub ReachesBank : Rebuild → Type 0
ReachesBank (creation c) = Unit {0}
ReachesBank (bank_write x address byte r) = decode x.board.banking.revision_b address ≡ Some (OfBank r)

-- the lent board has as many registers and numbers as its type says; creation is lent none (01, Records 4)
abbrev pub LentSized : Rebuild → Type 0
LentSized (creation c) = Unit {0}
LentSized (bank_write x address byte r) = Sized x.board.banking

-- of a board: for n below 4 picture entries 8 + n and 12 + n are equal, and both are the entry of nametable n by the paging rule; so each
-- picture address from $2000 to $2FFF is served by the entry that serves the one $1000 on (02, change 3; 01, Banks and decode 4)
pub record NametablesShown (l : MemoryLayout) (k : Banking) (b : Board) : Type 0 where
  pub at_2000 : (n : ℕ) → n < 4 → get_or (table picture b) (8 + n) unmapped ≡ nametable_entry l k n
  pub at_3000 : (n : ℕ) → n < 4 → get_or (table picture b) (12 + n) unmapped ≡ nametable_entry l k n
  pub same : (n : ℕ) → n < 4 → get_or (table picture b) (12 + n) unmapped ≡ get_or (table picture b) (8 + n) unmapped
  pub again : (address : ℕ) → 0x2000 ≤ address → address < 0x3000 → entry_of picture b (address + 0x1000) ≡ entry_of picture b address

-- after every rebuild that is not refused (02, change 3)
abbrev pub RebuiltLaw : Type 0
RebuiltLaw = (r : Rebuild) → ReachesBank r → LentSized r → rebuild_refusal r ≡ 0 → NametablesShown (layout_used r) (banking_used r) (rebuilt r)
