-- Laws of the banking values; `proofs/` proves them. Assumes nothing.
use Rattle.std.specs.Prelude.{◌≡◌, true, ℕ, length}
use Rattle.registers.specs.declared.BankRegister.{BankRegister}
use Rattle.vrc6_banking.specs.declared.banking.Banking.{Banking}
use Rattle.vrc6_banking.specs.declared.banking.Settings.{Settings}
use Rattle.vrc6_banking.specs.Banking.{first_banking, bank_written, banking_in_range}

-- banking values as the machine holds them: in range, two PRG numbers, eight CHR registers, four nametable numbers (01, Records 4)
pub record WellFormed (b : Banking) : Type 0 where
  pub in_range : banking_in_range b ≡ true
  pub prgs : length b.prg_banks ≡ 2
  pub chrs : length b.chr ≡ 8
  pub names : length b.nt_banks ≡ 4

-- creation gives such values, and a bank write keeps them so; the revision never changes
pub record WrittenLaw : Type 0 where
  pub first : (s : Settings) → WellFormed (first_banking s)
  pub written : (k : BankRegister) (v : ℕ) (b : Banking) → WellFormed b → WellFormed (bank_written k v b)
  pub revision : (k : BankRegister) (v : ℕ) (b : Banking) → (bank_written k v b).revision_b ≡ b.revision_b
