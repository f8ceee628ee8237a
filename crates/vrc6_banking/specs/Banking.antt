-- The banking values at creation, after a bank write, and their ranges (01, Records; 01, Banks and decode; VRC6). Assumes nothing.
use Rattle.std.specs.Prelude.{◌≡◌, Bool, true, false, ◌&&◌, List, ℕ, ◌%◌, ◌<◌, leb, get_or, set, replicate, Result, MatchResult}
use Rattle.registers.specs.declared.BankRegister.{BankRegister}
use Rattle.registers.specs.declared.BankRegister.TheVariants.{Prg16, Prg8, Mode, Chr}
use Rattle.vrc6_banking.specs.declared.banking.Banking.{Banking}
use Rattle.vrc6_slots.specs.declared.Mirroring.{Mirroring}
use Rattle.vrc6_slots.specs.declared.UnknownNumber.{UnknownNumber}
use Rattle.vrc6_banking.specs.declared.banking.Revision.{Revision}
use Rattle.vrc6_banking.specs.declared.banking.Revision.TheVariants.{A, B}
use Rattle.vrc6_banking.specs.declared.banking.Settings.{Settings}
use Rattle.vrc6_slots.specs.Nametables.{mirroring_numbers, nametable_numbers, nametable_mirroring}
pub use Rattle.vrc6_slots.specs.Numbered.{mirroring_number}

-- a revision's mark
abbrev pub is_b : Revision → Bool
is_b A = false
is_b B = true

-- its number, by which a host names it (01, The board's calls 1)
abbrev pub revision_number : Revision → ℕ
revision_number A = 0
revision_number B = 1

-- its letter, as a byte: A or B (docs/SCENES.md)
abbrev pub revision_letter : Revision → ℕ
revision_letter A = 0x41
revision_letter B = 0x42

-- what a number stands for: the revision that has it, or, above 1, none (01, The board's calls 1)
abbrev pub RevisionNumbered : ℕ → Result Revision UnknownNumber → Type 0
RevisionNumbered n r = MatchResult r (λ v. revision_number v ≡ n) (λ e. (e.0 ≡ n) × (1 < n))

-- the settings of creation that have a mirroring and a revision, and no open bus (01, The board's calls 1; 02, change 1)
abbrev pub settings_of : Mirroring → Revision → Settings
settings_of m r = record { mirroring = m; revision = r; open_bus = false }

-- at creation: all registers 0, the mirroring given and its numbers (01, Banks and decode 2; 01, Banks and decode 6)
abbrev pub first_banking : Settings → Banking
first_banking s =
    record {
      banking_mode = 0;
      prg_banks = replicate 2 0;
      chr = replicate 8 0;
      mirroring = mirroring_number s.mirroring;
      nt_banks = mirroring_numbers s.mirroring;
      revision_b = is_b s.revision;
    }

-- every value 0: Vertical, revision A, and unlike Vertical's the nametable numbers 0 0 0 0 (01, The board's calls 4)
abbrev pub zero_banking : Banking
zero_banking =
    record {
      banking_mode = 0;
      prg_banks = replicate 2 0;
      chr = replicate 8 0;
      mirroring = 0;
      nt_banks = replicate 4 0;
      revision_b = false;
    }

-- mode or a CHR register was written: mirroring and nametable numbers follow (01, Banks and decode 6)
abbrev pub renamed : Banking → (mode : ℕ) → (chr : List ℕ) → Banking
renamed b m c =
    record {
      banking_mode = m;
      prg_banks = b.prg_banks;
      chr = c;
      mirroring = mirroring_number (nametable_mirroring m);
      nt_banks = nametable_numbers m c;
      revision_b = b.revision_b;
    }

-- a PRG register was written: nothing else moves
abbrev pub repaged : Banking → (i n : ℕ) → Banking
repaged b i n =
    record {
      banking_mode = b.banking_mode;
      prg_banks = set b.prg_banks i n;
      chr = b.chr;
      mirroring = b.mirroring;
      nt_banks = b.nt_banks;
      revision_b = b.revision_b;
    }

-- a bank register takes a byte: $8000..3 AND $0F, $C000..3 AND $1F, $B003, $D000..3 and $E000..3 (01, Banks and decode 1; VRC6)
abbrev pub bank_written : BankRegister → (v : ℕ) → Banking → Banking
bank_written Prg16 v b = repaged b 0 (v % 16)
bank_written Prg8 v b = repaged b 1 (v % 32)
bank_written Mode v b = renamed b v b.chr
bank_written (Chr i) v b = renamed b b.banking_mode (set b.chr (i % 8) v)

-- PRG numbers 0..15 and 0..31, and a mirroring's number (01, Records 4; 01, The board's calls 4)
abbrev pub banking_in_range : Banking → Bool
banking_in_range b = leb (get_or b.prg_banks 0 0) 15 && leb (get_or b.prg_banks 1 0) 31 && leb b.mirroring 4
