-- An answer of `read_header` as rows of headers write it (oracle/FORMAT.md; 02, change 2). Assumes nothing.
use Rattle.std.specs.Prelude.{List, [], ◌∷◌, ◌++◌, ℕ, Bool, true, false, Result, Ok, Err}
use Rattle.std.specs.Fmt.{decimal}
use Rattle.base_shared.specs.Numbers.{number}
use Rattle.base_shared.specs.declared.Refusal.{Refusal}
use Rattle.cartridge.specs.declared.cartridge.Cartridge.{Cartridge}
use Rattle.vrc6_slots.specs.Numbered.{mirroring_letter}
use Rattle.vrc6_banking.specs.Banking.{revision_letter}

-- ram or rom (oracle/FORMAT.md; 02, change 2)
abbrev pub kind_text : Bool → List ℕ
kind_text true = 0x72 ∷ 0x61 ∷ 0x6D ∷ []
kind_text false = 0x72 ∷ 0x6F ∷ 0x6D ∷ []

-- PRG, CHR and its kind, PRG RAM and CIRAM, the letters, and where PRG and CHR begin, a blank between each two (oracle/FORMAT.md; 02, change 2)
abbrev pub cartridge_text : Cartridge → List ℕ
cartridge_text c =
    decimal c.layout.prg_rom
    ++ 32 ∷ decimal c.layout.chr
    ++ 32 ∷ kind_text c.layout.chr_writable
    ++ 32 ∷ decimal c.layout.prg_ram
    ++ 32 ∷ decimal c.layout.ciram
    ++ 32 ∷ mirroring_letter c.mirroring
    ∷ 32 ∷ revision_letter c.revision
    ∷ 32 ∷ decimal c.prg_start
    ++ 32 ∷ decimal c.chr_start

-- the cartridge's, or the refusal's number (oracle/FORMAT.md; 02, change 2)
abbrev pub answer_text : Result Cartridge Refusal → List ℕ
answer_text (Ok c) = cartridge_text c
answer_text (Err refusal) = decimal (number refusal)
