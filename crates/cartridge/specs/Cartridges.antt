-- The cartridge that a header states, from numbers already worked out (02, change 2). Assumes nothing.
use Rattle.std.specs.Prelude.{Bool, cond, ◌&&◌, ◌||◌, ℕ, ◌+◌, ◌*◌, eqb, leb, Option, Some, None}
use Rattle.memory_layout.specs.declared.regions.MemoryLayout.{MemoryLayout}
use Rattle.memory_layout.specs.Layout.{within_limits}
use Rattle.vrc6_slots.specs.declared.Mirroring.{Mirroring}
use Rattle.vrc6_slots.specs.declared.Mirroring.TheVariants.{Vertical, Horizontal, FourScreen}
use Rattle.vrc6_banking.specs.declared.banking.Revision.{Revision}
use Rattle.vrc6_banking.specs.declared.banking.Revision.TheVariants.{A, B}
use Rattle.cartridge.specs.declared.cartridge.NesHeader.{NesHeader}
use Rattle.cartridge.specs.declared.cartridge.Cartridge.{Cartridge}

-- the mapper is one of the board's: 24 or 26 (02, change 2)
abbrev pub is_vrc6 : NesHeader → Bool
is_vrc6 h = eqb h.mapper_num 24 || eqb h.mapper_num 26

-- 24 is revision A's, 26 B's (02, change 2)
abbrev pub mapper_revision : NesHeader → Option Revision
mapper_revision h = cond (eqb h.mapper_num 24) (Some A) (cond (eqb h.mapper_num 26) (Some B) None)

-- 24 is revision A, 26 is B (02, change 2)
abbrev pub stated_revision : NesHeader → Revision
stated_revision h = cond (eqb h.mapper_num 26) B A

-- four screens, which is stronger than bit 0; else vertical by bit 0, else horizontal (02, change 2)
abbrev pub stated_mirroring : NesHeader → Mirroring
stated_mirroring h = cond h.four_screens FourScreen (cond h.vertical Vertical Horizontal)

-- CIRAM 4,096 with four screens and otherwise 2,048 (02, change 2)
abbrev pub stated_ciram : NesHeader → ℕ
stated_ciram h = cond h.four_screens 4096 2048

-- CHR in 8 KiB units; none means that it is RAM (02, change 2)
abbrev pub stated_chr : NesHeader → ℕ
stated_chr h = cond (eqb h.chr_rom_banks 0) h.chr_ram (8192 * h.chr_rom_banks)

-- the layout: PRG in 16 KiB units; CHR is writable where it is RAM (02, change 2)
abbrev pub stated_layout : NesHeader → MemoryLayout
stated_layout h =
    record {
      prg_rom = 16384 * h.prg_rom_banks;
      chr = stated_chr h;
      chr_writable = eqb h.chr_rom_banks 0;
      prg_ram = h.prg_ram;
      ciram = stated_ciram h;
    }

-- PRG begins behind the header of 16 bytes and a trainer of 512 (02, change 2)
abbrev pub prg_start : NesHeader → ℕ
prg_start h = cond h.trainer (16 + 512) 16

-- CHR begins where PRG ends, also where it is writable (02, change 2)
abbrev pub chr_start : NesHeader → ℕ
chr_start h = prg_start h + 16384 * h.prg_rom_banks

-- the file may not end before this: CHR that is writable takes no bytes of it (02, change 2)
abbrev pub file_end : NesHeader → ℕ
file_end h = chr_start h + 8192 * h.chr_rom_banks

-- no length is over its limit, and a file of so many bytes does not end early (02, change 2; 01, Records 1)
abbrev pub fits : NesHeader → (fileLength : ℕ) → Bool
fits h n = within_limits (stated_layout h) && leb (file_end h) n

-- the answer: a layout, the mirroring, the revision and where PRG and CHR begin in the file (02, change 2)
abbrev pub cartridge_of : NesHeader → Cartridge
cartridge_of h =
    record {
      layout = stated_layout h;
      mirroring = stated_mirroring h;
      revision = stated_revision h;
      prg_start = prg_start h;
      chr_start = chr_start h;
    }
