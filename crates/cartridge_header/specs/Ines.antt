-- The iNES header over the bytes of a file (02, change 2). Assumes nothing.
use Rattle.std.specs.Prelude.{Bool, cond, not, ◌&&◌, List, [], ◌∷◌, ℕ, ◌+◌, ◌*◌, ◌/◌, eqb, leb, length, get_or, Result, Ok, Err}
use Rattle.base_shared.specs.Bits.{bit}
use Rattle.base_shared.specs.declared.Refusal.{Refusal}
use Rattle.base_shared.specs.declared.Refusal.TheVariants.{NoHeader, Mapper, FileLength}
use Rattle.cartridge.specs.declared.cartridge.Cartridge.{Cartridge}
use Rattle.cartridge.specs.declared.cartridge.NesHeader.{NesHeader}
use Rattle.cartridge.specs.Cartridges.{is_vrc6, fits, cartridge_of}

-- byte i of a file, 0 past its end
abbrev pub file_byte : List ℕ → (i : ℕ) → ℕ
file_byte file i = get_or file i 0

-- 16 bytes, 4E 45 53 1A first (02, change 2)
abbrev pub is_ines : List ℕ → Bool
is_ines file =
    leb 16 (length file) && eqb (file_byte file 0) 0x4E && eqb (file_byte file 1) 0x45 && eqb (file_byte file 2) 0x53 && eqb (file_byte file 3) 0x1A

-- byte 7 bits 3 and 2 equal to 1 and 0 (02, change 2)
abbrev pub is_newer : List ℕ → Bool
is_newer file = bit 3 (file_byte file 7) && not (bit 2 (file_byte file 7))

-- byte 7's high four bits above byte 6's (02, change 2)
abbrev pub mapper_number : List ℕ → ℕ
mapper_number file = file_byte file 7 / 16 * 16 + file_byte file 6 / 16

-- what bytes 4 to 7 state; PRG RAM is 8,192, writable CHR 8 KiB (02, change 2)
abbrev pub stated_by : List ℕ → NesHeader
stated_by file =
    record {
      mapper_num = mapper_number file;
      prg_rom_banks = file_byte file 4;
      chr_rom_banks = file_byte file 5;
      prg_ram = 8192;
      chr_ram = 8192;
      vertical = bit 0 (file_byte file 6);
      trainer = bit 2 (file_byte file 6);
      four_screens = bit 3 (file_byte file 6);
    }

-- the mapper is one of the board's, and the header is not of the newer edition (02, change 2)
abbrev pub is_supported : List ℕ → Bool
is_supported file = is_vrc6 (stated_by file) && not (is_newer file)

-- a short header or other first bytes; then another mapper, or the newer edition; then a length over its limit or a file that ends early
-- (02, change 2)
abbrev pub header_checks : List ℕ → List (Bool × Refusal)
header_checks file =
    (is_ines file, NoHeader)
    ∷ (is_supported file, Mapper)
    ∷ (fits (stated_by file) (length file), FileLength)
    ∷ []

-- the value where no condition fails, and otherwise the refusal of the first that does (01, The board's calls 4)
abbrev pub unless_failing : {A : Type 0} → List (Bool × Refusal) → A → Result A Refusal
unless_failing [] x = Ok x
unless_failing (t ∷ ts) x = cond t.0 (unless_failing ts x) (Err t.1)

-- the cartridge where no condition fails, and otherwise the refusal of the first that does (02, change 2)
abbrev pub read_header : List ℕ → Result Cartridge Refusal
read_header file = unless_failing (header_checks file) (cartridge_of (stated_by file))
