-- Laws of the header, for every file; `proofs/` proves them. Assumes nothing.
use Rattle.std.specs.Prelude.{◌≡◌, Ok, Err, true, cond, List, [], ◌∷◌, ◌++◌, ◌⊎◌, ◌↔◌, ℕ, ◌+◌, ◌*◌, ◌/◌, ◌%◌, ◌≤◌, length, set, take}
use Rattle.memory_layout.specs.Layout.{within_limits}
use Rattle.cartridge.specs.declared.cartridge.Cartridge.{Cartridge}
use Rattle.base_shared.specs.declared.Refusal.{Refusal}
use Rattle.base_shared.specs.Numbers.{number, answer_number}
use Rattle.cartridge.specs.Cartridges.{cartridge_of}
use Rattle.cartridge_header.specs.Ines.{file_byte, mapper_number, stated_by, read_header}

-- ---- the conditions in the paper's words, without tests
-- a whole header, with its first bytes (02, change 2)
abbrev pub Headed : List ℕ → Type 0
Headed file = (16 ≤ length file) × (take 4 file ≡ 0x4E ∷ 0x45 ∷ 0x53 ∷ 0x1A ∷ [])

-- the board's mapper, and byte 7 bits 3 and 2 not equal to 1 and 0 (02, change 2)
abbrev pub Supported : List ℕ → Type 0
Supported file = ((mapper_number file ≡ 24) ⊎ (mapper_number file ≡ 26)) × ((file_byte file 7 / 8 % 2 ≡ 1) × (file_byte file 7 / 4 % 2 ≡ 0) → ⊥)

-- the bytes that a file needs: its header, a trainer by byte 6 bit 2, PRG, and CHR, of which count 0 takes none (02, change 2)
abbrev pub needed : List ℕ → ℕ
needed file = 16 + 512 * (file_byte file 6 / 4 % 2) + 16384 * file_byte file 4 + 8192 * file_byte file 5

-- at most 262,144 bytes of each, which are 16 units of PRG and 32 of CHR, and the file has all its bytes (02, change 2; 01, Records 1)
abbrev pub Fitting : List ℕ → Type 0
Fitting file = (file_byte file 4 ≤ 16) × (file_byte file 5 ≤ 32) × (needed file ≤ length file)

-- each number is answered where its condition fails and those before it hold, and only there; there is no other number (02, change 2)
pub record HeaderNumbers (file : List ℕ) : Type 0 where
  pub five : (answer_number (read_header file) ≡ 5) ↔ (Headed file → ⊥)
  pub six : (answer_number (read_header file) ≡ 6) ↔ (Headed file × (Supported file → ⊥))
  pub seven : (answer_number (read_header file) ≡ 7) ↔ (Headed file × (Supported file × (Fitting file → ⊥)))
  pub accepted : (read_header file ≡ Ok (cartridge_of (stated_by file))) ↔ (Headed file × (Supported file × Fitting file))
  pub no_other : (r : Refusal) → read_header file ≡ Err r → (number r ≡ 5) ⊎ (number r ≡ 6) ⊎ (number r ≡ 7)

-- of every file (02, change 2)
abbrev pub HeaderNumbersLaw : Type 0
HeaderNumbersLaw = (file : List ℕ) → HeaderNumbers file

-- ---- where the parts lie
-- a board takes the layout, and both parts lie inside the file: PRG behind the header, CHR where PRG ends, of no bytes where it is writable
pub record InFile (fileLength : ℕ) (c : Cartridge) : Type 0 where
  pub limits : within_limits c.layout ≡ true
  pub behind_header : 16 ≤ c.prg_start
  pub chr_start : c.chr_start ≡ c.prg_start + c.layout.prg_rom
  pub prg_inside : c.prg_start + c.layout.prg_rom ≤ fileLength
  pub chr_inside : c.chr_start + cond c.layout.chr_writable 0 c.layout.chr ≤ fileLength

-- of every accepted file (02, change 2)
abbrev pub InFileLaw : Type 0
InFileLaw = (file : List ℕ) (c : Cartridge) → read_header file ≡ Ok c → InFile (length file) c

-- ---- bytes that make no difference
-- the bytes of the longest file: header, trainer, 262,144 of PRG and as many of CHR
abbrev pub longest : ℕ
longest = 524_816

-- those from 8 on, those behind a whole file, and in any file those behind the longest one's (02, change 2)
pub record UnreadLaw : Type 0 where
  pub later : (file : List ℕ) (i v : ℕ) → 8 ≤ i → read_header (set file i v) ≡ read_header file
  pub trailing : (file more : List ℕ) (c : Cartridge) → read_header file ≡ Ok c → read_header (file ++ more) ≡ Ok c
  pub cut : (file : List ℕ) → read_header (take longest file) ≡ read_header file
