-- Both buffers of a cartridge's layout, filled from its file (02, change 2; 01, Records). Assumes nothing.
use Rattle.std.specs.Prelude.{Bool, List, [], ◌∷◌, ◌++◌, ℕ, length, map, replicate, take, drop}
use Rattle.base_shared.specs.Numbers.{number}
use Rattle.base_shared.specs.Refusals.{first_failing, unless}
use Rattle.memory_layout.specs.Layout.{fixed_chr, lengths_fit}
use Rattle.cartridge.specs.declared.cartridge.Cartridge.{Cartridge}
use Rattle.cartridge.specs.Cartridges.{cartridge_of}
use Rattle.cartridge_header.specs.Ines.{header_checks, stated_by}

-- the cartridge that a file states (02, change 2)
abbrev pub cartridge_in : List ℕ → Cartridge
cartridge_in file = cartridge_of (stated_by file)

-- 5, 6 and 7 of the header, then 2: buffers of these lengths are not the layout's (02, change 2; 01, The board's calls 3)
abbrev pub fill_checks : (file : List ℕ) (fixed changing : ℕ) → List (Bool × ℕ)
fill_checks file fixed changing =
    map (λ t. (t.0, number t.1)) (header_checks file) ++ (lengths_fit (cartridge_in file).layout fixed changing, 2) ∷ []

-- the first failing of them (02, change 2)
abbrev pub fill_refusal : (file : List ℕ) (fixed changing : ℕ) → ℕ
fill_refusal file fixed changing = first_failing (fill_checks file fixed changing)

-- n bytes of a file from a place on
abbrev pub bytes_from : (start n : ℕ) → List ℕ → List ℕ
bytes_from start n file = take n (drop start file)

-- the fixed buffer: a page of zeros, PRG, CHR if not writable (01, Records 2; 02, change 2)
abbrev pub fixed_of : List ℕ → List ℕ
fixed_of file =
    let c = cartridge_in file in
    replicate 1024 0 ++ bytes_from c.prg_start c.layout.prg_rom file ++ bytes_from c.chr_start (fixed_chr c.layout) file

-- a page of zeros, and all of a file from a place on: what proofs take the fixed buffer from
abbrev pub rom_from : (start : ℕ) → List ℕ → List ℕ
rom_from start file = replicate 1024 0 ++ drop start file

-- what is left in the fixed buffer; refused, what was there (02, change 2)
abbrev pub fixed_filled : (file fixed changing : List ℕ) → List ℕ
fixed_filled file fixed changing = unless (fill_refusal file (length fixed) (length changing)) (fixed_of file) fixed

-- what is left in the changing buffer: zeros; refused, what was there (02, change 2)
abbrev pub changing_filled : (file fixed changing : List ℕ) → List ℕ
changing_filled file fixed changing =
    unless (fill_refusal file (length fixed) (length changing)) (replicate (length changing) 0) changing
