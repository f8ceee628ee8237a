-- The layout: lengths in whole pages, the regions and their starts, both buffers' lengths, conditions 1 and 2 (01, Records). Assumes nothing.
use Rattle.std.specs.Prelude.{Bool, true, false, cond, ◌&&◌, List, [], ◌∷◌, ℕ, ◌+◌, ◌*◌, ◌/◌, eqb, leb}
use Rattle.memory_layout.specs.declared.regions.MemoryLayout.{MemoryLayout}
use Rattle.memory_layout.specs.declared.regions.Region.{Region}
use Rattle.memory_layout.specs.declared.regions.Src.{Src}
use Rattle.memory_layout.specs.declared.regions.Src.TheVariants.{PrgRom, PrgRam, Chr, CiRam}

-- a length rounded up to whole pages of 1,024 (01, Records 1)
abbrev pub whole_pages : ℕ → ℕ
whole_pages n = (n + 1023) / 1024 * 1024

-- CIRAM's length as given; 0 means 2,048 (01, Records 1)
abbrev pub ciram_bytes : MemoryLayout → ℕ
ciram_bytes l = cond (eqb l.ciram 0) 2048 l.ciram

-- a region's length in the buffers (01, Records 1)
abbrev pub region_length : MemoryLayout → Src → ℕ
region_length l PrgRom = whole_pages l.prg_rom
region_length l PrgRam = whole_pages l.prg_ram
region_length l Chr = whole_pages l.chr
region_length l CiRam = whole_pages (ciram_bytes l)

-- what CHR takes of the fixed buffer: it lies there if it is not writable (01, Records 2)
abbrev pub fixed_chr : MemoryLayout → ℕ
fixed_chr l = cond l.chr_writable 0 (region_length l Chr)

-- what CHR takes of the changing buffer: it lies there if it is writable (01, Records 2)
abbrev pub changing_chr : MemoryLayout → ℕ
changing_chr l = cond l.chr_writable (region_length l Chr) 0

-- the fixed buffer: a page of zeros, PRG ROM, CHR if not writable (01, Records 2)
abbrev pub fixed_length : MemoryLayout → ℕ
fixed_length l = 1024 + region_length l PrgRom + fixed_chr l

-- the changing buffer: PRG RAM, CHR if writable, CIRAM (01, Records 2)
abbrev pub changing_length : MemoryLayout → ℕ
changing_length l = region_length l PrgRam + changing_chr l + region_length l CiRam

-- where a region starts; offsets run on from the fixed buffer into the changing one (01, Records 2)
abbrev pub region_start : MemoryLayout → Src → ℕ
region_start l PrgRom = 1024
region_start l PrgRam = fixed_length l
region_start l Chr = cond l.chr_writable (fixed_length l + region_length l PrgRam) (1024 + region_length l PrgRom)
region_start l CiRam = fixed_length l + region_length l PrgRam + changing_chr l

-- PRG ROM is never writable, CHR as marked, PRG RAM and CIRAM always (01, Paging 2)
abbrev pub takes_writes : MemoryLayout → Src → Bool
takes_writes l PrgRom = false
takes_writes l PrgRam = true
takes_writes l Chr = l.chr_writable
takes_writes l CiRam = true

-- a region (memory.rs, region; memory.rs, is_writable)
abbrev pub region : MemoryLayout → Src → Region
region l src = record { start = region_start l src; len = region_length l src; writable = takes_writes l src }

-- condition 1 does not hold: no length is above its limit (01, Records 1; 01, The board's calls 3)
abbrev pub within_limits : MemoryLayout → Bool
within_limits l =
    leb l.prg_rom 262_144 && leb l.chr 262_144 && leb l.prg_ram 8_192 && leb l.ciram 4_096

-- condition 2 does not hold: buffers of these lengths are the layout's (01, Records 2; 01, The board's calls 3)
abbrev pub lengths_fit : MemoryLayout → (fixed changing : ℕ) → Bool
lengths_fit l fixed changing = eqb fixed (fixed_length l) && eqb changing (changing_length l)

-- conditions 1 and 2 as tests with their numbers (01, The board's calls 3)
abbrev pub layout_checks : MemoryLayout → (fixed changing : ℕ) → List (Bool × ℕ)
layout_checks l fixed changing = (within_limits l, 1) ∷ (lengths_fit l fixed changing, 2) ∷ []
