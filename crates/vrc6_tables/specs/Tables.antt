-- The page entries of a layout and its banking values (01, Banks and decode; m024_m026_vrc6.rs, update_banks). Assumes nothing.
use Rattle.std.specs.Prelude.{cond, List, ◌++◌, map, ℕ, pos, negsuc, get_or}
use Rattle.base_shared.specs.Bits.{bit}
use Rattle.memory_pages.specs.declared.page.Page.{Page}
use Rattle.memory_layout.specs.declared.regions.MemoryLayout.{MemoryLayout}
use Rattle.memory_layout.specs.declared.regions.Region.{Region}
use Rattle.memory_layout.specs.declared.regions.Src.{Src}
use Rattle.memory_layout.specs.declared.regions.Src.TheVariants.{PrgRom, PrgRam, Chr, CiRam}
use Rattle.memory_layout.specs.Layout.{region}
use Rattle.memory_rule.specs.Rule.{shown}
use Rattle.memory_tables.specs.Paging.{Side, cpu, picture, window, nothing}
use Rattle.vrc6_banking.specs.declared.banking.Banking.{Banking}
use Rattle.vrc6_slots.specs.Chr.{chr_slots}

-- the CPU's 64 entries: nothing below $6000; $6000 8 KiB of PRG RAM bank 0 if mode bit 7, else nothing; $8000 16 KiB of the first number;
-- $C000 8 KiB of the second; $E000 8 KiB of bank -1 (01, Banks and decode 2)
unfoldable pub cpu_entries : MemoryLayout → Banking → List Page
cpu_entries l b =
    let rom = region l PrgRom in
    let first = pos (get_or b.prg_banks 0 0) in
    let second = pos (get_or b.prg_banks 1 0) in
    nothing 24576
    ++ cond (bit 7 b.banking_mode) (window (region l PrgRam) 8192 (pos 0)) (nothing 8192)
    ++ window rom 16384 first
    ++ window rom 8192 second
    ++ window rom 8192 (negsuc 0)

-- a window of one page on bank v of a region (01, Banks and decode 3)
abbrev pub one_page : Region → (v : ℕ) → Page
one_page r v = shown r 1024 (pos v) 0

-- nametables come from CHR if mode bit 4, the wiki's N, else from CIRAM (01, Banks and decode 5; VRC6)
abbrev pub nametable_source : (mode : ℕ) → Src
nametable_source m = cond (bit 4 m) Chr CiRam

-- the four nametable entries (01, Banks and decode 4)
abbrev pub nametable_entries : MemoryLayout → Banking → List Page
nametable_entries l b = map (one_page (region l (nametable_source b.banking_mode))) b.nt_banks

-- the picture side's 16 entries: eight slots, the nametables at $2000, and again at $3000 (01, Banks and decode 3; 01, Banks and decode 4)
unfoldable pub picture_entries : MemoryLayout → Banking → List Page
picture_entries l b =
    map (one_page (region l Chr)) (chr_slots b.banking_mode b.chr) ++ nametable_entries l b ++ nametable_entries l b

-- the table of a side
abbrev pub table_of : Side → MemoryLayout → Banking → List Page
table_of cpu l b = cpu_entries l b
table_of picture l b = picture_entries l b
