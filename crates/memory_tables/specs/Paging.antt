-- Windows of the two tables, and the entry that serves an address (01, Paging; memory.rs, map_pages). Assumes nothing.
use Rattle.std.specs.Prelude.{List, ℕ, ◌/◌, ◌%◌, ℤ, get_or}
use Rattle.base_shared.specs.Lists.{tabulate}
use Rattle.memory_pages.specs.declared.page.Page.{Page}
use Rattle.memory_pages.specs.Pages.{unmapped}
use Rattle.memory_layout.specs.declared.regions.Region.{Region}
use Rattle.memory_rule.specs.Rule.{shown}

-- the entries of a window of s bytes on bank b, one for each of its pages (01, Paging 1; 01, Paging 2; memory.rs, map_prg; memory.rs, map_chr)
abbrev pub window : Region → (s : ℕ) → ℤ → List Page
window r s b = tabulate (s / 1024) (shown r s b)

-- the entries of a window of s bytes that shows nothing (01, Paging 1; memory.rs, unmap_prg)
abbrev pub nothing : (s : ℕ) → List Page
nothing s = tabulate (s / 1024) (λ _. unmapped)

-- ---- the entry that serves an address
-- the CPU's table or the picture side's (01, Records 3)
pub data Side : Type 0 where
  cpu picture : Side

-- 64 entries serve the CPU, 16 the picture side (01, Records 3)
abbrev pub entry_count : Side → ℕ
entry_count cpu = 64
entry_count picture = 16

-- in a table of so many entries, the one at address / 1,024 modulo that count (01, Paging 2)
abbrev pub entry_among : (count : ℕ) → List Page → (address : ℕ) → Page
entry_among count table address = get_or table (address / 1024 % count) unmapped

-- the entry at address / 1,024, modulo 64 or 16 (01, Paging 2)
abbrev pub entry_for : Side → List Page → (address : ℕ) → Page
entry_for s table address = entry_among (entry_count s) table address
