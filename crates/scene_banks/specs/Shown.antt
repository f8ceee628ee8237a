-- Which bank an entry of the picture side shows (docs/SCENES.md). Assumes nothing.
use Rattle.std.specs.Prelude.{Option, Some, None, cond, ℕ, ◌-◌, ◌/◌, ltb}
use Rattle.memory_pages.specs.declared.page.Page.{Page}
use Rattle.memory_pages.specs.Pages.{offset}
use Rattle.memory_layout.specs.declared.regions.MemoryLayout.{MemoryLayout}
use Rattle.memory_layout.specs.declared.regions.Region.{Region}
use Rattle.memory_layout.specs.declared.regions.Src.TheVariants.{Chr}
use Rattle.memory_layout.specs.Layout.{region, within_limits}

-- the bank of 1 KiB that an offset lies in, counted from the start of CHR; none where it lies outside
abbrev pub bank_at : Region → (offset : ℕ) → Option ℕ
bank_at chr at =
    cond (ltb at chr.start) None (cond (ltb (at - chr.start) chr.len) (Some ((at - chr.start) / 1024)) None)

-- the bank that an entry shows, none where it is no bank of CHR
abbrev pub bank_shown : MemoryLayout → Page → Option ℕ
bank_shown l e = cond (within_limits l) (bank_at (region l Chr) (offset e)) None
