-- The check of the entry that a call uses (01, The board's calls). Assumes nothing.
use Rattle.std.specs.Prelude.{Bool, not, ◌&&◌, ◌||◌, ◌+◌, ◌%◌, eqb, leb}
use Rattle.memory_pages.specs.declared.page.Page.{Page}
use Rattle.memory_pages.specs.Pages.{offset, writable, spare}
use Rattle.memory_layout.specs.declared.regions.MemoryLayout.{MemoryLayout}
use Rattle.memory_layout.specs.Layout.{fixed_length, changing_length}

-- the page lies wholly inside the fixed buffer (01, The board's calls 4)
abbrev pub in_fixed : MemoryLayout → Page → Bool
in_fixed l e = leb (offset e + 1024) (fixed_length l)

-- the page lies wholly inside the changing buffer (01, The board's calls 4)
abbrev pub in_changing : MemoryLayout → Page → Bool
in_changing l e = leb (fixed_length l) (offset e) && leb (offset e + 1024) (fixed_length l + changing_length l)

-- offset a multiple of 1,024, bit 30 clear, the page wholly inside one buffer, writable only in changing (01, The board's calls 4)
abbrev pub entry_in_range : MemoryLayout → Page → Bool
entry_in_range l e = eqb (offset e % 1024) 0 && not (spare e) && (in_changing l e || (in_fixed l e && not (writable e)))
