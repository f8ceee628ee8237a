-- A page entry: where in the buffers its 1,024 bytes begin, and whether they take writes. Other definitions touch an entry only through
-- these (01, Records; memory.rs, Page). Assumes nothing.
use Rattle.std.specs.Prelude.{Bool, cond, Option, Some, None, ℕ, ◌+◌, ◌*◌, ◌%◌, ◌^◌, eqb}
use Rattle.base_shared.specs.Bits.{bit}
use Rattle.memory_pages.specs.declared.page.Page.{Page}

-- the entry of an offset: bits 0 to 29 the offset, bit 31 writable (01, Records 3; memory.rs, Page::new)
abbrev pub entry : (at : ℕ) → Bool → Page
entry at w = record { 0 = cond w (at % 2 ^ 30 + 2 ^ 31) (at % 2 ^ 30) }

-- unmapped is 0 (01, Records 3)
abbrev pub unmapped : Page
unmapped = record { 0 = 0 }

-- the entry is the unmapped one
abbrev pub is_unmapped : Page → Bool
is_unmapped e = eqb e.0 0

-- bits 0 to 29 (01, Records 3; memory.rs, Page::offset)
abbrev pub offset : Page → ℕ
offset e = e.0 % 2 ^ 30

-- bit 31 (01, Records 3; memory.rs, Page::is_writable)
abbrev pub writable : Page → Bool
writable e = bit 31 e.0

-- bit 30, which the entry check wants clear (01, The board's calls 4)
abbrev pub spare : Page → Bool
spare e = bit 30 e.0

-- the entry n pages on in the buffers, with the same mark: `Page::pages_on`
abbrev pub pages_on : Page → (n : ℕ) → Page
pages_on e n = record { 0 = e.0 + 1024 * n }

-- an entry as a number: bits 0 to 29 the offset, bit 31 writable (01, Records 3)
abbrev pub bits : Page → ℕ
bits e = e.0

-- the entry of such a number (01, Records 3)
abbrev pub page_of_bits : ℕ → Page
page_of_bits n = record { 0 = n }

-- what a lookup says of an entry: nothing is there if it is unmapped, and otherwise the entry
abbrev pub found : Page → Option Page
found e = cond (is_unmapped e) None (Some e)

-- the entry that a lookup stands for: the one that it found, or the unmapped one
abbrev pub serving : Option Page → Page
serving None = unmapped
serving (Some e) = e
