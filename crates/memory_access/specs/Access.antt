-- One access: its refusal, the byte that an address shows, a byte stored, the page's bytes (01, Paging; 01, The board's calls). Assumes nothing.
use Rattle.std.specs.Prelude.{Bool, true, cond, ◌&&◌, List, [], ◌∷◌, ◌++◌, ℕ, ◌+◌, ◌-◌, ◌%◌, length, get_or, set, take, drop, Result, Ok, Err}
use Rattle.base_shared.specs.declared.Refusal.{Refusal}
use Rattle.base_shared.specs.Numbers.{number}
use Rattle.base_shared.specs.Refusals.{first_failing, unless}
use Rattle.memory_pages.specs.declared.page.Page.{Page}
use Rattle.memory_pages.specs.Pages.{offset, writable}
use Rattle.memory_layout.specs.declared.regions.MemoryLayout.{MemoryLayout}
use Rattle.memory_layout.specs.Layout.{layout_checks}
use Rattle.memory_layout.specs.Entries.{entry_in_range}
use Rattle.memory_access.specs.declared.Peeked.{Peeked}

-- the refusal of a call that uses an entry: 1, 2, then 3 for the entry or for other values that the call checks (01, The board's calls 4)
abbrev pub access_refusal : MemoryLayout → Page → (fixed changing : ℕ) → (others : Bool) → ℕ
access_refusal l e fixed changing others = first_failing (layout_checks l fixed changing ++ (others && entry_in_range l e, 3) ∷ [])

-- ---- bytes
-- where the byte of an address lies, counted from the fixed buffer on into the changing one (01, Records 2)
abbrev pub place : Page → (address : ℕ) → ℕ
place e address = offset e + address % 1024

-- the byte that an address shows through its entry (01, Paging 1; memory.rs, prg_peek; memory.rs, chr_peek)
abbrev pub byte_at : Page → (fixed changing : List ℕ) → (address : ℕ) → ℕ
byte_at e fixed changing address = get_or (fixed ++ changing) (place e address) 0

-- the changing buffer after a byte is written through an entry, the fixed one being so long; a write through an unwritable entry changes
-- nothing (01, Paging 2; memory.rs, prg_write; memory.rs, chr_write)
abbrev pub stored : (fixed : ℕ) → Page → (changing : List ℕ) → (address byte : ℕ) → List ℕ
stored fixed e changing address byte = cond (writable e) (set changing (offset e - fixed + address % 1024) byte) changing

-- the 1,024 bytes of the page (01, The board's calls 2)
abbrev pub page_bytes : Page → (fixed changing : List ℕ) → List ℕ
page_bytes e fixed changing = take 1024 (drop (offset e) (fixed ++ changing))

-- ---- accesses with their check
-- the refusal of a read, a picture write or a view (01, The board's calls 4)
abbrev pub plain_refusal : MemoryLayout → Page → (fixed changing : List ℕ) → ℕ
plain_refusal l e fixed changing = access_refusal l e (length fixed) (length changing) true

-- a read: the byte, or 0 where it is refused, and the number (01, The board's calls 3)
abbrev pub peeked : MemoryLayout → Page → (fixed changing : List ℕ) → (address : ℕ) → Peeked
peeked l e fixed changing address =
    record {
      byte = unless (plain_refusal l e fixed changing) (byte_at e fixed changing address) 0;
      refusal = plain_refusal l e fixed changing;
    }

-- a byte or a refusal as the answer that C reads (01, The board's calls 3)
abbrev pub answered : Result ℕ Refusal → Peeked
answered (Ok byte) = record { byte = byte; refusal = 0 }
answered (Err refusal) = record { byte = 0; refusal = number refusal }

-- what a write leaves of the changing buffer; refused, all of it (01, The board's calls 3)
abbrev pub written : MemoryLayout → Page → (fixed changing : List ℕ) → (address byte : ℕ) → List ℕ
written l e fixed changing address byte =
    unless (plain_refusal l e fixed changing) (stored (length fixed) e changing address byte) changing

-- a view: the page's bytes, or none where it is refused (01, The board's calls 2; 01, The board's calls 3)
abbrev pub viewed : MemoryLayout → Page → (fixed changing : List ℕ) → List ℕ
viewed l e fixed changing = unless (plain_refusal l e fixed changing) (page_bytes e fixed changing) []
