-- Laws of an access, for every layout, entry and buffer; `proofs/` proves them. Assumes nothing.
use Rattle.std.specs.Prelude.{◌≡◌, true, false, List, [], ◌++◌, ℕ, ◌%◌, length, get_or}
use Rattle.memory_pages.specs.declared.page.Page.{Page}
use Rattle.memory_pages.specs.Pages.{writable}
use Rattle.memory_layout.specs.declared.regions.MemoryLayout.{MemoryLayout}
use Rattle.memory_access.specs.Access.{plain_refusal, place, peeked, written, viewed}

-- a byte stored through a writable entry is read back there, every other byte is unmoved, and an unwritable entry stores nothing (01, Paging 2)
pub record ByteStored (l : MemoryLayout) (e : Page) (fixed changing : List ℕ) (address byte : ℕ) : Type 0 where
  pub read_back : writable e ≡ true → (peeked l e fixed (written l e fixed changing address byte) address).byte ≡ byte
  pub others : (i : ℕ) → (i ≡ place e address → ⊥)
      → get_or (fixed ++ written l e fixed changing address byte) i 0 ≡ get_or (fixed ++ changing) i 0
  pub unwritable : writable e ≡ false → written l e fixed changing address byte ≡ changing

-- of every access that is not refused
abbrev pub ByteStoredLaw : Type 0
ByteStoredLaw =
    (l : MemoryLayout) (e : Page) (fixed changing : List ℕ) (address byte : ℕ)
    → plain_refusal l e fixed changing ≡ 0 → ByteStored l e fixed changing address byte

-- a view is 1,024 bytes and shows at each address what a read through the same entry gives (01, The board's calls 2)
pub record PageViewed (l : MemoryLayout) (e : Page) (fixed changing : List ℕ) : Type 0 where
  pub whole : plain_refusal l e fixed changing ≡ 0 → length (viewed l e fixed changing) ≡ 1024
  pub shows : (address : ℕ) → get_or (viewed l e fixed changing) (address % 1024) 0 ≡ (peeked l e fixed changing address).byte

-- of every access, refused or not
abbrev pub PageViewedLaw : Type 0
PageViewedLaw = (l : MemoryLayout) (e : Page) (fixed changing : List ℕ) → PageViewed l e fixed changing

-- a refused access: byte 0, the changing buffer as it was, an empty view (01, The board's calls 3)
pub record Refused (l : MemoryLayout) (e : Page) (fixed changing : List ℕ) : Type 0 where
  pub no_byte : (address : ℕ) → (peeked l e fixed changing address).byte ≡ 0
  pub untouched : (address byte : ℕ) → written l e fixed changing address byte ≡ changing
  pub no_view : viewed l e fixed changing ≡ []

-- of every access whose refusal number is not 0
abbrev pub AccessRefusedLaw : Type 0
AccessRefusedLaw =
    (l : MemoryLayout) (e : Page) (fixed changing : List ℕ) → (plain_refusal l e fixed changing ≡ 0 → ⊥) → Refused l e fixed changing
