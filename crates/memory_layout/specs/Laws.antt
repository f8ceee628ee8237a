-- A law of entries, for every layout; `proofs/` proves it. Assumes nothing.
use Rattle.std.specs.Prelude.{◌≡◌, true}
use Rattle.memory_pages.specs.Pages.{unmapped}
use Rattle.memory_layout.specs.declared.regions.MemoryLayout.{MemoryLayout}
use Rattle.memory_layout.specs.Entries.{entry_in_range}

-- the unmapped entry is one that the boards of every layout can hold
abbrev pub UnmappedLaw : Type 0
UnmappedLaw = (l : MemoryLayout) → entry_in_range l unmapped ≡ true
