-- What proofs say of a part of a table; no function of this crate requires anything. Assumes nothing.
use Rattle.std.specs.Prelude.{Bool, cond, List, pos}
use Rattle.memory_pages.specs.declared.page.Page.{Page}
use Rattle.memory_layout.specs.declared.regions.Region.{Region}
use Rattle.memory_tables.specs.Paging.{nothing, window}

-- what $6000 shows: PRG RAM if it is on, else nothing
abbrev pub ram_entries : (ram : Region) → (on : Bool) → List Page
ram_entries ram on = cond on (window ram 8192 (pos 0)) (nothing 8192)
