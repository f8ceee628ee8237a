-- The bank that a slot of the picture side shows, by the paging rule. Assumes nothing.
use Rattle.std.specs.Prelude.{◌≡◌, Some, true, ℕ, ◌%◌, ◌≤◌}
use Rattle.memory_layout.specs.declared.regions.MemoryLayout.{MemoryLayout}
use Rattle.memory_layout.specs.declared.regions.Src.TheVariants.{Chr}
use Rattle.memory_layout.specs.Layout.{region, within_limits}
use Rattle.memory_rule.specs.Rule.{bank_count}
use Rattle.vrc6_tables.specs.Tables.{one_page}
use Rattle.scene_banks.specs.Shown.{bank_shown}

-- of a layout within its limits that has CHR, an entry that a slot's window makes for bank v shows as bank v modulo the count of banks;
-- every slot's entry is such a one, by vrc6_tables' `picture_entries` (01, Paging 2)
abbrev pub BankLaw : Type 0
BankLaw =
    (l : MemoryLayout) → within_limits l ≡ true → 1 ≤ (region l Chr).len → (v : ℕ)
    → bank_shown l (one_page (region l Chr) v) ≡ Some (v % bank_count (region l Chr) 1024)
