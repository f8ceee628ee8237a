-- `prg_pages` meets its contract, window by window. Assumes nothing.
use mathlib.Core.Path.{◌≡◌, sym, ap, ◌∙◌}
use mathlib.Core.List.{◌++◌}
use lib.ListN.{get_or, take}
use borrow.Author.Rules.{rules}
use Rattle.base_shared.specs.Bits.{bit}
use Rattle.memory_layout.specs.declared.regions.Src.TheVariants.{PrgRam}
use Rattle.memory_layout.specs.Layout.{region}
use Rattle.memory_tables.specs.Paging.{nothing}
use Rattle.vrc6_tables.specs.Required.{ram_entries}
use Rattle.vrc6_tables.proofs.Numbers.{signed}
use Rattle.vrc6_tables.proofs.Windows.{joined}
use Rattle.vrc6_tables.proofs.prg_pages.Goals.{then-prg_ram_enabled, else-prg_ram_enabled}
use Rattle.vrc6_tables.proofs.prg_pages.Goals as goal

-- what stands below $8000
front : (c : goal.After-pages-7-1)
    → take 32 c.if-prg_ram_enabled.pages
    ≡ nothing 24576 ++ ram_entries (region c.args.layout.layout PrgRam) (bit 7 c.args.banking.banking_mode)
front c =
    elim c.if-prg_ram_enabled.branch [
      | then-prg_ram_enabled w ↦
          ap (take 32) w.pages-is
          ∙ rw (w.map_window.ensures, w.region.ensures, sym c.prg_ram_enabled.ensures ∙ w.if-prg_ram_enabled.true)
      | else-prg_ram_enabled w ↦ ap (take 32) w.pages-is ∙ rw (sym c.prg_ram_enabled.ensures ∙ w.if-prg_ram_enabled.false)
    ]

pub returns : goal.returns
returns c =
    let a = c.args in
    joined a.layout.layout a.banking c.if-prg_ram_enabled.pages _ _ _ c.if-prg_ram_enabled.array_long (front c)
    c.map_window-2.ensures
    c.map_window-3.ensures
    c.map_window-4.ensures
    c.region-rom.ensures
    (signed c.from.result (get_or a.banking.prg_banks 0 0) c.from.ensures (search rules))
    (signed c.from-2.result (get_or a.banking.prg_banks 1 0) c.from-2.ensures (search rules))
