-- `chr_pages` meets its contract. Assumes nothing.
use mathlib.Core.Path.{ap, ap₂, ◌∙◌}
use mathlib.Core.List.{List, ◌++◌}
use Rattle.memory_pages.specs.declared.page.Page.{Page}
use Rattle.memory_layout.specs.declared.regions.Src.TheVariants.{Chr}
use Rattle.memory_layout.specs.Layout.{region}
use Rattle.memory_rule.specs.Required.{ring_of}
use Rattle.memory_rule.proofs.Shown.{whole_region}
use Rattle.vrc6_slots.specs.Chr.{chr_slots}
use Rattle.vrc6_tables.specs.Tables.{nametable_source, picture_entries}
use Rattle.vrc6_tables.proofs.Regions.{ringed}
use Rattle.vrc6_tables.proofs.chr_pages.Goals as goal

pub returns : goal.returns
unfolding picture_entries
returns c =
    let l = c.args.layout in
    let b = c.args.banking in
    let source = nametable_source b.banking_mode in
    c.picture_table.ensures
    ∙ ap₂ (λ (slots names : List Page). slots ++ names ++ names)
    (c.slot_pages.ensures
    ∙ ringed (region l.layout Chr) (whole_region l.layout l.within Chr) _ (c.of-chr.ensures ∙ ap ring_of c.region.ensures)
    (chr_slots b.banking_mode b.chr))
    (c.bank_pages.ensures
    ∙ ringed (region l.layout source) (whole_region l.layout l.within source) _ c.nametable_ring-source.ensures b.nt_banks)
