-- `bank_pages` meets its contract. Assumes nothing.
use Rattle.std.proofs.Common.{rules, ℕ}
use Rattle.memory_rule.specs.Required.{ring_page}
use Rattle.memory_rule.specs.Rings.{ring}
use Rattle.vrc6_tables.proofs.Mapped.{mapped}
use Rattle.vrc6_tables.proofs.bank_pages.Goals as goal

pub returns : goal.returns
returns g c =
    mapped _ _ (λ (v : ℕ). ring_page (ring c.args.source) v) (λ x y q k. search rules) c.args.banks c.map.result g.row.N (search rules)
    c.map.ensures.items.long
    c.map.ensures.items.each
