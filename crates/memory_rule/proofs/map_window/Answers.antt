-- `map_window` meets its contract: the window lies inside its region, or goes round it. Assumes nothing.
use mathlib.Core.Path.{ap, ◌∙◌}
use Prim.Native.Nat.{ℕ, ◌+◌, ◌*◌}
use native.Mathlib.Omega.{arith}
use mir.Facts.{to_z-of_z}
use lib.ListN.{length}
use Rattle.base_shared.specs.Lists.{tabulate}
use Rattle.memory_pages.specs.declared.page.Page.{Page}
use Rattle.memory_pages.specs.Pages.{entry, pages_on}
use Rattle.memory_rule.specs.Rule.{base}
use Rattle.memory_rule.specs.Required.{Ring, ring_page}
use Rattle.memory_rule.proofs.Turned.{around}
use Rattle.memory_rule.proofs.Unwrapped.{unwrapped}
use Rattle.memory_rule.proofs.map_window.Goals as goal

pub returns-then-size-region : goal.returns-then-size-region
returns-then-size-region c =
    let r = c.args.region in
    let n = length c.args.window.now in
    let start = c.bank_base.ensures.0 ∙ ap (base r (n * 1024)) (to_z-of_z c.ranges.bank) in
    c.follow.ensures
    ∙ ap (λ (e : Page). tabulate n (pages_on e)) (c.new.ensures ∙ ap (λ (at : ℕ). entry (r.start + at) r.writable) start)
    ∙ unwrapped r (n * 1024) c.args.bank c.requires.below (omega arith) (λ z. omega arith) (omega arith) n (omega arith)

pub returns-else-size-region : goal.returns-else-size-region
returns-else-size-region c =
    let r = c.args.region in
    let n = length c.args.window.now in
    c.show.ensures ∙ ap (λ (g : Ring). tabulate n (ring_page g)) c.of.ensures ∙ around r (record { below = c.requires.below; pages = c.requires.short (omega arith) }) n c.args.bank (omega arith)
