-- `PageRing::show` meets its contract: the entries passed are in place, and the next one shows page at. Assumes nothing.
use mathlib.Core.Path.{ap, ◌∙◌}
use Prim.Native.Nat.{ℕ, ◌+◌, ◌%◌}
use native.Mathlib.Omega.{arith}
use native.Mathlib.Nat.{mod-add-mod}
use Rattle.memory_pages.specs.Pages.{pages_on}
use Rattle.memory_rule.specs.Required.{ring_page}
use Rattle.memory_rule.specs.Rings.{ring}
use Rattle.memory_rule.proofs.Filling.{passed_more, passed_all}
use Rattle.memory_rule.proofs.rings.PageRing.show.Goals as goal

pub loop-entry-preserved : goal.loop-entry-preserved
loop-entry-preserved c =
    let l = c.loop-entry in
    let this = c.args.self in
    let count = this.count in (
      passed_more c.args.window.now (ring_page (ring this)) l.window l.entry-index _ l.invariant.0 (omega arith)
          (c.pages_on.ensures ∙ ap (pages_on this.first) l.invariant.1),
      c.behind-at.ensures.0 ∙ ap (λ (n : ℕ). (n + 1) % count) l.invariant.1 ∙ mod-add-mod l.entry-index count 1,
      c.behind-at.ensures.1,
    )

pub returns : goal.returns
returns c =
    let l = c.loop-entry in
    passed_all c.args.window.now (ring_page (ring c.args.self)) l.window l.entry-index l.invariant.0 (omega arith)
