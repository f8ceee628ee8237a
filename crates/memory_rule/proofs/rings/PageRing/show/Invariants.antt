-- `PageRing::show` meets its contract: the entries passed are in place, and the next one shows page at. Assumes nothing.
use mathlib.Core.Path.{◌≡◌}
use Prim.Native.Nat.{◌%◌, ◌<◌}
use lib.ListN.{length}
use Rattle.base_shared.proofs.Runs.{Filled}
use Rattle.memory_rule.specs.Required.{ring_page}
use Rattle.memory_rule.specs.Rings.{ring}
use Rattle.memory_rule.proofs.rings.PageRing.show.Given as goal

abbrev pub invariant-loop-entry : goal.invariant-loop-entry
invariant-loop-entry l =
    Filled l.initial.window 0 (length l.initial.window) (ring_page (ring l.self)) l.window l.entry-index
    × (l.at ≡ l.entry-index % l.self.count) × (l.at < l.self.count)
