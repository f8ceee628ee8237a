-- `follow` meets its contract: the entries passed are in place. Assumes nothing.
use lib.ListN.{length}
use Rattle.base_shared.proofs.Runs.{Filled}
use Rattle.memory_pages.specs.Pages.{pages_on}
use Rattle.memory_rule.proofs.follow.Given as goal

abbrev pub invariant-loop-i : goal.invariant-loop-i
invariant-loop-i l = Filled l.initial.window 0 (length l.initial.window) (pages_on l.first) l.window l.i
