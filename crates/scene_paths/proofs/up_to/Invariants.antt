-- `up_to` meets its contract. Assumes nothing.
use Rattle.std.proofs.Common.{◌≡◌, length}
use Rattle.scene_paths.specs.Names.{up_to}
use Rattle.scene_paths.proofs.up_to.Given as goal

abbrev pub invariant-loop-text : goal.invariant-loop-text
invariant-loop-text g l = up_to g.test l.text ≡ up_to g.test l.fn.text

abbrev pub decreases-loop-text : goal.decreases-loop-text
decreases-loop-text g l = length l.text
