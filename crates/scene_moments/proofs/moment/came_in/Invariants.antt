-- `came_in` meets its contract. Assumes nothing.
use Rattle.std.proofs.Common.{◌≡◌, drop}
use Rattle.scene_moments.specs.declared.moment.Moment.TheVariants.{Waiting}
use Rattle.scene_moments.specs.Moments.{came_in}
use Rattle.scene_moments.proofs.moment.came_in.Given as goal

abbrev pub invariant-loop-i : goal.invariant-loop-i
invariant-loop-i l = came_in l.revision_b (drop l.i l.steps) (Waiting l.q l.at) l.i ≡ came_in l.revision_b l.steps (Waiting l.fn.irq l.clock) 0
