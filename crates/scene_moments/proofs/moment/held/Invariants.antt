-- `held` meets its contract. Assumes nothing.
use Rattle.std.proofs.Common.{◌≡◌, length}
use Rattle.scene_moments.specs.declared.moment.Moment.TheVariants.{Pending}
use Rattle.scene_moments.specs.Moments.{came}
use Rattle.scene_moments.proofs.moment.held.Given as goal

abbrev pub invariant-loop-rest : goal.invariant-loop-rest
invariant-loop-rest l = came l.revision_b l.rest (Pending l.set l.at) ≡ came l.revision_b l.steps (Pending l.set l.clock)

abbrev pub decreases-loop-rest : goal.decreases-loop-rest
decreases-loop-rest l = length l.rest
