-- An interrupt that a step cleared. Assumes nothing.
use Rattle.std.proofs.Common.{◌≡◌, refl, ℕ, Bool, List, [], ◌∷◌}
use Rattle.scene_steps.specs.declared.step.Step.{Step}
use Rattle.scene_moments.specs.declared.moment.Moment.TheVariants.{Cleared}
use Rattle.scene_moments.specs.declared.moment.Came.TheVariants.{Lost}
use Rattle.scene_moments.specs.Moments.{came}

-- it stays lost, whatever steps come behind
pub stays_lost : (b : Bool) (steps : List Step) (set clock : ℕ) → came b steps (Cleared set clock) ≡ Lost set clock
stays_lost b [] set clock = refl
stays_lost b (s ∷ steps) set clock = stays_lost b steps set clock
