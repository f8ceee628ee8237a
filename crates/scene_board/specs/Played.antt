-- The calls that steps make on the board (docs/SCENES.md). Assumes nothing.
use Rattle.std.specs.Prelude.{List, [], ◌∷◌, ◌++◌, replicate}
use Rattle.vrc6_calls.specs.declared.Call.{Call}
use Rattle.vrc6_calls.specs.declared.Call.TheVariants.{CpuWrite, Clock, SoftReset}
use Rattle.scene_steps.specs.declared.step.Step.{Step}
use Rattle.scene_steps.specs.declared.step.Step.TheVariants.{Write, Clocks, Reset}

-- the calls of a step
abbrev pub step_calls : Step → List Call
step_calls (Write a v) = CpuWrite a v ∷ []
step_calls (Clocks n) = replicate n Clock
step_calls Reset = SoftReset ∷ []

-- the calls of steps
abbrev pub calls_of : List Step → List Call
calls_of [] = []
calls_of (s ∷ steps) = step_calls s ++ calls_of steps
