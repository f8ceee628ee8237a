-- The examples, computed. Assumes nothing.
use Rattle.std.proofs.Common.{refl}
use Rattle.scene_paths.specs.Laws.{PathExamples}

pub examples : PathExamples
examples = record { name = refl; beside = refl; below = refl; current = refl; root = refl }
