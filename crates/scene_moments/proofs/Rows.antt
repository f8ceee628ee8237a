-- The rows of `LostExamples`. Assumes nothing.
use Rattle.std.proofs.Common.{refl}
use Rattle.registers.specs.Decode.{decode}
use Rattle.base_steps.specs.Times.{times}
use Rattle.scene_moments.specs.Lines.{line_of}
use Rattle.scene_moments.specs.Laws.{LostExamples}

pub lost_examples : LostExamples
unfolding decode times line_of
lost_examples =
    record {
      acknowledged = refl;
      controlled = refl;
      reset = refl;
      latched = refl;
      before = refl;
      revision_b = refl;
      masked = refl;
      held = refl;
      taken = refl;
      unmasked = refl;
    }
