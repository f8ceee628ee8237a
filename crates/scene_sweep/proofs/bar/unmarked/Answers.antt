-- `unmarked` meets its contract. Assumes nothing.
use Rattle.scene_sweep.proofs.Marking.{unmarked}
use Rattle.scene_sweep.proofs.bar.unmarked.Goals as goal

pub returns : goal.returns
returns c = unmarked
