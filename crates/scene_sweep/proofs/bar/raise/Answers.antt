-- `raise` meets its contract. Assumes nothing.
use Rattle.std.proofs.Common.{rules}
use Rattle.std.proofs.lemmas.List.Edits.{map_over_more}
use Rattle.scene_sweep.specs.Bars.{worse}
use Rattle.scene_sweep.proofs.Marking.{higher}
use Rattle.scene_sweep.proofs.bar.raise.Goals as goal

pub loop-column-preserved : goal.loop-column-preserved
loop-column-preserved c = search (rules, map_over_more (worse c.args.mark), higher)
