-- `raise` meets its contract. Assumes nothing.
use Rattle.std.proofs.Common.{◌≡◌, ◌++◌, map, take, drop}
use Rattle.scene_sweep.specs.Bars.{worse}
use Rattle.scene_sweep.proofs.bar.raise.Given as goal

abbrev pub invariant-loop-column : goal.invariant-loop-column
invariant-loop-column l = l.columns ≡ map (worse l.mark) (take l.column-index l.initial.columns) ++ drop l.column-index l.initial.columns
