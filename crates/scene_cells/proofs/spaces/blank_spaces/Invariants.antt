-- `blank_spaces` meets its contract. Assumes nothing.
use Rattle.std.proofs.Common.{◌≡◌}
use Rattle.scene_cells.specs.Spaces.{with_spaces}
use Rattle.scene_cells.proofs.Spacing.{done_to}
use Rattle.scene_cells.proofs.spaces.blank_spaces.Given as goal

abbrev pub invariant-loop-i : goal.invariant-loop-i
invariant-loop-i l = done_to l.i l.text ≡ with_spaces l.initial.text
