-- `before_break` meets its contract. Assumes nothing.
use Rattle.scene_cells.specs.Cells.{is_break}
use Rattle.scene_cells.proofs.before_break.Given as goal

abbrev pub ghost-length_before : goal.ghost-length_before
ghost-length_before a = is_break a.takes.0.now
