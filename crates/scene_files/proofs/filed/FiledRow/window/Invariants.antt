-- How `window` reads its cell. Assumes nothing.
use Rattle.scene_files.specs.Words.{window_word}
use Rattle.scene_files.proofs.filed.FiledRow.window.Given as goal

abbrev pub ghost-single : goal.ghost-single
ghost-single a = window_word
