-- How `prg` reads its cell. Assumes nothing.
use Rattle.scene_files.specs.Words.{length_word}
use Rattle.scene_files.proofs.filed.FiledRow.prg.Given as goal

abbrev pub ghost-single : goal.ghost-single
ghost-single a = length_word
