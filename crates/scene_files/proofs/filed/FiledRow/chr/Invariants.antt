-- How `chr` reads its cell. Assumes nothing.
use Rattle.scene_files.specs.Words.{length_word}
use Rattle.scene_files.proofs.filed.FiledRow.chr.Given as goal

abbrev pub ghost-single : goal.ghost-single
ghost-single a = length_word
