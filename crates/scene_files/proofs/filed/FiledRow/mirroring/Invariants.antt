-- How `mirroring` reads its cell. Assumes nothing.
use Rattle.scene_files.specs.Words.{mirroring_word}
use Rattle.scene_files.proofs.filed.FiledRow.mirroring.Given as goal

abbrev pub ghost-single : goal.ghost-single
ghost-single a = mirroring_word
