-- How `revision` reads its cell. Assumes nothing.
use Rattle.scene_files.specs.Words.{revision_word}
use Rattle.scene_files.proofs.filed.FiledRow.revision.Given as goal

abbrev pub ghost-single : goal.ghost-single
ghost-single a = revision_word
