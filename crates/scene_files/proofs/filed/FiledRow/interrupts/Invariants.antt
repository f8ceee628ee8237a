-- How `interrupts` reads its cell. Assumes nothing.
use Rattle.scene_files.specs.Words.{interrupts_word}
use Rattle.scene_files.proofs.filed.FiledRow.interrupts.Given as goal

abbrev pub ghost-single : goal.ghost-single
ghost-single a = interrupts_word
