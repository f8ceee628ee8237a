-- How `single` reads its cell. Assumes nothing.
use Rattle.scene_files.proofs.filed.FiledRow.single.Given as goal

abbrev pub ghost-single_of : goal.ghost-single_of
ghost-single_of g a = g.reads
