-- What `said_revision` takes of a cartridge. Assumes nothing.
use Rattle.scene_files.proofs.filed.FiledRow.said_revision.Given as goal

abbrev pub ghost-said : goal.ghost-said
ghost-said a = λ c. c.revision
