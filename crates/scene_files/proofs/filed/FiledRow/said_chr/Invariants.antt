-- What `said_chr` takes of a cartridge. Assumes nothing.
use Rattle.scene_files.proofs.filed.FiledRow.said_chr.Given as goal

abbrev pub ghost-said : goal.ghost-said
ghost-said a = λ c. c.layout.chr
