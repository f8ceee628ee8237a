-- `name_in` meets its contract. Assumes nothing.
use Rattle.scene_paths.specs.Names.{is_ink}
use Rattle.scene_paths.proofs.name_in.Given as goal

abbrev pub ghost-up_to : goal.ghost-up_to
ghost-up_to a = is_ink
