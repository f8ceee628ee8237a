-- `folder_of` meets its contract. Assumes nothing.
use Rattle.scene_paths.specs.Names.{is_slash}
use Rattle.scene_paths.proofs.folder_of.Given as goal

abbrev pub ghost-up_to : goal.ghost-up_to
ghost-up_to a = is_slash
