-- The letters inside a menu (docs/SCENES.md). Assumes nothing.
use Rattle.std.specs.Prelude.{◌≡◌, Option, Bool, false, not, List, ℕ, ◌<◌, length, get_or, take}
use Rattle.memory_pages.specs.declared.page.Page.{Page}
use Rattle.memory_layout.specs.declared.regions.MemoryLayout.{MemoryLayout}
use Rattle.vrc6.specs.Boards.{State}
use Rattle.vrc6_calls.specs.Lists.{after}
use Rattle.scene_steps.specs.declared.step.Step.{Step}
use Rattle.scene_steps.specs.Letters.{slots_right}
use Rattle.scene_board.specs.Ended.{slots_shown}
use Rattle.scene_board.specs.Played.{calls_of}

-- a slot shows another bank than the one asked
abbrev pub wrong_letters : MemoryLayout → List Page → (asked : List (Option ℕ)) → Bool
wrong_letters l pages asked = not (slots_right (slots_shown l pages) asked)

-- each step of a menu that begins in x has the mark of the letters that the steps before it leave, as far as there is room for marks
pub record MarkedSteps (l : MemoryLayout) (x : State) (menu : List Step) (asked : List (Option ℕ)) (marks : List Bool) : Type 0 where
  pub mark : (i : ℕ) → i < length menu → i < length marks
      → get_or marks i false ≡ wrong_letters l (after x (calls_of (take i menu))).board.chr_pages asked
