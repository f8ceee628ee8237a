-- The cell that holds one of two words (docs/SCENES.md). Assumes nothing.
use Rattle.std.specs.Prelude.{List, [], ◌∷◌, ℕ, Option}
use Rattle.text_words.specs.Names.{codes, named}
use Rattle.scene_cells.specs.declared.choices.Interrupts.{Interrupts}
use Rattle.scene_cells.specs.declared.choices.Interrupts.TheVariants.{Masked, Open}

-- the choices by their words
abbrev pub choices : List (List ℕ × Interrupts)
choices = (codes "masked", Masked) ∷ (codes "open", Open) ∷ []

-- whether the menu's handler leaves interrupts masked or open (docs/SCENES.md)
abbrev pub interrupts_of : List ℕ → Option Interrupts
interrupts_of word = named choices word
