-- The columns of a sheet (docs/SCENES.md). Assumes nothing.
use Rattle.std.specs.Prelude.{List, [], ◌∷◌, ℕ, Option, find}
use Rattle.std.specs.Option.{option_and_then}
use Rattle.text_words.specs.Names.{codes, same_name}
use Rattle.text_words.specs.Words.{only_word}
use Rattle.scene_cells.specs.declared.columns.Column.{Column}
use Rattle.scene_cells.specs.declared.columns.Column.TheVariants.{Scene, Prg, Chr, Revision, Mirroring, Writes, Window, Letters, Menu, File, At, Interrupts}

-- the columns (docs/SCENES.md)
abbrev pub columns : List Column
columns = Scene ∷ Prg ∷ Chr ∷ Revision ∷ Mirroring ∷ Writes ∷ Window ∷ Letters ∷ Menu ∷ File ∷ At ∷ Interrupts ∷ []

-- a column's name (docs/SCENES.md)
abbrev pub column_name : Column → List ℕ
column_name Scene = codes "scene"
column_name Prg = codes "prg"
column_name Chr = codes "chr"
column_name Revision = codes "revision"
column_name Mirroring = codes "mirroring"
column_name Writes = codes "writes"
column_name Window = codes "window"
column_name Letters = codes "letters"
column_name Menu = codes "menu"
column_name File = codes "file"
column_name At = codes "at"
column_name Interrupts = codes "interrupts"

-- the column with a name, where a capital counts as its small letter (docs/SCENES.md)
abbrev pub column_named : List ℕ → Option Column
column_named word = find (λ column. same_name word (column_name column)) columns

-- the column that a cell names by its only word (docs/SCENES.md)
abbrev pub column_of : List ℕ → Option Column
column_of cell = option_and_then column_named (only_word cell)
