-- The path of a file that a cell names (docs/SCENES.md). Assumes nothing.
use Rattle.std.specs.Prelude.{Bool, false, cond, List, [], ◌∷◌, ◌++◌, ℕ}
use Rattle.scene_cells.specs.Quotes.{unquoted}
use Rattle.scene_paths.specs.Names.{is_slash, trimmed, up_to}

-- the name that a cell gives
abbrev pub name_of : (quoted : Bool) → List ℕ → List ℕ
name_of quoted cell = unquoted quoted (trimmed cell)

-- a name that begins with a slash
abbrev pub is_rooted : List ℕ → Bool
is_rooted [] = false
is_rooted (b ∷ bs) = is_slash b

-- what stands before a name: the sheet's path up to its last slash; nothing before a name that begins with one
abbrev pub folder_of : (sheet name : List ℕ) → List ℕ
folder_of sheet name = cond (is_rooted name) [] (up_to is_slash sheet)

-- a name's path
abbrev pub path_of : (sheet name : List ℕ) → List ℕ
path_of sheet name = folder_of sheet name ++ name
