-- The cells of a row, for the text from the row's start on. Assumes nothing.
use Rattle.std.specs.Prelude.{◌≡◌, cond, List, [], ◌∷◌, ℕ, zero, suc, ◌+◌, ◌<◌, length, Option, Some, None, option_map, slice_get}
use Rattle.std.specs.Option.{option_and_then, option_map_or}
use denote.Ref.{Bor}
use Rattle.scene_cells.specs.declared.Cell.{Cell}
use Rattle.scene_cells.specs.declared.columns.Column.{Column}
use Rattle.scene_cells.specs.Cells.{Content, cell_of}
use Rattle.scene_cells.specs.Columns.{column_of}
use Rattle.scene_cells.specs.Contents.{content}

-- a row's first n cells (RFC 4180)
abbrev pub cells_in : (n separator : ℕ) → List ℕ → List Content
cells_in zero separator s = []
cells_in (suc n) separator s = cell_of separator s ∷ cond (cell_of separator s).last [] (cells_in n separator (cell_of separator s).rest)

-- a row's cells; it has at most one cell more than bytes (RFC 4180)
unfoldable pub cells_of : (separator : ℕ) → List ℕ → List Content
cells_of separator row = cells_in (length row + 1) separator row

-- the cells from a text on, if there is one left
abbrev pub cells_left : (separator : ℕ) → Option (Bor (List ℕ)) → List Content
cells_left separator row = option_map_or (λ s. cells_of separator s.now) row []

-- the cell k places behind a row's first; none where the row ends before (RFC 4180)
abbrev pub nth_cell : (separator k : ℕ) → List ℕ → Option Content
nth_cell separator k row = slice_get (cells_of separator row) k

-- the cell k places behind a row's first is there and has the name of a column (docs/SCENES.md)
abbrev pub NameAt : (separator : ℕ) (column : Column) (k : ℕ) → List ℕ → Type 0
NameAt separator column k row = option_and_then (λ (c : Content). column_of c.bytes) (nth_cell separator k row) ≡ Some column

-- the first cell of a row with the name of a column, or that none has it (docs/SCENES.md)
abbrev pub FoundIn : (separator : ℕ) (column : Column) → List ℕ → Option ℕ → Type 0
FoundIn separator column row (Some k) = NameAt separator column k row × ((j : ℕ) → j < k → NameAt separator column j row → ⊥)
FoundIn separator column row None = (k : ℕ) → NameAt separator column k row → ⊥

-- the cell of a row under the first cell of the header that has the name of a column (docs/SCENES.md)
pub record CellUnder (separator : ℕ) (header row : List ℕ) (column : Column) (cell : Option Cell) : Type 0 where
  pub place : Option ℕ
  pub named : FoundIn separator column header place
  pub held : option_map content cell ≡ option_and_then (λ (k : ℕ). nth_cell separator k row) place

-- the bytes of that cell, none where there is no cell
pub record BytesUnder (separator : ℕ) (header row : List ℕ) (column : Column) (bytes : List ℕ) : Type 0 where
  pub cell : Option Cell
  pub under : CellUnder separator header row column cell
  pub shown : bytes ≡ option_map_or (λ (c : Cell). c.bytes.now) cell []
