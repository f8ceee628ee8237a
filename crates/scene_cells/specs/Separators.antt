-- The separator of a sheet: the one that its first line gives, or the one by which its header names the most columns (docs/SCENES.md).
-- Assumes nothing.
use Rattle.std.specs.Prelude.{◌≡◌, Bool, true, false, cond, not, ◌&&◌, ◌||◌, List, ℕ, eqb, leb, length, take, drop, get_or, Option, Some, None, is_some, count_by}
use Rattle.text_words.specs.Names.{codes, same_name}
use Rattle.scene_cells.specs.declared.separators.SepLine.{SepLine}
use Rattle.scene_cells.specs.Cells.{Content, behind_break, ends_row, is_line_end}
use Rattle.scene_cells.specs.Columns.{column_of}
use Rattle.scene_cells.specs.Rows.{cells_of}

-- how many of a row's cells name a column (docs/SCENES.md)
abbrev pub named_in : (separator : ℕ) → List ℕ → ℕ
named_in separator row = count_by (λ (c : Content). is_some (column_of c.bytes)) (cells_of separator row)

-- comma, semicolon or tab by how many columns each names: the most, and the first of those that name as many (docs/SCENES.md)
abbrev pub most_of : (comma semicolon tab : ℕ) → ℕ
most_of comma semicolon tab = cond (leb semicolon comma && leb tab comma) 44 (cond (leb tab semicolon) 59 9)

-- the separator that a header shows (docs/SCENES.md)
abbrev pub separator_of : (header : List ℕ) → ℕ
separator_of header = most_of (named_in 44 header) (named_in 59 header) (named_in 9 header)

-- a byte that a first line may give: any but a quote, a line feed and a carriage return (docs/SCENES.md)
abbrev pub can_separate : ℕ → Bool
can_separate b = not (eqb b 34 || is_line_end b)

-- a text begins with the line `sep=`, capitals or not, one byte that can separate, and a line end (Excel)
abbrev pub is_sep_line : List ℕ → Bool
is_sep_line s = leb 6 (length s) && (same_name (take 4 s) (codes "sep=") && can_separate (get_or s 4 0) && ends_row (drop 5 s))

-- what is said of such a line: its separator, and the text behind its line end (docs/SCENES.md)
abbrev pub SepLineAt : (text : List ℕ) → Option SepLine → Type 0
SepLineAt text (Some line) =
    (is_sep_line text ≡ true) × (line.separator ≡ get_or text 4 0) × (line.rest.now ≡ behind_break (drop 5 text))
SepLineAt text None = is_sep_line text ≡ false
