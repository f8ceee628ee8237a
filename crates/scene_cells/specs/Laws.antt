-- A quoted cell is read back, and examples of what the definitions give. Assumes nothing.
use Rattle.std.specs.Prelude.{◌≡◌, true, false, cond, List, [], ◌∷◌, ◌++◌, ℕ, eqb, Some, None}
use Rattle.text_words.specs.Names.{codes}
use Rattle.scene_cells.specs.declared.CellFault.TheVariants.{Unclosed, BehindQuote}
use Rattle.scene_cells.specs.declared.choices.Interrupts.TheVariants.{Masked, Open}
use Rattle.scene_cells.specs.declared.columns.Column.{Column}
use Rattle.scene_cells.specs.declared.columns.Column.TheVariants.{Menu, File, Interrupts}
use Rattle.scene_cells.specs.Cells.{behind_break, cell_of, ends_row, is_break}
use Rattle.scene_cells.specs.Choices.{interrupts_of}
use Rattle.scene_cells.specs.Columns.{column_name, column_of}
use Rattle.scene_cells.specs.Quotes.{unquoted}
use Rattle.scene_cells.specs.Separators.{is_sep_line, separator_of}
use Rattle.scene_cells.specs.Spaces.{with_spaces}

-- bytes with each quote written twice (RFC 4180)
abbrev pub doubled : List ℕ → List ℕ
doubled [] = []
doubled (b ∷ bs) = cond (eqb b 34) (34 ∷ 34 ∷ doubled bs) (b ∷ doubled bs)

-- a text that is empty or begins with a separator or a line end (RFC 4180)
abbrev pub BreakNext : (separator : ℕ) → List ℕ → Type 0
BreakNext separator [] = Unit {0}
BreakNext separator (b ∷ bs) = is_break separator b ≡ true

-- with any separator but a quote, bytes that are written in quotes, each quote in them twice, are read back, and what follows their
-- separator or line end is left (RFC 4180)
abbrev pub RoundTripLaw : Type 0
RoundTripLaw =
    (separator : ℕ) → (separator ≡ 34 → ⊥) → (bytes text : List ℕ) → BreakNext separator text
    → cell_of separator (34 ∷ (doubled bytes ++ (34 ∷ text)))
    ≡ record { bytes = doubled bytes; rest = behind_break text; quoted = true; last = ends_row text; wrong = None }

-- bytes that are written in quotes, each quote in them twice, are the cell's (RFC 4180)
abbrev pub UnquotedLaw : Type 0
UnquotedLaw = (bytes : List ℕ) → unquoted true (doubled bytes) ≡ bytes

-- a cell with a column's name names the column
abbrev pub ColumnLaw : Type 0
ColumnLaw = (column : Column) → column_of (column_name column) ≡ Some column

-- cells and names (docs/SCENES.md)
pub record CellExamples : Type 0 where
  -- comma, semicolon and tab between cells; a comma inside a cell where another byte separates
  pub plain : cell_of 44 (codes "a,b") ≡ record { bytes = codes "a"; rest = codes "b"; quoted = false; last = false; wrong = None }
  pub semicolon : cell_of 59 (codes "a,b;c") ≡ record { bytes = codes "a,b"; rest = codes "c"; quoted = false; last = false; wrong = None }
  pub tab : cell_of 9 (codes "a,b\tc") ≡ record { bytes = codes "a,b"; rest = codes "c"; quoted = false; last = false; wrong = None }
  -- line ends: LF, CR LF and CR, behind a plain cell and behind one in quotes
  pub line_feed : cell_of 44 (codes "a\nb") ≡ record { bytes = codes "a"; rest = codes "b"; quoted = false; last = true; wrong = None }
  pub row_end : cell_of 44 (codes "a\r\nb") ≡ record { bytes = codes "a"; rest = codes "b"; quoted = false; last = true; wrong = None }
  pub return_alone : cell_of 44 (codes "a\rb") ≡ record { bytes = codes "a"; rest = codes "b"; quoted = false; last = true; wrong = None }
  pub two_rows : cell_of 44 (codes "a\r\r\n") ≡ record { bytes = codes "a"; rest = codes "\r\n"; quoted = false; last = true; wrong = None }
  pub quoted_row_end : cell_of 59 (codes "\"a;\r\"\r\nb") ≡ record { bytes = codes "a;\r"; rest = codes "b"; quoted = true; last = true; wrong = None }
  -- no quote closes the cell; a byte stands behind the quote that does
  pub unclosed : cell_of 44 (codes "\"a,\"\"b") ≡ record { bytes = codes "a,\"\"b"; rest = []; quoted = true; last = true; wrong = Some Unclosed }
  pub behind_quote : cell_of 44 (codes "\"a\"b,") ≡ record { bytes = codes "a"; rest = []; quoted = true; last = false; wrong = Some BehindQuote }
  -- names of columns, one with blanks around it
  pub column : column_of (codes "Menu") ≡ Some Menu
  pub blanks : column_of (codes " file\t") ≡ Some File
  pub last_column : column_of (codes "interrupts") ≡ Some Interrupts
  pub no_column : column_of (codes "menus") ≡ None
  pub two_words : column_of (codes "menu file") ≡ None
  pub no_word : column_of (codes " ") ≡ None
  -- choices
  pub masked : interrupts_of (codes "Masked") ≡ Some Masked
  pub open_choice : interrupts_of (codes "open") ≡ Some Open
  pub no_choice : interrupts_of (codes "on") ≡ None

-- separators of headers, and lines that give one (docs/SCENES.md)
pub record SeparatorExamples : Type 0 where
  pub comma : separator_of (codes "scene,writes\n1;2") ≡ 44
  pub semicolon : separator_of (codes "scene; writes\r\n1,2") ≡ 59
  pub tab : separator_of (codes "scene\twrites") ≡ 9
  -- quoted names, of which a comma leaves one
  pub quoted : separator_of (codes "\"scene\";\"writes\"") ≡ 59
  -- as many by each, and as many by two
  pub single : separator_of (codes "writes") ≡ 44
  pub two : separator_of (codes "scene;prg\tchr") ≡ 59
  pub given : is_sep_line (codes "sep=;\r\nscene") ≡ true
  pub capitals : is_sep_line (codes "Sep=\t\rscene") ≡ true
  -- a second byte, none, a quote, and no line end
  pub long : is_sep_line (codes "sep=;;\n") ≡ false
  pub empty : is_sep_line (codes "sep=\r\nscene") ≡ false
  pub quote : is_sep_line (codes "sep=\"\n") ≡ false
  pub unended : is_sep_line (codes "sep=;") ≡ false

-- spaces for no-break spaces (docs/SCENES.md)
pub record SpaceExamples : Type 0 where
  pub between : with_spaces (97 ∷ 0xC2 ∷ 0xA0 ∷ 98 ∷ []) ≡ codes "a  b"
  pub two : with_spaces (0xC2 ∷ 0xA0 ∷ 0xC2 ∷ 0xA0 ∷ []) ≡ codes "    "
  -- letters whose code has one of the two bytes, and the first byte alone at the end
  pub letters : with_spaces (0xC3 ∷ 0xA0 ∷ 0xC2 ∷ 0xA9 ∷ 0xC2 ∷ []) ≡ 0xC3 ∷ 0xA0 ∷ 0xC2 ∷ 0xA9 ∷ 0xC2 ∷ []
