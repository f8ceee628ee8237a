-- What a cell of a sheet is, for the text from the cell's start on (RFC 4180). Assumes nothing.
use Rattle.std.specs.Prelude.{Bool, true, false, cond, ◌&&◌, ◌||◌, List, [], ◌∷◌, ℕ, eqb, length, drop, get_or, Option, Some, None}
use Rattle.text_words.specs.Words.{from_taken}
use Rattle.scene_cells.specs.declared.CellFault.{CellFault}
use Rattle.scene_cells.specs.declared.CellFault.TheVariants.{Unclosed, BehindQuote}
use Rattle.scene_cells.specs.Marks.{before}

-- a line feed or a carriage return (ASCII)
abbrev pub is_line_end : ℕ → Bool
is_line_end b = eqb b 10 || eqb b 13

-- a separator, a line feed or a carriage return (RFC 4180)
abbrev pub is_break : (separator : ℕ) → ℕ → Bool
is_break separator b = eqb b separator || is_line_end b

-- a text from its first separator or line end on (RFC 4180)
abbrev pub from_break : (separator : ℕ) → List ℕ → List ℕ
from_break separator s = from_taken (is_break separator) s

-- a row's end: the text's, a line feed or a carriage return (docs/SCENES.md)
abbrev pub ends_row : List ℕ → Bool
ends_row [] = true
ends_row (b ∷ bs) = is_line_end b

-- how many bytes end a cell: two for CR LF, otherwise one (RFC 4180)
abbrev pub break_length : List ℕ → ℕ
break_length s = cond (eqb (get_or s 0 0) 13 && eqb (get_or s 1 0) 10) 2 1

-- a text behind the separator or line end that it begins with (RFC 4180)
abbrev pub behind_break : List ℕ → List ℕ
behind_break s = drop (break_length s) s

-- a text from the quote on that closes a cell; nothing where none does. A doubled quote is passed (RFC 4180)
abbrev pub from_quote : List ℕ → List ℕ
from_quote [] = []
from_quote (a ∷ []) = cond (eqb a 34) (a ∷ []) []
from_quote (a ∷ b ∷ bs) = cond (eqb a 34) (cond (eqb b 34) (from_quote bs) (a ∷ b ∷ bs)) (from_quote (b ∷ bs))

-- a cell's bytes, the text behind it, whether it is in quotes and its row's last, and what is wrong with it (RFC 4180)
pub record Content : Type 0 where
  pub bytes : List ℕ
  pub rest : List ℕ
  pub quoted : Bool
  pub last : Bool
  pub wrong : Option CellFault

-- a plain cell that ends where the text is `stop` (RFC 4180)
abbrev pub plain_to : (text stop : List ℕ) → Content
plain_to text stop = record { bytes = before text stop; rest = behind_break stop; quoted = false; last = ends_row stop; wrong = None }

-- a cell without quotes (RFC 4180)
unfoldable pub plain_cell : (separator : ℕ) → List ℕ → Content
plain_cell separator text = plain_to text (from_break separator text)

-- what is wrong with so many bytes behind the closing quote: that there are any (RFC 4180)
abbrev pub wrong_behind : (count : ℕ) → Option CellFault
wrong_behind count = cond (eqb count 0) None (Some BehindQuote)

-- a cell in quotes with the text behind its closing quote, up to where that is `stop` (RFC 4180)
abbrev pub closed_to : (bytes text stop : List ℕ) → Content
closed_to bytes text stop = record {
  bytes = bytes;
  rest = behind_break stop;
  quoted = true;
  last = ends_row stop;
  wrong = wrong_behind (length (before text stop));
}

-- a cell in quotes that are closed where the text is `close` (RFC 4180)
abbrev pub quoted_to : (separator : ℕ) → (text close : List ℕ) → Content
quoted_to separator text [] = record { bytes = text; rest = []; quoted = true; last = true; wrong = Some Unclosed }
quoted_to separator text (q ∷ behind) = closed_to (before text (q ∷ behind)) behind (from_break separator behind)

-- a cell in quotes, for the text behind the first of them (RFC 4180)
unfoldable pub quoted_cell : (separator : ℕ) → List ℕ → Content
quoted_cell separator text = quoted_to separator text (from_quote text)

-- a cell (RFC 4180)
abbrev pub cell_of : (separator : ℕ) → List ℕ → Content
cell_of separator [] = plain_cell separator []
cell_of separator (b ∷ bs) = cond (eqb b 34) (quoted_cell separator bs) (plain_cell separator (b ∷ bs))
