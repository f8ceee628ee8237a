-- The names of columns, and the examples, computed. Each is an equation of its own, so no lemma serves two. Assumes nothing.
use mathlib.Core.Path.{refl}
use Rattle.text_words.specs.Names.{place_in}
use Rattle.scene_cells.specs.declared.columns.Column.TheVariants.{Scene, Prg, Chr, Revision, Mirroring, Writes, Window, Letters, Menu, File, At, Interrupts}
use Rattle.scene_cells.specs.Cells.{plain_cell, quoted_cell}
use Rattle.scene_cells.specs.Laws.{CellExamples, ColumnLaw, SeparatorExamples, SpaceExamples}
use Rattle.scene_cells.specs.Rows.{cells_of}

pub column_law : ColumnLaw
column_law Scene = refl
column_law Prg = refl
column_law Chr = refl
column_law Revision = refl
column_law Mirroring = refl
column_law Writes = refl
column_law Window = refl
column_law Letters = refl
column_law Menu = refl
column_law File = refl
column_law At = refl
column_law Interrupts = refl

pub examples : CellExamples
unfolding plain_cell quoted_cell place_in
examples =
    record {
      plain = refl;
      semicolon = refl;
      tab = refl;
      line_feed = refl;
      row_end = refl;
      return_alone = refl;
      two_rows = refl;
      quoted_row_end = refl;
      unclosed = refl;
      behind_quote = refl;
      column = refl;
      blanks = refl;
      last_column = refl;
      no_column = refl;
      two_words = refl;
      no_word = refl;
      masked = refl;
      open_choice = refl;
      no_choice = refl;
    }

pub separator_examples : SeparatorExamples
unfolding plain_cell quoted_cell cells_of
separator_examples =
    record {
      comma = refl;
      semicolon = refl;
      tab = refl;
      quoted = refl;
      single = refl;
      two = refl;
      given = refl;
      capitals = refl;
      long = refl;
      empty = refl;
      quote = refl;
      unended = refl;
    }

pub space_examples : SpaceExamples
space_examples = record { between = refl; two = refl; letters = refl }
