-- A cell that was read, as its content. Assumes nothing.
use Rattle.scene_cells.specs.Cells.{Content}
use Rattle.scene_cells.specs.declared.Cell.{Cell}

-- what a cell holds (RFC 4180)
abbrev pub content : Cell → Content
content cell = record {
  bytes = cell.bytes.now;
  rest = cell.rest.now;
  quoted = cell.quoted;
  last = cell.last;
  wrong = cell.wrong;
}
