-- `picture_table` meets its contract, entry by entry. Assumes nothing.
use mathlib.Core.Path.{◌≡◌}
use native.Mathlib.Omega.{arith}
use lib.ListN.{length}
use borrow.Author.Rules.{rules}
use Rattle.memory_pages.specs.Pages.{unmapped}
use Rattle.vrc6_slots.proofs.Spelled.{spelled}
use Rattle.vrc6_tables.proofs.picture_table.Goals as goal
use Rattle.vrc6_tables.proofs.picture_table.Goals.{Start}

eight : (c : Start) → length c.args.slots ≡ 8
eight c = search rules

four : (c : Start) → length c.args.names ≡ 4
four c = search rules

pub returns : goal.returns
returns c =
    rw (
      c.copy_from_slice.ensures.after,
      c.copy_from_slice-2.ensures.after,
      c.copy_from_slice-3.ensures.after,
      ← spelled unmapped 8 c.args.slots (eight (goal.at.returns c).Start),
      ← spelled unmapped 4 c.args.names (four (goal.at.returns c).Start),
    )

-- the table is still as long as it was
pub slice_bounds-pages-end-3 : goal.slice_bounds-pages-end-3
slice_bounds-pages-end-3 c =
    rw (
      c.copy_from_slice.ensures.after,
      c.copy_from_slice-2.ensures.after,
      ← spelled unmapped 8 c.args.slots (eight (goal.at.slice_bounds-pages-end-3 c).Start),
      ← spelled unmapped 4 c.args.names (four (goal.at.slice_bounds-pages-end-3 c).Start),
    )
    (omega arith)
