-- `find_column` meets its contract. Assumes nothing.
use Rattle.std.proofs.Common.{arith, ap, length, inl, rules}
use borrow.Author.Tests.{tests}
use Rattle.std.proofs.lemmas.Iterator.{IsFirst-from_position}
use Rattle.std.proofs.lemmas.Iterator.Consumers.{YieldsList-from_first}
use Rattle.scene_cells.specs.Contents.{content}
use Rattle.scene_cells.specs.Rows.{cells_left}
use Rattle.scene_cells.proofs.Walking.{Named, Unnamed, few, found_in}
use Rattle.scene_cells.proofs.lookup.find_column.Goals as goal

pub position-requires-clause-fits : goal.position-requires-clause-fits
position-requires-clause-fits c = inl (omega (arith, ap length c.new.ensures, few c.args.separator c.args.row.now))

pub returns : goal.returns
returns c =
    let s = c.args.separator in
    let k = c.args.column in
    let h = c.args.row.now in
    found_in s k h c.position.result
    (IsFirst-from_position c.position.new.self _ c.position.result (Named s k h) (Unnamed s k h) c.position.ensures.ran
    (YieldsList-from_first content (λ s. cells_left s.separator s.row) _ c.new.ensures)
    (λ x q e. search (rules, tests))
    (λ x q e. search (rules, tests)))
