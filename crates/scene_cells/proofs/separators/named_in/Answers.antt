-- `named_in` meets its contract. Assumes nothing.
use Rattle.std.proofs.Common.{arith, ap, length, inl}
use Rattle.scene_cells.specs.Rows.{cells_left}
use Rattle.scene_cells.proofs.Walking.{few}
use Rattle.scene_cells.proofs.separators.named_in.Goals as goal

pub count-requires-clause-fits : goal.count-requires-clause-fits
count-requires-clause-fits c =
    let same = ap (λ s. length (cells_left s.separator s.row)) c.filter.ensures.source in
    inl (omega (arith, same, ap length c.new.ensures, few c.args.separator c.args.row.now))
