-- `blank_spaces` meets its contract. Assumes nothing.
use Rattle.std.proofs.Common.{◌+◌, arith, ap, sym, ◌∙◌}
use Rattle.scene_cells.proofs.Spacing.{done_to, finished, kept, spaced}
use Rattle.scene_cells.proofs.spaces.blank_spaces.Goals as goal
use Rattle.scene_cells.proofs.spaces.blank_spaces.Goals.{then-text-i, else-text-i}

pub loop-i-preserved : goal.loop-i-preserved
loop-i-preserved c =
    let i = c.loop-i.i in
    elim c.if-text-i.branch [
      | then-text-i w ↦ ap (done_to (i + 1)) w.text-is ∙ spaced c.loop-i.text i (omega arith) w.if-text-i.true ∙ c.loop-i.invariant
      | else-text-i w ↦ ap (done_to (i + 1)) w.text-is ∙ kept c.loop-i.text i (omega arith) w.if-text-i.false ∙ c.loop-i.invariant
    ]

pub returns : goal.returns
returns c = sym (finished c.loop-i.text c.loop-i.i (omega arith)) ∙ c.loop-i.invariant
