-- `play` meets its contract. Assumes nothing.
use Rattle.vrc6.specs.Boards.{held_by}
use Rattle.scene_board.proofs.After.{Left}
use Rattle.scene_board.proofs.play.Given as goal

abbrev pub invariant-loop-step : goal.invariant-loop-step
invariant-loop-step l = Left l.steps (held_by l.initial.board l.fixed l.initial.changing) (held_by l.board l.fixed l.changing) l.step-index
