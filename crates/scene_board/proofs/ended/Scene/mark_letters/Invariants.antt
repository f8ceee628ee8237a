-- `mark_letters` meets its contract. Assumes nothing.
use Rattle.std.proofs.Common.{length}
use Rattle.vrc6.specs.Boards.{held_by}
use Rattle.scene_board.proofs.Marking.{Upto}
use Rattle.scene_board.proofs.ended.Scene.mark_letters.Given as goal

abbrev pub invariant-loop-mark : goal.invariant-loop-mark
invariant-loop-mark l =
    Upto l.self.layout (held_by l.initial.board l.self.fixed.now l.initial.changing) l.self.menu.now l.asked (length l.initial.marks) l.marks
    (held_by l.board l.self.fixed.now l.changing) l.mark-index l.rest
