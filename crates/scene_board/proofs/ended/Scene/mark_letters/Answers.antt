-- `mark_letters` meets its contract. Assumes nothing.
use Rattle.std.proofs.Common.{arith}
use Rattle.std.proofs.lemmas.List.{take_rest}
use Rattle.scene_board.proofs.Marking.{ended, put}
use Rattle.scene_board.proofs.ended.Scene.mark_letters.Goals as goal

pub returns-in_default : goal.returns-in_default
returns-in_default c = ended _ _ _ _ _ _ _ _ _ c.loop-mark.invariant c.in_default.len_below _ c.write.ensures.board

pub loop-mark-preserved : goal.loop-mark-preserved
loop-mark-preserved c =
    put _ _ _ _ _ _ _ _ _ _ _ _ c.loop-mark.invariant c.in-len1-up.len_at_least (omega arith) c.play_step-board.ensures (take_rest c.loop-mark.rest.now 1) _
    c.wrong_letters.ensures
