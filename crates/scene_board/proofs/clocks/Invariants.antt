-- `clocks` meets its contract. Assumes nothing.
use Rattle.vrc6.specs.Boards.{held_by}
use Rattle.vrc6_calls.specs.declared.Call.TheVariants.{Clock}
use Rattle.scene_board.proofs.After.{Times}
use Rattle.scene_board.proofs.clocks.Given as goal

abbrev pub invariant-loop : goal.invariant-loop
invariant-loop l = Times Clock (held_by l.initial.board l.fixed l.initial.changing) (held_by l.board l.fixed l.changing) l.counter
