-- What a list leaves, where no call is refused: each call's own effect, one after the other. Assumes nothing.
use Rattle.std.specs.Prelude.{◌≡◌, List, [], ◌∷◌}
use Rattle.base_steps.specs.Times.{times}
use Rattle.vrc6_calls.specs.declared.Call.{Call}
use Rattle.vrc6.specs.Boards.{State, held_by, Creation, new_board}
use Rattle.vrc6.specs.Calls.{create, cpu_written, picture_written, clocked, was_reset}
use Rattle.vrc6_calls.specs.Lists.{after}
use Rattle.vrc6_ledger.specs.Ledger.{Event, cpu_writes, picture_writes, clocks, resets, looks, event}
use Rattle.vrc6_ledger.specs.Demand3.{start}

-- board and buffers after a call that is not refused: only writes, clocks and resets have an effect (01, The board's calls 1)
abbrev pub done : State → Event → State
done x (cpu_writes a v) = cpu_written x a v
done x (picture_writes a v) = picture_written x a v
done x (clocks n) = held_by (times n clocked x.board) x.fixed x.changing
done x resets = held_by (was_reset x.board) x.fixed x.changing
done x looks = x

-- board and buffers after a list of such calls
abbrev pub played : State → List Call → State
played x [] = x
played x (k ∷ ks) = played (done x (event k)) ks

-- the new board with the buffers lent at creation
abbrev pub fresh : Creation → State
fresh c = held_by (new_board c.layout c.settings) c.fixed c.changing

-- of every accepted creation and every list: what the calls leave is what they do, since none is refused
abbrev pub PlayedLaw : Type 0
PlayedLaw = (c : Creation) → (create c).refusal ≡ 0 → (ks : List Call) → after (start c) ks ≡ played (fresh c) ks
