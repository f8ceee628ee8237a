-- What the sweep's numbers mean for the counter and the board. `proofs/` proves it. Assumes nothing.
use Rattle.std.specs.Prelude.{◌≡◌, Some, None, true, false, List, ◌↔◌, ℕ, ◌+◌, ◌^◌, ◌≤◌, ◌<◌}
use Rattle.base_shared.specs.Lists.{Each}
use Rattle.irq.specs.declared.VrcIrq.{VrcIrq}
use Rattle.irq.specs.Timing.{line_step, line_length}
use Rattle.irq_clocks.specs.Clocks.{LeastClocks}
use Rattle.vrc6_calls.specs.declared.Call.{Call}
use Rattle.vrc6.specs.Boards.{State, Creation}
use Rattle.vrc6.specs.Calls.{create}
use Rattle.vrc6_calls.specs.Lists.{given, refusal_in, next, after}
use Rattle.vrc6_ledger.specs.Ledger.{event}
use Rattle.vrc6_ledger.specs.Demand3.{weight, clock_count, start, stretch_ticks}
use Rattle.scene_steps.specs.declared.step.Step.{Step}
use Rattle.scene_board.specs.Played.{calls_of}
use Rattle.scene_laws.specs.Counter.{counter_after}
use Rattle.scene_moments.specs.Lines.{line_of, screen_from}
use Rattle.scene_moments.specs.Moments.{clocks_due}
use Rattle.scene_laws.specs.Rises.{ByteStep, HeldFound, LossFound, OfByte, Waits, RiseFound, calls_around, calls_up_to, came_at, loss_in, rises_at}

-- ---- the counter alone
-- the clocks due of a counter
pub record Due (q : VrcIrq) : Type 0 where
  -- enabled: the least number of clocks of which the last sets pending, also where the forecast says 0
  pub least : (d : ℕ) → clocks_due q ≡ Some d → LeastClocks line_step line_length q d
  -- none where it is not enabled, and only there
  pub never : (clocks_due q ≡ None) ↔ (q.enabled ≡ false)

-- the same for every counter that is a byte
abbrev pub ClocksDueLaw : Type 0
ClocksDueLaw = (q : VrcIrq) → q.counter ≤ 255 → Due q

-- where no dot is given, the line of a clock is the count of ticks that a stretch of so many clocks reports, in demand 3's formula (00, 3)
abbrev pub LineLaw : Type 0
LineLaw = (line c p : ℕ) → 1 ≤ p → p ≤ 341 → line_of (screen_from line p) c ≡ line + stretch_ticks c p

-- ---- the counter on the board
-- a call's next counter comes from the counter, the revision and the call alone, and the revision stays
pub record Counted (x : State) (k : Call) : Type 0 where
  pub counter : (next x k).board.irq ≡ counter_after x.board.banking.revision_b k x.board.irq
  pub revision : (next x k).board.banking.revision_b ≡ x.board.banking.revision_b

-- of every board and buffers and every call that they do not refuse
abbrev pub CounterLaw : Type 0
CounterLaw = (x : State) (k : Call) → refusal_in (given x k) ≡ 0 → Counted x k

-- only a call that clocks sets pending
abbrev pub RiseLaw : Type 0
RiseLaw =
    (x : State) (k : Call) → refusal_in (given x k) ≡ 0 → x.board.irq.irq_pending ≡ false → (next x k).board.irq.irq_pending ≡ true
    → 1 ≤ weight (event k)

-- and no call of a run is more than one clock, so the call that sets it is the clock that sets it
abbrev pub SingleLaw : Type 0
SingleLaw = (k : ℕ) (steps : List Step) (m : ℕ) → Each (λ (c : Call). weight (event c) ≤ 1) (calls_around k steps m)

-- ---- the sweep on the board
-- a board x with pending clear and no interrupt due within k clocks: if after k clocks the handler runs, and then m clocks, pending is
-- first set by the clock that the sweep reports, and by none if it reports none
abbrev pub Comes : (x : State) (k : ℕ) (steps : List Step) (m : ℕ) → Type 0
Comes x k steps m =
    RiseFound (came_at x.board.banking.revision_b x.board.irq k steps) (clock_count (calls_around k steps m)) (rises_at x (calls_around k steps m) 0)

-- and if the handler clears it, then by the call and on the clock that the sweep reports; else no call of the handler does
abbrev pub Loses : (x : State) (k : ℕ) (steps : List Step) → Type 0
Loses x k steps = LossFound (came_at x.board.banking.revision_b x.board.irq k steps) (loss_in x (calls_up_to k steps) 0)

-- all three
pub record CameOn (x : State) (k : ℕ) (steps : List Step) (m : ℕ) : Type 0 where
  pub comes : Comes x k steps m
  pub loses : Loses x k steps
  -- one that is held is pending up to the handler's last call
  pub held : HeldFound (came_at x.board.banking.revision_b x.board.irq k steps) (clock_count (calls_up_to k steps))

-- of every accepted creation, every list of calls before, every handler that writes bytes and every number of clocks behind it; clocks are counted in 32
-- bits, and the last bound leaves room for the longest wait of the counter
abbrev pub CameLaw : Type 0
CameLaw =
    (c : Creation) → (create c).refusal ≡ 0 → (ws : List Call) → Each OfByte ws → (k : ℕ) → Waits (after (start c) ws).board.irq k
    → (steps : List Step) → Each ByteStep steps → k + clock_count (calls_of steps) + 100_000 < 2 ^ 32 → (m : ℕ) → CameOn (after (start c) ws) k steps m
