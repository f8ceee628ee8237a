-- What slots show when the interrupt comes inside the menu. `proofs/` proves it. Assumes nothing.
use Rattle.std.specs.Prelude.{◌≡◌, Option, Some, Bool, true, false, cond, List, [], ◌∷◌, ℕ, suc, ◌+◌, ◌^◌, ◌≤◌, ◌<◌, take}
use Rattle.std.proofs.Math.Option.{some}
use Rattle.base_shared.specs.Lists.{Each}
use Rattle.irq.specs.Timing.{line_step, line_length}
use Rattle.irq_clocks.specs.Clocks.{irq_clocked_times}
use Rattle.memory_tables.specs.Paging.{Side}
use Rattle.vrc6_calls.specs.declared.Call.{Call}
use Rattle.vrc6.specs.Boards.{State, Creation, table}
use Rattle.vrc6.specs.Calls.{create}
use Rattle.vrc6_calls.specs.Lists.{after}
use Rattle.vrc6_ledger.specs.Ledger.{Event, cpu_writes, picture_writes, clocks, resets, looks, event}
use Rattle.vrc6_ledger.specs.Demand3.{clock_count, start}
use Rattle.scene_steps.specs.declared.step.Step.{Step}
use Rattle.scene_moments.specs.declared.moment.Moment.TheVariants.{Waiting}
use Rattle.scene_board.specs.Played.{calls_of}
use Rattle.scene_moments.specs.Moments.{came_in}
use Rattle.scene_laws.specs.Rises.{ByteStep, OfByte, Waits, calls_around, rises_at}

-- a call that clocks
abbrev pub is_clock : Event → Bool
is_clock (cpu_writes a v) = false
is_clock (picture_writes a v) = false
is_clock (clocks n) = true
is_clock resets = false
is_clock looks = false

-- a list of calls without those that clock
abbrev pub unclocked : List Call → List Call
unclocked [] = []
unclocked (k ∷ ks) = cond (is_clock (event k)) (unclocked ks) (k ∷ unclocked ks)

-- of every accepted creation and every list of calls: the page entries of both sides are those that the same calls leave without the clocks
-- among them. So letters behind the menu and inside it are the same at every clock at which the menu may run (docs/SCENES.md)
abbrev pub SlotsLaw : Type 0
SlotsLaw =
    (c : Creation) → (create c).refusal ≡ 0 → (ks : List Call) (s : Side)
    → table s (after (start c) ks).board ≡ table s (after (start c) (unclocked ks)).board

-- the step of a handler that `came_in` names, if it names one and the handler runs k clocks after the board stood so
abbrev pub step_on : State → (k : ℕ) → List Step → Option ℕ
step_on x k steps = came_in x.board.banking.revision_b steps (Waiting (irq_clocked_times line_step line_length k x.board.irq) k) 0

-- clock t lies in step i of a handler that runs at clock k: behind the clocks of the steps before it, and not behind its own
pub record InStep (k : ℕ) (steps : List Step) (i t : ℕ) : Type 0 where
  pub behind : k + clock_count (calls_of (take i steps)) < t
  pub within : t ≤ k + clock_count (calls_of (take (suc i) steps))

-- of every accepted creation, every list of calls before, every handler that writes bytes and every k up to the interrupt: if `came_in` names a step of the
-- handler, the clock that sets pending on the board lies in that step. So the calls before it are those of the steps before it, and clocks
abbrev pub StepLaw : Type 0
StepLaw =
    (c : Creation) → (create c).refusal ≡ 0 → (ws : List Call) → Each OfByte ws → (x : State) → x ≡ after (start c) ws → (k : ℕ)
    → Waits x.board.irq k → (steps : List Step) → Each ByteStep steps → k + clock_count (calls_of steps) + 100_000 < 2 ^ 32 → (i : ℕ) → step_on x k steps ≡ Some i
    → (t : ℕ) → rises_at x (calls_around k steps 0) 0 ≡ some t → InStep k steps i t
