-- The calls of a run in which a handler is played, the clock after which the interrupt is pending, and the one on which the handler clears it
-- (docs/SCENES.md). Assumes nothing.
use Rattle.std.specs.Prelude.{◌≡◌, Bool, false, cond, List, [], ◌∷◌, ◌++◌, ℕ, ◌+◌, ◌≤◌, ◌<◌, replicate}
use Rattle.std.proofs.Math.Option.{Option, none, some}
use Rattle.irq.specs.declared.VrcIrq.{VrcIrq}
use Rattle.irq.specs.Timing.{line_step, line_length}
use Rattle.irq_clocks.specs.Clocks.{irq_clocked_times}
use Rattle.vrc6_calls.specs.declared.Call.{Call}
use Rattle.vrc6_calls.specs.declared.Call.TheVariants.{Clock}
use Rattle.vrc6.specs.Boards.{State}
use Rattle.vrc6_calls.specs.Lists.{next}
use Rattle.vrc6_ledger.specs.Ledger.{Event, cpu_writes, picture_writes, clocks, resets, looks, event}
use Rattle.vrc6_ledger.specs.Demand3.{weight}
use Rattle.scene_steps.specs.declared.step.Step.{Step}
use Rattle.scene_steps.specs.declared.step.Step.TheVariants.{Write, Clocks, Reset}
use Rattle.scene_moments.specs.declared.moment.Moment.TheVariants.{Waiting}
use Rattle.scene_board.specs.Played.{calls_of}
use Rattle.scene_moments.specs.declared.moment.Came.{Came}
use Rattle.scene_moments.specs.declared.moment.Came.TheVariants.{Never, On, Held, Lost}
use Rattle.scene_moments.specs.Moments.{came, clocks_due, due_within}

-- ---- the calls
-- the calls of k clocks, then a handler, then m clocks
abbrev pub calls_around : (k : ℕ) → List Step → (m : ℕ) → List Call
calls_around k steps m = replicate k Clock ++ (calls_of steps ++ replicate m Clock)

-- the calls of k clocks, then a handler
abbrev pub calls_up_to : (k : ℕ) → List Step → List Call
calls_up_to k steps = replicate k Clock ++ calls_of steps

-- an event whose byte for a register is a byte
abbrev pub ByteEvent : Event → Type 0
ByteEvent (cpu_writes a v) = v ≤ 255
ByteEvent (picture_writes a v) = Unit {0}
ByteEvent (clocks n) = Unit {0}
ByteEvent resets = Unit {0}
ByteEvent looks = Unit {0}

-- a call whose byte for a register is a byte
abbrev pub OfByte : Call → Type 0
OfByte k = ByteEvent (event k)

-- a step of a handler that writes a byte, as each does
abbrev pub ByteStep : Step → Type 0
ByteStep (Write a v) = v ≤ 255
ByteStep (Clocks n) = Unit {0}
ByteStep Reset = Unit {0}

-- ---- on the board
-- the first call after which pending is set: how many clocks there are up to and with it, counted on from n
abbrev pub rises_at : State → List Call → (n : ℕ) → Option ℕ
rises_at x [] n = none
rises_at x (k ∷ ks) n =
    cond (next x k).board.irq.irq_pending (some (n + weight (event k))) (rises_at (next x k) ks (n + weight (event k)))

-- the clocks on which an interrupt was set and cleared
pub record Loss : Type 0 where
  pub set : ℕ
  pub cleared : ℕ

-- the first call after which an interrupt that was set on clock s is clear; clocks are counted on from n
abbrev pub cleared_at : State → List Call → (s n : ℕ) → Option Loss
cleared_at x [] s n = none
cleared_at x (k ∷ ks) s n =
    cond (next x k).board.irq.irq_pending (cleared_at (next x k) ks s (n + weight (event k))) (some (record { set = s; cleared = n + weight (event k) }))

-- the first interrupt of a list of calls, if one of the calls behind it clears it
abbrev pub loss_in : State → List Call → (n : ℕ) → Option Loss
loss_in x [] n = none
loss_in x (k ∷ ks) n =
    cond (next x k).board.irq.irq_pending (cleared_at (next x k) ks (n + weight (event k)) (n + weight (event k)))
    (loss_in (next x k) ks (n + weight (event k)))

-- ---- by the counter
-- pending is clear, and no interrupt is due within k clocks
pub record Waits (q : VrcIrq) (k : ℕ) : Type 0 where
  pub clear : q.irq_pending ≡ false
  pub not_yet : due_within k (clocks_due q) ≡ false

-- what `came_after` says of a handler that runs k clocks after the counter stood so
abbrev pub came_at : (revision_b : Bool) → VrcIrq → (k : ℕ) → List Step → Came
came_at b q k steps = came b steps (Waiting (irq_clocked_times line_step line_length k q) k)

-- what a run of n clocks finds where the interrupt comes so: its clock, if the run gets that far
abbrev pub RiseFound : Came → (n : ℕ) → Option ℕ → Type 0
RiseFound Never n r = r ≡ none
RiseFound (On t) n r = (t ≤ n → r ≡ some t) × (n < t → r ≡ none)
RiseFound (Held t e) n r = (t ≤ n → r ≡ some t) × (n < t → r ≡ none)
RiseFound (Lost t c) n r = (t ≤ n → r ≡ some t) × (n < t → r ≡ none)

-- what k clocks and the handler find where the interrupt comes so: it is lost, or no call of the handler clears it
abbrev pub LossFound : Came → Option Loss → Type 0
LossFound Never r = r ≡ none
LossFound (On t) r = r ≡ none
LossFound (Held t e) r = r ≡ none
LossFound (Lost t c) r = r ≡ some (record { set = t; cleared = c })

-- where the interrupt comes so, and k clocks and the handler are n clocks: one that is held is pending up to the handler's end
abbrev pub HeldFound : Came → (n : ℕ) → Type 0
HeldFound Never n = Unit {0}
HeldFound (On t) n = Unit {0}
HeldFound (Held t e) n = e ≡ n
HeldFound (Lost t c) n = Unit {0}
