-- The counter at a moment, what a handler's steps do to it, and when the interrupt comes (docs/SCENES.md). Assumes nothing.
use Rattle.std.specs.Prelude.{Option, Some, None, option_map, ℕ, ◌+◌, ◌%◌, ◌^◌, max, Bool, true, false, cond, List, [], ◌∷◌, fold, nat_le}
use Rattle.registers.specs.declared.Register.TheVariants.{OfBank, OfAudio, OfIrq}
use Rattle.registers.specs.declared.IrqRegister.TheVariants.{Reload, Control, Acknowledge}
use Rattle.registers.specs.Decode.{Decoded, decode}
use Rattle.irq.specs.declared.VrcIrq.{VrcIrq}
use Rattle.irq.specs.Interrupt.{irq_zero}
use Rattle.irq.specs.Timing.{line_step, line_length, forecast_answer}
use Rattle.irq.specs.Writes.{irq_written_to}
use Rattle.irq_clocks.specs.Clocks.{irq_clocked_times}
use Rattle.scene_steps.specs.declared.step.Step.{Step}
use Rattle.scene_steps.specs.declared.step.Step.TheVariants.{Write, Clocks, Reset}
use Rattle.scene_moments.specs.declared.moment.Moment.{Moment}
use Rattle.scene_moments.specs.declared.moment.Moment.TheVariants.{Waiting, Pending, Cleared}
use Rattle.scene_moments.specs.declared.moment.Came.{Came}
use Rattle.scene_moments.specs.declared.moment.Came.TheVariants.{Never, On, Held, Lost}

-- the clocks that a forecast means, none for never: one where it says 0, by irq_clocks' `ShortForecastLaw`
abbrev pub due_from : Option ℕ → Option ℕ
due_from f = option_map (λ n. max n 1) f

-- the clocks until a counter's interrupt; `ClocksDueLaw` of scene_laws says that they are the least
abbrev pub clocks_due : VrcIrq → Option ℕ
clocks_due q = due_from (forecast_answer q)

-- clocks are counted in 32 bits; a sheet's menu has too few steps to fill them
abbrev pub added : (clock n : ℕ) → ℕ
added clock n = (clock + n) % 2 ^ 32

-- the interrupt is due within n clocks
abbrev pub due_within : (n : ℕ) → (due : Option ℕ) → Bool
due_within n None = false
due_within n (Some d) = nat_le d n

-- n clocks go by with no interrupt
abbrev pub gone_by : (n : ℕ) → VrcIrq → (clock : ℕ) → Moment
gone_by n q clock = Waiting (irq_clocked_times line_step line_length n q) (added clock n)

-- n clocks that a handler waits where the interrupt is due so: it comes in the midst of them, or they all go by
abbrev pub waited_for : (due : Option ℕ) (n : ℕ) → VrcIrq → (clock : ℕ) → Moment
waited_for None n q clock = gone_by n q clock
waited_for (Some d) n q clock = cond (nat_le d n) (Pending (added clock d) (added clock n)) (gone_by n q clock)

-- n clocks that a handler waits
abbrev pub waited : (n : ℕ) → VrcIrq → (clock : ℕ) → Moment
waited n q clock = waited_for (clocks_due q) n q clock

-- a step before the interrupt: a write reaches the counter's register or leaves it alone, a reset clears it
abbrev pub step_taken : (revision_b : Bool) → Step → VrcIrq → (clock : ℕ) → Moment
step_taken b (Write a v) q clock = Waiting (irq_written_to (decode b a) v q) clock
step_taken b (Clocks n) q clock = waited n q clock
step_taken b Reset q clock = Waiting irq_zero clock

-- the registers that clear pending (01, Interrupt 1; VRC IRQ)
abbrev pub clears : Decoded → Bool
clears None = false
clears (Some (OfBank r)) = false
clears (Some (OfAudio r)) = false
clears (Some (OfIrq Reload)) = false
clears (Some (OfIrq Control)) = true
clears (Some (OfIrq Acknowledge)) = true

-- a step while the interrupt is pending: control, acknowledge and reset clear it, and clocks go by
abbrev pub step_pending : (revision_b : Bool) → Step → (set clock : ℕ) → Moment
step_pending b (Write a v) set clock = cond (clears (decode b a)) (Cleared set clock) (Pending set clock)
step_pending b (Clocks n) set clock = Pending set (added clock n)
step_pending b Reset set clock = Cleared set clock

-- a step of a handler; one that is lost stays lost
abbrev pub stepped : (revision_b : Bool) → Step → Moment → Moment
stepped b s (Waiting q clock) = step_taken b s q clock
stepped b s (Pending set clock) = step_pending b s set clock
stepped b s (Cleared set clock) = Cleared set clock

-- a handler's steps
abbrev pub menu_played : (revision_b : Bool) → List Step → Moment → Moment
menu_played b steps m = fold (λ x s. stepped b s x) m steps

-- the interrupt's clock if it is due after so many
abbrev pub coming_in : (clock : ℕ) → (due : Option ℕ) → Came
coming_in clock None = Never
coming_in clock (Some d) = On (added clock d)

-- the interrupt's clock, if nothing else happens; of one that came inside the handler, the clocks on which it was set and on which the handler
-- ends, or cleared it
abbrev pub ended : Moment → Came
ended (Waiting q clock) = coming_in clock (clocks_due q)
ended (Pending set clock) = Held set clock
ended (Cleared set clock) = Lost set clock

-- the interrupt's clock, if a handler of these steps runs at a moment
abbrev pub came : (revision_b : Bool) → List Step → Moment → Came
came b steps m = ended (menu_played b steps m)

-- the interrupt has come
abbrev pub has_come : Moment → Bool
has_come (Waiting q clock) = false
has_come (Pending set clock) = true
has_come (Cleared set clock) = true

-- the step in whose clocks the interrupt comes, counted on from i; none where it comes in none
abbrev pub came_in : (revision_b : Bool) → List Step → Moment → (i : ℕ) → Option ℕ
came_in b [] m i = None
came_in b (s ∷ steps) m i = cond (has_come (stepped b s m)) (Some i) (came_in b steps (stepped b s m) (i + 1))

-- the interrupt's clock, if no handler runs; one that is pending already came at clock 0
abbrev pub came_alone : VrcIrq → Came
came_alone q = cond q.irq_pending (On 0) (ended (Waiting q 0))
