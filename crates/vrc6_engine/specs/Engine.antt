-- Interrupt and sound alone, which the board is put around: what a call checks of them, and what clock, reset, level and forecast give
-- (01, The board's calls). Assumes nothing.
use Rattle.std.specs.Prelude.{ℕ, Bool, cond, ◌&&◌, [], ◌∷◌, Option, Result, Ok, Err}
use Rattle.base_shared.specs.declared.Refusal.{Refusal}
use Rattle.base_shared.specs.declared.Refusal.TheVariants.{Range}
use Rattle.base_shared.specs.Refusals.{first_failing}
use Rattle.irq.specs.declared.VrcIrq.{VrcIrq}
use Rattle.irq.specs.Interrupt.{irq_zero}
use Rattle.irq.specs.Timing.{irq_held, clock_answer, forecast_answer}
use Rattle.audio.specs.declared.Audio.{Audio}
use Rattle.audio.specs.Ranges.{audio_in_range}
use Rattle.audio.specs.declared.Level.{Level}
use Rattle.audio.specs.declared.Level.TheVariants.{Refused}
use Rattle.audio.specs.Sound.{audio_clocked, audio_reset, with_timers}
use Rattle.audio.specs.Levels.{level_of}
use Rattle.vrc6_engine.specs.declared.Engine.{Engine}
use Rattle.vrc6_engine.specs.declared.EngineClocked.{EngineClocked}

-- interrupt and sound values are in range (01, The board's calls 4)
abbrev pub engine_ok : VrcIrq → Audio → Bool
engine_ok q a = irq_held q && audio_in_range a

-- the refusal of a call that checks interrupt and sound only (01, The board's calls 4)
abbrev pub engine_number : VrcIrq → Audio → ℕ
engine_number q a = first_failing ((engine_ok q a, 3) ∷ [])

-- what such a call gives where its values are in range, and otherwise its refusal (01, The board's calls 3)
abbrev pub where_ok : {A : Type 0} → VrcIrq → Audio → A → Result A Refusal
where_ok q a done = cond (engine_ok q a) (Ok done) (Err Range)

-- interrupt and sound after a clock that is not refused: interrupt, then sound (01, The board's calls 1)
abbrev pub engine_clocked : VrcIrq → Audio → EngineClocked
engine_clocked q a =
    record { engine = record { irq = (clock_answer q).irq; audio = audio_clocked a }; ticked = (clock_answer q).ticked }

-- a clock's answer (01, The board's calls 1; 01, The board's calls 3)
abbrev pub engine_clock : VrcIrq → Audio → Result EngineClocked Refusal
engine_clock q a = where_ok q a (engine_clocked q a)

-- a clock that moves of the sound the timers only, to these
abbrev pub only_timers : VrcIrq → Audio → (timer1 timer2 timer3 : ℕ) → EngineClocked
only_timers q a t u v =
    record { engine = record { irq = (clock_answer q).irq; audio = with_timers a t u v }; ticked = (clock_answer q).ticked }

-- interrupt and sound after a reset that is not refused, soft or hard: the interrupt cleared, of the sound halt only (01, Interrupt 1; 01, Sound 1)
abbrev pub engine_was_reset : Audio → Engine
engine_was_reset a = record { irq = irq_zero; audio = audio_reset a }

-- a reset's answer (01, The board's calls 1; 01, The board's calls 3)
abbrev pub engine_reset : VrcIrq → Audio → Result Engine Refusal
engine_reset q a = where_ok q a (engine_was_reset a)

-- the level under its name, or the refusal (01, The board's calls 2; 01, The board's calls 3)
abbrev pub engine_level : VrcIrq → Audio → Level
engine_level q a = cond (engine_ok q a) (level_of a) (Refused Range)

-- the forecast, or the refusal (01, The board's calls 2; 01, The board's calls 3)
abbrev pub engine_forecast : VrcIrq → Audio → Result (Option ℕ) Refusal
engine_forecast q a = where_ok q a (forecast_answer q)
