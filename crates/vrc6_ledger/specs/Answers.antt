-- What level and forecast answer where they are not refused, in the paper's words (01, The board's calls 2). Assumes nothing.
use Rattle.std.specs.Prelude.{◌≡◌, Ok, Some, None, true, false, ◌+◌, ◌-◌, ◌*◌, ◌/◌}
use Rattle.audio.specs.declared.Level.TheVariants.{Silent, Held, Playing}
use Rattle.audio.specs.Sound.{any_enabled}
use Rattle.audio.specs.Levels.{output_of}
use Rattle.vrc6.specs.declared.board.Board.{Board}
use Rattle.vrc6.specs.Checks.{engine_refusal}
use Rattle.vrc6.specs.Calls.{level, forecast}

-- the forecast: None if not enabled; 256 - counter in cycle mode; else (341 × (255 - counter) + prescaler + 2) / 3, rounded down
-- (01, The board's calls 2)
pub record Forecasts (b : Board) : Type 0 where
  pub idle : b.irq.enabled ≡ false → (forecast b).forecast ≡ Ok None
  pub cycle : b.irq.enabled ≡ true → b.irq.cycle_mode ≡ true → (forecast b).forecast ≡ Ok (Some (256 - b.irq.counter))
  pub lines : b.irq.enabled ≡ true → b.irq.cycle_mode ≡ false
      → (forecast b).forecast ≡ Ok (Some ((341 * (255 - b.irq.counter) + b.irq.prescalar_counter + 2) / 3))

-- of every board whose interrupt and sound values are in range
abbrev pub ForecastAnswerLaw : Type 0
ForecastAnswerLaw = (b : Board) → engine_refusal b ≡ 0 → Forecasts b

-- the level under its name: Silent if no channel is enabled, otherwise Held if halted, otherwise Playing (01, The board's calls 2)
pub record Levels (b : Board) : Type 0 where
  pub silent : any_enabled b.audio ≡ false → (level b).level ≡ Silent (output_of b.audio.out)
  pub held : any_enabled b.audio ≡ true → b.audio.halt ≡ true → (level b).level ≡ Held (output_of b.audio.out)
  pub playing : any_enabled b.audio ≡ true → b.audio.halt ≡ false → (level b).level ≡ Playing (output_of b.audio.out)

-- of every board whose interrupt and sound values are in range
abbrev pub LevelLaw : Type 0
LevelLaw = (b : Board) → engine_refusal b ≡ 0 → Levels b
