-- Level and forecast by the cases of 01. Assumes nothing.
use mathlib.Core.Path.{◌≡◌, refl, ◌∙◌}
use mathlib.Core.Bool.{Bool, true, false}
use mathlib.Core.List.{[], ◌∷◌}
use Rattle.base_shared.specs.Refusals.{first_failing}
use native.Mathlib.Omega.{arith}
use Rattle.std.specs.Prelude.{Ok}
use Rattle.irq.specs.Timing.{forecast_answer}
use Rattle.audio.specs.Sound.{any_enabled}
use Rattle.audio.specs.Levels.{level_name, output_of}
use Rattle.vrc6.specs.declared.board.Board.{Board}
use Rattle.vrc6.specs.Checks.{engine_in_range, engine_refusal}
use Rattle.vrc6.specs.Calls.{level, forecast}
use Rattle.vrc6_ledger.specs.Answers.{ForecastAnswerLaw, LevelLaw}

-- what is not refused is in range
passed : (t : Bool) → first_failing ((t, 3) ∷ []) ≡ 0 → t ≡ true
passed true h = refl
passed false h = absurd (omega arith)

in_range : (b : Board) → engine_refusal b ≡ 0 → engine_in_range b ≡ true
in_range b h = passed (engine_in_range b) h

pub forecast_answer_law : ForecastAnswerLaw
forecast_answer_law b h =
    record {
      idle = λ e. told ∙ rw e;
      cycle = λ e f. told ∙ rw (e, f);
      lines = λ e f. told ∙ rw (e, f);
    }
  where
    told : (forecast b).forecast ≡ Ok (forecast_answer b.irq)
    told = rw (in_range b h)

pub level_law : LevelLaw
unfolding level_name
level_law b h = record { silent = λ e. told ∙ rw e; held = λ e f. told ∙ rw (e, f); playing = λ e f. told ∙ rw (e, f) }
  where
    told : (level b).level ≡ level_name (any_enabled b.audio) b.audio.halt (output_of b.audio.out)
    told = rw (in_range b h)
