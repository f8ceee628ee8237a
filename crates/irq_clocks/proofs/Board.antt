-- With the step and the line length of this board: the forecast that is one clock short. Assumes nothing.
use mathlib.Core.Path.{◌≡◌, ap, subst}
use mathlib.Core.Logic.{inl}
use Rattle.std.specs.Prelude.{Some}
use Prim.Native.Nat.{suc}
use native.Mathlib.Omega.{arith}
use Rattle.irq.specs.Interrupt.{forecast_in}
use Rattle.irq.specs.Timing.{line_step, line_length}
use Rattle.irq.proofs.Board.{pace}
use Rattle.irq_clocks.specs.Clocks.{LeastClocks}
use Rattle.irq_clocks.specs.Laws.{ShortForecastLaw}
use Rattle.irq_clocks.proofs.Runs.{lines_enabled, lines_mode}
use Rattle.irq_clocks.proofs.Forecasts.{forecast_law}

-- at prescaler 0 and counter 255 the formula is 2 / 3, rounded down
pub short_forecast_law : ShortForecastLaw
short_forecast_law q h z k =
    record {
      says = rw (lines_enabled q h) (ap Some none);
      needs =
          subst (LeastClocks line_step line_length q) (ap suc none)
          ((forecast_law line_step line_length pace q (lines_enabled q h) (omega arith)).late (record { lines = lines_mode q h; prescaler = z; last = inl k }));
    }
  where
    none : forecast_in line_step line_length q ≡ 0
    none = rw (lines_mode q h, k, z)
