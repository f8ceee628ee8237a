-- The step and the line length of this board: its pace. Assumes nothing.
use native.Mathlib.Omega.{arith}
use Rattle.base_steps.specs.Falls.{Pace}
use Rattle.irq.specs.Timing.{line_step, line_length}

pub pace : Pace line_step line_length
pace = record { low = omega arith; high = omega arith }
