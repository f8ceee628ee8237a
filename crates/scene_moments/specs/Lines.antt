-- The screen line of a clock, and how far it is from another line (docs/SCENES.md). Assumes nothing.
use Rattle.std.specs.Prelude.{ℕ, Option, Some, None, ◌+◌, ◌-◌, ◌*◌, ◌/◌, ◌%◌, cond, ◌==◌}
use Rattle.irq.specs.Timing.{line_step, line_length}
use Rattle.scene_steps.specs.declared.picture.At.{At}
use Rattle.scene_steps.specs.declared.picture.At.TheVariants.{Line, Dot}
use Rattle.scene_moments.specs.declared.lines.Screen.{Screen}

-- the dots of a line that have gone by at a prescaler: none where it is 0 or 341
abbrev pub dots_gone : (prescaler : ℕ) → ℕ
dots_gone p = cond (p == 0) 0 (line_length - p)

-- where the writes end, if they end on a line with that prescaler
abbrev pub screen_from : (line prescaler : ℕ) → Screen
screen_from line p = record { line = line; dots = dots_gone p }

-- where the writes end by the cell `at`: the line that it says, or 0, and the dot, or what the prescaler says; 16 bits hold all that its
-- limits let through
abbrev pub screen_at : Option At → (prescaler : ℕ) → Screen
screen_at None p = screen_from 0 p
screen_at (Some (Line l)) p = screen_from (l % 65_536) p
screen_at (Some (Dot l d)) p = record { line = l % 65_536; dots = d % 65_536 }

-- the dots from the start of the line on which the writes end to clock c
abbrev pub dots_to : Screen → (clock : ℕ) → ℕ
dots_to s c = line_step * c + s.dots

-- the line of clock c: a line more for each 341 dots (docs/SCENES.md; 00, 3)
unfoldable pub line_of : Screen → (clock : ℕ) → ℕ
line_of s c = s.line + dots_to s c / line_length

-- the dot of its line at clock c
abbrev pub dot_at : Screen → (clock : ℕ) → ℕ
dot_at s c = dots_to s c % line_length

-- the fewest clocks earlier that are on another line; where the writes end later than that there is none (docs/SCENES.md)
unfoldable pub early_margin : Screen → (clock : ℕ) → ℕ
early_margin s c = dot_at s c / line_step + 1

-- the fewest clocks later that are on another line (docs/SCENES.md)
unfoldable pub late_margin : Screen → (clock : ℕ) → ℕ
late_margin s c = (line_length - dot_at s c + 2) / line_step
