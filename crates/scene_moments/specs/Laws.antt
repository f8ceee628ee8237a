-- What a margin is, and examples of what the definitions give. `proofs/` proves it. Assumes nothing.
use Rattle.std.specs.Prelude.{◌≡◌, Bool, ℕ, ◌+◌, ◌-◌, ◌<◌, ◌≤◌, true, false, [], ◌∷◌}
use Rattle.irq.specs.declared.VrcIrq.{VrcIrq}
use Rattle.scene_moments.specs.declared.lines.Screen.{Screen}
use Rattle.scene_moments.specs.declared.moment.Came.TheVariants.{On, Held, Lost}
use Rattle.scene_moments.specs.Lines.{early_margin, late_margin, line_of}
use Rattle.scene_moments.specs.declared.moment.Moment.TheVariants.{Waiting}
use Rattle.scene_moments.specs.declared.verdict.Verdict.TheVariants as verdict
use Rattle.scene_moments.specs.declared.verdict.Verdict.TheVariants.{Right, Late}
use Rattle.scene_moments.specs.declared.verdict.Window.{Window}
use Rattle.scene_steps.specs.declared.step.Step.TheVariants.{Write, Clocks, Reset}
use Rattle.scene_moments.specs.Moments.{came}
use Rattle.scene_moments.specs.Verdicts.{verdict_of}

-- the margins of interrupts on one line that come from clock `from` to clock `to`: fewer clocks earlier or later leave each of them on
-- that line, and so many put the first, or the last, on another
pub record Margins (s : Screen) (from to : ℕ) : Type 0 where
  pub early : (c e : ℕ) → from ≤ c → c ≤ to → e < early_margin s from → e ≤ c → line_of s (c - e) ≡ line_of s c
  pub late : (c e : ℕ) → from ≤ c → c ≤ to → e < late_margin s to → line_of s (c + e) ≡ line_of s c
  pub early_least : early_margin s from ≤ from → line_of s (from - early_margin s from) < line_of s from
  pub late_least : line_of s to < line_of s (to + late_margin s to)

-- of every screen and all interrupts that are on one line
abbrev pub MarginLaw : Type 0
MarginLaw = (s : Screen) (from to : ℕ) → from ≤ to → line_of s from ≡ line_of s to → Margins s from to

-- latch 254, control 3: two lines, as it stands 200 clocks later
abbrev pub soon : VrcIrq
soon =
    record {
      reload = 254;
      counter = 255;
      prescalar_counter = 82;
      irq_pending = false;
      enabled = true;
      enabled_after_ack = true;
      cycle_mode = false;
    }

-- a window on line 2, where the writes end as a line begins
abbrev pub on_2 : (unmasked : Bool) → Window
on_2 unmasked = record { screen = record { line = 0; dots = 0 }; line = 2; unmasked = unmasked }

-- handlers on clock 200, and what they mean for that window
pub record LostExamples : Type 0 where
  -- 60 clocks, acknowledge
  pub acknowledged : came false (Clocks 60 ∷ Write 0xF002 0 ∷ []) (Waiting soon 200) ≡ Lost 228 260
  -- 60 clocks, control
  pub controlled : came false (Clocks 60 ∷ Write 0xF001 2 ∷ []) (Waiting soon 200) ≡ Lost 228 260
  -- 60 clocks, 7 more, a reset
  pub reset : came false (Clocks 60 ∷ Clocks 7 ∷ Reset ∷ []) (Waiting soon 200) ≡ Lost 228 267
  -- 60 clocks, the latch, which clears nothing
  pub latched : came false (Clocks 60 ∷ Write 0xF000 0 ∷ []) (Waiting soon 200) ≡ Held 228 260
  -- 27 clocks, acknowledge: one clock before it is set
  pub before : came false (Clocks 27 ∷ Write 0xF002 0 ∷ []) (Waiting soon 200) ≡ On 228
  -- the first on revision B, where the same address is control
  pub revision_b : came true (Clocks 60 ∷ Write 0xF002 0 ∷ []) (Waiting soon 200) ≡ Lost 228 260
  -- with interrupts masked the window is lost, with interrupts open it is right
  pub masked : verdict_of (on_2 false) (Lost 228 260) ≡ verdict.Lost 2
  -- one that is pending at the end of the handler is taken there, on line 3, or with interrupts open as it is set
  pub held : verdict_of (on_2 false) (Held 228 400) ≡ Late 3 1
  pub taken : verdict_of (on_2 true) (Held 228 400) ≡ Right 2
  pub unmasked : verdict_of (on_2 true) (Lost 228 260) ≡ Right 2
