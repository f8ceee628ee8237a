-- Answers as numbers, since no enum crosses to C (01, The board's calls). Assumes nothing.
use Rattle.std.specs.Prelude.{Result, Ok, Err, Option, Some, None, Bool, true, false, cond, ℕ, ◌-◌, eqb, leb, length}
use Rattle.std.specs.Float.{binary32}
use Rattle.std.specs.Float.Ieee.{of_bits}
use Rattle.base_shared.specs.declared.Refusal.{Refusal}
use Rattle.base_shared.specs.Numbers.{number}
use Rattle.base_shared.specs.Refusals.{unless}
use Rattle.memory_pages.specs.Pages.{offset as offset_of}
use Rattle.memory_tables.specs.Paging.{picture}
use Rattle.audio.specs.declared.Level.{Level}
use Rattle.audio.specs.declared.Level.TheVariants.{Silent, Held, Playing, Refused as NoLevel}
use Rattle.irq.specs.Timing.{clock_answer}
use Rattle.audio.specs.Sound.{with_timers}
use Rattle.vrc6.specs.declared.board.Board.{Board}
use Rattle.vrc6.specs.declared.board.Clocked.{Clocked}
use Rattle.vrc6_engine.specs.declared.steady.Timers.{Timers}
use Rattle.vrc6.specs.Boards.{State, entry_of, with_engine}
use Rattle.vrc6.specs.Calls.{clock, page_view_refusal}
use Rattle.host_answers.specs.declared.EncodedLevel.{EncodedLevel}
use Rattle.host_answers.specs.declared.EncodedForecast.{EncodedForecast}
use Rattle.host_answers.specs.declared.PageAt.{PageAt}

-- ---- level and forecast, encoded as numbers
-- a level; refused it is 0.0 and silent, with the refusal's number (01, The form to use in each place 12)
abbrev pub level_encoded : Level → EncodedLevel
level_encoded (Silent x) = record { level = x; name = 0; refusal = 0 }
level_encoded (Held x) = record { level = x; name = 1; refusal = 0 }
level_encoded (Playing x) = record { level = x; name = 2; refusal = 0 }
level_encoded (NoLevel r) = record { level = of_bits binary32 0; name = 0; refusal = number r }

-- a forecast; where there is none, or it is refused, the clocks are 0 (01, The form to use in each place 12)
abbrev pub forecast_encoded : Result (Option ℕ) Refusal → EncodedForecast
forecast_encoded (Ok None) = record { clocks = 0; armed = false; refusal = 0 }
forecast_encoded (Ok (Some n)) = record { clocks = n; armed = true; refusal = 0 }
forecast_encoded (Err r) = record { clocks = 0; armed = false; refusal = number r }

-- ---- page view, encoded as a place
-- where the picture entry of an address points, counted in its own buffer: in the fixed one up to that one's length, from there on in the
-- changing one (01, The board's calls 2)
abbrev pub page_at : State → (address : ℕ) → PageAt
page_at x address =
    let at = offset_of (entry_of picture x.board address) in
    let behind = leb (length x.fixed) at in
    record {
      offset = unless (page_view_refusal x address) (cond behind (at - length x.fixed) at) 0;
      changing = unless (page_view_refusal x address) behind false;
      refusal = page_view_refusal x address;
    }

-- ---- clock
-- a clock's answer as one number: 1 for a tick, 6 for a refusal, which is by 3, otherwise 0
abbrev pub tick_number : (ticked : Bool) → (refusal : ℕ) → ℕ
tick_number ticked refusal = cond ticked 1 (cond (eqb refusal 0) 0 6)

-- a clock's answer, encoded as that number (01, The board's calls 1)
abbrev pub clock_number : Board → ℕ
clock_number b = tick_number (clock b).ticked (clock b).refusal

-- a clock that is not refused, and moves of the sound the timers only, to these
abbrev pub steady_clocked : Board → Timers → Clocked
steady_clocked b s =
    record {
      board = with_engine b (record { irq = (clock_answer b.irq).irq; audio = with_timers b.audio s.pulse1 s.pulse2 s.saw });
      ticked = (clock_answer b.irq).ticked;
      refusal = 0;
    }
