-- The calls that ask interrupt and sound alone: all that the theorem over lists needs of one, as one record, so that a new one is one clause here. Assumes nothing.
use mathlib.Core.Path.{◌≡◌, refl, sym, ap, ◌∙◌}
use mathlib.Core.Bool.{Bool, true, false, cond}
use mathlib.Core.List.{[], ◌∷◌}
use Rattle.std.specs.Prelude.{Option, Ok, Err}
use Rattle.base_shared.specs.declared.Refusal.TheVariants.{Range}
use Prim.Native.Nat.{ℕ}
use native.Mathlib.Nat.{add-zero}
use lib.Ieee.{Float}
use Rattle.base_shared.specs.Refusals.{first_failing, unless}
use Rattle.base_shared.specs.Rows.{flag}
use Rattle.base_shared.proofs.Tests.{unless_refused}
use Rattle.base_steps.specs.Times.{times, count}
use Rattle.irq.specs.Timing.{clock_answer, forecast_answer}
use Rattle.audio.specs.declared.Audio.{Audio}
use Rattle.audio.specs.declared.Level.TheVariants.{Refused as NoLevel}
use Rattle.audio.specs.Sound.{any_enabled}
use Rattle.audio.specs.Levels.{level_of, level_name, level_refusal, level_in, output_of}
use Rattle.vrc6.specs.declared.board.Board.{Board}
use Rattle.vrc6.specs.Boards.{State, held_by}
use Rattle.vrc6.specs.Checks.{engine_in_range, engine_refusal}
use Rattle.vrc6.specs.Calls.{clocked, was_reset}
use Rattle.vrc6_calls.specs.Lists.{Ask, clocking, resetting, leveling, forecasting, asks, answer_to, given_by, refusal_in, ticks_in, forecast_refusal, forecast_part, next_by}
use Rattle.vrc6_ledger.specs.Ledger.{asked, clocks}
use Rattle.vrc6_ledger.specs.Refused.{GivenBack}
use Rattle.vrc6_ledger.specs.Played.{done}
use Rattle.vrc6_ledger.specs.Foreseen.{clock_ticks, ticks_noted}
use Rattle.vrc6_ledger.specs.Demand3.{timing_of}

-- what a call that asks interrupt and sound owes
pub record AskLaw (q : Ask) : Type 0 where
  -- its answer has the number of interrupt and sound
  pub number : (b : Board) → refusal_in (answer_to b q) ≡ engine_refusal b
  -- not refused, it leaves what its event says
  pub done_by : (x : State) → engine_refusal x.board ≡ 0 → next_by x (asks q) ≡ done x (asked q)
  -- and reports the ticks that its event makes
  pub ticks : (b : Board) → engine_refusal b ≡ 0 → ticks_in (answer_to b q) ≡ ticks_noted (timing_of b.irq) (asked q)
  -- refused, it gives back what it was given
  pub back : (x : State) → (engine_refusal x.board ≡ 0 → ⊥) → GivenBack x (given_by x (asks q)) (next_by x (asks q))

-- a number that is not 0, and one that is
pub not_done : {A : Type 0} (n : ℕ) (done given : A) → (n ≡ 0 → ⊥) → unless n done given ≡ given
not_done n done given h = unless_refused done given n n refl h

board_back : (x : State) (n : ℕ) (b : Board) → (n ≡ 0 → ⊥) → held_by (unless n b x.board) x.fixed x.changing ≡ x
board_back x n b h = ap (λ (z : Board). held_by z x.fixed x.changing) (not_done n b x.board h)

board_by : (x : State) (b : Board) (n : ℕ) → n ≡ 0 → held_by (unless n b x.board) x.fixed x.changing ≡ held_by b x.fixed x.changing
board_by x b n h = ap (λ (m : ℕ). held_by (unless m b x.board) x.fixed x.changing) h

-- a level that is there is no refusal, and neither is a forecast
level_fine : (on halt : Bool) (x : Float) → level_refusal (level_name on halt x) ≡ 0
unfolding level_name
level_fine false halt x = refl
level_fine true true x = refl
level_fine true false x = refl

-- the number of an answer by its test, and nothing in it where it is refused
level_number : (a : Audio) (t : Bool) → level_refusal (cond t (level_of a) (NoLevel Range)) ≡ first_failing ((t, 3) ∷ [])
level_number a true = level_fine (any_enabled a) a.halt (output_of a.out)
level_number a false = refl

no_level : (a : Audio) (t : Bool) → (first_failing ((t, 3) ∷ []) ≡ 0 → ⊥) → level_in (cond t (level_of a) (NoLevel Range)) ≡ []
no_level a true h = absurd (h refl)
no_level a false h = refl

forecast_number : (f : Option ℕ) (t : Bool) → forecast_refusal (cond t (Ok f) (Err Range)) ≡ first_failing ((t, 3) ∷ [])
forecast_number f true = refl
forecast_number f false = refl

no_forecast : (f : Option ℕ) (t : Bool) → (first_failing ((t, 3) ∷ []) ≡ 0 → ⊥) → forecast_part (cond t (Ok f) (Err Range)) ≡ []
no_forecast f true h = absurd (h refl)
no_forecast f false h = refl

one_tick : (b : Board) → engine_refusal b ≡ 0 → ticks_in (answer_to b clocking) ≡ ticks_noted (timing_of b.irq) (clocks 1)
unfolding times count
one_tick b h =
    ap (λ (n : ℕ). flag (unless n (clock_answer b.irq).ticked false)) h
    ∙ sym (add-zero (flag (clock_ticks (timing_of b.irq))))

one_clock : (x : State) → engine_refusal x.board ≡ 0 → next_by x (asks clocking) ≡ done x (clocks 1)
unfolding times
one_clock x h = board_by x (clocked x.board) (engine_refusal x.board) h

pub ask_law : (q : Ask) → AskLaw q
ask_law clocking =
    record {
      number = λ b. refl;
      done_by = one_clock;
      ticks = one_tick;
      back = λ x h. record {
        state = board_back x (engine_refusal x.board) _ h;
        byte = refl;
        view = refl;
        tick = ap flag (not_done (engine_refusal x.board) (clock_answer x.board.irq).ticked false h);
        level = refl;
        forecast = refl;
      };
    }
ask_law resetting =
    record {
      number = λ b. refl;
      done_by = λ x h. board_by x (was_reset x.board) (engine_refusal x.board) h;
      ticks = λ b h. refl;
      back = λ x h. record {
        state = board_back x (engine_refusal x.board) _ h;
        byte = refl;
        view = refl;
        tick = refl;
        level = refl;
        forecast = refl;
      };
    }
ask_law leveling =
    record {
      number = λ b. level_number b.audio (engine_in_range b);
      done_by = λ x h. refl;
      ticks = λ b h. refl;
      back = λ x h. record {
        state = refl;
        byte = refl;
        view = refl;
        tick = refl;
        level = no_level x.board.audio (engine_in_range x.board) h;
        forecast = refl;
      };
    }
ask_law forecasting =
    record {
      number = λ b. forecast_number (forecast_answer b.irq) (engine_in_range b);
      done_by = λ x h. refl;
      ticks = λ b h. refl;
      back = λ x h. record {
        state = refl;
        byte = refl;
        view = refl;
        tick = refl;
        level = refl;
        forecast = no_forecast (forecast_answer x.board.irq) (engine_in_range x.board) h;
      };
    }
