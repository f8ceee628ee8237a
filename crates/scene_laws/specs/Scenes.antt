-- What the tool reports of a scene, on the board. `proofs/` proves it. Assumes nothing.
use Rattle.std.specs.Prelude.{◌≡◌, Some, Result, IsOkAnd, Bool, false, List, ℕ, ◌≤◌, ◌<◌, length}
use Rattle.irq.specs.Timing.{line_step, line_length}
use Rattle.irq_clocks.specs.Clocks.{irq_clocked_times}
use Rattle.vrc6_banking.specs.Banking.{is_b}
use Rattle.vrc6.specs.Boards.{State, Creation}
use Rattle.vrc6.specs.Calls.{create}
use Rattle.vrc6_calls.specs.Lists.{after}
use Rattle.vrc6_ledger.specs.Demand3.{start}
use Rattle.host_creation.specs.Numbers.{numbers_of}
use Rattle.scene_board.specs.declared.ended.Ended.{Ended}
use Rattle.scene_board.specs.Ended.{end_of, shown_on}
use Rattle.scene_board.specs.Played.{calls_of}
use Rattle.scene_moments.specs.declared.lines.Screen.{Screen}
use Rattle.scene_moments.specs.Moments.{clocks_due}
use Rattle.scene_sweep.specs.declared.runs.Run.{Run}
use Rattle.scene_sweep.specs.declared.runs.Sweep.{Sweep}
use Rattle.scene_sweep.specs.Runs.{RunOf}
use Rattle.scene_laws.specs.Sweeps.{HasVerdict, steps_of}

-- the board at the end of the writes, which are given by their words
abbrev pub scene_written : Creation → (writes : List (List ℕ)) → State
scene_written c ws = after (start c) (calls_of (steps_of ws))

-- the end that the contract of `Scene::play` names
abbrev pub end_from : Creation → (writes menu : List (List ℕ)) → Result Ended ℕ
end_from c ws ms = end_of c.layout (numbers_of c.settings) c.fixed c.changing (steps_of ws) (steps_of ms)

-- the sweep that the tool starts there
abbrev pub sweep_of : Creation → (screen : Screen) (window : ℕ) (unmasked : Bool) → Sweep
sweep_of c screen window unmasked = record { window = record { screen = screen; line = window; unmasked = unmasked }; revision_b = is_b c.settings.revision }

-- an end e whose counters and banks are the board's, and whose sweeps are the board's
pub record SceneOf (c : Creation) (writes menu : List (List ℕ)) (e : Ended) : Type 0 where
  pub written : e.written ≡ shown_on c.layout (scene_written c writes).board
  pub behind : e.done ≡ shown_on c.layout (after (scene_written c writes) (calls_of (steps_of menu))).board
  -- pending clear, and a run that the contract of `MenuSweep::run` allows: each clock of it has on the board what it says
  pub sweep : e.written.irq.irq_pending ≡ false → length menu ≤ 4_096 → (screen : Screen) (window : ℕ) (unmasked : Bool) (from n : ℕ)
      → clocks_due e.written.irq ≡ Some n → (r : Run)
      → RunOf (sweep_of c screen window unmasked) (steps_of menu) (irq_clocked_times line_step line_length from e.written.irq) from n r
      → (j : ℕ) → from ≤ j → j < r.to → (m : ℕ) → HasVerdict (scene_written c writes) j (steps_of menu) m (sweep_of c screen window unmasked) from r

-- of every accepted creation and all words of writes and menu
abbrev pub SceneLaw : Type 0
SceneLaw = (c : Creation) → (create c).refusal ≡ 0 → (writes menu : List (List ℕ)) → IsOkAnd (end_from c writes menu) (SceneOf c writes menu)
