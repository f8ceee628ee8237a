-- A scene's writes and menu on a board of its own (docs/SCENES.md). Assumes nothing.
use Rattle.std.specs.Prelude.{Option, Result, Ok, Err, cond, List, [], ◌∷◌, ℕ, get_or, ◌==◌}
use Rattle.memory_pages.specs.declared.page.Page.{Page}
use Rattle.memory_pages.specs.Pages.{unmapped}
use Rattle.memory_layout.specs.declared.regions.MemoryLayout.{MemoryLayout}
use Rattle.vrc6.specs.declared.board.Board.{Board}
use Rattle.vrc6.specs.Boards.{State, held_by}
use Rattle.vrc6_calls.specs.Lists.{after}
use Rattle.host_creation.specs.declared.NumberedSettings.{NumberedSettings}
use Rattle.host_creation.specs.Numbers.{created_by}
use Rattle.scene_steps.specs.declared.step.Step.{Step}
use Rattle.scene_board.specs.declared.ended.Ended.{Ended}
use Rattle.scene_board.specs.declared.ended.SceneEnd.{SceneEnd}
use Rattle.scene_board.specs.declared.ended.Shown.{Shown}
use Rattle.scene_board.specs.Played.{calls_of}
use Rattle.scene_banks.specs.Shown.{bank_shown}

-- the bank that slot i shows
abbrev pub slot_shown : MemoryLayout → List Page → (i : ℕ) → Option ℕ
slot_shown l pages i = bank_shown l (get_or pages i unmapped)

-- the banks that the eight slots show
abbrev pub slots_shown : MemoryLayout → List Page → List (Option ℕ)
slots_shown l p =
    slot_shown l p 0 ∷ slot_shown l p 1 ∷ slot_shown l p 2 ∷ slot_shown l p 3 ∷ slot_shown l p 4 ∷ slot_shown l p 5 ∷ slot_shown l p 6 ∷ slot_shown l p 7 ∷ []

-- what a board shows: its counter and those banks
abbrev pub shown_on : MemoryLayout → Board → Shown
shown_on l b = record { irq = b.irq; banks = slots_shown l b.chr_pages }

-- what stands at the end of the writes, in x, and behind the menu, in y
abbrev pub end_in : MemoryLayout → (x y : State) → Ended
end_in l x y = record { written = shown_on l x.board; done = shown_on l y.board }

-- the board that creation by numbers gives, with the buffers
abbrev pub new_state : MemoryLayout → NumberedSettings → (fixed changing : List ℕ) → State
new_state l s f c = held_by (created_by l s f c).board f c

-- board and buffers at the end of the writes
abbrev pub written_state : MemoryLayout → NumberedSettings → (fixed changing : List ℕ) → (writes : List Step) → State
written_state l s f c ws = after (new_state l s f c) (calls_of ws)

-- board and buffers behind the menu
abbrev pub done_state : MemoryLayout → NumberedSettings → (fixed changing : List ℕ) → (writes menu : List Step) → State
done_state l s f c ws ms = after (written_state l s f c ws) (calls_of ms)

-- the end of every scene, and the number by which its board was refused, or 0: a board that is refused has an end as well
abbrev pub whole_end : MemoryLayout → NumberedSettings → (fixed changing : List ℕ) → (writes menu : List Step) → SceneEnd
whole_end l s f c ws ms =
    record { ended = end_in l (written_state l s f c ws) (done_state l s f c ws ms); refusal = (created_by l s f c).refusal }

-- the end, or the number n by which the board was refused
abbrev pub end_unless : (n : ℕ) → Ended → Result Ended ℕ
end_unless n e = cond (n == 0) (Ok e) (Err n)

-- the end of a scene
abbrev pub end_of : MemoryLayout → NumberedSettings → (fixed changing : List ℕ) → (writes menu : List Step) → Result Ended ℕ
end_of l s f c ws ms = end_unless (created_by l s f c).refusal (end_in l (written_state l s f c ws) (done_state l s f c ws ms))
