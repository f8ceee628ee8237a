-- What create and a CPU write check, by the parts of a board that they look at (01, The board's calls). Assumes nothing.
use Rattle.std.specs.Prelude.{Bool, ◌&&◌, ◌||◌, List, [], ◌∷◌, ◌++◌, ℕ, eqb, ltb, length, take}
use Rattle.std.specs.List.{list_all}
use Rattle.base_shared.specs.Refusals.{first_failing}
use Rattle.memory_layout.specs.declared.regions.MemoryLayout.{MemoryLayout}
use Rattle.memory_layout.specs.Layout.{layout_checks}
use Rattle.irq.specs.declared.VrcIrq.{VrcIrq}
use Rattle.audio.specs.declared.Audio.{Audio}
use Rattle.vrc6_banking.specs.declared.banking.Banking.{Banking}
use Rattle.vrc6_banking.specs.Banking.{banking_in_range}
use Rattle.vrc6_engine.specs.Engine.{engine_ok}

-- every byte is 0 (01, The board's calls 3)
abbrev pub all_zero : List ℕ → Bool
all_zero bytes = list_all (λ x. eqb x 0) bytes

-- create, of a layout and its buffers: conditions 1, 2 and 4 (01, The board's calls 3; 01, The board's calls 4)
abbrev pub creation_refusal : MemoryLayout → (fixed changing : List ℕ) → ℕ
creation_refusal l fixed changing =
    first_failing (layout_checks l (length fixed) (length changing) ++ (all_zero (take 1024 fixed), 4) ∷ [])

-- a CPU write from $8000 up also checks all banking, interrupt and sound values (01, The board's calls 4)
abbrev pub values_in_range : Banking → VrcIrq → Audio → (address : ℕ) → Bool
values_in_range k q a address = ltb address 0x8000 || (banking_in_range k && engine_ok q a)
