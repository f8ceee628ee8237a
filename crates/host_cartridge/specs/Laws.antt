-- Laws of a board from a cartridge file; `proofs/` proves them. Assumes nothing.
use Rattle.std.specs.Prelude.{◌≡◌, List, ◌⊎◌, ℕ, length, replicate, Ok}
use Rattle.base_shared.specs.Numbered.{Numbered}
use Rattle.memory_layout.specs.Layout.{fixed_length, changing_length}
use Rattle.vrc6_banking.specs.declared.banking.Settings.{Settings}
use Rattle.vrc6.specs.Boards.{Creation}
use Rattle.vrc6.specs.Calls.{create}
use Rattle.cartridge.specs.declared.cartridge.Cartridge.{Cartridge}
use Rattle.cartridge_header.specs.Ines.{read_header}
use Rattle.host_cartridge.specs.Filled.{fill_checks, fill_refusal, fixed_of}

-- filling is refused by the number of the first test that fails, each number where its test fails and those before it hold, and only there
-- (02, change 2; 01, The board's calls 4)
abbrev pub FillNumbersLaw : Type 0
FillNumbersLaw =
    (file : List ℕ) (fixed changing : ℕ) → Numbered (fill_checks file fixed changing) (fill_refusal file fixed changing)

-- creation with an accepted file's layout and buffers of its lengths is refused by 4 at most (02, change 2; 01, The board's calls 3)
abbrev pub TakenLaw : Type 0
TakenLaw =
    (file : List ℕ) (c : Cartridge) → read_header file ≡ Ok c
    → (k : Creation) → k.layout ≡ c.layout → length k.fixed ≡ fixed_length c.layout → length k.changing ≡ changing_length c.layout
    → ((create k).refusal ≡ 0) ⊎ ((create k).refusal ≡ 4)

-- with the buffers that `fill_from_file` leaves it is not refused (02, change 2)
abbrev pub LoadedLaw : Type 0
LoadedLaw =
    (file : List ℕ) (c : Cartridge) → read_header file ≡ Ok c
    → (s : Settings)
    → (create (record { layout = c.layout; settings = s; fixed = fixed_of file; changing = replicate (changing_length c.layout) 0 })).refusal ≡ 0
