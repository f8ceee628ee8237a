-- Creation by numbers, since no enum crosses to C (01, The board's calls). Assumes nothing.
use Rattle.std.specs.Prelude.{◌≡◌, Result, MatchResult, true, false, Bool, not, ◌&&◌, List, [], ◌∷◌, ◌++◌, ℕ, zero, suc, eqb, leb, length, take}
use Rattle.base_shared.specs.Refusals.{first_failing, unless}
use Rattle.base_shared.specs.Rows.{flag}
use Rattle.memory_layout.specs.declared.regions.MemoryLayout.{MemoryLayout}
use Rattle.memory_layout.specs.Layout.{layout_checks}
use Rattle.vrc6_slots.specs.declared.Mirroring.{Mirroring}
use Rattle.vrc6_slots.specs.declared.Mirroring.TheVariants.{Vertical, Horizontal, SingleScreenA, SingleScreenB, FourScreen}
use Rattle.vrc6_slots.specs.declared.UnknownNumber.{UnknownNumber}
use Rattle.vrc6_banking.specs.declared.banking.Revision.{Revision}
use Rattle.vrc6_banking.specs.declared.banking.Revision.TheVariants.{A, B}
use Rattle.vrc6_banking.specs.declared.banking.Settings.{Settings}
use Rattle.vrc6_banking.specs.Banking.{mirroring_number, is_b}
use Rattle.vrc6.specs.declared.board.Changed.{Changed}
use Rattle.vrc6.specs.Boards.{zero_board}
use Rattle.vrc6_parts.specs.Checks.{all_zero}
use Rattle.vrc6.specs.Calls.{create}
use Rattle.host_creation.specs.declared.NumberedSettings.{NumberedSettings}

-- the mirroring of a number; from 4 on FourScreen (ppu.rs, Mirroring)
abbrev pub mirroring_numbered : ℕ → Mirroring
mirroring_numbered zero = Vertical
mirroring_numbered (suc zero) = Horizontal
mirroring_numbered (suc (suc zero)) = SingleScreenA
mirroring_numbered (suc (suc (suc zero))) = SingleScreenB
mirroring_numbered (suc (suc (suc (suc n)))) = FourScreen

-- the revision of a number: 0 for A, any other for B
abbrev pub revision_numbered : ℕ → Revision
revision_numbered zero = A
revision_numbered (suc n) = B

-- the numbers of settings that have these of a mirroring and a revision, and no open bus (02, change 1)
abbrev pub numbered : (mirroring revision : ℕ) → NumberedSettings
numbered m r = record { mirroring = m; revision = r; open_bus = 0 }

-- the settings of numbers; the bus setting is off by 0, and on by any other (01, The board's calls 1; 02, change 1)
abbrev pub settings_numbered : NumberedSettings → Settings
settings_numbered n =
    record {
      mirroring = mirroring_numbered n.mirroring;
      revision = revision_numbered n.revision;
      open_bus = not (eqb n.open_bus 0);
    }

-- the numbers of settings (01, The board's calls 1; 02, change 1)
abbrev pub numbers_of : Settings → NumberedSettings
numbers_of s =
    record { mirroring = mirroring_number s.mirroring; revision = flag (is_b s.revision); open_bus = flag s.open_bus }

-- each number names something: 0 to 4, 0 or 1, and 0 or 1 (02, change 1)
abbrev pub settings_named : NumberedSettings → Bool
settings_named n = leb n.mirroring 4 && leb n.revision 1 && leb n.open_bus 1

-- what numbers stand for: the settings that they name, or none where one names nothing (01, The board's calls 1; 02, change 1)
abbrev pub SettingsNumbered : NumberedSettings → Result Settings UnknownNumber → Type 0
SettingsNumbered n r =
    MatchResult r (λ s. (settings_named n ≡ true) × (s ≡ settings_numbered n)) (λ e. settings_named n ≡ false)

-- the first failing of 1, 2, 3 and 4; here 3 is a number that names nothing (01, The board's calls 3; 01, The board's calls 4)
abbrev pub numbered_refusal : MemoryLayout → NumberedSettings → (fixed changing : List ℕ) → ℕ
numbered_refusal l n fixed changing =
    first_failing (layout_checks l (length fixed) (length changing) ++ (settings_named n, 3) ∷ (all_zero (take 1024 fixed), 4) ∷ [])

-- the board that `create` makes of what the numbers name, or refused the all-zero one, and the refusal's number (01, The board's calls 3)
abbrev pub created_by : MemoryLayout → NumberedSettings → (fixed changing : List ℕ) → Changed
created_by l n fixed changing =
    record {
      board =
          unless (numbered_refusal l n fixed changing)
          (create (record { layout = l; settings = settings_numbered n; fixed = fixed; changing = changing })).board
          zero_board;
      refusal = numbered_refusal l n fixed changing;
    }
