-- What a read hands back, by what its lookup finds and by who reads (02, change 1). Assumes nothing.
use Rattle.std.specs.Prelude.{Bool, cond, List, ℕ, Option, Some, None}
use Rattle.base_shared.specs.Refusals.{unless}
use Rattle.memory_pages.specs.declared.page.Page.{Page}
use Rattle.memory_pages.specs.Pages.{found}
use Rattle.memory_layout.specs.declared.regions.MemoryLayout.{MemoryLayout}
use Rattle.memory_access.specs.Access.{byte_at, plain_refusal}
use Rattle.memory_access.specs.declared.Peeked.{Peeked}

-- who reads: the CPU, with the bus byte that is given with the call, or the picture side (02, change 1)
pub data Caller : Type 0 where
  by_cpu : (bus : ℕ) → Caller
  by_picture : Caller

-- each caller decides: where the setting is on and nothing is there, a CPU read hands back the bus byte; otherwise, and on the picture
-- side, a read answers as without the setting: the byte shown (02, change 1)
abbrev pub handed : Caller → (setting : Bool) → Option Page → (shown : ℕ) → ℕ
handed (by_cpu bus) setting None shown = cond setting bus shown
handed (by_cpu bus) setting (Some e) shown = shown
handed by_picture setting l shown = shown

-- a read through an entry: the byte handed back, or 0 where it is refused, and the number (02, change 1; 01, The board's calls 3)
abbrev pub peeked_by : Caller → (setting : Bool) → MemoryLayout → Page → (fixed changing : List ℕ) → (address : ℕ) → Peeked
peeked_by k setting l e fixed changing address =
    record {
      byte = unless (plain_refusal l e fixed changing) (handed k setting (found e) (byte_at e fixed changing address)) 0;
      refusal = plain_refusal l e fixed changing;
    }
