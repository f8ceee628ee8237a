-- The law of creation by numbers; `proofs/` proves it. Assumes nothing.
use Rattle.std.specs.Prelude.{◌≡◌}
use Rattle.vrc6.specs.Boards.{Creation}
use Rattle.vrc6.specs.Calls.{create}
use Rattle.host_creation.specs.Numbers.{numbers_of, created_by}

-- creation by the numbers of settings is creation by these (01, The board's calls 1)
abbrev pub CreateNumberedLaw : Type 0
CreateNumberedLaw = (c : Creation) → created_by c.layout (numbers_of c.settings) c.fixed c.changing ≡ create c
