-- What inner functions require of a layout; no function that checks for itself requires anything. Assumes nothing.
use Rattle.std.specs.Prelude.{◌≤◌}
use Rattle.memory_layout.specs.declared.regions.MemoryLayout.{MemoryLayout}

-- no length is above its limit
pub record Limits (l : MemoryLayout) : Type 0 where
  pub prg : l.prg_rom ≤ 262_144
  pub chr : l.chr ≤ 262_144
  pub ram : l.prg_ram ≤ 8_192
  pub ciram : l.ciram ≤ 4_096
