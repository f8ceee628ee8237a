-- The bytes that fill both buffers before a creation (oracle/FORMAT.md). Assumes nothing.
use Rattle.std.specs.Prelude.{ℕ, ◌+◌, ◌*◌, ◌/◌, ◌%◌, ◌^◌, List, bit_xor}
use Rattle.base_shared.specs.Lists.{tabulate}

-- the scrambled offset: times $9E3779B1, plus the seed, in 32 bits
abbrev pub scrambled : (offset seed : ℕ) → ℕ
scrambled offset seed = (offset * 2_654_435_761 + seed) % 2 ^ 32

-- the byte at an absolute offset: bits 8 to 15 of x exclusive or x / 2 ^ 15
abbrev pub fill_byte : (offset seed : ℕ) → ℕ
fill_byte offset seed = bit_xor (scrambled offset seed) (scrambled offset seed / 2 ^ 15) / 2 ^ 8 % 256

-- n bytes from an offset on; offsets have 32 bits
abbrev pub filled : (n first seed : ℕ) → List ℕ
filled n first seed = tabulate n (λ (i : ℕ). fill_byte ((first + i) % 2 ^ 32) seed)
