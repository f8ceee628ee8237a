-- FNV-1a with 32 bits (oracle/FORMAT.md). Assumes nothing.
use Rattle.std.specs.Prelude.{ℕ, ◌*◌, ◌/◌, ◌%◌, ◌^◌, List, [], ◌∷◌, bit_xor}
use mathlib.Core.List.{foldl}

-- one byte: exclusive or, then times the prime $01000193, in 32 bits
abbrev pub fnv_byte : ℕ → ℕ → ℕ
fnv_byte hash byte = bit_xor hash byte * 16_777_619 % 2 ^ 32

-- bytes, one after the other
abbrev pub fnv1a : ℕ → List ℕ → ℕ
fnv1a hash bytes = foldl fnv_byte hash bytes

-- the four bytes of a 32-bit number, the lowest first
abbrev pub little_endian : ℕ → List ℕ
little_endian n = n % 256 ∷ n / 256 % 256 ∷ n / 65_536 % 256 ∷ n / 16_777_216 % 256 ∷ []
