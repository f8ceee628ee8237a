-- What a text does to the bytes that wait in an output buffer. Assumes nothing.
use Rattle.std.specs.Prelude.{◌≡◌, ℕ, ◌+◌, ◌-◌, ◌*◌, ◌/◌, ◌≤◌, List, ◌++◌, length, drop}

-- a text that fits stands behind what waited (a buffer of 65,536 bytes)
abbrev pub appends : List ℕ → List ℕ → List ℕ → Type 0
appends old text new = length old + length text ≤ 65536 → new ≡ old ++ text

-- of n bytes, how many are written out: whole buffers, each as soon as another byte follows it
abbrev pub written_out : (n : ℕ) → ℕ
written_out n = (n - 1) / 65536 * 65536

-- what waits of bytes that came into an empty buffer
abbrev pub waiting : List ℕ → List ℕ
waiting bytes = drop (written_out (length bytes)) bytes
