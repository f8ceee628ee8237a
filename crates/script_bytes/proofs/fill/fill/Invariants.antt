-- `fill` meets its contract: the bytes before the index are filled. Assumes nothing.
use Rattle.std.proofs.Common.{◌≡◌, ℕ, ◌+◌, ◌%◌, ◌^◌, ◌<◌, get_or}
use Rattle.script_bytes.specs.Fill.{fill_byte}
use Rattle.script_bytes.proofs.fill.fill.Given as goal

abbrev pub invariant-loop-i : goal.invariant-loop-i
invariant-loop-i l = (k : ℕ) → k < l.i → get_or l.part k 0 ≡ fill_byte ((l.first + k) % 2 ^ 32) l.seed
