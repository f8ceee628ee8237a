-- `put_name` meets its contract. Assumes nothing.
use Rattle.std.proofs.Common.{◌≡◌, ◌++◌}
use Rattle.scene_cells.specs.Quotes.{unquoted}
use Rattle.scene_paths.proofs.put_name.Given as goal

abbrev pub invariant-loop-byte : goal.invariant-loop-byte
invariant-loop-byte g l =
    l.path.items ++ unquoted l.byte-iterator.quoted l.byte-iterator.bytes.now
    ≡ l.initial.path.items ++ unquoted l.initial.byte-iterator.quoted l.initial.byte-iterator.bytes.now
