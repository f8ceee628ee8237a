-- The examples, computed. Assumes nothing.
use Rattle.std.proofs.Common.{refl}
use Rattle.script_bytes.specs.Laws.{ByteExamples}

pub examples : ByteExamples
examples = record { hash_a = refl; hash_foobar = refl; fill_1024 = refl }
