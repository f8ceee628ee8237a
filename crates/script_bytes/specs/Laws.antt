-- Examples of what the definitions give. Assumes nothing.
use Rattle.std.specs.Prelude.{◌≡◌, [], ◌∷◌}
use Rattle.script_bytes.specs.Fill.{fill_byte}
use Rattle.script_bytes.specs.Fnv.{fnv1a}

-- hashes and a filled byte
pub record ByteExamples : Type 0 where
  -- FNV's own test vectors: of the text a $E40C292C, of foobar $BF9CF968
  pub hash_a : fnv1a 2_166_136_261 (97 ∷ []) ≡ 3_826_002_220
  pub hash_foobar : fnv1a 2_166_136_261 (102 ∷ 111 ∷ 111 ∷ 98 ∷ 97 ∷ 114 ∷ []) ≡ 3_214_735_720
  -- the fill at offset 1,024 by the seed $1234 is $6D
  pub fill_1024 : fill_byte 1024 4_660 ≡ 109
