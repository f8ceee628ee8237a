-- The examples, computed. Assumes nothing.
use mathlib.Core.Path.{refl}
use Rattle.cartridge_header.specs.Examples.{HeaderExamples}

pub examples : HeaderExamples
examples =
    record {
      plain = refl;
      whole = refl;
      short = refl;
      vertical = refl;
      all_bits = refl;
      no_trainer = refl;
      older_1 = refl;
      older_3 = refl;
      newer = refl;
      exchanged = refl;
      full = refl;
      over_prg = refl;
      over_chr = refl;
      six_first = refl;
      cut = refl;
      other_first = refl;
    }
