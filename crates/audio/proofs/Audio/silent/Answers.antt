-- `audio::Audio::silent` meets its contract. Assumes nothing.
use lib.Ieee.{of_bits, of_int, round}
use Rattle.audio.proofs.Audio.silent.Goals as goal

pub returns : goal.returns
unfolding of_bits of_int round
returns c = simp (c.silent-3.ensures, c.silent-2.ensures, c.silent.ensures)
