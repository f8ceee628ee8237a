-- Every CHR register of the table is one of the eight, by one test of all its rows. Assumes nothing.
use mathlib.Core.Path.{subst}
use mathlib.Core.Bool.{Bool, true, ◌&&◌}
use mathlib.Core.List.{List, [], ◌∷◌}
use Prim.Native.Nat.{ℕ, zero, suc, ◌+◌, ◌*◌, ◌/◌}
use lib.Dec.{T, ltb, ltb→lt}
use lib.ListN.{get_or}
use lib.Ieee.Fits.{and_l, and_r}
use Rattle.registers.specs.declared.Register.{Register}
use Rattle.std.specs.Prelude.{Option, Some, None}
use Rattle.registers.specs.declared.Register.TheVariants.{OfBank, OfAudio, OfIrq}
use Rattle.registers.specs.declared.BankRegister.{BankRegister}
use Rattle.registers.specs.declared.BankRegister.TheVariants.{Prg16, Prg8, Mode, Chr}
use Rattle.registers.specs.Decode.{decode, lines, registers}
use Rattle.registers.specs.Laws.{ChrLaw}

-- the test of a row: a CHR register is below 8
abbrev low_bank : BankRegister → Bool
low_bank Prg16 = true
low_bank Prg8 = true
low_bank Mode = true
low_bank (Chr i) = ltb i 8

abbrev low : Option Register → Bool
low None = true
low (Some (OfBank r)) = low_bank r
low (Some (OfAudio r)) = true
low (Some (OfIrq r)) = true

abbrev all_low : List (Option Register) → Bool
all_low [] = true
all_low (r ∷ rs) = low r && all_low rs

at : (rs : List (Option Register)) (n : ℕ) → T (all_low rs) → T (low (get_or rs n None))
at [] n h = tt
at (r ∷ rs) zero h = and_l (low r) (all_low rs) h
at (r ∷ rs) (suc n) h = at rs n (and_r (low r) (all_low rs) h)

pub chr_law : ChrLaw
unfolding decode
chr_law b a i e = ltb→lt i 8 (subst (λ (r : Option Register). T (low r)) e (at registers (a / 4096 * 4 + lines b a) tt))
