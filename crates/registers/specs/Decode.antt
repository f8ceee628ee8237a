-- Which register a CPU write reaches (01, Banks and decode; VRC6; iNES mappers 024 and 026). Assumes nothing.
use Rattle.std.specs.Prelude.{List, [], ◌∷◌, ◌++◌, Bool, cond, ℕ, zero, suc, ◌+◌, ◌*◌, ◌/◌, ◌%◌, get_or, replicate, Option, Some, None}
use Rattle.registers.specs.declared.ChannelRegister.{ChannelRegister}
use Rattle.registers.specs.declared.ChannelRegister.TheVariants.{Volume, FrequencyLow, FrequencyHigh}
use Rattle.registers.specs.declared.AudioRegister.TheVariants.{Pulse1, Pulse2, OfSaw, Halt}
use Rattle.registers.specs.declared.Register.{Register}
use Rattle.registers.specs.declared.Register.TheVariants.{OfBank, OfAudio, OfIrq}
use Rattle.registers.specs.declared.BankRegister.TheVariants.{Prg16, Prg8, Mode, Chr}
use Rattle.registers.specs.declared.IrqRegister.TheVariants.{Reload, Control, Acknowledge}

-- address bits 0 and 1, exchanged on revision B (01, Banks and decode 1; iNES mappers 024 and 026)
abbrev pub lines : (revision_b : Bool) → (address : ℕ) → ℕ
lines b address = cond b (address % 2 * 2 + address / 2 % 2) (address % 4)

-- $9000..2, $A000..2 and $B000..2 by their lines (01, Sound 1; VRC6 audio)
abbrev pub channel_register : (line : ℕ) → ChannelRegister
channel_register zero = Volume
channel_register (suc zero) = FrequencyLow
channel_register (suc (suc n)) = FrequencyHigh

-- the registers by address AND $F003: four for each of $0000, $1000, .. , $F000 (01, Banks and decode 1; 01, Interrupt 1; 01, Sound 1; VRC6)
abbrev pub registers : List (Option Register)
registers =
    replicate 32 None
    ++ Some (OfBank Prg16) ∷ Some (OfBank Prg16) ∷ Some (OfBank Prg16) ∷ Some (OfBank Prg16)
    ∷ Some (OfAudio (Pulse1 Volume)) ∷ Some (OfAudio (Pulse1 FrequencyLow)) ∷ Some (OfAudio (Pulse1 FrequencyHigh)) ∷ Some (OfAudio Halt)
    ∷ Some (OfAudio (Pulse2 Volume)) ∷ Some (OfAudio (Pulse2 FrequencyLow)) ∷ Some (OfAudio (Pulse2 FrequencyHigh)) ∷ None
    ∷ Some (OfAudio (OfSaw Volume)) ∷ Some (OfAudio (OfSaw FrequencyLow)) ∷ Some (OfAudio (OfSaw FrequencyHigh)) ∷ Some (OfBank Mode)
    ∷ Some (OfBank Prg8) ∷ Some (OfBank Prg8) ∷ Some (OfBank Prg8) ∷ Some (OfBank Prg8)
    ∷ Some (OfBank (Chr 0)) ∷ Some (OfBank (Chr 1)) ∷ Some (OfBank (Chr 2)) ∷ Some (OfBank (Chr 3))
    ∷ Some (OfBank (Chr 4)) ∷ Some (OfBank (Chr 5)) ∷ Some (OfBank (Chr 6)) ∷ Some (OfBank (Chr 7))
    ∷ Some (OfIrq Reload) ∷ Some (OfIrq Control) ∷ Some (OfIrq Acknowledge) ∷ None
    ∷ []

-- what stands in a row of four at a place in it
abbrev pub register_at : (row line : ℕ) → Option Register
register_at row line = get_or registers (row * 4 + line) None

-- what an address decodes to: a register, or none
abbrev pub Decoded : Type 0
Decoded = Option Register

-- the register at an address, if it has one: the row of its high four bits, the place of its two lines (01, Banks and decode 1;
-- m024_m026_vrc6.rs, write_register)
unfoldable pub decode : (revision_b : Bool) → (address : ℕ) → Decoded
decode b address = register_at (address / 4096) (lines b address)
