-- A cartridge as numbers, since no enum crosses to C (02, change 2). Assumes nothing.
use Rattle.std.specs.Prelude.{false, ℕ, Result, Ok, Err}
use Rattle.base_shared.specs.declared.Refusal.{Refusal}
use Rattle.base_shared.specs.Numbers.{number}
use Rattle.vrc6_banking.specs.Banking.{mirroring_number, revision_number}
use Rattle.cartridge.specs.declared.cartridge.Cartridge.{Cartridge}
use Rattle.host_cartridge.specs.declared.encoded.EncodedCartridge.{EncodedCartridge}

-- a cartridge, its mirroring and revision by their numbers (02, change 2)
abbrev pub cartridge_encoded : Cartridge → EncodedCartridge
cartridge_encoded c =
    record {
      layout = c.layout;
      mirroring = mirroring_number c.mirroring;
      revision = revision_number c.revision;
      prg_start = c.prg_start;
      chr_start = c.chr_start;
      refusal = 0;
    }

-- a refusal's number alone: all else is 0 (02, change 2)
abbrev pub refused_by : ℕ → EncodedCartridge
refused_by n =
    record {
      layout = record { prg_rom = 0; chr = 0; chr_writable = false; prg_ram = 0; ciram = 0 };
      mirroring = 0;
      revision = 0;
      prg_start = 0;
      chr_start = 0;
      refusal = n;
    }

-- what a file says, as numbers (02, change 2)
abbrev pub header_encoded : Result Cartridge Refusal → EncodedCartridge
header_encoded (Ok c) = cartridge_encoded c
header_encoded (Err refusal) = refused_by (number refusal)
