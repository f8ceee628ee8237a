-- Hand-made files (02, change 2). Assumes nothing.
use Rattle.std.specs.Prelude.{◌≡◌, Ok, Bool, true, false, List, ◌∷◌, ◌++◌, ℕ, drop, replicate, take}
use Rattle.vrc6_slots.specs.declared.Mirroring.{Mirroring}
use Rattle.vrc6_slots.specs.declared.Mirroring.TheVariants.{Vertical, Horizontal, FourScreen}
use Rattle.vrc6_banking.specs.declared.banking.Revision.{Revision}
use Rattle.vrc6_banking.specs.declared.banking.Revision.TheVariants.{A, B}
use Rattle.cartridge.specs.declared.cartridge.Cartridge.{Cartridge}
use Rattle.base_shared.specs.Numbers.{answer_number}
use Rattle.cartridge.specs.Cartridges.{cartridge_of, fits}
use Rattle.cartridge_header.specs.Ines.{read_header, stated_by}

-- 4E 45 53 1A, bytes 4 to 7, eight zeros, and n bytes behind the header
abbrev pub file : (prg chr six seven behind : ℕ) → List ℕ
file p c s t n = 0x4E ∷ 0x45 ∷ 0x53 ∷ 0x1A ∷ p ∷ c ∷ s ∷ t ∷ (replicate 8 0 ++ replicate n 0)

-- a cartridge with 8,192 bytes of PRG RAM
abbrev pub made : (prg chr : ℕ) (w : Bool) (ciram : ℕ) → Mirroring → Revision → (prg_start chr_start : ℕ) → Cartridge
made p c w i m r b e =
    record {
      layout = record { prg_rom = p; chr = c; chr_writable = w; prg_ram = 8192; ciram = i };
      mirroring = m;
      revision = r;
      prg_start = b;
      chr_start = e;
    }

-- what is read of them; a long file by its length alone (02, change 2)
pub record HeaderExamples : Type 0 where
  -- 1 and 1 unit, mapper $18: as long as needed, and one byte less
  pub plain : cartridge_of (stated_by (file 1 1 0x80 0x10 0)) ≡ made 16_384 8_192 false 2_048 Horizontal A 16 16_400
  pub whole : fits (stated_by (file 1 1 0x80 0x10 0)) 24_592 ≡ true
  pub short : fits (stated_by (file 1 1 0x80 0x10 0)) 24_591 ≡ false
  -- bit 0
  pub vertical : read_header (file 0 0 0x81 0x10 0) ≡ Ok (made 0 8_192 true 2_048 Vertical A 16 16)
  -- mapper $1A, a trainer, four screens beside bit 0, no CHR: only the trainer's bytes are asked for
  pub all_bits : read_header (file 0 0 0xAD 0x10 512) ≡ Ok (made 0 8_192 true 4_096 FourScreen B 528 528)
  pub no_trainer : answer_number (read_header (file 0 0 0xAD 0x10 511)) ≡ 7
  -- byte 7 bits 3 and 2: 0 and 1, and 1 and 1, are no error; 1 and 0 are
  pub older_1 : read_header (file 0 0 0x80 0x14 0) ≡ Ok (made 0 8_192 true 2_048 Horizontal A 16 16)
  pub older_3 : read_header (file 0 0 0x80 0x1C 0) ≡ Ok (made 0 8_192 true 2_048 Horizontal A 16 16)
  pub newer : answer_number (read_header (file 0 0 0x80 0x18 0)) ≡ 6
  -- mapper $81
  pub exchanged : answer_number (read_header (file 0 0 0x10 0x80 0)) ≡ 6
  -- the most units of both, then 17 of PRG and 33 of CHR in a file of 600,000 bytes; 6 stands before 7
  pub full : fits (stated_by (file 16 32 0x80 0x10 0)) 524_304 ≡ true
  pub over_prg : fits (stated_by (file 17 0 0x80 0x10 0)) 600_000 ≡ false
  pub over_chr : fits (stated_by (file 0 33 0x80 0x10 0)) 600_000 ≡ false
  pub six_first : answer_number (read_header (file 17 0 0 0x10 0)) ≡ 6
  -- 15 bytes; another first byte, beside another mapper
  pub cut : answer_number (read_header (take 15 (file 0 0 0x80 0x10 0))) ≡ 5
  pub other_first : answer_number (read_header (0x4D ∷ drop 1 (file 0 0 0 0 0))) ≡ 5
