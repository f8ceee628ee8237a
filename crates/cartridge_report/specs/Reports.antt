-- What is printed of a cartridge, and of the refusal of a file (docs/SCENES.md). Assumes nothing.
use Rattle.std.specs.Prelude.{cond, List, [], ◌∷◌, ◌++◌, ℕ}
use Rattle.std.specs.Fmt.{decimal}
use Rattle.text_words.specs.Names.{codes}
use Rattle.base_shared.specs.Numbers.{number}
use Rattle.base_shared.specs.declared.Refusal.{Refusal}
use Rattle.base_shared.specs.declared.Refusal.TheVariants.{Limits, Lengths, Range, FirstPage, NoHeader, Mapper, FileLength}
use Rattle.vrc6_slots.specs.Numbered.{mirroring_letter}
use Rattle.vrc6_banking.specs.Banking.{revision_letter}
use Rattle.cartridge.specs.declared.cartridge.Cartridge.{Cartridge}

-- CHR's length, and where it begins in the file, of which RAM takes no bytes
abbrev pub chr_text : Cartridge → List ℕ
chr_text c =
    cond c.layout.chr_writable
    (decimal c.layout.chr ++ (codes " bytes of RAM, from byte " ++ (decimal c.chr_start ++ codes "; it takes none of the file")))
    (decimal c.layout.chr ++ (codes " bytes, from byte " ++ decimal c.chr_start))

-- six lines: what the file holds, revision, mirroring, and the lengths of RAM
abbrev pub report_text : Cartridge → List ℕ
report_text c =
    (codes "  prg: " ++ (decimal c.layout.prg_rom ++ (codes " bytes, from byte " ++ (decimal c.prg_start ++ codes "\n"))))
    ++ ((codes "  chr: " ++ (chr_text c ++ codes "\n"))
    ++ ((codes "  revision: " ++ (revision_letter c.revision ∷ codes "\n"))
    ++ ((codes "  mirroring: " ++ (mirroring_letter c.mirroring ∷ codes "\n"))
    ++ ((codes "  prg ram: " ++ (decimal c.layout.prg_ram ++ codes " bytes\n"))
    ++ (codes "  ciram: " ++ (decimal c.layout.ciram ++ codes " bytes\n"))))))

-- what the number of a refusal means, where a file can be refused for it
abbrev pub meaning : Refusal → List ℕ
meaning Limits = []
meaning Lengths = []
meaning Range = []
meaning FirstPage = []
meaning NoHeader = codes ": no whole iNES header (16 bytes, 4E 45 53 1A first)"
meaning Mapper = codes ": a mapper other than 24 and 26, or a NES 2.0 header"
meaning FileLength = codes ": a length is over the limit, or the file ends early"

-- the number, and what it means
abbrev pub refused_text : Refusal → List ℕ
refused_text refusal = codes "refused by " ++ decimal (number refusal) ++ meaning refusal
