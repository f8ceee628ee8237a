-- What the definitions come to, and examples; `proofs/` proves them. Assumes nothing.
use Rattle.std.specs.Prelude.{◌≡◌, Bool, List, ℕ, nat_eq, Result, Ok, Err}
use Rattle.text_words.specs.declared.number.NumberError.{NumberError}
use Rattle.text_words.specs.Names.{codes}
use Rattle.vrc6_slots.specs.declared.Mirroring.TheVariants.{Horizontal}
use Rattle.scene_cells.specs.declared.choices.Interrupts.TheVariants.{Masked, Open}
use Rattle.scene_files.specs.declared.singles.Said.TheVariants.{File, Default}
use Rattle.scene_files.specs.declared.singles.SingleError.TheVariants.{NoValue, TooLarge, ManyWords, NotTheFile}
use Rattle.scene_files.specs.Singles.{single_of}
use Rattle.scene_files.specs.Words.{interrupts_word, length_word, mirroring_word, same_interrupts, same_mirroring, same_revision, same_window}

-- beside a file no cell has another value than the file's, whose words are read so
abbrev pub Agreed : {T : Type 0} → (same : T → T → Bool) → Type 0
Agreed {T} same =
    (reads : List ℕ → Result T NumberError) (said value : T) (cell : List ℕ) → single_of same reads (File said) cell ≡ Ok value → value ≡ said

-- every value that a cell of one word says: a length, a revision, a mirroring, a choice of interrupts, and the line of a window, if one is
-- given
pub record AgreedLaw : Type 0 where
  pub number : Agreed nat_eq
  pub revision : Agreed same_revision
  pub mirroring : Agreed same_mirroring
  pub interrupts : Agreed same_interrupts
  pub window : Agreed same_window

-- cells, beside a file and without one (docs/SCENES.md)
pub record FileExamples : Type 0 where
  -- prg, beside a file of 262,144 bytes and without one
  pub agrees : single_of nat_eq length_word (File 262_144) (codes "262144") ≡ Ok 262_144
  pub empty : single_of nat_eq length_word (File 262_144) (codes " ") ≡ Ok 262_144
  pub otherwise : single_of nat_eq length_word (File 262_144) (codes "131072") ≡ Err NotTheFile
  pub no_file : single_of nat_eq length_word (Default 131_072) (codes "32768") ≡ Ok 32_768
  -- mirroring, beside a file that says horizontal
  pub letter : single_of same_mirroring mirroring_word (File Horizontal) (codes "h") ≡ Ok Horizontal
  pub other_letter : single_of same_mirroring mirroring_word (File Horizontal) (codes "V") ≡ Err NotTheFile
  pub no_letter : single_of same_mirroring mirroring_word (File Horizontal) (codes "Q") ≡ Err NoValue
  -- interrupts, which no file says
  pub unsaid : single_of same_interrupts interrupts_word (Default Masked) (codes "") ≡ Ok Masked
  pub masked : single_of same_interrupts interrupts_word (Default Masked) (codes "masked") ≡ Ok Masked
  pub open_choice : single_of same_interrupts interrupts_word (Default Masked) (codes " Open ") ≡ Ok Open
  pub no_choice : single_of same_interrupts interrupts_word (Default Masked) (codes "1") ≡ Err NoValue
  -- faults that need no file
  pub large : single_of nat_eq length_word (Default 131_072) (codes "262145") ≡ Err TooLarge
  pub words : single_of nat_eq length_word (Default 131_072) (codes "8192 8192") ≡ Err ManyWords
