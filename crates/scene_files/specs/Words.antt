-- What a word says in a column (docs/SCENES.md). Assumes nothing.
use Rattle.std.specs.Prelude.{Bool, List, ℕ, Option, Some, Result, Ok, Err, nat_eq}
use Rattle.std.specs.Option.{ok_or, option_eq}
use Rattle.text_words.specs.declared.number.NumberError.{NumberError}
use Rattle.text_words.specs.declared.number.NumberError.TheVariants.{NoNumber}
use Rattle.text_words.specs.Numbers.{number_of}
use Rattle.scene_cells.specs.declared.choices.Interrupts.{Interrupts}
use Rattle.scene_cells.specs.Choices.{interrupts_of}
use Rattle.vrc6_slots.specs.declared.Mirroring.{Mirroring}
use Rattle.vrc6_banking.specs.declared.banking.Revision.{Revision}
use Rattle.vrc6_slots.specs.contracts.MirroringPartialEq.TheImpl as mirroring
use Rattle.vrc6_banking.specs.contracts.banking.RevisionPartialEq.TheImpl as revision
use Rattle.scene_cells.specs.contracts.choices.InterruptsPartialEq.TheImpl as interrupts
use Rattle.vrc6_words.specs.Named.{mirroring_of, revision_of}

-- a length (docs/SCENES.md)
abbrev pub length_word : List ℕ → Result ℕ NumberError
length_word word = number_of 10 262_144 word

-- a line that is given (docs/SCENES.md)
abbrev pub given_line : Result ℕ NumberError → Result (Option ℕ) NumberError
given_line (Ok line) = Ok (Some line)
given_line (Err e) = Err e

-- the line of a window (docs/SCENES.md)
abbrev pub window_word : List ℕ → Result (Option ℕ) NumberError
window_word word = given_line (number_of 10 1_000_000 word)

-- a revision (docs/SCENES.md)
abbrev pub revision_word : List ℕ → Result Revision NumberError
revision_word word = ok_or (revision_of word) NoNumber

-- a mirroring (docs/SCENES.md)
abbrev pub mirroring_word : List ℕ → Result Mirroring NumberError
mirroring_word word = ok_or (mirroring_of word) NoNumber

-- a choice of interrupts (docs/SCENES.md)
abbrev pub interrupts_word : List ℕ → Result Interrupts NumberError
interrupts_word word = ok_or (interrupts_of word) NoNumber

-- two revisions are equal, as their `==` says
abbrev pub same_revision : (a b : Revision) → Bool
same_revision = (revision.ghosts).eq

-- two mirrorings, likewise
abbrev pub same_mirroring : (a b : Mirroring) → Bool
same_mirroring = (mirroring.ghosts).eq

-- two choices of interrupts, likewise
abbrev pub same_interrupts : (a b : Interrupts) → Bool
same_interrupts = (interrupts.ghosts).eq

-- two lines of windows, or none, likewise
abbrev pub same_window : (a b : Option ℕ) → Bool
same_window = option_eq nat_eq
