-- What is printed of a mirroring or a revision names it, and examples of what words name. Assumes nothing.
use Rattle.std.specs.Prelude.{◌≡◌, [], ◌∷◌, Some, None}
use Rattle.text_words.specs.Names.{codes}
use Rattle.vrc6_slots.specs.declared.Mirroring.{Mirroring}
use Rattle.vrc6_slots.specs.declared.Mirroring.TheVariants.{Vertical, Horizontal, SingleScreenA, SingleScreenB, FourScreen}
use Rattle.vrc6_slots.specs.Numbered.{mirroring_letter}
use Rattle.vrc6_banking.specs.declared.banking.Revision.{Revision}
use Rattle.vrc6_banking.specs.declared.banking.Revision.TheVariants.{A, B}
use Rattle.vrc6_banking.specs.Banking.{revision_letter}
use Rattle.vrc6_words.specs.Named.{mirroring_of, revision_of}

-- the letter of a mirroring or a revision names it
pub record LettersLaw : Type 0 where
  pub mirrorings : (m : Mirroring) → mirroring_of (mirroring_letter m ∷ []) ≡ Some m
  pub revisions : (r : Revision) → revision_of (revision_letter r ∷ []) ≡ Some r

-- each mirroring and each revision by its word, and words that name none (docs/SCENES.md)
pub record WordExamples : Type 0 where
  pub vertical : mirroring_of (codes "V") ≡ Some Vertical
  pub horizontal : mirroring_of (codes "h") ≡ Some Horizontal
  pub screen_a : mirroring_of (codes "A") ≡ Some SingleScreenA
  pub screen_b : mirroring_of (codes "b") ≡ Some SingleScreenB
  pub four : mirroring_of (codes "4") ≡ Some FourScreen
  pub no_mirroring : mirroring_of (codes "C") ≡ None
  pub two_letters : mirroring_of (codes "VH") ≡ None
  pub no_word : mirroring_of [] ≡ None
  pub revision_a : revision_of (codes "a") ≡ Some A
  pub revision_b : revision_of (codes "B") ≡ Some B
  pub no_revision : revision_of (codes "V") ≡ None
