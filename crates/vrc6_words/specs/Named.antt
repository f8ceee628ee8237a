-- The mirroring and the revision that a word names, where a capital counts as its small letter (docs/SCENES.md). Assumes nothing.
use Rattle.std.specs.Prelude.{List, [], ◌∷◌, ℕ, Option}
use Rattle.text_words.specs.Names.{codes, named}
use Rattle.vrc6_slots.specs.declared.Mirroring.{Mirroring}
use Rattle.vrc6_slots.specs.declared.Mirroring.TheVariants.{Vertical, Horizontal, SingleScreenA, SingleScreenB, FourScreen}
use Rattle.vrc6_banking.specs.declared.banking.Revision.{Revision}
use Rattle.vrc6_banking.specs.declared.banking.Revision.TheVariants.{A, B}

-- the mirrorings by their words: V, H, A, B or 4 (docs/SCENES.md; oracle/FORMAT.md)
abbrev pub mirrorings : List (List ℕ × Mirroring)
mirrorings = (codes "V", Vertical) ∷ (codes "H", Horizontal) ∷ (codes "A", SingleScreenA) ∷ (codes "B", SingleScreenB) ∷ (codes "4", FourScreen) ∷ []

-- a word's mirroring
abbrev pub mirroring_of : List ℕ → Option Mirroring
mirroring_of word = named mirrorings word

-- the revisions by their words: A or B (docs/SCENES.md; oracle/FORMAT.md)
abbrev pub revisions : List (List ℕ × Revision)
revisions = (codes "A", A) ∷ (codes "B", B) ∷ []

-- a word's revision
abbrev pub revision_of : List ℕ → Option Revision
revision_of word = named revisions word
