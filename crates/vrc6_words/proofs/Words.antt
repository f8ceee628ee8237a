-- The letters and the examples, computed. Assumes nothing.
use mathlib.Core.Path.{refl}
use Rattle.std.specs.Prelude.{◌≡◌, [], ◌∷◌, Some}
use Rattle.vrc6_slots.specs.declared.Mirroring.{Mirroring}
use Rattle.vrc6_slots.specs.declared.Mirroring.TheVariants.{Vertical, Horizontal, SingleScreenA, SingleScreenB, FourScreen}
use Rattle.vrc6_slots.specs.Numbered.{mirroring_letter}
use Rattle.vrc6_banking.specs.declared.banking.Revision.{Revision}
use Rattle.vrc6_banking.specs.declared.banking.Revision.TheVariants.{A, B}
use Rattle.vrc6_banking.specs.Banking.{revision_letter}
use Rattle.vrc6_words.specs.Laws.{LettersLaw, WordExamples}
use Rattle.vrc6_words.specs.Named.{mirroring_of, revision_of}

mirrorings : (m : Mirroring) → mirroring_of (mirroring_letter m ∷ []) ≡ Some m
mirrorings Vertical = refl
mirrorings Horizontal = refl
mirrorings SingleScreenA = refl
mirrorings SingleScreenB = refl
mirrorings FourScreen = refl

revisions : (r : Revision) → revision_of (revision_letter r ∷ []) ≡ Some r
revisions A = refl
revisions B = refl

pub letters_law : LettersLaw
letters_law = record { mirrorings = mirrorings; revisions = revisions }

pub examples : WordExamples
examples =
    record {
      vertical = refl;
      horizontal = refl;
      screen_a = refl;
      screen_b = refl;
      four = refl;
      no_mirroring = refl;
      two_letters = refl;
      no_word = refl;
      revision_a = refl;
      revision_b = refl;
      no_revision = refl;
    }
