-- The laws, and the examples, computed. Assumes nothing.
use Rattle.std.proofs.Common.{◌≡◌, ℕ, Bool, true, false, cond, List, Option, Some, None, Result, Ok, Err, refl, sym, ap, ◌∙◌}
use borrow.Author.Tests.{eqb-true}
use Rattle.base_shared.proofs.Tests.{tested}
use Rattle.text_words.specs.declared.number.NumberError.{NumberError}
use Rattle.text_words.specs.Names.{place_in}
use Rattle.text_words.specs.Numbers.{number_of}
use Rattle.text_words.specs.Words.{from_word, is_empty, past_word, word_of}
use Rattle.vrc6_slots.specs.declared.Mirroring.{Mirroring}
use Rattle.vrc6_slots.specs.declared.Mirroring.TheVariants.{Vertical, Horizontal, SingleScreenA, SingleScreenB, FourScreen}
use Rattle.vrc6_banking.specs.declared.banking.Revision.{Revision}
use Rattle.vrc6_banking.specs.declared.banking.Revision.TheVariants.{A, B}
use Rattle.scene_cells.specs.declared.choices.Interrupts.{Interrupts}
use Rattle.scene_cells.specs.declared.choices.Interrupts.TheVariants.{Masked, Open}
use Rattle.scene_files.specs.declared.singles.Said.TheVariants.{File}
use Rattle.scene_files.specs.declared.singles.SingleError.{SingleError}
use Rattle.scene_files.specs.declared.singles.SingleError.TheVariants.{ManyWords, NotTheFile}
use Rattle.scene_files.specs.Laws.{Agreed, AgreedLaw, FileExamples}
use Rattle.scene_files.specs.Singles.{compared}
use Rattle.scene_files.specs.Words.{same_interrupts, same_mirroring, same_revision, same_window}

module _ {T : Type 0} (same : T → T → Bool) (equal : (a b : T) → same a b ≡ true → a ≡ b) where
  -- a value beside the file's is the file's
  by_value : (said value : T) (k : Result T NumberError) → compared same (File said) k ≡ Ok value → value ≡ said
  by_value said value (Err e) h = cc
  by_value said value (Ok m) h =
      tested (same m said)
      (λ e.
      let v : ◌≡◌ {A = Result T SingleError} (Ok m) (Ok value) = sym (ap (λ (t : Bool). cond t (Ok m) (Err NotTheFile)) e) ∙ h in
      let w : m ≡ value = cc in
      sym w ∙ equal m said e)
      (λ e. let v : ◌≡◌ {A = Result T SingleError} (Err NotTheFile) (Ok value) = sym (ap (λ (t : Bool). cond t (Ok m) (Err NotTheFile)) e) ∙ h in cc)

  module _ (reads : List ℕ → Result T NumberError) (said : T) (cell : List ℕ) where
    abbrev behind : Bool → Result T SingleError
    behind t = cond t (compared same (File said) (reads (word_of (from_word cell)))) (Err ManyWords)

    abbrev all : Bool → Result T SingleError
    all t = cond t (Ok said) (behind (is_empty (past_word (from_word cell))))

  agreed : Agreed same
  agreed reads said value cell h = tested (is_empty cell) blank filled
    where
      blank : is_empty cell ≡ true → value ≡ said
      blank e = let v : ◌≡◌ {A = Result T SingleError} (Ok said) (Ok value) = sym (ap (all reads said cell) e) ∙ h in cc

      filled : is_empty cell ≡ false → value ≡ said
      filled e =
          let v : behind reads said cell (is_empty (past_word (from_word cell))) ≡ Ok value = sym (ap (all reads said cell) e) ∙ h in
          tested (is_empty (past_word (from_word cell)))
          (λ f. by_value said value (reads (word_of (from_word cell))) (sym (ap (behind reads said cell) f) ∙ v))
          (λ f. let m : ◌≡◌ {A = Result T SingleError} (Err ManyWords) (Ok value) = sym (ap (behind reads said cell) f) ∙ v in cc)

-- `==` tells the values apart
equal_revisions : (a b : Revision) → same_revision a b ≡ true → a ≡ b
equal_revisions A A h = refl
equal_revisions A B h = absurd (cc)
equal_revisions B A h = absurd (cc)
equal_revisions B B h = refl

equal_mirrorings : (a b : Mirroring) → same_mirroring a b ≡ true → a ≡ b
equal_mirrorings Vertical Vertical h = refl
equal_mirrorings Vertical Horizontal h = absurd (cc)
equal_mirrorings Vertical SingleScreenA h = absurd (cc)
equal_mirrorings Vertical SingleScreenB h = absurd (cc)
equal_mirrorings Vertical FourScreen h = absurd (cc)
equal_mirrorings Horizontal Vertical h = absurd (cc)
equal_mirrorings Horizontal Horizontal h = refl
equal_mirrorings Horizontal SingleScreenA h = absurd (cc)
equal_mirrorings Horizontal SingleScreenB h = absurd (cc)
equal_mirrorings Horizontal FourScreen h = absurd (cc)
equal_mirrorings SingleScreenA Vertical h = absurd (cc)
equal_mirrorings SingleScreenA Horizontal h = absurd (cc)
equal_mirrorings SingleScreenA SingleScreenA h = refl
equal_mirrorings SingleScreenA SingleScreenB h = absurd (cc)
equal_mirrorings SingleScreenA FourScreen h = absurd (cc)
equal_mirrorings SingleScreenB Vertical h = absurd (cc)
equal_mirrorings SingleScreenB Horizontal h = absurd (cc)
equal_mirrorings SingleScreenB SingleScreenA h = absurd (cc)
equal_mirrorings SingleScreenB SingleScreenB h = refl
equal_mirrorings SingleScreenB FourScreen h = absurd (cc)
equal_mirrorings FourScreen Vertical h = absurd (cc)
equal_mirrorings FourScreen Horizontal h = absurd (cc)
equal_mirrorings FourScreen SingleScreenA h = absurd (cc)
equal_mirrorings FourScreen SingleScreenB h = absurd (cc)
equal_mirrorings FourScreen FourScreen h = refl

equal_choices : (a b : Interrupts) → same_interrupts a b ≡ true → a ≡ b
equal_choices Masked Masked h = refl
equal_choices Masked Open h = absurd (cc)
equal_choices Open Masked h = absurd (cc)
equal_choices Open Open h = refl

equal_windows : (a b : Option ℕ) → same_window a b ≡ true → a ≡ b
equal_windows None None h = refl
equal_windows None (Some y) h = absurd (cc)
equal_windows (Some x) None h = absurd (cc)
equal_windows (Some x) (Some y) h = ap Some (eqb-true x y h)

pub agreed_law : AgreedLaw
agreed_law =
    record {
      number = agreed _ eqb-true;
      revision = agreed _ equal_revisions;
      mirroring = agreed _ equal_mirrorings;
      interrupts = agreed _ equal_choices;
      window = agreed _ equal_windows;
    }

pub examples : FileExamples
unfolding place_in number_of
examples =
    record {
      agrees = refl;
      empty = refl;
      otherwise = refl;
      no_file = refl;
      letter = refl;
      other_letter = refl;
      no_letter = refl;
      unsaid = refl;
      masked = refl;
      open_choice = refl;
      no_choice = refl;
      large = refl;
      words = refl;
    }
