-- The examples, computed. Each is an equation of its own, so no lemma serves two. Assumes nothing.
use mathlib.Core.Path.{refl}
use Rattle.text_words.specs.Numbers.{number_of}
use Rattle.scene_steps.specs.Letters.{pair_of}
use Rattle.scene_steps.specs.Picture.{at_of}
use Rattle.scene_steps.specs.Steps.{step_of}
use Rattle.scene_steps.specs.Laws.{AtExamples, StepExamples}

pub examples : StepExamples
unfolding number_of pair_of step_of
examples =
    record {
      write = refl;
      dollars = refl;
      prefixed = refl;
      mixed = refl;
      no_digits = refl;
      no_digits_behind = refl;
      two_prefixes = refl;
      clocks = refl;
      hexadecimal_clocks = refl;
      reset = refl;
      capital = refl;
      no_reset = refl;
      no_address = refl;
      large_address = refl;
      no_byte = refl;
      large_byte = refl;
      no_clocks = refl;
      many_clocks = refl;
      no_step = refl;
      letter = refl;
      no_pair = refl;
      no_slot = refl;
      no_bank = refl;
    }

pub at_examples : AtExamples
unfolding number_of at_of
at_examples =
    record {
      line = refl;
      last_line = refl;
      dot = refl;
      last_dot = refl;
      unsaid = refl;
      no_line = refl;
      no_line_before = refl;
      no_dot = refl;
      no_dot_behind = refl;
      two_marks = refl;
      words = refl;
    }
