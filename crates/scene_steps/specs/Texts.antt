-- What is wrong with a word of a scene, as it is told behind the word (docs/SCENES.md). Assumes nothing.
use Rattle.std.specs.Prelude.{List, ℕ}
use Rattle.text_words.specs.Names.{codes}
use Rattle.text_words.specs.declared.number.NumberError.TheVariants.{NoNumber, TooLarge}
use Rattle.scene_steps.specs.declared.letters.PairError.{PairError}
use Rattle.scene_steps.specs.declared.letters.PairError.TheVariants.{NoPair, NoSlot, NoBank}
use Rattle.scene_steps.specs.declared.picture.AtError.{AtError}
use Rattle.scene_steps.specs.declared.picture.AtError.TheVariants.{NoLine, NoDot, ManyWords}
use Rattle.scene_steps.specs.declared.step.StepError.{StepError}
use Rattle.scene_steps.specs.declared.step.StepError.TheVariants.{BadAddress, BadByte, BadClocks, NoStep}

-- of a step
abbrev pub step_error_text : StepError → List ℕ
step_error_text (BadAddress NoNumber) = codes "is no hexadecimal address"
step_error_text (BadAddress TooLarge) = codes "has an address above FFFF"
step_error_text (BadByte NoNumber) = codes "is no hexadecimal byte"
step_error_text (BadByte TooLarge) = codes "has a byte above FF"
step_error_text (BadClocks NoNumber) = codes "is no number of clocks"
step_error_text (BadClocks TooLarge) = codes "is above 1000000 clocks"
step_error_text NoStep = codes "is no step: AAAA=BB, +N or reset"

-- of a pair of the letters
abbrev pub pair_error_text : PairError → List ℕ
pair_error_text NoPair = codes "is no pair slot:bank"
pair_error_text NoSlot = codes "has no slot of 0 to 7"
pair_error_text NoBank = codes "has no bank of 0 to 255"

-- of the cell `at`
abbrev pub at_error_text : AtError → List ℕ
at_error_text NoLine = codes "is no line of 0 to 261"
at_error_text NoDot = codes "has no dot of 0 to 340"
at_error_text ManyWords = codes "is more than one word"
