-- A step's number keeps the step, every word's step has such a number, and examples of what the definitions give. Assumes nothing.
use Rattle.std.specs.Prelude.{◌≡◌, Some, None, Result, Ok, Err, IfOk, IfSome, List, ℕ, ◌≤◌, ◌<◌}
use Rattle.text_words.specs.Names.{codes}
use Rattle.scene_steps.specs.declared.letters.PairError.TheVariants.{NoPair, NoSlot, NoBank}
use Rattle.scene_steps.specs.declared.picture.At.{At}
use Rattle.scene_steps.specs.declared.picture.AtError.TheVariants.{NoLine, NoDot, ManyWords}
use Rattle.scene_steps.specs.declared.picture.At.TheVariants.{Line, Dot}
use Rattle.scene_steps.specs.declared.step.Step.{Step}
use Rattle.scene_steps.specs.declared.step.Step.TheVariants.{Write, Clocks, Reset}
use Rattle.scene_steps.specs.declared.step.StepError.{StepError}
use Rattle.scene_steps.specs.declared.step.StepError.TheVariants.{BadAddress, BadByte, BadClocks, NoStep}
use Rattle.text_words.specs.declared.number.NumberError.TheVariants.{NoNumber, TooLarge}
use Rattle.scene_steps.specs.Letters.{pair_of}
use Rattle.scene_steps.specs.Picture.{at_in}
use Rattle.scene_steps.specs.Steps.{code_of, step_coded, step_of, wait_of}

-- a step that its number has room for
abbrev pub StepHeld : Step → Type 0
StepHeld (Write a v) = (a < 65_536) × (v < 256)
StepHeld (Clocks n) = n < 0x1000000
StepHeld Reset = Unit {0}

-- a step read back from its number is the same
abbrev pub CodeLaw : Type 0
CodeLaw = (s : Step) → StepHeld s → step_coded (code_of s) ≡ Ok s

-- the step that a word says, if it says one: its number has room for it, and it waits 1,000,000 clocks at most
pub record Said (r : Result Step StepError) : Type 0 where
  pub in_range : IfOk r StepHeld
  pub wait : IfOk r (λ s. wait_of s ≤ 1_000_000)

-- the same for every word
abbrev pub SaidLaw : Type 0
SaidLaw = (w : List ℕ) → Said (step_of w)

-- a line and a dot of the picture, which has 262 lines of 341 dots (docs/SCENES.md)
abbrev pub InPicture : At → Type 0
InPicture (Line line) = line ≤ 261
InPicture (Dot line dot) = (line ≤ 261) × (dot ≤ 340)

-- what the cell `at` says lies in the picture (docs/SCENES.md)
abbrev pub InPictureLaw : Type 0
InPictureLaw = (cell : List ℕ) → IfOk (at_in cell) (λ at. IfSome at InPicture)

-- words of the cells `writes`, `menu` and `letters` (docs/SCENES.md)
pub record StepExamples : Type 0 where
  pub write : step_of (codes "D001=1a") ≡ Ok (Write 0xD001 0x1A)
  -- `$` and `0x` before either number, each by itself
  pub dollars : step_of (codes "$F000=$FE") ≡ Ok (Write 0xF000 0xFE)
  pub prefixed : step_of (codes "0xF000=0XFE") ≡ Ok (Write 0xF000 0xFE)
  pub mixed : step_of (codes "0f000=$fe") ≡ Ok (Write 0xF000 0xFE)
  pub no_digits : step_of (codes "$=12") ≡ Err (BadAddress NoNumber)
  pub no_digits_behind : step_of (codes "F000=0x") ≡ Err (BadByte NoNumber)
  pub two_prefixes : step_of (codes "$0xF000=12") ≡ Err (BadAddress NoNumber)
  pub clocks : step_of (codes "+114") ≡ Ok (Clocks 114)
  pub hexadecimal_clocks : step_of (codes "+$10") ≡ Err (BadClocks NoNumber)
  pub reset : step_of (codes "reset") ≡ Ok Reset
  pub capital : step_of (codes "Reset") ≡ Ok Reset
  pub no_reset : step_of (codes "resets") ≡ Err NoStep
  pub no_address : step_of (codes "D00G=12") ≡ Err (BadAddress NoNumber)
  pub large_address : step_of (codes "10000=12") ≡ Err (BadAddress TooLarge)
  pub no_byte : step_of (codes "D000=1G") ≡ Err (BadByte NoNumber)
  pub large_byte : step_of (codes "D000=100") ≡ Err (BadByte TooLarge)
  pub no_clocks : step_of (codes "+x") ≡ Err (BadClocks NoNumber)
  pub many_clocks : step_of (codes "+1000001") ≡ Err (BadClocks TooLarge)
  pub no_step : step_of (codes "foo") ≡ Err NoStep
  pub letter : pair_of (codes "3:17") ≡ Ok (record { slot = 3; bank = 17 })
  pub no_pair : pair_of (codes "17") ≡ Err NoPair
  pub no_slot : pair_of (codes "8:1") ≡ Err NoSlot
  pub no_bank : pair_of (codes "1:x") ≡ Err NoBank

-- the cell `at` (docs/SCENES.md)
pub record AtExamples : Type 0 where
  pub line : at_in (codes "0") ≡ Ok (Some (Line 0))
  pub last_line : at_in (codes " 261 ") ≡ Ok (Some (Line 261))
  pub dot : at_in (codes "241:1") ≡ Ok (Some (Dot 241 1))
  pub last_dot : at_in (codes "261:340") ≡ Ok (Some (Dot 261 340))
  pub unsaid : at_in (codes " ") ≡ Ok None
  pub no_line : at_in (codes "262") ≡ Err NoLine
  pub no_line_before : at_in (codes ":5") ≡ Err NoLine
  pub no_dot : at_in (codes "12:341") ≡ Err NoDot
  pub no_dot_behind : at_in (codes "12:") ≡ Err NoDot
  pub two_marks : at_in (codes "1:2:3") ≡ Err NoDot
  pub words : at_in (codes "12 : 1") ≡ Err ManyWords
