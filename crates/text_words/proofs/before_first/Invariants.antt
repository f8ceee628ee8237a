-- `before_first` meets its contract. Assumes nothing.
use Prim.Native.Nat.{ℕ}
use Rattle.std.specs.Bool.{beq}
use Rattle.text_words.specs.Words.{is_blank}
use Rattle.text_words.proofs.before_first.Given as goal

abbrev pub ghost-length_before : goal.ghost-length_before
ghost-length_before a = λ (b : ℕ). beq (is_blank b) a.takes.0.now
