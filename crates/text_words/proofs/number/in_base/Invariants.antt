-- `in_base` meets its contract. Assumes nothing.
use Rattle.text_words.proofs.Digits.{Read}
use Rattle.text_words.proofs.number.in_base.Given as goal

abbrev pub invariant-loop-byte : goal.invariant-loop-byte
invariant-loop-byte l = Read l.base l.word l.byte-index l.value
