-- `in_base` meets its contract. Assumes nothing.
use Rattle.std.proofs.Common.{sym, ◌∙◌, arith}
use borrow.Author.Tests.{eqb-true, eqb-false}
use Rattle.text_words.proofs.Digits.{more, number_empty, no_digit, in_limit, over}
use Rattle.text_words.proofs.number.in_base.Goals as goal

pub returns-then-is_empty-clause-value : goal.returns-then-is_empty-clause-value
returns-then-is_empty-clause-value c = number_empty _ _ _ (eqb-true _ 0 (sym c.is_empty.ensures ∙ c.if-is_empty.true))

pub returns-in_default-clause-value : goal.returns-in_default-clause-value
returns-in_default-clause-value c = no_digit _ _ _ _ c.loop-byte-test.true (sym c.in_default.ensures)

pub loop-byte-preserved : goal.loop-byte-preserved
loop-byte-preserved c = rw (c.saturating_add-value.ensures, c.saturating_mul.ensures) (more _ _ _ c.loop-byte-test.true _ _ c.loop-byte.invariant c.in-Some.ensures)

pub returns-then-value-from-clause-value : goal.returns-then-value-from-clause-value
returns-then-value-from-clause-value c =
    in_limit _ _ _ _ _ c.loop-byte.invariant c.loop-byte-test.false (let n = eqb-false _ 0 (sym c.is_empty.ensures ∙ c.if-is_empty.false) in omega arith) c.ranges.limit.fits (omega arith)

pub returns-else-value-from-clause-value : goal.returns-else-value-from-clause-value
returns-else-value-from-clause-value c =
    over _ _ _ _ _ c.loop-byte.invariant c.loop-byte-test.false (let n = eqb-false _ 0 (sym c.is_empty.ensures ∙ c.if-is_empty.false) in omega arith) c.ranges.limit.fits (omega arith)
