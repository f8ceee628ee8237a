-- `same` meets its contract. Assumes nothing.
use borrow.Author.Rules.{rules}
use borrow.Author.Tests.{eqb-true}
use Rattle.base_floats.proofs.Sums.{bits_same}
use Rattle.base_floats.proofs.same.Goals as goal

pub returns-then-x-y : goal.returns-then-x-y
returns-then-x-y c = λ e. bits_same _ _ (search rules) (search rules) (eqb-true _ _ e)
