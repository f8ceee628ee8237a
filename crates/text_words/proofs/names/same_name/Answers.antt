-- `same_name` meets its contract. Assumes nothing.
use Rattle.text_words.proofs.Same.{same_by}
use Rattle.text_words.proofs.names.same_name.Goals as goal

pub returns : goal.returns
returns c = same_by _ _ _ c.eq_ignore_ascii_case.ensures.test
