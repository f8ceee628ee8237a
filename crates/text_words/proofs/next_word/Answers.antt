-- `next_word` meets its contract. Assumes nothing.
use Rattle.std.proofs.Common.{sym, ◌∙◌}
use Rattle.std.proofs.lemmas.Bool.{eqb-false}
use Rattle.text_words.proofs.Cuts.{one_word}
use Rattle.text_words.proofs.next_word.Goals as goal

pub returns-else-is_empty : goal.returns-else-is_empty
returns-else-is_empty c =
    one_word c.args.text.now _ _ c.from_first-text.ensures c.before_first.ensures.bound c.before_first.ensures.cut _ c.split_at.ensures.front c.split_at.ensures.back (eqb-false _ 0 (sym c.is_empty.ensures ∙ c.if-is_empty.false))
