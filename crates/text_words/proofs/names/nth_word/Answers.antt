-- `nth_word` meets its contract. Assumes nothing.
use Rattle.std.proofs.Common.{refl}
use Rattle.std.proofs.lemmas.Iterator.Consumers.{YieldsList-from_first, nth_from_yields_List}
use Rattle.text_words.specs.Names.{nth_word, words_of}
use Rattle.text_words.proofs.names.nth_word.Goals as goal

pub returns : goal.returns
unfolding nth_word
returns c = nth_from_yields_List _ c.nth.new.self _ c.nth.ensures.ran (YieldsList-from_first (λ w. w.now) (λ s. words_of s.text.now) _ refl)
