-- `place_in` meets its contract. Assumes nothing.
use Rattle.std.proofs.Common.{◌<◌, length, refl, arith, rules, inl}
use borrow.Author.Tests.{tests}
use Rattle.std.proofs.lemmas.Iterator.Consumers.{YieldsList-from_first}
use Rattle.std.proofs.lemmas.Iterator.Search.{position_from_yields_List}
use Rattle.std.proofs.lemmas.Option.{IfSome_then}
use Rattle.text_words.specs.Names.{place_in, same_name, words_of}
use Rattle.text_words.proofs.Words.{few}
use Rattle.text_words.proofs.names.place_in.Goals as goal

pub position-requires-clause-fits : goal.position-requires-clause-fits
position-requires-clause-fits c = inl (omega (arith, few c.args.names.now))

pub returns-clause-value : goal.returns-clause-value
unfolding place_in
returns-clause-value c =
    position_from_yields_List (same_name c.args.name.now) c.position.new.self _ _ c.position.ensures.ran (YieldsList-from_first (λ w. w.now) (λ s. words_of s.text.now) _ refl) (λ x b q k. search (rules, tests))

pub returns-clause-upper_bound : goal.returns-clause-upper_bound
returns-clause-upper_bound c = IfSome_then _ {Q = λ i. i < length c.args.names.now} c.position.ensures.bound (λ i h. omega (arith, few c.args.names.now))
