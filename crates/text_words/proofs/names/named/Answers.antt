-- `named` meets its contract. Assumes nothing.
use Rattle.std.proofs.Common.{rules, ◌≡◌, ◌∙◌, option_map}
use borrow.Author.Tests.{tests}
use Rattle.std.proofs.lemmas.Iterator.{YieldsList-from_slice}
use Rattle.std.proofs.lemmas.Iterator.Search.{find_from_yields_List}
use Rattle.text_words.specs.Names.{same_name}
use Rattle.text_words.proofs.Tables.{part_found}
use Rattle.text_words.proofs.names.named.Goals as goal

pub returns : goal.returns
returns g c =
    let found = find_from_yields_List (λ t. same_name t.0.now c.args.word.now) _ _ c.find.result c.find.ensures.ran (YieldsList-from_slice c.args.table.now cc) (λ x b q k. search (rules, tests)) in
    let part : c.map.result ≡ option_map (λ x. x.now.1) c.find.result = search (rules, tests) in
    part ∙ part_found (λ t. (t.0.now, t.1)) (λ t. t.1) (λ t. same_name t.0 c.args.word.now) c.args.table.now c.find.result found
