-- `column_of` meets its contract. Assumes nothing.
use Rattle.std.proofs.Common.{rules, sym, ap, ◌∙◌}
use Rattle.std.specs.Option.{option_and_then, option_map}
use Rattle.std.proofs.lemmas.Iterator.{YieldsList-from_slice}
use Rattle.std.proofs.lemmas.Iterator.Adapters.{option_map_id}
use Rattle.std.proofs.lemmas.Iterator.Consumers.{YieldsList-from_copied}
use Rattle.std.proofs.lemmas.Iterator.Search.{find_from_yields_List}
use Rattle.text_words.specs.Names.{same_name}
use Rattle.scene_cells.specs.Columns.{column_name, column_named, columns}
use Rattle.scene_cells.proofs.columns.column_of.Goals as goal

pub returns : goal.returns
returns c =
    let found = find_from_yields_List (λ column. same_name c.in_ok-word.word.now (column_name column)) _ _ c.find.result c.find.ensures.ran
    (YieldsList-from_copied (YieldsList-from_slice columns cc)) (λ x b q k. search rules) in
    sym (option_map_id c.find.result) ∙ found ∙ ap (option_and_then column_named) (ap (option_map (λ w. w.now)) (sym c.in_ok-word.was) ∙ c.only_word.ensures)
