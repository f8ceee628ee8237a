-- `slots_right` meets its contract. Assumes nothing.
use Rattle.std.proofs.Common.{rules}
use Rattle.std.proofs.lemmas.Iterator.{YieldsList-from_slice, YieldsList-from_zip}
use Rattle.std.proofs.lemmas.Iterator.Search.{all_from_yields_List}
use Rattle.scene_steps.specs.Letters.{slot_right}
use Rattle.scene_steps.proofs.letters.slots_right.Goals as goal

pub returns : goal.returns
returns c =
    all_from_yields_List {s = c.zip.result} (λ p. slot_right p.0 p.1) c.all.new.self _ _ c.all.ensures.ran
    (YieldsList-from_zip (YieldsList-from_slice c.args.shown cc) (YieldsList-from_slice c.args.asked cc)) (λ x b q k. search rules)
