-- `follow` meets its contract: the entries passed are in place. Assumes nothing.
use native.Mathlib.Omega.{arith}
use Rattle.memory_pages.specs.Pages.{pages_on}
use Rattle.memory_rule.proofs.Filling.{passed_more, passed_all}
use Rattle.memory_rule.proofs.follow.Goals as goal

pub loop-i-preserved : goal.loop-i-preserved
loop-i-preserved c =
    let l = c.loop-i in
    passed_more c.args.window.now (pages_on c.args.first) l.window l.i _ l.invariant (omega arith) c.pages_on.ensures

pub returns : goal.returns
returns c = let l = c.loop-i in passed_all c.args.window.now (pages_on c.args.first) l.window l.i l.invariant (omega arith)
