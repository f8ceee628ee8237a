-- `copy` meets its contract. Assumes nothing.
use Rattle.host_cartridge.proofs.Runs.{none_copied, more_copied, all_copied}
use Rattle.host_cartridge.proofs.filling.copy.Goals as goal

pub loop-i-init : goal.loop-i-init
loop-i-init c = none_copied c.args.from.now c.args.to.now

pub loop-i-preserved : goal.loop-i-preserved
loop-i-preserved c = more_copied c.args.from.now c.args.to.now c.loop-i.to c.loop-i.i c.requires c.loop-i.invariant c.loop-i-test.true

pub returns : goal.returns
returns c = all_copied c.args.from.now c.args.to.now c.loop-i.to c.loop-i.i c.requires c.loop-i.invariant c.loop-i-test.false
