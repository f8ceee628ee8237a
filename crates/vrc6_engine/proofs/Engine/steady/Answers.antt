-- `Engine::steady` meets its contract. Assumes nothing.
use Rattle.std.proofs.Common.{◌∙◌, arith}
use Rattle.vrc6_engine.proofs.Timed.{timed}
use Rattle.vrc6_engine.proofs.Engine.steady.Goals as goal

pub returns-then-same-in_range : goal.returns-then-same-in_range
returns-then-same-in_range c =
    let e = c.args.self in
    timed e.irq e.audio c.counted-pulse1.result c.counted-pulse2.result c.counted-saw.result c.same.result c.in_range.result c.channels_in_range.result c.summed-sum.result
    c.counted-pulse1.ensures c.counted-pulse2.ensures c.counted-saw.ensures c.if-pulse1-pulse2.false
    c.summed-sum.ensures c.same.ensures c.in_range.ensures c.channels_in_range.ensures c.if-same-in_range.true (omega (arith, c.well_formed))
