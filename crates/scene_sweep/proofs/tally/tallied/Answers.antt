-- `tallied` meets its contract. Assumes nothing.
use Rattle.std.proofs.Common.{sym, ◌∙◌, arith, ltb-false, ltb-true, rules}
use Rattle.scene_sweep.proofs.Tallying.{right_run, first_run, worst_run, milder_run}
use Rattle.scene_sweep.proofs.Badness.{ordered}
use Rattle.scene_sweep.proofs.tally.tallied.Goals as goal

pub returns-then-not-is_wrong : goal.returns-then-not-is_wrong
returns-then-not-is_wrong c = right_run c.args.from c.args.run c.requires _ (sym c.is_wrong.ensures ∙ c.if-not-is_wrong.true)

pub returns-in_default : goal.returns-in_default
returns-in_default c = rw c.in_default.is (first_run c.args.from c.args.run c.requires (sym c.is_wrong.ensures ∙ c.if-not-is_wrong.false))

pub returns-then-worse : goal.returns-then-worse
returns-then-worse c =
    let told = sym (ordered _ _ c.of.ensures.1 c.of-2.ensures.1) ∙ sym c.lt-worse.ensures in
    rw c.in-Some.is
    (worst_run c.args.from c.args.run c.requires _ (sym c.is_wrong.ensures ∙ c.if-not-is_wrong.false) (search rules)
    (omega (arith, ltb-true _ _ (told ∙ c.if-worse.true), c.of.ensures.0, c.of-2.ensures.0)))

pub returns-else-worse : goal.returns-else-worse
returns-else-worse c =
    let told = sym (ordered _ _ c.of.ensures.1 c.of-2.ensures.1) ∙ sym c.lt-worse.ensures in
    rw c.in-Some.is
    (milder_run c.args.from c.args.run c.requires _ (sym c.is_wrong.ensures ∙ c.if-not-is_wrong.false) (search rules)
    (omega (arith, ltb-false _ _ (told ∙ c.if-worse.false), c.of.ensures.0, c.of-2.ensures.0)))
