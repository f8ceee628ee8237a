-- `Output::fill` meets its contract. Assumes nothing.
use native.Mathlib.Omega.{arith}
use Rattle.std.proofs.Common.{sym, ap, ap₂, ◌∙◌, ◌++◌, ◌-◌, ◌+◌, ◌≡◌, length}
use Rattle.std.proofs.lemmas.List.{length-take-le}
use Rattle.text_output.specs.Appends.{waiting}
use Rattle.text_output.proofs.Waiting.{whole_out}
use Rattle.text_output.proofs.Output.fill.Goals as goal

pub loop-self-preserved : goal.loop-self-preserved
loop-self-preserved c =
    let s = c.loop-self.self in
    let r = c.loop-self.rest.now in
    let k = 65536 - c.self.inside.len in
    let w = c.self.inside in
    let n : length s ≡ w.len = sym (ap length c.self.view_is) ∙ length-take-le w.len w.bytes (omega (arith, c.self.told, c.self.invariant)) in
    let e : length s + k ≡ 65536 = omega (arith, n, c.self.invariant) in
    c.loop-self.invariant
    ∙ whole_out s r k e c.loop-self-test.true
    ∙ ap waiting (ap₂ ◌++◌ (sym c.flush.ensures) (sym c.split_at.ensures.back))
