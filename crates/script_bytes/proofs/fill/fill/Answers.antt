-- `fill` meets its contract. Assumes nothing.
use Rattle.std.proofs.Common.{◌≡◌, ℕ, ◌+◌, ◌%◌, ◌^◌, length, ap, ◌∙◌, arith}
use Rattle.base_shared.specs.Lists.{tabulate}
use Rattle.script_bytes.specs.Fill.{fill_byte}
use Rattle.script_bytes.proofs.Filling.{each_of}
use Rattle.script_bytes.proofs.fill.fill.Goals as goal

pub returns : goal.returns
returns c =
    let w = c.loop-i in
    let f : ℕ → ℕ = λ k. fill_byte ((c.args.first + k) % 2 ^ 32) c.args.seed in
    let size : length w.part ≡ length c.args.part.now = omega arith in
    each_of w.part f (λ k h. w.invariant k (omega (arith, h))) ∙ ap (λ n. tabulate n f) size
