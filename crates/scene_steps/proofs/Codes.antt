-- A step's number keeps the step. Assumes nothing.
use mathlib.Core.Path.{◌≡◌, refl, ap, ap₂, ◌∙◌}
use Rattle.std.proofs.Common.{Ok}
use Prim.Native.Nat.{ℕ, ◌+◌, ◌*◌, ◌/◌, ◌%◌, ◌<◌}
use native.Mathlib.Omega.{arith}
use Rattle.scene_steps.specs.declared.step.Step.TheVariants.{Write, Clocks, Reset}
use Rattle.scene_steps.specs.Laws.{CodeLaw}
use Rattle.scene_steps.specs.Steps.{step_coded, step_from}

-- a number by its kind and what it carries
by_kind : (kind low code : ℕ) → code ≡ kind * 0x1000000 + low → low < 0x1000000 → step_coded code ≡ step_from kind low
by_kind kind low code e h =
    let k : code / 0x1000000 ≡ kind = omega arith in
    let l : code % 0x1000000 ≡ low = omega arith in
    ap₂ step_from k l

pub code_law : CodeLaw
code_law (Write a v) (ha, hv) =
    let hi : (a * 256 + v) / 256 ≡ a = omega arith in
    let lo : (a * 256 + v) % 256 ≡ v = omega arith in
    by_kind 0 (a * 256 + v) (a * 256 + v) (omega arith) (omega arith) ∙ ap₂ (λ (x y : ℕ). Ok (Write x y)) hi lo
code_law (Clocks n) h =
    let l : n % 0x1000000 ≡ n = omega arith in
    by_kind 1 (n % 0x1000000) (0x1000000 + n % 0x1000000) (omega arith) (omega arith) ∙ ap (λ (x : ℕ). Ok (Clocks x)) l
code_law Reset h = refl
