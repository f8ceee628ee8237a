-- `decode` meets its contract in the rows whose line is not told apart, and below them. Assumes nothing.
use Prim.Native.Nat.{◌+◌, ◌/◌}
use native.Mathlib.Omega.{arith}
use mathlib.Core.Path.{refl}
use Rattle.std.specs.Prelude.{Some}
use Rattle.registers.specs.declared.Register.TheVariants.{OfBank, OfAudio}
use Rattle.registers.specs.declared.BankRegister.TheVariants.{Prg16, Prg8, Chr}
use Rattle.registers.specs.declared.AudioRegister.TheVariants.{Pulse1, Pulse2, OfSaw}
use Rattle.registers.specs.Decode.{channel_register}
use Rattle.registers.proofs.Table.{three, all_four, low, but}
use Rattle.registers.proofs.decode.Goals as goal

pub returns-in-8-default : goal.returns-in-8-default
returns-in-8-default c = all_four _ _ 8 _ c.in-8-default.is-0 c.lines.ensures (λ n. Some (OfBank Prg16)) refl refl refl refl

pub returns-in-9-default : goal.returns-in-9-default
returns-in-9-default c =
    rw c.channel_register.ensures
    (three _ _ 9 _ c.in-9-default.is-0 c.lines.ensures (λ n. Some (OfAudio (Pulse1 (channel_register n)))) refl refl refl (omega (arith, c.lines.ensures)))

pub returns-in-10-default : goal.returns-in-10-default
returns-in-10-default c =
    rw c.channel_register-in-10-default.ensures
    (three _ _ 10 _ c.in-10-default.is-0 c.lines.ensures (λ n. Some (OfAudio (Pulse2 (channel_register n)))) refl refl refl (omega (arith, c.lines.ensures)))

pub returns-in-11-default : goal.returns-in-11-default
returns-in-11-default c =
    rw c.channel_register-in-11-default.ensures
    (three _ _ 11 _ c.in-11-default.is-0 c.lines.ensures (λ n. Some (OfAudio (OfSaw (channel_register n)))) refl refl refl (omega (arith, c.lines.ensures)))

pub returns-in-12-default : goal.returns-in-12-default
returns-in-12-default c = all_four _ _ 12 _ c.in-12-default.is-0 c.lines.ensures (λ n. Some (OfBank Prg8)) refl refl refl refl

pub returns-in-13-default : goal.returns-in-13-default
returns-in-13-default c =
    rw c.chr_register.ensures
    (all_four _ _ 13 _ c.in-13-default.is-0 c.lines.ensures (λ n. Some (OfBank (Chr (0 + n)))) refl refl refl refl)

pub returns-in-14-default : goal.returns-in-14-default
returns-in-14-default c =
    rw c.chr_register-in-14-default.ensures
    (all_four _ _ 14 _ c.in-14-default.is-0 c.lines.ensures (λ n. Some (OfBank (Chr (4 + n)))) refl refl refl refl)

pub returns-in_default-2 : goal.returns-in_default-2
returns-in_default-2 c =
    let w = c.in_default.is-0 in
    low _ _ (c.args.addr / 4096) _ refl c.lines.ensures
    (but _ 8 (but _ 9 (but _ 10 (but _ 11 (but _ 12 (but _ 13 (but _ 14 (but _ 15 (omega arith) w.1)
    w.0.1)
    w.0.0.1)
    w.0.0.0.1)
    w.0.0.0.0.1)
    w.0.0.0.0.0.1)
    w.0.0.0.0.0.0.1)
    w.0.0.0.0.0.0.0.1)
