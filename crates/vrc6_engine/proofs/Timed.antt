-- Why a clock that passes the tests of `Engine::steady` moves of the sound the timers only. Assumes nothing.
use Rattle.std.proofs.Common.{◌≡◌, ℕ, ◌-◌, ◌≤◌, Bool, true, false, cond, ◌&&◌, ◌||◌, eqb, sym, refl, ◌∙◌, true≢false, Ok}
use lib.Ieee.{Float}
use borrow.Author.Tests.{eqb-false}
use Rattle.base_shared.proofs.Tests.{and_left, and_right, both}
use Rattle.irq.specs.declared.VrcIrq.{VrcIrq}
use Rattle.irq.specs.Timing.{irq_held}
use Rattle.audio.specs.declared.Audio.{Audio}
use Rattle.audio.specs.Sound.{summed}
use Rattle.audio_channels.specs.Ranges.{pulse_in_range, saw_in_range, channels_in_range}
use Rattle.audio_channels.proofs.Ranged.{three, pulse_in, saw_in}
use Rattle.audio.specs.Ranges.{audio_in_range}
use Rattle.audio.specs.Required.{AudioIn}
use Rattle.audio.proofs.Ranged.{in_range_law}
use Rattle.audio.proofs.Steady.{audio_falls, sum_in_range}
use Rattle.irq.specs.Timing.{clock_answer}
use Rattle.audio.specs.Sound.{audio_clocked, with_timers}
use Rattle.vrc6_engine.specs.Engine.{engine_ok, engine_clock, only_timers}

-- where of the sound a clock moves the timers only
moved : (q : VrcIrq) (a : Audio) (t u v : ℕ) → engine_ok q a ≡ true → audio_clocked a ≡ with_timers a t u v → engine_clock q a ≡ Ok (only_timers q a t u v)
moved q a t u v e m = rw e (λ i. Ok (record { engine = record { irq = (clock_answer q).irq; audio = m i }; ticked = (clock_answer q).ticked }))

-- what a clock requires of the sound
pub clock_in : (q : VrcIrq) (a : Audio) → engine_ok q a ≡ true → AudioIn a
clock_in q a h = (in_range_law a).0 (and_right (irq_held q) (audio_in_range a) h)

or_left : (a b : Bool) → (a || b) ≡ false → a ≡ false
or_left true b h = h
or_left false b h = refl

or_right : (a b : Bool) → (a || b) ≡ false → b ≡ false
or_right true b h = absurd (true≢false h)
or_right false b h = h

-- what `counted` answers of a timer
abbrev Counted : Bool → (timer t : ℕ) → Type 0
Counted on n t = 1 ≤ n → t ≡ cond on (n - 1) n

-- from its answers and from the tests
module _ (q : VrcIrq) (a : Audio) (t u v : ℕ) (same irq-in channels-in : Bool) (sum : Float) where
  pub timed : Counted a.pulse1.enabled a.pulse1.timer t → Counted a.pulse2.enabled a.pulse2.timer u → Counted a.saw.enabled a.saw.timer v
      → (eqb t 0 || eqb u 0 || eqb v 0 || a.halt) ≡ false
      → sum ≡ summed a.pulse1 a.pulse2 a.saw → (same ≡ true → a.out ≡ sum)
      → irq-in ≡ irq_held q → channels-in ≡ channels_in_range a.pulse1 a.pulse2 a.saw
      → (same && irq-in && channels-in) ≡ true → a.saw.accum ≤ 255
      → engine_clock q a ≡ Ok (only_timers q a t u v)
  timed f g h runs s o i c tests l =
      let out : a.out ≡ summed a.pulse1 a.pulse2 a.saw = o (and_left same irq-in (and_left (same && irq-in) channels-in tests)) ∙ s in
      let ranged : channels_in_range a.pulse1 a.pulse2 a.saw ≡ true = sym c ∙ and_right (same && irq-in) channels-in tests in
      let each = three (pulse_in_range a.pulse1) (pulse_in_range a.pulse2) (saw_in_range a.saw) ranged in
      let two = or_left (eqb t 0 || eqb u 0 || eqb v 0) a.halt runs in
      let one = or_left (eqb t 0 || eqb u 0) (eqb v 0) two in
      moved q a t u v
      (both (sym i ∙ and_right same irq-in (and_left (same && irq-in) channels-in tests)) (sum_in_range a ranged l out))
      (audio_falls a t u v (or_right (eqb t 0 || eqb u 0 || eqb v 0) a.halt runs) out
      (f (pulse_in a.pulse1 each.0).channel.timer_low, eqb-false t 0 (or_left (eqb t 0) (eqb u 0) one))
      (g (pulse_in a.pulse2 each.1).channel.timer_low, eqb-false u 0 (or_right (eqb t 0) (eqb u 0) one))
      (h (saw_in a.saw each.2).channel.timer_low, eqb-false v 0 (or_right (eqb t 0 || eqb u 0) (eqb v 0) two)))
