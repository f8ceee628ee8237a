-- The test of the ranges passes exactly where each range holds. Assumes nothing.
use Prim.Native.Nat.{ℕ, ◌≤◌}
use native.Mathlib.Omega.{arith}
use mathlib.Core.Path.{◌≡◌, refl}
use mathlib.Core.Bool.{Bool, true, false, ◌&&◌, ◌||◌, false≢true}
use lib.Dec.{leb, eqb}
use borrow.Author.Tests.{leb-true, le-leb, eqb-true}
use Rattle.base_shared.proofs.Tests.{and_left, and_right, both}
use Rattle.audio_pulse.specs.declared.Pulse.{Pulse}
use Rattle.audio_saw.specs.declared.Saw.{Saw}
use Rattle.audio_shared.specs.Ranges.{is_shift, channel_in_range}
use Rattle.audio_channels.specs.Ranges.{pulse_in_range, saw_in_range}
use Rattle.audio_shared.specs.Required.{ChannelIn}
use Rattle.audio_pulse.specs.Required.{PulseIn}
use Rattle.audio_saw.specs.Required.{SawIn}

-- what two, three and four joined tests say
two : (a b : Bool) → (a && b) ≡ true → (a ≡ true) × (b ≡ true)
two a b h = (and_left a b h, and_right a b h)

pub three : (a b c : Bool) → (a && b && c) ≡ true → (a ≡ true) × (b ≡ true) × (c ≡ true)
three a b c h = let k = two a b (and_left (a && b) c h) in (k.0, k.1, and_right (a && b) c h)

pub four : (a b c d : Bool) → (a && b && c && d) ≡ true → (a ≡ true) × (b ≡ true) × (c ≡ true) × (d ≡ true)
four a b c d h = let k = three a b c (and_left (a && b && c) d h) in (k.0, k.1, k.2, and_right (a && b && c) d h)

shift_at_most : (s : ℕ) → is_shift s ≡ true → s ≤ 8
shift_at_most s h = go (eqb s 0) (eqb s 4) (eqb s 8) refl refl refl h
  where
    go : (a b c : Bool) → eqb s 0 ≡ a → eqb s 4 ≡ b → eqb s 8 ≡ c → (a || b || c) ≡ true → s ≤ 8
    go true b c e f g h = omega (arith, eqb-true)
    go false true c e f g h = omega (arith, eqb-true)
    go false false true e f g h = omega (arith, eqb-true)
    go false false false e f g h = absurd (false≢true h)

module _ (f t s : ℕ) where
  channel_in : channel_in_range f t s ≡ true → ChannelIn f t s
  channel_in h =
      let k = four (leb f 4095) (leb 1 t) (leb t 4096) (is_shift s) h in
      record {
        frequency_top = leb-true f 4095 k.0;
        timer_low = leb-true 1 t k.1;
        timer_top = leb-true t 4096 k.2;
        shift_top = shift_at_most s k.3;
        shift_is = k.3;
      }

  channel_tested : ChannelIn f t s → channel_in_range f t s ≡ true
  channel_tested h =
      both (both (both (le-leb f 4095 h.frequency_top) (le-leb 1 t h.timer_low)) (le-leb t 4096 h.timer_top)) h.shift_is

module _ (p : Pulse) where
  pub pulse_in : pulse_in_range p ≡ true → PulseIn p
  unfolding pulse_in_range
  pulse_in h =
      let k = four (leb p.volume 15) (leb p.duty_cycle 7) (leb p.step 15) (channel_in_range p.frequency p.timer p.freq_shift) h in
      record {
        volume_top = leb-true p.volume 15 k.0;
        duty_top = leb-true p.duty_cycle 7 k.1;
        step_top = leb-true p.step 15 k.2;
        channel = channel_in p.frequency p.timer p.freq_shift k.3;
      }

  pub pulse_tested : PulseIn p → pulse_in_range p ≡ true
  unfolding pulse_in_range
  pulse_tested h =
      both (both (both (le-leb p.volume 15 h.volume_top) (le-leb p.duty_cycle 7 h.duty_top)) (le-leb p.step 15 h.step_top))
      (channel_tested p.frequency p.timer p.freq_shift h.channel)

module _ (s : Saw) where
  pub saw_in : saw_in_range s ≡ true → SawIn s
  unfolding saw_in_range
  saw_in h =
      let k = three (leb s.accum_rate 63) (leb s.step 13) (channel_in_range s.frequency s.timer s.freq_shift) h in
      record {
        rate_top = leb-true s.accum_rate 63 k.0;
        step_top = leb-true s.step 13 k.1;
        channel = channel_in s.frequency s.timer s.freq_shift k.2;
      }

  pub saw_tested : SawIn s → saw_in_range s ≡ true
  unfolding saw_in_range
  saw_tested h =
      both (both (le-leb s.accum_rate 63 h.rate_top) (le-leb s.step 13 h.step_top))
      (channel_tested s.frequency s.timer s.freq_shift h.channel)
