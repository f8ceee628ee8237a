-- The tests of the three channels, joined in the order of the code, pass exactly where each range holds. Assumes nothing.
use Prim.Native.Nat.{ℕ, ◌%◌, ◌≤◌}
use native.Mathlib.Omega.{arith}
use mathlib.Core.Path.{◌≡◌, refl, sym}
use mathlib.Core.Bool.{Bool, true, false, ◌&&◌, ◌||◌, false≢true}
use mathlib.Core.List.{List, [], ◌∷◌}
use lib.Dec.{leb, eqb}
use borrow.Author.Tests.{leb-true, le-leb, eqb-true, eqb-false, eq-eqb}
use Rattle.base_shared.proofs.Tests.{and_left, and_right, both}
use Rattle.audio_pulse.specs.declared.Pulse.{Pulse}
use Rattle.audio_saw.specs.declared.Saw.{Saw}
use Rattle.audio_shared.specs.Ranges.{is_shift}
use Rattle.audio_channels.specs.Ranges.{pulse_in_range, saw_in_range, channels_in_range}
use Rattle.audio_shared.specs.Required.{ChannelIn}
use Rattle.audio_channels.proofs.Ranged.{three, pulse_in, pulse_tested, saw_in, saw_tested}

-- ---- tests that are joined one after another
abbrev pub joined : Bool → List Bool → Bool
joined b [] = b
joined b (c ∷ cs) = joined (b && c) cs

abbrev Each : List Bool → Type 0
Each [] = Unit {0}
Each (c ∷ cs) = (c ≡ true) × Each cs

each : (b : Bool) (cs : List Bool) → joined b cs ≡ true → (b ≡ true) × Each cs
each b [] h = (h, tt)
each b (c ∷ cs) h = let k = each (b && c) cs h in (and_left b c k.0, (and_right b c k.0, k.1))

join : (b : Bool) (cs : List Bool) → b ≡ true → Each cs → joined b cs ≡ true
join b [] h k = h
join b (c ∷ cs) h k = join (b && c) cs (both h k.0) k.1

alike : (p q : Bool) → (p ≡ true → q ≡ true) → (q ≡ true → p ≡ true) → p ≡ q
alike true q f g = sym (f refl)
alike false true f g = g refl
alike false false f g = refl

-- ---- a shift, tested as a multiple of 4 that is 8 at most
shift_is : (s : ℕ) → s % 4 ≡ 0 → s ≤ 8 → is_shift s ≡ true
shift_is s m h = go (eqb s 0) (eqb s 4) (eqb s 8) refl refl refl
  where
    go : (a b c : Bool) → eqb s 0 ≡ a → eqb s 4 ≡ b → eqb s 8 ≡ c → (a || b || c) ≡ true
    go true b c e f g = refl
    go false true c e f g = refl
    go false false true e f g = refl
    go false false false e f g = absurd (omega (arith, eqb-false))

shift_even : (s : ℕ) → is_shift s ≡ true → s % 4 ≡ 0
shift_even s h = go (eqb s 0) (eqb s 4) (eqb s 8) refl refl refl h
  where
    go : (a b c : Bool) → eqb s 0 ≡ a → eqb s 4 ≡ b → eqb s 8 ≡ c → (a || b || c) ≡ true → s % 4 ≡ 0
    go true b c e f g h = omega (arith, eqb-true)
    go false true c e f g h = omega (arith, eqb-true)
    go false false true e f g h = omega (arith, eqb-true)
    go false false false e f g h = absurd (false≢true h)

-- ---- a channel
abbrev in_time : ℕ → Bool
in_time t = leb 1 t && leb t 4096

module _ (f t s : ℕ) where
  channel_of : leb f 4095 ≡ true → in_time t ≡ true → eqb (s % 4) 0 ≡ true → leb s 8 ≡ true → ChannelIn f t s
  channel_of a b c d =
      record {
        frequency_top = leb-true f 4095 a;
        timer_low = leb-true 1 t (and_left (leb 1 t) (leb t 4096) b);
        timer_top = leb-true t 4096 (and_right (leb 1 t) (leb t 4096) b);
        shift_top = leb-true s 8 d;
        shift_is = shift_is s (eqb-true (s % 4) 0 c) (leb-true s 8 d);
      }

  module _ (h : ChannelIn f t s) where
    frequency_passes : leb f 4095 ≡ true
    frequency_passes = le-leb f 4095 h.frequency_top

    timer_passes : in_time t ≡ true
    timer_passes = both (le-leb 1 t h.timer_low) (le-leb t 4096 h.timer_top)

    shift_passes : leb s 8 ≡ true
    shift_passes = le-leb s 8 h.shift_top

    even_passes : eqb (s % 4) 0 ≡ true
    even_passes = eq-eqb (s % 4) 0 (shift_even s h.shift_is)

-- ---- the three channels
module _ (p q : Pulse) (s : Saw) where
  abbrev tests : List Bool
  tests =
      leb q.volume 15 ∷ leb p.step 15 ∷ leb q.step 15 ∷ leb p.duty_cycle 7 ∷ leb q.duty_cycle 7 ∷
      leb p.frequency 4095 ∷ leb q.frequency 4095 ∷ leb s.frequency 4095 ∷ in_time p.timer ∷ in_time q.timer ∷ in_time s.timer ∷
      leb s.accum_rate 63 ∷ leb s.step 13 ∷
      eqb (p.freq_shift % 4) 0 ∷ eqb (q.freq_shift % 4) 0 ∷ eqb (s.freq_shift % 4) 0 ∷
      leb p.freq_shift 8 ∷ leb q.freq_shift 8 ∷ leb s.freq_shift 8 ∷ []

  there : joined (leb p.volume 15) tests ≡ true → channels_in_range p q s ≡ true
  there h = go (each (leb p.volume 15) tests h)
    where
      go : (leb p.volume 15 ≡ true) × Each tests → channels_in_range p q s ≡ true
      go (v, (w, (k, (l, (d, (e, (f, (g, (i, (t, (u, (x, (r, (n, (a, (b, (c, (y, (z, (o, _)))))))))))))))))))) =
          both
          (both
          (pulse_tested p (record { volume_top = leb-true p.volume 15 v; duty_top = leb-true p.duty_cycle 7 d; step_top = leb-true p.step 15 k; channel = channel_of p.frequency p.timer p.freq_shift f t a y }))
          (pulse_tested q (record { volume_top = leb-true q.volume 15 w; duty_top = leb-true q.duty_cycle 7 e; step_top = leb-true q.step 15 l; channel = channel_of q.frequency q.timer q.freq_shift g u b z })))
          (saw_tested s (record { rate_top = leb-true s.accum_rate 63 r; step_top = leb-true s.step 13 n; channel = channel_of s.frequency s.timer s.freq_shift i x c o }))

  back : channels_in_range p q s ≡ true → joined (leb p.volume 15) tests ≡ true
  back h =
      let k = three (pulse_in_range p) (pulse_in_range q) (saw_in_range s) h in
      let a = pulse_in p k.0 in
      let b = pulse_in q k.1 in
      let c = saw_in s k.2 in
      join (leb p.volume 15) tests (le-leb p.volume 15 a.volume_top) (
        le-leb q.volume 15 b.volume_top,
        (
          le-leb p.step 15 a.step_top,
          (
            le-leb q.step 15 b.step_top,
            (
              le-leb p.duty_cycle 7 a.duty_top,
              (
                le-leb q.duty_cycle 7 b.duty_top,
                (
                  frequency_passes p.frequency p.timer p.freq_shift a.channel,
                  (
                    frequency_passes q.frequency q.timer q.freq_shift b.channel,
                    (
                      frequency_passes s.frequency s.timer s.freq_shift c.channel,
                      (
                        timer_passes p.frequency p.timer p.freq_shift a.channel,
                        (
                          timer_passes q.frequency q.timer q.freq_shift b.channel,
                          (
                            timer_passes s.frequency s.timer s.freq_shift c.channel,
                            (
                              le-leb s.accum_rate 63 c.rate_top,
                              (
                                le-leb s.step 13 c.step_top,
                                (
                                  even_passes p.frequency p.timer p.freq_shift a.channel,
                                  (
                                    even_passes q.frequency q.timer q.freq_shift b.channel,
                                    (
                                      even_passes s.frequency s.timer s.freq_shift c.channel,
                                      (shift_passes p.frequency p.timer p.freq_shift a.channel, (shift_passes q.frequency q.timer q.freq_shift b.channel, (shift_passes s.frequency s.timer s.freq_shift c.channel, tt))),
                                    ),
                                  ),
                                ),
                              ),
                            ),
                          ),
                        ),
                      ),
                    ),
                  ),
                ),
              ),
            ),
          ),
        ),
      )

  pub channels_joined : joined (leb p.volume 15) tests ≡ channels_in_range p q s
  channels_joined = alike (joined (leb p.volume 15) tests) (channels_in_range p q s) there back
