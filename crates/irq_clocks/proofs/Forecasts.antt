-- The forecast is the least number of clocks of which the last sets pending. Assumes nothing.
use mathlib.Core.Path.{◌≡◌, refl, sym, ap, subst, ◌∙◌}
use mathlib.Core.Bool.{Bool, true, false, cond, ◌&&◌, ◌||◌, false≢true}
use mathlib.Core.Logic.{◌⊎◌, inl, inr, ◌↔◌}
use Prim.Native.Nat.{ℕ, zero, suc, ◌+◌, ◌-◌, ◌*◌, ◌/◌, ◌≤◌, ◌<◌}
use native.Mathlib.Omega.{arith}
use lib.Dec.{leb, eqb}
use Rattle.std.specs.Prelude.{Some, None}
use borrow.Author.Tests.{leb-true, leb-false, eq-eqb, ne_eqb, eqb-true, eqb-false}
use Rattle.base_shared.proofs.Tests.{tested}
use Rattle.base_steps.specs.Times.{times, count}
use Rattle.base_steps.specs.Falls.{Pace, runs, due}
use Rattle.base_steps.proofs.Falling.{fall_due_law, due_plain_law}
use Rattle.irq.specs.declared.VrcIrq.{VrcIrq}
use Rattle.irq.specs.Interrupt.{irq_at, irq_ticks, next_counter, counts_lines, forecast_in}
use Rattle.irq_clocks.specs.Clocks.{irq_clocked_times, reported, Unset, irq_sets, LeastClocks}
use Rattle.irq_clocks.specs.Laws.{PendingLaw, GainLaw, QuietLaw, SoonerLaw, OneFirstLaw, NoneLaw, Exact, Late, ForecastLaw}
use Rattle.irq_clocks.proofs.Runs.{after_clocks_law, lines_report, cycle_law}

pub pending_law : PendingLaw
pending_law d l q = go (irq_ticks d q) (eqb q.counter 255) q.irq_pending
  where
    go : (t e b : Bool) → cond t (cond e true b) b ≡ ((t && e) || b)
    go true true b = refl
    go true false b = refl
    go false e b = refl

-- ---- the counter until pending is set: k at the start, s ticks so far, and t whether one more comes
next_counted : (t : Bool) (r c s k : ℕ) → c ≡ k + s → k + (cond t 1 0 + s) ≤ 255 → cond t (next_counter r c) c ≡ k + (cond t 1 0 + s)
next_counted true r c s k e h = rw (ne_eqb c 255 (λ g. omega arith)) (omega arith)
next_counted false r c s k e h = omega arith

not_yet : (t : Bool) (c s k : ℕ) → c ≡ k + s → k + (cond t 1 0 + s) ≤ 255 → (t && eqb c 255) ≡ false
not_yet true c s k e h = ne_eqb c 255 (λ g. omega arith)
not_yet false c s k e h = refl

by_now : (t : Bool) (c s k : ℕ) → c ≡ k + s → k + s ≤ 255 → 256 ≤ k + (cond t 1 0 + s) → (t && eqb c 255) ≡ true
by_now true c s k e h g = eq-eqb c 255 (omega arith)
by_now false c s k e h g = absurd (omega arith)

module _ (d l : ℕ) (q : VrcIrq) where
  counted : (n : ℕ) → Unset d l n q → (irq_clocked_times d l n q).counter ≡ q.counter + reported d l n q
  unfolding times count
  counted zero h = omega arith
  counted (suc n) h =
      next_counted (irq_ticks d (irq_clocked_times d l n q)) (irq_clocked_times d l n q).reload (irq_clocked_times d l n q).counter (reported d l n q) q.counter (counted n (omega arith)) h

  unset : (n : ℕ) → Unset d l n q → (irq_clocked_times d l n q).irq_pending ≡ q.irq_pending
  unfolding times count
  unset zero h = refl
  unset (suc n) h =
      let s = irq_clocked_times d l n q in
      pending_law d l s
      ∙ ap (λ (b : Bool). b || s.irq_pending) (not_yet (irq_ticks d s) s.counter (reported d l n q) q.counter (counted n (omega arith)) h)
      ∙ unset n (omega arith)

pub gain_law : GainLaw
gain_law d l n q h =
    let a = after_clocks_law d l n q in
    a.rest ∙ (λ i. irq_at q (counted d l q n h i) (a.prescaler i) (unset d l q n h i))

-- one clock more that does not tick at 255
still_in : (t : Bool) (c s k : ℕ) → c ≡ k + s → k + s ≤ 255 → (t && eqb c 255) ≡ false → k + (cond t 1 0 + s) ≤ 255
still_in true c s k e h g = omega (arith, eqb-false c 255 g)
still_in false c s k e h g = omega arith

module _ (d l : ℕ) (q : VrcIrq) where
  none_sets : (n : ℕ) → Unset d l n q → (i : ℕ) → i < n → irq_sets d (irq_clocked_times d l i q) ≡ false
  unfolding times count
  none_sets zero u i g = absurd (omega arith)
  none_sets (suc n) u i g =
      let s = irq_clocked_times d l n q in
      tested (eqb i n)
      (λ e. ap (λ (j : ℕ). irq_sets d (irq_clocked_times d l j q)) (eqb-true i n e) ∙ not_yet (irq_ticks d s) s.counter (reported d l n q) q.counter (counted d l q n (omega arith)) u)
      (λ e. none_sets n (omega arith) i (omega (arith, eqb-false i n e)))

  unset_by : (n : ℕ) → q.counter ≤ 255 → ((i : ℕ) → i < n → irq_sets d (irq_clocked_times d l i q) ≡ false) → Unset d l n q
  unfolding times count
  unset_by zero h f = omega arith
  unset_by (suc n) h f =
      let s = irq_clocked_times d l n q in
      let u : Unset d l n q = unset_by n h (λ i g. f i (omega arith)) in
      still_in (irq_ticks d s) s.counter (reported d l n q) q.counter (counted d l q n u) u (f n (omega arith))

pub quiet_law : QuietLaw
quiet_law d l n q h = (none_sets d l q n, unset_by d l q n h)

module _ (d l : ℕ) (q : VrcIrq) (k-high : q.counter ≤ 255) where
  -- f is the first where f clocks or more, and only they, report 256 - counter ticks
  reach_first : (f : ℕ) → ((n : ℕ) → (256 - q.counter ≤ reported d l n q) ↔ (f ≤ n)) → LeastClocks d l q f
  unfolding times count
  reach_first f reach =
      record {
        one = low f refl;
        sets = λ m h.
            by_now (irq_ticks d (irq_clocked_times d l m q)) (irq_clocked_times d l m q).counter (reported d l m q) q.counter (counted d l q m (still_low m (omega arith))) (still_low m (omega arith)) (omega (arith, (reach (suc m)).1 (omega arith)));
        none_before = λ m h.
            not_yet (irq_ticks d (irq_clocked_times d l m q)) (irq_clocked_times d l m q).counter (reported d l m q) q.counter (counted d l q m (still_low m (omega arith))) (still_low (suc m) h);
      }
    where
      still_low : (n : ℕ) → n < f → q.counter + reported d l n q ≤ 255
      still_low n h =
          tested (leb (256 - q.counter) (reported d l n q)) (λ e. absurd (omega (arith, (reach n).0 (leb-true (256 - q.counter) (reported d l n q) e)))) (λ e. omega (arith, leb-false (256 - q.counter) (reported d l n q) e))

      low : (n : ℕ) → n ≡ f → 1 ≤ n
      low zero e = absurd (omega (arith, (reach 0).1 (omega arith)))
      low (suc n) e = omega arith

  cycle_first : q.enabled ≡ true → q.cycle_mode ≡ true → LeastClocks d l q (256 - q.counter)
  cycle_first e f = reach_first (256 - q.counter) (λ n. rw (cycle_law d l q n e f).0 (λ h. h, λ h. h))

  lines_first : Pace d l → counts_lines q ≡ true → LeastClocks d l q (due d l q.prescalar_counter (256 - q.counter))
  lines_first pace h =
      reach_first (due d l q.prescalar_counter (256 - q.counter))
      (λ n. rw (lines_report d l q n h) (fall_due_law d l pace q.prescalar_counter n (256 - q.counter) (omega arith)))

-- the plain quotient of the formula
abbrev quotient : (d l : ℕ) → VrcIrq → ℕ
quotient d l q = (l * (255 - q.counter) + q.prescalar_counter + (d - 1)) / d

pub forecast_law : ForecastLaw
forecast_law d l pace q e k-high = record { exact = exact; late = late }
  where
    formula : {b : Bool} → q.cycle_mode ≡ b → cond b (256 - q.counter) (quotient d l q) ≡ forecast_in d l q
    formula f = ap (λ (b : Bool). cond b (256 - q.counter) (quotient d l q)) (sym f)

    left : 256 - q.counter ≡ suc (255 - q.counter)
    left = omega arith

    cycling : q.cycle_mode ≡ true → LeastClocks d l q (forecast_in d l q)
    cycling f = subst (LeastClocks d l q) (formula f) (cycle_first d l q k-high e f)

    lining : q.cycle_mode ≡ false → LeastClocks d l q (due d l q.prescalar_counter (suc (255 - q.counter)))
    lining f =
        subst (λ (k : ℕ). LeastClocks d l q (due d l q.prescalar_counter k)) left (lines_first d l q k-high pace (rw (e, f)))

    plain : (1 ≤ q.prescalar_counter) ⊎ ((q.counter < 255) × (d < l)) → (1 ≤ q.prescalar_counter) ⊎ ((1 ≤ 255 - q.counter) × (d < l))
    plain (inl h) = inl h
    plain (inr h) = inr (omega (arith, h.0), h.1)

    exact : Exact d l q → LeastClocks d l q (forecast_in d l q)
    exact (inl f) = cycling f
    exact (inr h) =
        tested q.cycle_mode cycling
        (λ f. subst (LeastClocks d l q) ((due_plain_law d l pace q.prescalar_counter (255 - q.counter)).plain (plain h) ∙ formula f) (lining f))

    last : (q.counter ≡ 255) ⊎ (d ≡ l) → (255 - q.counter ≡ 0) ⊎ (d ≡ l)
    last (inl h) = inl (omega arith)
    last (inr h) = inr h

    late : Late d l q → LeastClocks d l q (suc (forecast_in d l q))
    late h =
        subst (LeastClocks d l q)
        ((due_plain_law d l pace q.prescalar_counter (255 - q.counter)).one_more h.prescaler (last h.last) ∙ ap suc (formula h.lines))
        (lining h.lines)

pub sooner_law : SoonerLaw
sooner_law d l pace q on k-high n h =
    tested q.cycle_mode (λ f. omega (arith, (cycle_law d l q n on f).0, rw f at h))
    (λ f.
    let soon : n < quotient d l q = rw f at h in
    let told : reported d l n q ≡ runs d l q.prescalar_counter n = lines_report d l q n (rw (on, f)) in
    let same : (l * (256 - q.counter - 1) + q.prescalar_counter + (d - 1)) / d ≡ quotient d l q =
    ap (λ (k : ℕ). (l * k + q.prescalar_counter + (d - 1)) / d) (omega arith) in
    tested (leb (256 - q.counter) (reported d l n q))
    (λ e. absurd (omega (arith, (fall_due_law d l pace q.prescalar_counter n (256 - q.counter) (omega arith)).0 (omega (arith, leb-true (256 - q.counter) (reported d l n q) e)))))
    (λ e. omega (arith, leb-false (256 - q.counter) (reported d l n q) e)))

-- ---- there is one first clock
first_before : (d l : ℕ) (q : VrcIrq) (m n : ℕ) → LeastClocks d l q m → LeastClocks d l q n → m < n → ⊥
first_before d l q zero n f g h = omega (arith, f.one)
first_before d l q (suc m) n f g h = false≢true (sym (g.none_before m h) ∙ f.sets m refl)

pub one_first_law : OneFirstLaw
one_first_law d l q m n f g =
    tested (leb m n)
    (λ e. tested (leb n m) (λ h. omega (arith, leb-true)) (λ h. absurd (first_before d l q m n f g (leb-false n m h))))
    (λ e. absurd (first_before d l q n m g f (leb-false m n e)))

pub none_law : NoneLaw
none_law d l q = go q.enabled
  where
    go : (b : Bool) → (cond b (Some (forecast_in d l q)) None ≡ None) ↔ (b ≡ false)
    go true = (λ h. absurd (let z : ◌≡◌ {A = ℕ} 0 1 = cc in omega arith), λ h. absurd (false≢true (sym h)))
    go false = (λ h. refl, λ h. refl)
