-- The laws of a falling number. Assumes nothing.
use Prim.Native.Nat.{ℕ, zero, suc, ◌+◌, ◌-◌, ◌*◌, ◌/◌, ◌≤◌, ◌<◌, max}
use mathlib.Core.Path.{◌≡◌, sym, ap}
use mathlib.Core.Logic.{◌⊎◌, inl, inr}
use native.Mathlib.Omega.{arith}
use native.Mathlib.Nat.{mul_comm, mul-zero, suc-mul, mul-le-mul_right, le-div_iff_mul-le, div-lt_iff_lt-mul}
use lib.Dec.{leb}
use borrow.Author.Tests.{leb-true, leb-false, le-leb, lt-leb}
use Rattle.base_shared.proofs.Tests.{tested}
use Rattle.base_steps.specs.Times.{times}
use Rattle.base_steps.specs.Falls.{fallen, fell, runs, due}
use Rattle.base_steps.specs.Laws.{OneClockLaw, TickLaw, FallRangeLaw, AddLaw, PeriodLaw, WorkedOutLaw, FallDueLaw, DuePlainLaw}
use Rattle.base_steps.proofs.Iterated.{times_add, count_add, keeps}
use Rattle.base_steps.proofs.Balance.{ran, reached, enough, runs_in}

-- a clock, by the two cases of its test
by_case : (d l p : ℕ) (P : ℕ → Type 0) → (p ≤ d → P (p + (l - d))) → (d < p → P (p - d)) → P (fallen d l p)
by_case d l p P f g = tested (leb p d) (λ e. rw e (f (leb-true p d e))) (λ e. rw e (g (leb-false p d e)))

pub one_clock : OneClockLaw
one_clock d l pace p =
    record {
      falls = λ h. rw (lt-leb p d h) (omega arith);
      gains = λ h. rw (le-leb p d h) (omega arith);
      within = λ h. by_case d l p (λ q. q ≤ l) (λ e. omega arith) (λ e. omega arith);
      above = λ h. by_case d l p (λ q. 1 ≤ q) (λ e. omega arith) (λ e. omega arith);
    }

pub add_law : AddLaw
add_law d l p m n =
    record {
      number = times_add (fallen d l) p m n;
      counted = omega (arith, count_add (λ q. leb q d) (fallen d l) p m n);
    }

-- one clock keeps 0 .. l, and 1 or more, so any number of clocks does
pub fall_range_law : FallRangeLaw
unfolding times
fall_range_law d l pace p c =
    record {
      within = λ h. keeps (fallen d l) (λ q. q ≤ l) (λ q. (one_clock d l pace q).within) p h c;
      most = go (ran d l pace p c).high;
      above = λ h. keeps (fallen d l) (λ q. 1 ≤ q) (λ q. (one_clock d l pace q).above) p h c;
      after_zero = λ h. by_case d l (fell d l p c) (λ q. 1 ≤ q) (λ e. omega arith) (λ e. omega arith);
    }
  where
    go : (fell d l p c ≤ l) ⊎ (runs d l p c ≡ 0) → fell d l p c ≤ max p l
    go (inl h) = omega arith
    go (inr h) = omega (arith, (ran d l pace p c).balance, ap (λ (t : ℕ). l * t) h, mul-zero l)

pub worked_out_law : WorkedOutLaw
worked_out_law d l pace p c =
    record { counted = runs_in d l pace p c; number = omega (arith, (ran d l pace p c).balance) }

pub tick_law : TickLaw
tick_law d l pace p c h =
    omega (arith, runs_in d l pace p c, (div-lt_iff_lt-mul {k = l} {x = d * c + l - p} {y = suc c} (omega arith)).1 (omega (arith, suc-mul c l, mul_comm c l, mul-le-mul_right {m = d} {n = l} c pace.high)))

pub period_law : PeriodLaw
period_law d l pace p h k = record { counted = often; number = omega (arith, (ran d l pace p l).balance, ap (λ (t : ℕ). l * t) often, mul_comm l d) }
  where
    often : runs d l p l ≡ d
    often =
        let least = (le-div_iff_mul-le {k = l} {x = d} {y = d * l + l - p} (omega arith)).1 (omega arith) in
        let most = (div-lt_iff_lt-mul {k = l} {x = d * l + l - p} {y = suc d} (omega arith)).1 (omega (arith, suc-mul d l)) in
        omega (arith, tick_law d l pace p l h)

pub fall_due_law : FallDueLaw
fall_due_law d l pace p c zero h = absurd (omega arith)
fall_due_law d l pace p c (suc k) h = (there, back)
  where
    e : l * (suc k - 1) ≡ l * k
    e = ap (λ (x : ℕ). l * x) (omega arith)

    there : suc k ≤ runs d l p c → due d l p (suc k) ≤ c
    there g =
        let far = reached d l pace p c (fell d l p c) (runs d l p c) k (ran d l pace p c) g in
        let fit : (l * (suc k - 1) + p + (d - 1)) / d < suc c =
        (div-lt_iff_lt-mul {k = d} {x = l * (suc k - 1) + p + (d - 1)} {y = suc c} pace.low).1 (omega (arith, e, suc-mul c d, mul_comm c d)) in
        omega (arith, (ran d l pace p c).most)

    back : due d l p (suc k) ≤ c → suc k ≤ runs d l p c
    back g =
        let fit = (div-lt_iff_lt-mul {k = d} {x = l * (suc k - 1) + p + (d - 1)} {y = suc c} pace.low).0 (omega arith) in
        enough d l pace p c (fell d l p c) (runs d l p c) k (ran d l pace p c) (omega arith) (omega (arith, e, suc-mul c d, mul_comm c d))

pub due_plain_law : DuePlainLaw
due_plain_law d l pace p k = record { plain = plain; one_more = one_more }
  where
    one : suc k - 1 ≡ k
    one = omega arith

    far : (1 ≤ p) ⊎ ((1 ≤ k) × (d < l)) → suc k * d ≤ l * k + p + (d - 1)
    far (inl h) = omega (arith, suc-mul k d, mul_comm k d, mul-le-mul_right {m = d} {n = l} k pace.high)
    far (inr h) = omega (arith, suc-mul k d, mul_comm k d, suc-mul d k, mul-le-mul_right {m = suc d} {n = l} k h.1, h.0)

    plain : (1 ≤ p) ⊎ ((1 ≤ k) × (d < l)) → due d l p (suc k) ≡ (l * k + p + (d - 1)) / d
    plain h =
        omega (arith, (le-div_iff_mul-le {k = d} {x = suc k} {y = l * k + p + (d - 1)} pace.low).1 (far h), ap (λ (x : ℕ). (l * x + p + (d - 1)) / d) one)

    late : (k ≡ 0) ⊎ (d ≡ l) → l * k ≡ d * k
    late (inl h) = omega (arith, ap (λ (x : ℕ). l * x) h, ap (λ (x : ℕ). d * x) h, mul-zero l, mul-zero d)
    late (inr h) = ap (λ (x : ℕ). x * k) (sym h)

    one_more : p ≡ 0 → (k ≡ 0) ⊎ (d ≡ l) → due d l p (suc k) ≡ suc ((l * k + p + (d - 1)) / d)
    one_more z h =
        let s : l * k ≡ d * k = late h in
        let least = (le-div_iff_mul-le {k = d} {x = k} {y = l * k + p + (d - 1)} pace.low).1 (omega (arith, mul_comm k d)) in
        let most = (div-lt_iff_lt-mul {k = d} {x = l * k + p + (d - 1)} {y = suc k} pace.low).1 (omega (arith, suc-mul k d, mul_comm k d)) in
        omega (arith, ap (λ (x : ℕ). (l * x + p + (d - 1)) / d) one)
