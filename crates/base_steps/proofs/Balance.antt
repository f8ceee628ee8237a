-- What c clocks take and give, and so where the number stands and how often it came to 0 or less. Assumes nothing.
use Prim.Native.Nat.{ℕ, zero, suc, ◌+◌, ◌-◌, ◌*◌, ◌/◌, ◌≤◌, ◌<◌, min}
use mathlib.Core.Path.{◌≡◌, refl}
use mathlib.Core.Bool.{Bool, true, false, cond}
use mathlib.Core.Logic.{◌⊎◌, inl, inr}
use native.Mathlib.Omega.{arith}
use native.Mathlib.Nat.{mul-suc, mul-zero, mul-add, mul_comm, mul-le-mul_left, le-div_iff_mul-le, suc-mul}
use lib.Dec.{leb}
use borrow.Author.Tests.{leb-true, leb-false}
use Rattle.base_steps.specs.Times.{times, count}
use Rattle.base_steps.specs.Falls.{Pace, fell, runs}

-- what holds of q = fell d l p c and t = runs d l p c
pub record Ran (d l p c q t : ℕ) : Type 0 where
  pub balance : q + d * c ≡ p + l * t
  pub most : t ≤ c
  pub low : (1 ≤ q) ⊎ (t ≡ c)
  pub high : (q ≤ l) ⊎ (t ≡ 0)

module _ (d l : ℕ) (pace : Pace d l) where
  low_more : (c q t : ℕ) → (1 ≤ q) ⊎ (t ≡ c) → (1 ≤ q + (l - d)) ⊎ (1 + t ≡ suc c)
  low_more c q t (inl h) = inl (omega arith)
  low_more c q t (inr h) = inr (omega arith)

  high_more : (q t : ℕ) → (q ≤ l) ⊎ (t ≡ 0) → (q - d ≤ l) ⊎ (0 + t ≡ 0)
  high_more q t (inl h) = inl (omega arith)
  high_more q t (inr h) = inr (omega arith)

  ran_more : (p c q t : ℕ) → Ran d l p c q t → (b : Bool) → leb q d ≡ b → Ran d l p (suc c) (cond b (q + (l - d)) (q - d)) (cond b 1 0 + t)
  ran_more p c q t r true e =
      let h = leb-true q d e in
      record {
        balance = omega (arith, mul-suc d c, mul-add l 1 t, r.balance);
        most = omega (arith, r.most);
        low = low_more c q t r.low;
        high = inl (omega arith);
      }
  ran_more p c q t r false e =
      let h = leb-false q d e in
      record {
        balance = omega (arith, mul-suc d c, mul-add l 0 t, r.balance);
        most = omega (arith, r.most);
        low = inl (omega arith);
        high = high_more q t r.high;
      }

  pub ran : (p c : ℕ) → Ran d l p c (fell d l p c) (runs d l p c)
  unfolding times count
  ran p zero = record { balance = omega (arith, mul-zero d, mul-zero l); most = omega arith; low = inr refl; high = inr refl }
  ran p (suc c) = ran_more p c (fell d l p c) (runs d l p c) (ran p c) (leb (fell d l p c) d) refl

  -- more than k times: more than k clocks, and these fall far enough
  pub reached : (p c q t k : ℕ) → Ran d l p c q t → k < t → l * k + p ≤ d * c
  reached p c q t k r h = go r.high
    where
      go : (q ≤ l) ⊎ (t ≡ 0) → l * k + p ≤ d * c
      go (inl x) = omega (arith, r.balance, mul-suc l k, mul-le-mul_left {m = suc k} {n = t} l h)
      go (inr x) = omega arith

  pub enough : (p c q t k : ℕ) → Ran d l p c q t → k < c → l * k + p ≤ d * c → k < t
  enough p c q t k r h e = go r.low (leb t k) refl
    where
      go : (1 ≤ q) ⊎ (t ≡ c) → (b : Bool) → leb t k ≡ b → k < t
      go x false y = leb-false t k y
      go (inl x) true y = omega (arith, r.balance, mul-le-mul_left {m = t} {n = k} l (leb-true t k y))
      go (inr x) true y = omega (arith, leb-true t k y)

  -- the number of times, worked out
  in_most : (p c k : ℕ) → l * k + p ≤ d * c → k < (d * c + l - p) / l
  in_most p c k h = (le-div_iff_mul-le {k = l} {x = suc k} {y = d * c + l - p} (omega arith)).1 (omega (arith, suc-mul k l, mul_comm k l))

  in_least : (p c k : ℕ) → k < (d * c + l - p) / l → l * k + p ≤ d * c
  in_least p c k h = omega (arith, (le-div_iff_mul-le {k = l} {x = suc k} {y = d * c + l - p} (omega arith)).0 h, suc-mul k l, mul_comm k l)

  pub runs_in : (p c : ℕ) → runs d l p c ≡ min c ((d * c + l - p) / l)
  runs_in p c = omega (arith, up (runs d l p c) refl, down (min c ((d * c + l - p) / l)) refl)
    where
      up : (t : ℕ) → runs d l p c ≡ t → t ≤ min c ((d * c + l - p) / l)
      up zero e = omega arith
      up (suc k) e = omega (arith, (ran p c).most, in_most p c k (reached p c (fell d l p c) (runs d l p c) k (ran p c) (omega arith)))

      down : (t : ℕ) → min c ((d * c + l - p) / l) ≡ t → t ≤ runs d l p c
      down zero e = omega arith
      down (suc k) e = enough p c (fell d l p c) (runs d l p c) k (ran p c) (omega arith) (in_least p c k (omega arith))
