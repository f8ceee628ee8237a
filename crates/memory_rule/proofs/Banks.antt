-- What the paging rule computes stays small, and lies inside its region. Assumes nothing.
use mathlib.Core.Path.{◌≡◌, ap, ◌∙◌}
use Prim.Native.Nat.{ℕ, zero, suc, ◌+◌, ◌*◌, ◌/◌, ◌%◌, ◌≤◌, ◌<◌, max}
use native.Mathlib.Omega.{arith}
use native.Mathlib.Nat.{mod-lt, div-mul-le_self, mul-le-mul_right, le_trans, suc-mul, mod-eq_of_lt}
use lib.IntN.{ℤ, pos, negsuc}
use Rattle.memory_layout.specs.declared.regions.Region.{Region}
use Rattle.memory_rule.specs.Rule.{rem_euclid, bank_count, base}

-- the bank is one of the banks
pub bank_low : (b : ℤ) (n : ℕ) → 1 ≤ n → rem_euclid b n < n
bank_low (pos k) n h = mod-lt k h
bank_low (negsuc k) n h = omega arith

-- one of q banks ends inside the region
pub bank_ends : (k q s n : ℕ) → k < q → q * s ≤ n → k * s + s ≤ n
bank_ends k q s n h e = omega (arith, suc-mul k s, le_trans (mul-le-mul_right {m = suc k} {n = q} s h) e)

before : (k q s n : ℕ) → k < max 1 q → q * s ≤ n → 1 ≤ s → 1 ≤ n → k * s < n
before zero q s n h e l m = omega arith
before (suc k) q s n h e l m = omega (arith, bank_ends (suc k) q s n (omega arith) e)

-- it begins before the end of a region that has bytes
pub base_before : (r : Region) (s : ℕ) (b : ℤ) → 1 ≤ s → (r.len ≡ 0 → ⊥) → base r s b < r.len
base_before r s b l n =
    before (rem_euclid b (bank_count r s)) (r.len / s) s r.len (bank_low b (bank_count r s) (omega arith)) (div-mul-le_self r.len s) l
    (omega arith)

-- so that a window's first page does not wrap
pub first_unwrapped : (r : Region) (s : ℕ) (b : ℤ) → 1 ≤ s → (r.len ≡ 0 → ⊥) → (base r s b + 1024 * 0) % r.len ≡ base r s b
first_unwrapped r s b l n =
    let same : base r s b + 1024 * 0 ≡ base r s b = omega arith in
    ap (λ (x : ℕ). x % r.len) same ∙ mod-eq_of_lt (base_before r s b l n)

-- a page of it lies before the region's end
pub wrapped_low : (r : Region) (s : ℕ) (b : ℤ) (i : ℕ) → (r.len ≡ 0 → ⊥) → (base r s b + 1024 * i) % r.len < r.len
wrapped_low r s b i n = mod-lt (base r s b + 1024 * i) {m = r.len} (omega arith)
