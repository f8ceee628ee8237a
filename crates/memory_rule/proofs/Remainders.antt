-- The signed remainder is the one in range that differs by a multiple. Assumes nothing.
use mathlib.Core.Path.{◌≡◌, refl, sym, ap, ◌∙◌}
use mathlib.Core.Bool.{Bool, true, false, cond}
use Prim.Native.Nat.{ℕ, suc, ◌-◌, ◌%◌, ◌<◌}
use native.Mathlib.Omega.{arith}
use native.Mathlib.Nat.{mod-eq_of_lt, mod-eq-sub-mod, add-mod_right}
use lib.Dec.{ltb}
use lib.IntN.{ℤ, pos, negsuc, ◌+ℤ◌}
use borrow.Author.Tests.{ltb-true, ltb-false}
use Rattle.memory_rule.specs.Rule.{rem_euclid}
use Rattle.memory_rule.specs.Laws.{RemainderLaw}
use Rattle.memory_rule.proofs.Banks.{bank_low}

small : (n m : ℕ) → n < m → rem_euclid (pos n) m ≡ n
small n m h = mod-eq_of_lt h

-- a bank below 0, one round up
up : (k m : ℕ) → 0 < m → (t : Bool) → ltb m (suc k) ≡ t → rem_euclid (cond t (negsuc (suc k - suc m)) (pos (m - suc k))) m ≡ m - 1 - k % m
up k m h true e =
    let over = ltb-true m (suc k) e in
    let shift : suc k - suc m ≡ k - m = omega arith in
    ap (λ (n : ℕ). m - 1 - n % m) shift ∙ ap (λ (n : ℕ). m - 1 - n) (sym (mod-eq-sub-mod (omega arith)))
up k m h false e =
    let within = ltb-false m (suc k) e in
    let below : m - suc k < m = omega arith in
    mod-eq_of_lt below ∙ rw (mod-eq_of_lt {n = k} {m = m} (omega arith)) (omega arith)

again : (b : ℤ) (m : ℕ) → 0 < m → rem_euclid (b +ℤ pos m) m ≡ rem_euclid b m
again (pos n) m h = add-mod_right n m
again (negsuc k) m h = up k m h (ltb m (suc k)) refl

pub remainder_law : RemainderLaw
remainder_law = record { below = λ b m h. bank_low b m h; small = small; again = again }
