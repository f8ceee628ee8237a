-- A list by its numbers, one after the other. Assumes nothing.
use Rattle.std.proofs.Common.{◌≡◌, ℕ, suc, ◌<◌, List, [], ◌∷◌, length, get_or, refl, ap₂, arith}
use Rattle.base_shared.specs.Lists.{tabulate}

pub each_of : (l : List ℕ) (f : ℕ → ℕ) → ((k : ℕ) → k < length l → get_or l k 0 ≡ f k) → l ≡ tabulate (length l) f
each_of [] f h = refl
each_of (x ∷ xs) f h = ap₂ (λ (y : ℕ) (ys : List ℕ). y ∷ ys) (h 0 (omega arith)) (each_of xs (λ k. f (suc k)) (λ k b. h (suc k) (omega (arith, b))))
