-- A list of known length, element by element. Assumes nothing.
use mathlib.Core.Path.{◌≡◌, refl, ap}
use mathlib.Core.List.{List, [], ◌∷◌}
use Prim.Native.Nat.{ℕ, zero, suc}
use native.Mathlib.Omega.{arith}
use lib.ListN.{length, get_or}
use Rattle.base_shared.specs.Lists.{tabulate}

pub spelled : {A : Type 0} (d : A) (n : ℕ) (l : List A) → length l ≡ n → tabulate n (λ i. get_or l i d) ≡ l
spelled d zero [] h = refl
spelled d zero (x ∷ l) h = absurd (omega arith)
spelled d (suc n) [] h = absurd (omega arith)
spelled d (suc n) (x ∷ l) h = ap (λ (r : List _). x ∷ r) (spelled d n l (omega arith))
