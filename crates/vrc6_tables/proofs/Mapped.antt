-- An array that a closure maps, where each call leaves the closure as it was. Assumes nothing.
use mathlib.Core.Path.{◌≡◌, sym, ap, ap₂, subst, ◌∙◌}
use mathlib.Core.List.{List, ◌∷◌, map}
use Prim.Native.Nat.{ℕ, zero, suc, ◌+◌}
use native.Mathlib.Omega.{arith}
use lib.ListN.{length, drop}
use lib.Seq.{drop-length}
use denote.Param.Members.{Mut, Called}
use Rattle.std.specs.Array.{MapsFrom}
use Rattle.std.proofs.lemmas.List.{drop_more}

module _ {F A B : Type 0} (g : Mut F (A × Unit {0}) B) (f : F) (v : A → B) (calls : (x : A) (y : B) (q : F) → Called g f (x, tt) y q → (q ≡ f) × (y ≡ v x)) (xs : List A) (ys : List B) where
  from : (i n : ℕ) → length xs ≡ i + n → length ys ≡ i + n → MapsFrom g f xs ys i n → drop i ys ≡ map v (drop i xs)
  from i zero hx hy m =
      let ex : i ≡ length xs = omega arith in
      let ey : i ≡ length ys = omega arith in
      ap (λ (k : ℕ). drop k ys) ey ∙ drop-length ys ∙ sym (ap (map v) (ap (λ (k : ℕ). drop k xs) ex ∙ drop-length xs))
  from i (suc n) hx hy (q, x, y, ex, ey, called, more) =
      let rest = from (i + 1) n (omega arith) (omega arith) (subst (λ (p : F). MapsFrom g p xs ys (i + 1) n) (calls x y q called).0 more) in
      drop_more ys i y (omega arith) ∙ ap₂ (λ (z : B) (l : List B). z ∷ l) (ey.0 ∙ (calls x y q called).1) rest
      ∙ sym (ap (map v) (drop_more xs i x (omega arith) ∙ ap (λ (z : A). z ∷ drop (i + 1) xs) ex.0))

  pub mapped : (n : ℕ) → length xs ≡ n → length ys ≡ n → MapsFrom g f xs ys 0 n → ys ≡ map v xs
  mapped n hx hy m = from 0 n (omega arith) (omega arith) m
