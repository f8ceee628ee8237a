-- A run of stores into a list, one after the other: what a loop that fills a table has done so far. Assumes nothing.
use mathlib.Core.Path.{◌≡◌, refl, ap, ap₂, ◌∙◌}
use mathlib.Core.List.{List}
use Prim.Native.Nat.{ℕ, zero, suc, ◌+◌, ◌≤◌, ◌<◌}
use native.Mathlib.Omega.{arith}
use native.Mathlib.Nat.{add-zero}
use native.Mathlib.Numerals.{add-one}
use lib.ListN.{set}
use lib.Seq.{sets}
use Rattle.base_shared.specs.Lists.{tabulate}

one_more : {A : Type 0} (i : ℕ) (f : ℕ → A) (l : List A) (from : ℕ)
    → set (sets l from (tabulate i f)) (from + i) (f i) ≡ sets l from (tabulate (suc i) f)
one_more zero f l from = rw (add-zero from)
one_more (suc i) f l from =
    let e : from + suc i ≡ suc from + i = omega arith in
    rw e (one_more i (λ k. f (suc k)) (set l from (f zero)) (suc from))

-- i elements of the run's count are stored from a place on, each as f says
abbrev pub Filled : {A : Type 0} → List A → (from count : ℕ) → (ℕ → A) → List A → ℕ → Type 0
Filled start from count f now i = (i ≤ count) × (now ≡ sets start from (tabulate i f))

module _ {A : Type 0} (start : List A) (from count : ℕ) (f : ℕ → A) where
  pub none : Filled start from count f start 0
  none = (omega arith, refl)

  pub more : (now : List A) (i : ℕ) (a : A) → Filled start from count f now i → i < count → a ≡ f i
      → Filled start from count f (set now (from + i) a) (i + 1)
  more now i a h k e =
      (omega arith, ap₂ (λ (l : List A) (x : A). set l (from + i) x) h.1 e ∙ rw (add-one i) (one_more i f start from))

  pub done : (now : List A) (i : ℕ) → Filled start from count f now i → count ≤ i → now ≡ sets start from (tabulate count f)
  done now i h k = let e : i ≡ count = omega arith in h.1 ∙ ap (λ (n : ℕ). sets start from (tabulate n f)) e
