-- A list that a loop fills from its start. Assumes nothing.
use mathlib.Core.Path.{◌≡◌, refl, ap, ◌∙◌}
use mathlib.Core.List.{List, ◌++◌, append-nil}
use Prim.Native.Nat.{ℕ, zero, suc, ◌+◌, ◌≤◌, ◌<◌}
use native.Mathlib.Omega.{arith}
use native.Mathlib.Nat.{zero-add}
use lib.ListN.{length, set, drop}
use lib.Seq.{sets-eq, drop-length}
use Rattle.base_shared.specs.Lists.{tabulate}
use Rattle.base_shared.proofs.Runs.{Filled, more, done}

-- a list by a rule has as many elements as are asked for
so_many : {A : Type 0} (n : ℕ) (f : ℕ → A) → length (tabulate n f) ≡ n
so_many zero f = refl
so_many (suc n) f = ap suc (so_many n (λ k. f (suc k)))

module _ {A : Type 0} (start : List A) (f : ℕ → A) where
  -- i elements are stored
  abbrev pub Passed : List A → ℕ → Type 0
  Passed now i = Filled start 0 (length start) f now i

  pub passed_more : (now : List A) (i : ℕ) (a : A) → Passed now i → i < length start → a ≡ f i → Passed (set now i a) (i + 1)
  passed_more now i a h l e = rw zero-add at (more start 0 (length start) f now i a h l e)

  pub passed_all : (now : List A) (i : ℕ) → Passed now i → length start ≤ i → now ≡ tabulate (length start) f
  passed_all now i h l =
      let n = length start in
      let all : 0 + length (tabulate n f) ≡ n = omega (arith, so_many n f) in
      done start 0 n f now i h l ∙ sets-eq (tabulate n f) start 0 (omega arith)
      ∙ ap (λ (k : ℕ). tabulate n f ++ drop k start) all
      ∙ ap (λ (l : List A). tabulate n f ++ l) (drop-length start)
      ∙ append-nil (tabulate n f)
