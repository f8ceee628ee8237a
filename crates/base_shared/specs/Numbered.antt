-- The order of refusal numbers, of any tests (01, The board's calls 4). `proofs/` proves it. Assumes nothing.
use Rattle.std.specs.Prelude.{◌≡◌, Bool, true, false, not, ◌&&◌, List, [], ◌∷◌, ◌++◌, ◌↔◌, ℕ, eqb}
use Rattle.base_shared.specs.Lists.{Each}
use Rattle.base_shared.specs.Refusals.{first_failing}

-- every test holds
abbrev pub AllHold : List (Bool × ℕ) → Type 0
AllHold ts = Each (λ t. t.0 ≡ true) ts

-- a refusal number from tests: that of the first that fails, 0 where all hold and only then, and a test's own where it fails and those before
-- it hold, and only then (01, The board's calls 4)
pub record Numbered (ts : List (Bool × ℕ)) (n : ℕ) : Type 0 where
  pub first : n ≡ first_failing ts
  pub only : (n ≡ 0) ↔ AllHold ts
  pub each : (xs : List (Bool × ℕ)) (t : Bool × ℕ) (ys : List (Bool × ℕ)) → ts ≡ xs ++ t ∷ ys
      → (n ≡ t.1) ↔ (AllHold xs × (t.0 ≡ false))

-- no test has the number n
abbrev pub without : (n : ℕ) → List (Bool × ℕ) → Bool
without n [] = true
without n (t ∷ ts) = not (eqb t.1 n) && without n ts

-- every test has a number of its own, and none is 0
abbrev pub own_numbers : List (Bool × ℕ) → Bool
own_numbers [] = true
own_numbers (t ∷ ts) = not (eqb t.1 0) && without t.1 ts && own_numbers ts

-- of any tests that have numbers of their own
abbrev pub NumberedLaw : Type 0
NumberedLaw = (ts : List (Bool × ℕ)) → own_numbers ts ≡ true → (n : ℕ) → n ≡ first_failing ts → Numbered ts n
