-- Laws of tests that are joined, and of the first that fails. Assumes nothing.
use mathlib.Core.Path.{◌≡◌, refl, sym, ap, ◌∙◌}
use mathlib.Core.Bool.{Bool, true, false, cond, ◌&&◌, false≢true}
use mathlib.Core.List.{List, [], ◌∷◌, ◌++◌}
use Prim.Native.Nat.{ℕ, zero, suc}
use mir.Val.{bool_byte}
use Rattle.base_shared.specs.Refusals.{first_failing, unless}
use Rattle.base_shared.specs.Rows.{flag}

pub and_left : (a b : Bool) → (a && b) ≡ true → a ≡ true
and_left true b h = refl
and_left false b h = h

pub and_right : (a b : Bool) → (a && b) ≡ true → b ≡ true
and_right true b h = h
and_right false b h = absurd (false≢true h)

pub both : {a b : Bool} → a ≡ true → b ≡ true → (a && b) ≡ true
both h k = rw (h, k)

-- a property that holds either way
pub either : {A : Type 0} (P : A → Type 0) (b : Bool) {x y : A} → P x → P y → P (cond b x y)
either P true h k = h
either P false h k = k

-- a test that is true or false, with what it then says
pub tested : {A : Type 0} (b : Bool) → (b ≡ true → A) → (b ≡ false → A) → A
tested true f g = f refl
tested false f g = g refl

-- a bool that is cast to a number
pub byte_flag : (b : Bool) → bool_byte b ≡ flag b
byte_flag true = refl
byte_flag false = refl

-- what a call leaves, from a number that equals its refusal number
module _ {A : Type 0} (done given : A) (m n : ℕ) (e : n ≡ m) where
  pub unless_refused : (n ≡ 0 → ⊥) → unless m done given ≡ given
  unless_refused h = go m (λ z. h (e ∙ z))
    where
      go : (k : ℕ) → (k ≡ 0 → ⊥) → unless k done given ≡ given
      go zero g = absurd (g refl)
      go (suc k) g = refl

  pub unless_done : n ≡ 0 → unless m done given ≡ done
  unless_done h = ap (λ (k : ℕ). unless k done given) (sym e ∙ h)

-- where one of the first tests fails, no later one counts
pub first_refused : (xs ys : List (Bool × ℕ)) → (first_failing xs ≡ 0 → ⊥) → first_failing (xs ++ ys) ≡ first_failing xs
first_refused [] ys h = absurd (h refl)
first_refused (t ∷ ts) ys h = go t.0 (λ k. first_refused ts ys k) h
  where
    go : (b : Bool) → ((first_failing ts ≡ 0 → ⊥) → first_failing (ts ++ ys) ≡ first_failing ts)
        → (cond b (first_failing ts) t.1 ≡ 0 → ⊥)
        → cond b (first_failing (ts ++ ys)) t.1 ≡ cond b (first_failing ts) t.1
    go true again k = again k
    go false again k = refl
