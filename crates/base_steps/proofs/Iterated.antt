-- Laws of what is done n times. Assumes nothing.
use Prim.Native.Nat.{ℕ, zero, suc, ◌+◌}
use mathlib.Core.Path.{◌≡◌, refl, sym, ap, ap₂, ◌∙◌}
use mathlib.Core.Bool.{Bool, true, false, cond}
use native.Mathlib.Nat.{add-zero, zero-add, add-suc, add_assoc}
use native.Mathlib.Omega.{arith}
use Rattle.base_steps.specs.Times.{times, count}

-- m times, then n times
pub times_add : {A : Type 0} (f : A → A) (x : A) (m n : ℕ) → times n f (times m f x) ≡ times (m + n) f x
unfolding times
times_add f x m zero = rw add-zero
times_add f x m (suc n) = rw add-suc (ap f (times_add f x m n))

pub count_add : {A : Type 0} (t : A → Bool) (f : A → A) (x : A) (m n : ℕ) → count n t f (times m f x) + count m t f x ≡ count (m + n) t f x
unfolding times count
count_add t f x m zero = rw add-zero (zero-add (count m t f x))
count_add t f x m (suc n) =
    rw (add-suc, times_add f x m n)
    (add_assoc (cond (t (times (m + n) f x)) 1 0) (count n t f (times m f x)) (count m t f x)
    ∙ ap (λ (k : ℕ). cond (t (times (m + n) f x)) 1 0 + k) (count_add t f x m n))

-- a sequence that starts at x and goes on by f
pub worked_out : {A : Type 0} (f : A → A) (x : A) (g : ℕ → A) → g 0 ≡ x → ((n : ℕ) → g (suc n) ≡ f (g n)) → (n : ℕ) → times n f x ≡ g n
unfolding times
worked_out f x g e s zero = sym e
worked_out f x g e s (suc n) = ap f (worked_out f x g e s n) ∙ sym (s n)

-- what does not move
pub still : {A : Type 0} (f : A → A) (x : A) → f x ≡ x → (n : ℕ) → times n f x ≡ x
still f x e n = worked_out f x (λ _. x) refl (λ _. sym e) n

-- what holds of x and is kept by f holds after any number of times
pub keeps : {A : Type 0} (f : A → A) (P : A → Type 0) → ((x : A) → P x → P (f x)) → (x : A) → P x → (n : ℕ) → P (times n f x)
unfolding times
keeps f P k x h zero = h
keeps f P k x h (suc n) = k (times n f x) (keeps f P k x h n)

-- f and g do the same to every x of which P holds, and f keeps P
pub same : {A : Type 0} (f g : A → A) (P : A → Type 0) → ((x : A) → P x → P (f x)) → ((x : A) → P x → g x ≡ f x) → (x : A) → P x → (n : ℕ) → times n g x ≡ times n f x
unfolding times
same f g P k e x h zero = refl
same f g P k e x h (suc n) = ap g (same f g P k e x h n) ∙ e (times n f x) (keeps f P k x h n)

-- h carries f over to g
pub carried : {A B : Type 0} (f : A → A) (g : B → B) (h : A → B) → ((x : A) → h (f x) ≡ g (h x)) → (x : A) (n : ℕ) → h (times n f x) ≡ times n g (h x)
unfolding times
carried f g h e x zero = refl
carried f g h e x (suc n) = e (times n f x) ∙ ap g (carried f g h e x n)

-- two tests that find the same every time
pub count_same : {A B : Type 0} (t : A → Bool) (u : B → Bool) (f : A → A) (g : B → B) (x : A) (y : B)
    → ((n : ℕ) → t (times n f x) ≡ u (times n g y)) → (n : ℕ) → count n t f x ≡ count n u g y
unfolding count
count_same t u f g x y h zero = refl
count_same t u f g x y h (suc n) = ap₂ (λ (b : Bool) (c : ℕ). cond b 1 0 + c) (h n) (count_same t u f g x y h n)

-- h carries f over to g, and the test t over to u
pub count_carried : {A B : Type 0} (t : A → Bool) (u : B → Bool) (f : A → A) (g : B → B) (h : A → B)
    → ((x : A) → h (f x) ≡ g (h x)) → ((x : A) → t x ≡ u (h x)) → (x : A) (n : ℕ) → count n t f x ≡ count n u g (h x)
count_carried t u f g h e k x n = count_same t u f g x (h x) (λ m. k (times m f x) ∙ ap u (carried f g h e x m)) n

-- a test that is false every time, and one that is true every time
pub count_none : {A : Type 0} (t : A → Bool) (f : A → A) (x : A) → ((n : ℕ) → t (times n f x) ≡ false) → (n : ℕ) → count n t f x ≡ 0
unfolding count
count_none t f x h zero = refl
count_none t f x h (suc n) = rw (h n) (omega (arith, count_none t f x h n))

pub count_all : {A : Type 0} (t : A → Bool) (f : A → A) (x : A) → ((n : ℕ) → t (times n f x) ≡ true) → (n : ℕ) → count n t f x ≡ n
unfolding count
count_all t f x h zero = refl
count_all t f x h (suc n) = rw (h n) (omega (arith, count_all t f x h n))
