-- The sums are the f32s of 0..61; each is below 62, and no NaN. Assumes nothing.
use Prim.Native.Nat.{ℕ, ◌*◌, ◌^◌, ◌≤◌, ◌<◌}
use native.Mathlib.Nat.{mul-lt-mul_of_pos_right}
use native.Mathlib.Omega.{arith}
use mathlib.Core.Path.{◌≡◌, refl, sym, ap, ◌∙◌, subst}
use mathlib.Core.Bool.{Bool, true, false, not, true≢false, false≢true}
use lib.IntN.{pos}
use lib.Dec.{T, leb, leb→le, le→leb}
use lib.Ieee.{Float, nan, inf, fin, binary32, up, down, lt, le, eq, fits, round, of_int, neg, of_bits, to_bits, whole, in_unsigned, to_unsigned, in_float, is_nan}
use lib.Ieee.Fits.{down_pos, and_i, and_l, and_r}
use lib.Ieee.Exact.{HasValue}
use lib.Ieee.Back.{unsigned_back, Float-back_unsigned}
use lib.Ieee.Bits.{of_bits-to_bits}
use borrow.Author.Tests.{lt-ltb}
use Rattle.base_floats.specs.Wholes.{float, is_sum}
use Rattle.base_floats.specs.Laws.{IsSumLaw, NoSums}
use Rattle.base_floats.proofs.Exact.{has}

-- a test that passes is true, and a true one passes
passes : {p : Bool} → p ≡ true → T p
passes e = subst T (sym e) tt

passed : (p : Bool) → T p → p ≡ true
passed false t = elim t [ ]
passed true t = refl

-- ---- the f32s of 0..61
pub counts : (n : ℕ) → n ≤ 63 → T (in_float binary32 (pos n))
unfolding in_float
counts n h = le→leb n (2 ^ 24) (omega arith)

-- the whole part of a small whole number's f32 is the number
pub part_back : (n : ℕ) → n ≤ 63 → T (in_unsigned binary32 8 (float n)) × (to_unsigned 8 (float n) ≡ n)
part_back n h = unsigned_back binary32 8 n (counts n h) (omega arith)

pub float_is_sum : (n : ℕ) → n ≤ 61 → T (is_sum (float n))
unfolding is_sum
float_is_sum n h =
    let back = part_back n (omega arith) in
    and_i (in_unsigned binary32 8 (float n)) (leb (to_unsigned 8 (float n)) 61) back.0 (rw back.1 (le→leb n 61 h))

pub float_tested : (n : ℕ) → n ≤ 61 → is_sum (float n) ≡ true
float_tested n h = passed (is_sum (float n)) (float_is_sum n h)

pub sum_is_float : (x : Float) → T (fits binary32 x) → T (is_sum x) → (to_unsigned 8 x ≤ 61) × (float (to_unsigned 8 x) ≡ x)
unfolding is_sum
sum_is_float x f s = (
  leb→le (to_unsigned 8 x) 61 (and_r (in_unsigned binary32 8 x) (leb (to_unsigned 8 x) 61) s),
  (Float-back_unsigned binary32 8 x f (and_l (in_unsigned binary32 8 x) (leb (to_unsigned 8 x) 61) s)).1,
)

pub is_sum_law : IsSumLaw
is_sum_law x f = (
  λ s. let is = sum_is_float x f (passes s) in (to_unsigned 8 x, is.0, sym is.1),
  λ t. subst (λ (y : Float). is_sum y ≡ true) (sym t.2) (float_tested t.0 t.1),
)

pub no_sums : NoSums
unfolding is_sum in_unsigned whole to_unsigned neg of_int round of_bits
no_sums =
    record {
      not_a_number = refl;
      infinite = λ s. refl;
      negative_zero = refl;
      negative_one = refl;
      half = refl;
      sixty_two = refl;
    }

-- ---- each is below 62
below : (x : Float) (a : ℕ) → HasValue x false a 1 → a < 62 → lt x (float 62) ≡ true
unfolding lt of_int round
below nan a p h = absurd p
below (inf s) a p h = absurd p
below (fin true m e) a p h = absurd (true≢false p.0)
below (fin false m e) a p h = lt-ltb (m * up e * 1) (62 * down e) (rw p.1 (mul-lt-mul_of_pos_right h (down_pos e)))

pub sum_below : (x : Float) → T (fits binary32 x) → T (is_sum x) → lt x (float 62) ≡ true
sum_below x f s =
    let is = sum_is_float x f s in
    let n = to_unsigned 8 x in
    below x n (subst (λ (y : Float). HasValue y false n 1) is.1 (has n (omega arith))) (omega arith)

-- ---- bits, which `to_bits` gives of what is no NaN
pub bits_same : (x y : Float) → T (fits binary32 x) → T (fits binary32 y) → to_bits binary32 x ≡ to_bits binary32 y → x ≡ y
bits_same x y f g e = sym (of_bits-to_bits binary32 x f) ∙ ap (of_bits binary32) e ∙ of_bits-to_bits binary32 y g

pub float_no_nan : (x : Float) (a : ℕ) → HasValue x false a 1 → T (not (is_nan x))
unfolding is_nan
float_no_nan nan a p = p
float_no_nan (inf s) a p = tt
float_no_nan (fin s m e) a p = tt

pub below_no_nan : (x y : Float) → lt x y ≡ true → T (not (is_nan x))
unfolding lt is_nan
below_no_nan nan y e = absurd (false≢true e)
below_no_nan (inf s) y e = tt
below_no_nan (fin s m e) y h = tt

-- neither of two that are compared is one
pub le_no_nan : (x y : Float) → le x y ≡ true → T (not (is_nan x)) × T (not (is_nan y))
unfolding le lt eq is_nan
le_no_nan nan y h = absurd (false≢true h)
le_no_nan (inf s) nan h = absurd (false≢true h)
le_no_nan (inf s) (inf t) h = (tt, tt)
le_no_nan (inf s) (fin t n d) h = (tt, tt)
le_no_nan (fin s m e) nan h = absurd (false≢true h)
le_no_nan (fin s m e) (inf t) h = (tt, tt)
le_no_nan (fin s m e) (fin t n d) h = (tt, tt)
