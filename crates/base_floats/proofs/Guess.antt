-- The low six bits of x + 2 ^ 23 hold the only whole number below 64 that x can be. Assumes nothing.
use Prim.Native.Nat.{ℕ, zero, suc, ◌+◌, ◌-◌, ◌*◌, ◌%◌, ◌^◌, ◌≤◌, ◌<◌}
use native.Mathlib.Omega.{arith}
use mathlib.Core.Path.{◌≡◌, refl, sym, ap, ◌∙◌, subst}
use mathlib.Core.Bool.{Bool, true, false, not, cond, ◌&&◌, beq}
use lib.IntN.{ℤ, pos}
use lib.Dec.{T, eqb, leb, ltb, eqb→eq, leb→le, le→leb, eqb_refl}
use borrow.Author.Tests.{eqb-true, eqb-false}
use lib.Ieee.{Float, nan, inf, fin, Format, binary32, round, units, odd, sum, add, lt, fits, to_bits, to_unsigned, is_nan, of_int, size, low, emax, prec, up, down}
use lib.Ieee.Fits.{and_i, and_l, and_r, of_int-fits}
use Rattle.base_floats.specs.Wholes.{float, is_sum, sum_capped}
use Rattle.base_floats.proofs.Exact.{has}
use Rattle.base_floats.proofs.Sums.{part_back, float_is_sum, sum_is_float, sum_below, bits_same, float_no_nan, below_no_nan}

-- ---- that sum is no NaN, where x is none
odd_no_nan : (d : ℕ) (s : Bool) (q k l : ℕ) → T (not (is_nan (odd d s q k l)))
unfolding odd is_nan
odd_no_nan d s zero k l = tt
odd_no_nan d s (suc q) k l = tt

either_no_nan : (b : Bool) (x y : Float) → T (not (is_nan x)) → T (not (is_nan y)) → T (not (is_nan (cond b x y)))
either_no_nan true x y h k = h
either_no_nan false x y h k = k

inf_no_nan : (s : Bool) → T (not (is_nan (inf s)))
unfolding is_nan
inf_no_nan s = tt

units_no_nan : (f : Format) (s : Bool) (q k : ℕ) → T (not (is_nan (units f s q k)))
unfolding units
units_no_nan f s q k =
    either_no_nan (ltb (q * 2 ^ k) (2 ^ (low f + suc (emax f)))) (odd (suc (prec f)) s q k (low f)) (inf s) (odd_no_nan (suc (prec f)) s q k (low f)) (inf_no_nan s)

round_no_nan : (f : Format) (s : Bool) (n d : ℕ) → T (not (is_nan (round f s n d)))
unfolding round
round_no_nan f s n d = units_no_nan f s _ _

sum_no_nan : (f : Format) (s : Bool) (a : ℕ) (t : Bool) (b c : ℕ) → T (not (is_nan (sum f s a t b c)))
unfolding sum
sum_no_nan f s a t b c =
    either_no_nan (beq s t) (round f s (a + b) c) (cond (ltb a b) (round f t (b - a) c) (round f (s && ltb b a) (a - b) c)) (round_no_nan f s (a + b) c)
    (either_no_nan (ltb a b) (round f t (b - a) c) (round f (s && ltb b a) (a - b) c) (round_no_nan f t (b - a) c) (round_no_nan f (s && ltb b a) (a - b) c))

pub plus_no_nan : (x : Float) (t : Bool) (n : ℕ) (d : ℤ) → T (not (is_nan x)) → T (not (is_nan (add binary32 x (fin t n d))))
unfolding is_nan add
plus_no_nan nan t n d h = absurd h
plus_no_nan (inf s) t n d h = inf_no_nan s
plus_no_nan (fin s m e) t n d h = sum_no_nan binary32 s (m * up e * down d) t (n * up d * down e) (down e * down d)

-- ---- the six bits, 2 ^ 23 being `fin false 1 (pos 23)`
abbrev guess : Float → ℕ
guess x = to_bits binary32 (add binary32 x (fin false 1 (pos 23))) % 64

abbrev right : ℕ → Bool
right n = eqb (guess (float n)) n

-- the guess is right for each number below k
upto : ℕ → Bool
upto zero = true
upto (suc k) = right k && upto k

upto_at : (k n : ℕ) → n < k → T (upto k) → T (right n)
unfolding upto
upto_at zero n h t = absurd (omega arith)
upto_at (suc k) n h t = step (λ l. upto_at k n l (and_r (right k) (upto k) t)) (eqb n k) refl
  where
    step : (n < k → T (right n)) → (b : Bool) → eqb n k ≡ b → T (right n)
    step less true e = subst (λ (m : ℕ). T (right m)) (sym (eqb-true n k e)) (and_l (right k) (upto k) t)
    step less false e = let d = eqb-false n k e in less (omega (arith, d))

rows : T (upto 62)
unfolding upto add sum round units odd size to_bits of_int
rows = tt

-- two tests that pass alike are equal
alike : (p q : Bool) → (T p → T q) → (T q → T p) → p ≡ q
alike true true f g = refl
alike true false f g = absurd (f tt)
alike false true f g = absurd (g tt)
alike false false f g = refl

-- what is capped is x itself or 62, and no NaN
pub capped_no_nan : (x : Float) → T (not (is_nan (sum_capped x)))
capped_no_nan x = go (lt x (float 62)) refl
  where
    go : (b : Bool) → lt x (float 62) ≡ b → T (not (is_nan (cond b x (float 62))))
    go true e = below_no_nan x (float 62) e
    go false e = float_no_nan (float 62) 62 (has 62 (omega arith))

-- x is a sum exactly where the f32 of the guessed number, 61 at most, has the bits of x capped
module _ (x y : Float) (n : ℕ) (f : T (fits binary32 x)) (g : T (fits binary32 y)) (c : y ≡ sum_capped x) (h : n ≤ 63) (e : n ≡ guess y) where
  abbrev same : Bool
  same = eqb (to_bits binary32 (float n)) (to_bits binary32 y)

  there : T (leb n 61 && same) → T (is_sum x)
  there t = go (lt x (float 62)) c
    where
      low : n ≤ 61
      low = leb→le n 61 (and_l (leb n 61) same t)

      is : float n ≡ y
      is = bits_same (float n) y (of_int-fits binary32 (pos n)) g (eqb→eq (to_bits binary32 (float n)) (to_bits binary32 y) (and_r (leb n 61) same t))

      go : (b : Bool) → y ≡ cond b x (float 62) → T (is_sum x)
      go true k = subst (λ (z : Float). T (is_sum z)) (is ∙ k) (float_is_sum n low)
      go false k =
          let p : n ≡ 62 = sym (part_back n h).1 ∙ ap (to_unsigned 8) (is ∙ k) ∙ (part_back 62 (omega arith)).1 in
          absurd (omega (arith, low))

  back : T (is_sum x) → T (leb n 61 && same)
  back s =
      let is = sum_is_float x f s in
      let m = to_unsigned 8 x in
      let k : y ≡ x = c ∙ ap (λ (b : Bool). cond b x (float 62)) (sum_below x f s) in
      let q : guess (float m) ≡ m = eqb→eq (guess (float m)) m (upto_at 62 m (omega (arith, is.0)) rows) in
      let at : n ≡ m = e ∙ ap guess (k ∙ sym is.1) ∙ q in
      and_i (leb n 61) same (le→leb n 61 (omega (arith, is.0)))
      (subst (λ (z : Float). T (eqb (to_bits binary32 (float n)) (to_bits binary32 z))) (ap float at ∙ is.1 ∙ sym k) (eqb_refl (to_bits binary32 (float n))))

  pub by_guess : (leb n 61 && same) ≡ is_sum x
  by_guess = alike (leb n 61 && same) (is_sum x) there back
