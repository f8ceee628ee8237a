-- Sums of whole numbers that f32s count without a gap are exact. Assumes nothing.
use Prim.Native.Nat.{ℕ, ◌+◌, ◌*◌, ◌^◌, ◌≤◌}
use native.Mathlib.Nat.{mul-one, mul-pos, add-mul, mul_assoc, mul_comm}
use native.Mathlib.Omega.{arith}
use mathlib.Core.Path.{◌≡◌, sym, ap, ◌∙◌}
use mathlib.Core.Bool.{true, false, true≢false}
use lib.Dec.{lit<}
use lib.Ieee.{Float, nan, inf, fin, Format, binary32, up, down, round, add, of_int}
use lib.Ieee.Fits.{down_pos}
use lib.Ieee.Exact.{HasValue}
use lib.Ieee.Scale.{round_same}
use lib.Ieee.Back.{round_whole}
use Rattle.base_floats.specs.Wholes.{float}
use Rattle.base_floats.specs.Laws.{WholeSumLaw}

-- x / d + y / c as one fraction, where the two are the whole numbers a and b
joined : (x y a b d c : ℕ) → x * 1 ≡ a * d → y * 1 ≡ b * c → (x * c + y * d) * 1 ≡ (a + b) * (d * c)
joined x y a b d c p q =
    let p' : x ≡ a * d = sym (mul-one x) ∙ p in
    let q' : y ≡ b * c = sym (mul-one y) ∙ q in
    rw (p', q') (simp (mul-one, add-mul, mul_assoc, mul_comm))

add_values : (f : Format) (x y : Float) (a b : ℕ) → HasValue x false a 1 → HasValue y false b 1 → add f x y ≡ round f false (a + b) 1
unfolding add
add_values f nan y a b p q = absurd p
add_values f (inf s) y a b p q = absurd p
add_values f (fin s m e) nan a b p q = absurd q
add_values f (fin s m e) (inf t) a b p q = absurd q
add_values f (fin true m e) (fin t n d) a b p q = absurd (true≢false p.0)
add_values f (fin false m e) (fin true n d) a b p q = absurd (true≢false q.0)
add_values f (fin false m e) (fin false n d) a b p q =
    round_same f false (m * up e * down d + n * up d * down e) (down e * down d) (a + b) 1 (mul-pos (down_pos e) (down_pos d)) (lit< tt)
    (joined (m * up e) (n * up d) a b (down e) (down d) p.1 q.1)

-- the f32 of a whole number has its value
pub has : (n : ℕ) → n ≤ 2 ^ 24 → HasValue (float n) false n 1
unfolding of_int
has n h = round_whole binary32 false n h

add_exact : (a b : ℕ) → a ≤ 2 ^ 24 → b ≤ 2 ^ 24 → add binary32 (float a) (float b) ≡ float (a + b)
unfolding of_int
add_exact a b h k = add_values binary32 (float a) (float b) a b (has a h) (has b k)

pub whole_sum_law : WholeSumLaw
whole_sum_law a b c h =
    ap (λ (x : Float). add binary32 x (float c)) (add_exact a b (omega arith) (omega arith)) ∙ add_exact (a + b) c (omega arith) (omega arith)
