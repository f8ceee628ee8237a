-- The table of registers, row by row. Assumes nothing.
use mathlib.Core.Path.{◌≡◌, sym, ap, ◌∙◌}
use mathlib.Core.Bool.{Bool}
use Prim.Native.Nat.{ℕ, zero, suc, ◌+◌, ◌*◌, ◌/◌, ◌≤◌, ◌<◌}
use native.Mathlib.Omega.{arith}
use lib.ListN.{drop, replicate, get_or-replicate, get_or-append}
use Rattle.registers.specs.declared.Register.{Register}
use Rattle.std.specs.Prelude.{Option, None}
use Rattle.registers.specs.Decode.{decode, lines, register_at, registers}

by_three : (P : ℕ → Type 0) → P 0 → P 1 → P 2 → (n : ℕ) → n < 3 → P n
by_three P a b c zero h = a
by_three P a b c (suc zero) h = b
by_three P a b c (suc (suc zero)) h = c
by_three P a b c (suc (suc (suc n))) h = absurd (omega arith)

-- the code is at a row, with the lines in hand
module _ (r : Bool) (a row line : ℕ) (e : a / 4096 ≡ row) (l : (line ≡ lines r a) × (line < 4)) where
  found : register_at row line ≡ decode r a
  unfolding decode
  found = rw (← e, l.0)

  -- the first three lines of a row, and the last; or all four
  pub three : (f : ℕ → Option Register) → f 0 ≡ register_at row 0 → f 1 ≡ register_at row 1 → f 2 ≡ register_at row 2 → line < 3
      → f line ≡ decode r a
  three f x y z h = by_three (λ n. f n ≡ register_at row n) x y z line h ∙ found

  pub fourth : (x : Option Register) → x ≡ register_at row 3 → 3 ≤ line → x ≡ decode r a
  fourth x g h = let last : line ≡ 3 = omega (arith, l.1) in g ∙ ap (register_at row) (sym last) ∙ found

  pub all_four : (f : ℕ → Option Register) → f 0 ≡ register_at row 0 → f 1 ≡ register_at row 1 → f 2 ≡ register_at row 2
      → f 3 ≡ register_at row 3 → f line ≡ decode r a
  all_four f w x y z = go line l.1 ∙ found
    where
      go : (n : ℕ) → n < 4 → f n ≡ register_at row n
      go zero h = w
      go (suc n) h = by_three (λ k. f (suc k) ≡ register_at row (suc k)) x y z n (omega arith)

  pub low : row < 8 → None ≡ decode r a
  low h =
      let i : row * 4 + line < 32 = omega (arith, l.1) in
      sym (get_or-append (replicate 32 None) (drop 32 registers) None (row * 4 + line) i
      ∙ get_or-replicate 32 (row * 4 + line) None None i)
      ∙ found

-- below, and not the one below
pub but : (n k : ℕ) → n < suc k → (n ≡ k → ⊥) → n < k
but n k h e = omega arith
