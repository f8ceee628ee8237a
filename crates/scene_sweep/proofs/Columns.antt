-- Which of the bar's 64 columns clocks touch. Assumes nothing.
use Rattle.std.proofs.Common.{ℕ, ◌+◌, ◌-◌, ◌*◌, ◌/◌, ◌<◌, ◌≤◌, leb, div-lt_iff_lt-mul, add-mul, le-div_iff_mul-le, div-mul-le_self, arith, leb-false, leb-true}
use Rattle.base_shared.proofs.Tests.{tested}
use Rattle.scene_sweep.specs.Bars.{Touches, first_column, last_column}

-- a clock lies in one of the columns
pub below : (k n y : ℕ) → k < n → y ≤ 64 * k + 63 → y / n < 64
below k n y h e =
    tested (leb 64 (y / n))
    (λ t. absurd (omega (arith, (le-div_iff_mul-le {k = n} {x = 64} {y = y} (omega arith)).0 (leb-true 64 (y / n) t))))
    (λ t. leb-false 64 (y / n) t)

-- a later place lies in the same column or in a later one
onward : (a b n : ℕ) → 0 < n → a ≤ b → a / n ≤ b / n
onward a b n p h = (le-div_iff_mul-le {k = n} {x = a / n} {y = b} p).1 (omega (arith, div-mul-le_self a n))

-- the first clock's column does not lie behind the last one's
pub ordered : (n from to : ℕ) → from < to → to ≤ n → first_column from n ≤ last_column (to - 1) n
ordered n from to h l = onward (64 * from + 0) (64 * (to - 1) + 63) n (omega arith) (omega arith)

-- a clock from `from` to before `to` that touches column i
pub record Among (n from to i : ℕ) : Type 0 where
  pub clock : ℕ
  pub behind : from ≤ clock
  pub before : clock < to
  pub touches : Touches n clock i

module _ (n from to i : ℕ) (h : from < to) (l : to ≤ n) where
  -- what a clock touches lies between the columns of the first and of the last clock
  pub spread : (j : ℕ) → from ≤ j → j < to → Touches n j i → (first_column from n ≤ i) × (i ≤ last_column (to - 1) n)
  spread j a b t = (
    omega (arith, t.first, onward (64 * from + 0) (64 * j + 0) n (omega arith) (omega arith)),
    omega (arith, t.last, onward (64 * j + 63) (64 * (to - 1) + 63) n (omega arith) (omega arith)),
  )

  -- a column behind the first clock's and before the last one's is touched by the clock at its start
  between : last_column from n < i → i < first_column (to - 1) n → Among n from to i
  between a b =
      let p : 0 < n = omega arith in
      let x : 64 * from + 63 < i * n = (div-lt_iff_lt-mul {k = n} {x = 64 * from + 63} {y = i} p).0 a in
      let y : (i + 1) * n ≤ 64 * (to - 1) + 0 = (le-div_iff_mul-le {k = n} {x = i + 1} {y = 64 * (to - 1) + 0} p).0 (omega arith) in
      record {
        clock = i * n / 64;
        behind = omega arith;
        before = omega (arith, add-mul i 1 n);
        touches = record {
          first = omega (arith, (div-lt_iff_lt-mul {k = n} {x = 64 * (i * n / 64) + 0} {y = i + 1} p).1 (omega (arith, add-mul i 1 n)));
          last = (le-div_iff_mul-le {k = n} {x = i} {y = 64 * (i * n / 64) + 63} p).1 (omega arith);
        };
      }

  -- every column between those of the first and of the last clock is touched
  pub found : first_column from n ≤ i → i ≤ last_column (to - 1) n → Among n from to i
  found a b =
      tested (leb i (last_column from n))
      (λ t. record {
        clock = from;
        behind = omega arith;
        before = omega arith;
        touches = record { first = a; last = leb-true i (last_column from n) t };
      })
      (λ t. tested (leb (first_column (to - 1) n) i)
      (λ u. record {
        clock = to - 1;
        behind = omega arith;
        before = omega arith;
        touches = record { first = leb-true (first_column (to - 1) n) i u; last = b };
      })
      (λ u. between (leb-false i (last_column from n) t) (leb-false (first_column (to - 1) n) i u)))
