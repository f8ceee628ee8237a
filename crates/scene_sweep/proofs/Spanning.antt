-- The span of the numbers of clocks, one clock after the other. Assumes nothing.
use Rattle.std.proofs.Common.{◌≡◌, ℕ, ◌+◌, ◌<◌, ◌≤◌, min, max, Option, Some, None, leb, subst, arith, leb-false, leb-true}
use Rattle.base_shared.proofs.Tests.{tested}
use Rattle.scene_sweep.specs.declared.spans.Span.{Span}
use Rattle.scene_sweep.specs.Spans.{Reached, SpanOf, spanned}

module _ (f : ℕ → Option ℕ) (from : ℕ) where
  -- no clock
  pub none_spanned : SpanOf f from from None
  none_spanned j a b = absurd (omega arith)

  module _ (k : ℕ) (l : from ≤ k) where
    -- one of the clocks, or the next
    each : (P : ℕ → Type 0) → ((j : ℕ) → from ≤ j → j < k → P j) → P k → (j : ℕ) → from ≤ j → j < k + 1 → P j
    each P h here j a b =
        tested (leb k j) (λ t. let same : k ≡ j = omega (arith, leb-true k j t) in subst P same here) (λ t. h j a (leb-false k j t))

    still : (n : ℕ) → Reached f from k n → Reached f from (k + 1) n
    still n m = record { clock = m.clock; behind = m.behind; before = omega (arith, m.before); is = m.is }

    now : (n : ℕ) → f k ≡ Some n → Reached f from (k + 1) n
    now n e = record { clock = k; behind = l; before = omega arith; is = e }

    -- the next clock has no number
    passed : (s : Option Span) → f k ≡ None → SpanOf f from k s → SpanOf f from (k + 1) s
    passed None e g = each (λ j. f j ≡ None) g e
    passed (Some s) e g =
        record {
          low = λ j n a b. each (λ i. f i ≡ Some n → s.least ≤ n) (λ i x y. g.low i n x y) (λ x. cc) j a b;
          high = λ j n a b. each (λ i. f i ≡ Some n → n ≤ s.most) (λ i x y. g.high i n x y) (λ x. cc) j a b;
          least = still s.least g.least;
          most = still s.most g.most;
        }

    -- the next clock's number
    same : (m n : ℕ) → f k ≡ Some m → f k ≡ Some n → m ≡ n
    same m n e x = cc

    taken : (s : Option Span) (m : ℕ) → f k ≡ Some m → SpanOf f from k s → SpanOf f from (k + 1) (spanned s (Some m))
    taken None m e g =
        record {
          low = λ j n a b. each (λ i. f i ≡ Some n → m ≤ n) (λ i x y z. let none = g i x y in cc) (λ x. omega (arith, same m n e x)) j a b;
          high = λ j n a b. each (λ i. f i ≡ Some n → n ≤ m) (λ i x y z. let none = g i x y in cc) (λ x. omega (arith, same m n e x)) j a b;
          least = now m e;
          most = now m e;
        }
    taken (Some s) m e g =
        record {
          low = λ j n a b.
              each (λ i. f i ≡ Some n → min s.least m ≤ n) (λ i x y z. omega (arith, g.low i n x y z)) (λ x. omega (arith, same m n e x)) j a b;
          high = λ j n a b.
              each (λ i. f i ≡ Some n → n ≤ max s.most m) (λ i x y z. omega (arith, g.high i n x y z)) (λ x. omega (arith, same m n e x)) j a b;
          least =
              tested (leb s.least m)
              (λ t. let is : s.least ≡ min s.least m = omega (arith, leb-true s.least m t) in subst (Reached f from (k + 1)) is (still s.least g.least))
              (λ t. let is : m ≡ min s.least m = omega (arith, leb-false s.least m t) in subst (Reached f from (k + 1)) is (now m e));
          most =
              tested (leb m s.most)
              (λ t. let is : s.most ≡ max s.most m = omega (arith, leb-true m s.most t) in subst (Reached f from (k + 1)) is (still s.most g.most))
              (λ t. let is : m ≡ max s.most m = omega (arith, leb-false m s.most t) in subst (Reached f from (k + 1)) is (now m e));
        }

    pub more_spanned : (s : Option Span) (v : Option ℕ) → f k ≡ v → SpanOf f from k s → SpanOf f from (k + 1) (spanned s v)
    more_spanned s None e g = passed s e g
    more_spanned s (Some n) e g = taken s n e g
