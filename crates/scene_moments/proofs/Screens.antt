-- Margins of clocks on the screen. Assumes nothing.
use Rattle.std.proofs.Common.{◌≡◌, ℕ, ◌+◌, ◌-◌, ◌*◌, ◌/◌, ◌%◌, ◌<◌, ◌≤◌, sym, ap, ◌∙◌, arith}
use Rattle.irq.specs.Timing.{line_length}
use Rattle.scene_moments.specs.declared.lines.Screen.{Screen}
use Rattle.scene_moments.specs.Lines.{dot_at, dots_to, early_margin, late_margin, line_of}
use Rattle.scene_moments.specs.Laws.{MarginLaw}

-- a line by its first dot
on_line : (x q : ℕ) → line_length * q ≤ x → x < line_length * q + line_length → x / line_length ≡ q
on_line x q low high = omega arith

-- dots within a line
apart : (x : ℕ) → x ≡ line_length * (x / line_length) + x % line_length
apart x = omega arith

-- clocks that fit in the dots before, and behind
fit_before : (r e : ℕ) → e < r / 3 + 1 → 3 * e ≤ r
fit_before r e h = omega arith

fit_behind : (r e : ℕ) → r < line_length → e < (line_length - r + 2) / 3 → 3 * e + r < line_length
fit_behind r e l h = omega arith

module _ (s : Screen) (from to : ℕ) (h : from ≤ to) where
  abbrev row : ℕ → ℕ
  row c = dots_to s c / line_length

  -- what lies between two clocks of a line is on that line
  between : row from ≡ row to → (c : ℕ) → from ≤ c → c ≤ to → row c ≡ row from
  between e c a b =
      on_line (dots_to s c) (row from) (omega (arith, apart (dots_to s from)))
      (omega (arith, e, apart (dots_to s to)))

pub margin_law : MarginLaw
unfolding line_of early_margin late_margin
margin_law s from to h same =
    record {
      early = λ c e a b l m.
          let q : dots_to s c / line_length ≡ dots_to s from / line_length = between s from to h (omega (arith, same)) c a b in
          let f : 3 * e ≤ dot_at s from = fit_before (dot_at s from) e l in
          ap (λ (n : ℕ). s.line + n)
          (on_line (dots_to s (c - e)) (dots_to s from / line_length) (omega (arith, apart (dots_to s from))) (omega (arith, q, apart (dots_to s c))) ∙ sym q);
      late = λ c e a b l.
          let q : dots_to s c / line_length ≡ dots_to s from / line_length = between s from to h (omega (arith, same)) c a b in
          let f : 3 * e + dot_at s to < line_length = fit_behind (dot_at s to) e (omega arith) l in
          ap (λ (n : ℕ). s.line + n)
          (on_line (dots_to s (c + e)) (dots_to s from / line_length) (omega (arith, q, apart (dots_to s c))) (omega (arith, same, apart (dots_to s to))) ∙ sym q);
      early_least = λ l. omega arith;
      late_least = omega arith;
    }
