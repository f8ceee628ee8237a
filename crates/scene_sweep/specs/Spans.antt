-- The least and the most of the numbers that clocks have, if they have one (docs/SCENES.md). Assumes nothing.
use Rattle.std.specs.Prelude.{◌≡◌, Option, Some, None, ℕ, ◌<◌, ◌≤◌, min, max}
use Rattle.scene_sweep.specs.declared.spans.Span.{Span}

-- the span of one number
abbrev pub span_of : ℕ → Span
span_of n = record { least = n; most = n }

-- a span with another number
abbrev pub span_with : Span → ℕ → Span
span_with s n = record { least = min s.least n; most = max s.most n }

-- the span of some numbers, with one more if there is one
abbrev pub spanned : (span : Option Span) (more : Option ℕ) → Option Span
spanned s None = s
spanned None (Some n) = Some (span_of n)
spanned (Some s) (Some n) = Some (span_with s n)

-- a clock from `from` to before `to` whose number is n
pub record Reached (f : ℕ → Option ℕ) (from to n : ℕ) : Type 0 where
  pub clock : ℕ
  pub behind : from ≤ clock
  pub before : clock < to
  pub is : f clock ≡ Some n

-- no number f j of the clocks from `from` to before `to` lies outside, and both ends are numbers of clocks
pub record Spans (f : ℕ → Option ℕ) (from to : ℕ) (s : Span) : Type 0 where
  pub low : (j n : ℕ) → from ≤ j → j < to → f j ≡ Some n → s.least ≤ n
  pub high : (j n : ℕ) → from ≤ j → j < to → f j ≡ Some n → n ≤ s.most
  pub least : Reached f from to s.least
  pub most : Reached f from to s.most

-- the span of the numbers f j of the clocks from `from` to before `to`: none where none of them has a number
abbrev pub SpanOf : (f : ℕ → Option ℕ) (from to : ℕ) → Option Span → Type 0
SpanOf f from to None = (j : ℕ) → from ≤ j → j < to → f j ≡ None
SpanOf f from to (Some s) = Spans f from to s
