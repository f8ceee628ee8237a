-- A text before and behind the first byte of a kind. Assumes nothing.
use Rattle.std.specs.Prelude.{◌≡◌, false, List, ℕ, ◌-◌, eqb, length, take, drop}
use Rattle.text_words.specs.Words.{from_taken}

-- what stands in a text before its last part
abbrev pub before : (text part : List ℕ) → List ℕ
before text part = take (length text - length part) text

-- a text from the first mark on
abbrev pub from_mark : (mark : ℕ) → List ℕ → List ℕ
from_mark mark s = from_taken (λ (b : ℕ). eqb b mark) s

-- what stands before it
abbrev pub before_mark : (mark : ℕ) → List ℕ → List ℕ
before_mark mark s = before s (from_mark mark s)

-- what stands behind it
abbrev pub behind_mark : (mark : ℕ) → List ℕ → List ℕ
behind_mark mark s = drop 1 (from_mark mark s)

-- a text has the mark, and is split at the first
pub record SplitAt (mark : ℕ) (text front behind : List ℕ) : Type 0 where
  pub there : eqb (length (from_mark mark text)) 0 ≡ false
  pub head : front ≡ before_mark mark text
  pub tail : behind ≡ behind_mark mark text
