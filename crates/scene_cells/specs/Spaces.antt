-- The no-break space, which counts as a blank (docs/SCENES.md). Assumes nothing.
use Rattle.std.specs.Prelude.{Bool, cond, ◌&&◌, List, [], ◌∷◌, ℕ, eqb}

-- two bytes are a no-break space (UTF-8)
abbrev pub is_no_break : (first second : ℕ) → Bool
is_no_break first second = eqb first 0xC2 && eqb second 0xA0

-- a text with two spaces for each no-break space (docs/SCENES.md)
abbrev pub with_spaces : List ℕ → List ℕ
with_spaces [] = []
with_spaces (a ∷ []) = a ∷ []
with_spaces (a ∷ b ∷ bs) = cond (is_no_break a b) (32 ∷ 32 ∷ with_spaces bs) (a ∷ with_spaces (b ∷ bs))
