-- The bytes that a cell means (RFC 4180). Assumes nothing.
use Rattle.std.specs.Prelude.{Bool, cond, ◌&&◌, List, [], ◌∷◌, ℕ, eqb}

-- two quotes behind one another in a cell in quotes (RFC 4180)
abbrev pub is_doubled : (quoted : Bool) → (first second : ℕ) → Bool
is_doubled quoted first second = quoted && (eqb first 34 && eqb second 34)

-- a cell's bytes, where in a cell in quotes two quotes stand for one (RFC 4180)
abbrev pub unquoted : (quoted : Bool) → List ℕ → List ℕ
unquoted quoted [] = []
unquoted quoted (a ∷ []) = a ∷ []
unquoted quoted (a ∷ b ∷ bs) = a ∷ cond (is_doubled quoted a b) (unquoted quoted bs) (unquoted quoted (b ∷ bs))
