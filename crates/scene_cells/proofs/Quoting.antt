-- Bytes that are written in quotes are read as they are. Assumes nothing.
use mathlib.Core.Path.{◌≡◌, refl, sym, ap, ◌∙◌}
use mathlib.Core.Bool.{Bool, true, false, cond, ◌&&◌}
use mathlib.Core.List.{List, [], ◌∷◌}
use Prim.Native.Nat.{ℕ}
use borrow.Author.Tests.{eqb-true}
use lib.Dec.{eqb}
use Rattle.base_shared.proofs.Tests.{tested}
use Rattle.scene_cells.specs.Laws.{UnquotedLaw, doubled}
use Rattle.scene_cells.specs.Quotes.{unquoted}

-- a byte that is no quote stands for itself
plain : (b : ℕ) (l : List ℕ) → eqb b 34 ≡ false → unquoted true (b ∷ l) ≡ b ∷ unquoted true l
plain b [] e = refl
plain b (c ∷ cs) e = ap (λ (t : Bool). b ∷ cond (t && eqb c 34) (unquoted true cs) (unquoted true (c ∷ cs))) e

-- a byte before a text that is written in quotes, by whether it is a quote
abbrev written : (b : ℕ) → List ℕ → Bool → List ℕ
written b bs t = unquoted true (cond t (34 ∷ 34 ∷ doubled bs) (b ∷ doubled bs))

module _ (b : ℕ) (bs : List ℕ) (again : unquoted true (doubled bs) ≡ bs) where
  quote : eqb b 34 ≡ true → unquoted true (doubled (b ∷ bs)) ≡ b ∷ bs
  quote e = ap (written b bs) e ∙ ap (λ (l : List ℕ). 34 ∷ l) again ∙ ap (λ (x : ℕ). x ∷ bs) (sym (eqb-true b 34 e))

  other : eqb b 34 ≡ false → unquoted true (doubled (b ∷ bs)) ≡ b ∷ bs
  other e = ap (written b bs) e ∙ plain b (doubled bs) e ∙ ap (λ (l : List ℕ). b ∷ l) again

pub unquoted_law : UnquotedLaw
unquoted_law [] = refl
unquoted_law (b ∷ bs) = tested (eqb b 34) (quote b bs (unquoted_law bs)) (other b bs (unquoted_law bs))
