-- A name in quotes has the folder of its bytes. Assumes nothing.
use Rattle.std.proofs.Common.{◌≡◌, Bool, List, [], ◌∷◌, ℕ, refl, sym, ap, cond}
use Rattle.scene_paths.specs.Names.{is_slash, up_to}
use Rattle.scene_cells.specs.Quotes.{unquoted}
use Rattle.scene_paths.specs.Paths.{folder_of, is_rooted}

-- a name's first byte is the cell's
same_root : (quoted : Bool) (bytes : List ℕ) → is_rooted bytes ≡ is_rooted (unquoted quoted bytes)
same_root quoted [] = refl
same_root quoted (a ∷ []) = refl
same_root quoted (a ∷ b ∷ bs) = refl

pub same_folder : (sheet : List ℕ) (quoted : Bool) (bytes : List ℕ) → folder_of sheet (unquoted quoted bytes) ≡ folder_of sheet bytes
same_folder sheet quoted bytes = ap (λ (t : Bool). cond t [] (up_to is_slash sheet)) (sym (same_root quoted bytes))
