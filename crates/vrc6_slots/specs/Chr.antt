-- The eight CHR slots (01, Banks and decode; VRC6; m024_m026_vrc6.rs, chr_banks). Assumes nothing.
use Rattle.std.specs.Prelude.{cond, List, [], ◌∷◌, ◌++◌, ℕ, ◌+◌, ◌*◌, ◌/◌, ◌%◌, eqb, get_or}
use Rattle.base_shared.specs.Bits.{bit}

-- a register AND $FE (01, Banks and decode 3; 01, Banks and decode 4)
abbrev pub even_bank : ℕ → ℕ
even_bank v = v / 2 * 2

-- a register AND $FE, plus 1 (01, Banks and decode 3; 01, Banks and decode 4)
abbrev pub odd_bank : ℕ → ℕ
odd_bank v = even_bank v + 1

-- two slots from one register: its even and odd bank if mode bit 5, the wiki's P, else its bank twice (01, Banks and decode 3; VRC6)
abbrev pub pair : (mode v : ℕ) → List ℕ
pair m v = cond (bit 5 m) (even_bank v ∷ odd_bank v ∷ []) (v ∷ v ∷ [])

-- the banks of the eight slots, by mode AND 3, the wiki's DD (01, Banks and decode 3; VRC6)
unfoldable pub chr_slots : (mode : ℕ) → (chr : List ℕ) → List ℕ
chr_slots m c =
    cond (eqb (m % 4) 0) c
    (cond (eqb (m % 4) 1) (pair m (get_or c 0 0) ++ pair m (get_or c 1 0) ++ pair m (get_or c 2 0) ++ pair m (get_or c 3 0))
    (get_or c 0 0 ∷ get_or c 1 0 ∷ get_or c 2 0 ∷ get_or c 3 0 ∷ pair m (get_or c 4 0) ++ pair m (get_or c 5 0)))
