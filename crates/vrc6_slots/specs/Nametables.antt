-- The four nametable numbers and the mirroring (01, Banks and decode; VRC6; m024_m026_vrc6.rs, update_nametables). Assumes nothing.
use Rattle.std.specs.Prelude.{Bool, cond, ◌||◌, List, [], ◌∷◌, map, ℕ, ◌+◌, ◌*◌, ◌/◌, ◌%◌, eqb, get_or}
use Rattle.base_shared.specs.Bits.{bit}
use Rattle.vrc6_slots.specs.declared.Mirroring.{Mirroring}
use Rattle.vrc6_slots.specs.declared.Mirroring.TheVariants.{Vertical, Horizontal, SingleScreenA, SingleScreenB, FourScreen}
use Rattle.vrc6_slots.specs.Chr.{even_bank, odd_bank}

-- mode AND $2F (01, Banks and decode 4)
abbrev pub style : (mode : ℕ) → ℕ
style m = m / 32 % 2 * 32 + m % 16

-- x is one of two
abbrev among : (x a b : ℕ) → Bool
among x a b = eqb x a || eqb x b

-- the mirroring that a mode names, and FourScreen for "else" (01, Banks and decode 5; 01, Banks and decode 6)
abbrev pub mode_mirroring : (mode : ℕ) → Mirroring
mode_mirroring m =
    cond (among (style m) 0x20 0x27) Vertical
    (cond (among (style m) 0x23 0x24) Horizontal
    (cond (among (style m) 0x28 0x2F) SingleScreenA
    (cond (among (style m) 0x2B 0x2C) SingleScreenB FourScreen)))

-- a mirroring's CIRAM numbers; FourScreen's are those of creation (01, Banks and decode 5; 01, Banks and decode 6; m024_m026_vrc6.rs, set_mirroring)
abbrev pub mirroring_numbers : Mirroring → List ℕ
mirroring_numbers Vertical = 0 ∷ 1 ∷ 0 ∷ 1 ∷ []
mirroring_numbers Horizontal = 0 ∷ 0 ∷ 1 ∷ 1 ∷ []
mirroring_numbers SingleScreenA = 0 ∷ 0 ∷ 0 ∷ 0 ∷ []
mirroring_numbers SingleScreenB = 1 ∷ 1 ∷ 1 ∷ 1 ∷ []
mirroring_numbers FourScreen = 0 ∷ 1 ∷ 2 ∷ 3 ∷ []

-- "else": whole registers by mode AND 7; 0, 6, 7 give 6 6 7 7, 1, 5 give 4 5 6 7, and 2, 3, 4 give 6 7 6 7 (01, Banks and decode 6)
abbrev pub whole_registers : (mode : ℕ) → (chr : List ℕ) → List ℕ
whole_registers m c =
    let r : ℕ → ℕ = λ i. get_or c i 0 in
    cond (eqb (m % 8) 0 || eqb (m % 8) 6 || eqb (m % 8) 7) (r 6 ∷ r 6 ∷ r 7 ∷ r 7 ∷ [])
    (cond (eqb (m % 8) 1 || eqb (m % 8) 5) (r 4 ∷ r 5 ∷ r 6 ∷ r 7 ∷ []) (r 6 ∷ r 7 ∷ r 6 ∷ r 7 ∷ []))

-- bit 4 set, from CHR: registers 6 and 7, even or odd, by the table's row (01, Banks and decode 5)
abbrev pub chr_numbers : Mirroring → (mode : ℕ) → (chr : List ℕ) → List ℕ
chr_numbers Vertical m c = even_bank (get_or c 6 0) ∷ odd_bank (get_or c 6 0) ∷ even_bank (get_or c 7 0) ∷ odd_bank (get_or c 7 0) ∷ []
chr_numbers Horizontal m c = even_bank (get_or c 6 0) ∷ even_bank (get_or c 7 0) ∷ odd_bank (get_or c 6 0) ∷ odd_bank (get_or c 7 0) ∷ []
chr_numbers SingleScreenA m c = even_bank (get_or c 6 0) ∷ even_bank (get_or c 6 0) ∷ even_bank (get_or c 7 0) ∷ even_bank (get_or c 7 0) ∷ []
chr_numbers SingleScreenB m c = odd_bank (get_or c 6 0) ∷ odd_bank (get_or c 7 0) ∷ odd_bank (get_or c 6 0) ∷ odd_bank (get_or c 7 0) ∷ []
chr_numbers FourScreen m c = whole_registers m c

-- bit 4 clear, from CIRAM: the mirroring's numbers, or the registers' low bits (01, Banks and decode 5)
abbrev pub ciram_numbers : Mirroring → (mode : ℕ) → (chr : List ℕ) → List ℕ
ciram_numbers Vertical m c = mirroring_numbers Vertical
ciram_numbers Horizontal m c = mirroring_numbers Horizontal
ciram_numbers SingleScreenA m c = mirroring_numbers SingleScreenA
ciram_numbers SingleScreenB m c = mirroring_numbers SingleScreenB
ciram_numbers FourScreen m c = map (λ v. v % 2) (whole_registers m c)

-- the four numbers after a write to $B003, $D000..3 or $E000..3: from CHR if mode bit 4, the wiki's N, else from CIRAM
-- (01, Banks and decode 5; VRC6)
unfoldable pub nametable_numbers : (mode : ℕ) → (chr : List ℕ) → List ℕ
nametable_numbers m c = cond (bit 4 m) (chr_numbers (mode_mirroring m) m c) (ciram_numbers (mode_mirroring m) m c)

-- the mirroring then: FourScreen for "else" and whenever bit 4 is set (01, Banks and decode 6)
unfoldable pub nametable_mirroring : (mode : ℕ) → Mirroring
nametable_mirroring m = cond (bit 4 m) FourScreen (mode_mirroring m)
