-- How many slots and nametable numbers there are. Assumes nothing.
use mathlib.Core.Path.{◌≡◌, refl, ◌∙◌}
use mathlib.Core.Bool.{◌||◌}
use mathlib.Core.List.{List, ◌∷◌, ◌++◌}
use Prim.Native.Nat.{ℕ, ◌%◌}
use lib.Dec.{eqb}
use lib.ListN.{length, get_or, length-map}
use Rattle.base_shared.specs.Bits.{bit}
use Rattle.base_shared.proofs.Tests.{either}
use Rattle.vrc6_slots.specs.declared.Mirroring.{Mirroring}
use Rattle.vrc6_slots.specs.declared.Mirroring.TheVariants.{Vertical, Horizontal, SingleScreenA, SingleScreenB, FourScreen}
use Rattle.vrc6_slots.specs.Chr.{chr_slots}
use Rattle.vrc6_slots.specs.Nametables.{chr_numbers, ciram_numbers, mirroring_numbers, mode_mirroring, nametable_numbers, whole_registers}
use Rattle.vrc6_slots.proofs.Slots.{by_bit}

-- a list of n elements
record Count (n : ℕ) (l : List ℕ) : Type 0 where
  is : length l ≡ n

-- eight slots of eight registers, in every mode
pub slots_count : (m : ℕ) (c : List ℕ) → length c ≡ 8 → length (chr_slots m c) ≡ 8
unfolding chr_slots
slots_count m c h =
    let r : ℕ → ℕ = λ i. get_or c i 0 in
    (either (Count 8) (eqb (m % 4) 0) (record { is = h })
    (either (Count 8) (eqb (m % 4) 1)
    (by_bit (λ f. Count 8 (f (r 0) ++ f (r 1) ++ f (r 2) ++ f (r 3))) (record { is = refl }) (record { is = refl }) m)
    (by_bit (λ f. Count 8 (r 0 ∷ r 1 ∷ r 2 ∷ r 3 ∷ f (r 4) ++ f (r 5))) (record { is = refl }) (record { is = refl }) m))).is

-- four numbers, in every mode and of every mirroring
module _ (m : ℕ) (c : List ℕ) where
  whole_count : Count 4 (whole_registers m c)
  whole_count =
      either (Count 4) (eqb (m % 8) 0 || eqb (m % 8) 6 || eqb (m % 8) 7) (record { is = refl })
      (either (Count 4) (eqb (m % 8) 1 || eqb (m % 8) 5) (record { is = refl }) (record { is = refl }))

  chr_count : (k : Mirroring) → Count 4 (chr_numbers k m c)
  chr_count Vertical = record { is = refl }
  chr_count Horizontal = record { is = refl }
  chr_count SingleScreenA = record { is = refl }
  chr_count SingleScreenB = record { is = refl }
  chr_count FourScreen = whole_count

  ciram_count : (k : Mirroring) → Count 4 (ciram_numbers k m c)
  ciram_count Vertical = record { is = refl }
  ciram_count Horizontal = record { is = refl }
  ciram_count SingleScreenA = record { is = refl }
  ciram_count SingleScreenB = record { is = refl }
  ciram_count FourScreen = record { is = length-map (whole_registers m c) (λ v. v % 2) ∙ whole_count.is }

  pub numbers_count : length (nametable_numbers m c) ≡ 4
  unfolding nametable_numbers
  numbers_count = (either (Count 4) (bit 4 m) (chr_count (mode_mirroring m)) (ciram_count (mode_mirroring m))).is

pub mirroring_count : (k : Mirroring) → length (mirroring_numbers k) ≡ 4
mirroring_count Vertical = refl
mirroring_count Horizontal = refl
mirroring_count SingleScreenA = refl
mirroring_count SingleScreenB = refl
mirroring_count FourScreen = refl
