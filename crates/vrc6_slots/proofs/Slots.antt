-- What holds of a pair of slots by the mode's bit. Assumes nothing.
use mathlib.Core.Bool.{Bool, true, false, cond}
use mathlib.Core.List.{List, [], ◌∷◌}
use Prim.Native.Nat.{ℕ}
use Rattle.base_shared.specs.Bits.{bit}
use Rattle.vrc6_slots.specs.Chr.{even_bank, odd_bank, pair}

-- a pair by the mode's bit
abbrev paired : (aligned : Bool) → (v : ℕ) → List ℕ
paired t v = cond t (even_bank v ∷ odd_bank v ∷ []) (v ∷ v ∷ [])

-- what holds of pairs that are aligned, and of those that are not
pub by_bit : (P : (ℕ → List ℕ) → Type 0) → P (paired true) → P (paired false) → (m : ℕ) → P (pair m)
by_bit P h k m = go (bit 5 m)
  where
    go : (t : Bool) → P (paired t)
    go true = h
    go false = k
