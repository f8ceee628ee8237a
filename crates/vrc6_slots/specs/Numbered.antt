-- The numbers and the letters of mirrorings (01, Records; ppu.rs, Mirroring). Assumes nothing.
use Rattle.std.specs.Prelude.{◌≡◌, ℕ, ◌<◌, Result, MatchResult}
use Rattle.vrc6_slots.specs.declared.Mirroring.{Mirroring}
use Rattle.vrc6_slots.specs.declared.Mirroring.TheVariants.{Vertical, Horizontal, SingleScreenA, SingleScreenB, FourScreen}
use Rattle.vrc6_slots.specs.declared.UnknownNumber.{UnknownNumber}

-- a mirroring's number (ppu.rs, Mirroring)
abbrev pub mirroring_number : Mirroring → ℕ
mirroring_number Vertical = 0
mirroring_number Horizontal = 1
mirroring_number SingleScreenA = 2
mirroring_number SingleScreenB = 3
mirroring_number FourScreen = 4

-- its letter, as a byte: V, H, A, B or 4 (docs/SCENES.md)
abbrev pub mirroring_letter : Mirroring → ℕ
mirroring_letter Vertical = 0x56
mirroring_letter Horizontal = 0x48
mirroring_letter SingleScreenA = 0x41
mirroring_letter SingleScreenB = 0x42
mirroring_letter FourScreen = 0x34

-- what a number stands for: the mirroring that has it, or, above 4, none (01, Records 4)
abbrev pub MirroringNumbered : ℕ → Result Mirroring UnknownNumber → Type 0
MirroringNumbered n r = MatchResult r (λ m. mirroring_number m ≡ n) (λ e. (e.0 ≡ n) × (4 < n))
