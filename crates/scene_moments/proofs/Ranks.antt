-- The derived order of the marks is their rank's. Assumes nothing.
use Rattle.std.proofs.Common.{◌≡◌, ltb, refl}
use Rattle.std.specs.Ordering.{is_lt}
use Rattle.scene_moments.specs.contracts.verdict.MarkOrd.TheImpl.{cmp-value}
use Rattle.scene_moments.specs.declared.verdict.Mark.{Mark}
use Rattle.scene_moments.specs.declared.verdict.Mark.TheVariants.{Right, Early, Late, Lost, Never}
use Rattle.scene_moments.specs.Verdicts.{rank}

pub ranked : (a b : Mark) → is_lt (cmp-value.it a b) ≡ ltb (rank a) (rank b)
ranked Right b = elim b as (λ m. is_lt (cmp-value.it Right m) ≡ ltb (rank Right) (rank m)) [ Right ↦ refl | Early ↦ refl | Late ↦ refl | Lost ↦ refl | Never ↦ refl ]
ranked Early b = elim b as (λ m. is_lt (cmp-value.it Early m) ≡ ltb (rank Early) (rank m)) [ Right ↦ refl | Early ↦ refl | Late ↦ refl | Lost ↦ refl | Never ↦ refl ]
ranked Late b = elim b as (λ m. is_lt (cmp-value.it Late m) ≡ ltb (rank Late) (rank m)) [ Right ↦ refl | Early ↦ refl | Late ↦ refl | Lost ↦ refl | Never ↦ refl ]
ranked Lost b = elim b as (λ m. is_lt (cmp-value.it Lost m) ≡ ltb (rank Lost) (rank m)) [ Right ↦ refl | Early ↦ refl | Late ↦ refl | Lost ↦ refl | Never ↦ refl ]
ranked Never b = elim b as (λ m. is_lt (cmp-value.it Never m) ≡ ltb (rank Never) (rank m)) [ Right ↦ refl | Early ↦ refl | Late ↦ refl | Lost ↦ refl | Never ↦ refl ]
