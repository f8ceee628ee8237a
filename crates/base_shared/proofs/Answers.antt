-- Refusals and their numbers. Assumes nothing.
use mathlib.Core.Path.{◌≡◌, refl, sym, ap, ◌∙◌}
use Prim.Native.Nat.{ℕ, zero, suc}
use mathlib.Core.Bool.{false}
use Rattle.std.specs.Prelude.{Result, Ok, Err, ⊤, is_err}
use Rattle.std.specs.Result.{IsErr, IsErrAnd}
use Rattle.base_shared.specs.declared.Refusal.{Refusal}
use Rattle.base_shared.specs.declared.Refusal.TheVariants.{Limits, Lengths, Range, FirstPage, NoHeader, Mapper, FileLength}
use Rattle.base_shared.specs.Numbers.{number, answer_number}

-- the refusal that has a number
of_number : ℕ → Refusal
of_number zero = Limits
of_number (suc zero) = Limits
of_number (suc (suc zero)) = Lengths
of_number (suc (suc (suc zero))) = Range
of_number (suc (suc (suc (suc zero)))) = FirstPage
of_number (suc (suc (suc (suc (suc zero))))) = NoHeader
of_number (suc (suc (suc (suc (suc (suc zero)))))) = Mapper
of_number (suc (suc (suc (suc (suc (suc (suc n))))))) = FileLength

has_its_number : (r : Refusal) → of_number (number r) ≡ r
unfolding of_number
has_its_number Limits = refl
has_its_number Lengths = refl
has_its_number Range = refl
has_its_number FirstPage = refl
has_its_number NoHeader = refl
has_its_number Mapper = refl
has_its_number FileLength = refl

-- each refusal has a number of its own
pub same_number : (r s : Refusal) → number r ≡ number s → r ≡ s
same_number r s h = sym (has_its_number r) ∙ ap of_number h ∙ has_its_number s

-- and none has the number 0
pub never_zero : (r : Refusal) → number r ≡ 0 → ⊥
never_zero Limits h = cc
never_zero Lengths h = cc
never_zero Range h = cc
never_zero FirstPage h = cc
never_zero NoHeader h = cc
never_zero Mapper h = cc
never_zero FileLength h = cc

-- so the number says which answer it is, where the answer holds nothing else
pub same_answer : (x y : Result ⊤ Refusal) → answer_number x ≡ answer_number y → x ≡ y
same_answer (Ok a) (Ok b) h = refl
same_answer (Ok a) (Err s) h = absurd (never_zero s (sym h))
same_answer (Err r) (Ok b) h = absurd (never_zero r h)
same_answer (Err r) (Err s) h = ap Err (same_number r s h)

-- an answer that is no refusal has the number 0
pub accepted : {A : Type 0} (x : Result A Refusal) → is_err x ≡ false → answer_number x ≡ 0
accepted (Ok a) h = refl
accepted (Err r) h = cc

-- what `?` hands on has the number of what it was given
pub handed_on : {A B : Type 0} {r : Refusal} (handed : Result B Refusal) (given : Result A Refusal)
    → IsErrAnd handed (λ e. e ≡ r) → given ≡ Err r → answer_number handed ≡ answer_number given
handed_on (Ok b) given h was = absurd h
handed_on (Err e) given h was = ap number h ∙ sym (ap answer_number was)

-- and where an answer is a refusal, that number is not 0
pub refusal_counts : {A : Type 0} (x : Result A Refusal) → IsErr x → answer_number x ≡ 0 → ⊥
refusal_counts (Ok a) h z = cc
refusal_counts (Err r) h z = never_zero r z
