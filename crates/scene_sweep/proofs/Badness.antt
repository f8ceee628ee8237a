-- The derived order of badness is that of its weight. Assumes nothing.
use Rattle.std.proofs.Common.{◌≡◌, ltb, Bool, true, false, cond, Less, Equal, Greater, is_lt, refl, sym, arith}
use Rattle.std.specs.Ordering.{partial_lt}
use Rattle.std.proofs.lemmas.Bool.{le-ltb, lt-ltb}
use Rattle.scene_sweep.specs.contracts.tally.BadnessPartialOrd.TheImpl.{partial_cmp-value}
use Rattle.scene_sweep.specs.declared.tally.Badness.{Badness}
use Rattle.scene_sweep.specs.declared.tally.Badness.TheVariants.{Lines, Lost, Never}
use Rattle.scene_sweep.specs.Tallies.{Weighed, weight}

tests : (b c : Bool) → is_lt (cond b Less (cond c Equal Greater)) ≡ b
tests true c = refl
tests false true = refl
tests false false = refl

pub ordered : (a b : Badness) → Weighed a → Weighed b → partial_lt partial_cmp-value.it a b ≡ ltb (weight a) (weight b)
ordered (Lines n) (Lines m) h k = tests (ltb n m) _
ordered (Lines n) Lost h k = sym (lt-ltb n (weight Lost) h)
ordered (Lines n) Never h k = sym (lt-ltb n (weight Never) (omega (arith, h)))
ordered Lost (Lines m) h k = sym (le-ltb (weight Lost) m (omega (arith, k)))
ordered Lost Lost h k = refl
ordered Lost Never h k = refl
ordered Never (Lines m) h k = sym (le-ltb (weight Never) m (omega (arith, k)))
ordered Never Lost h k = refl
ordered Never Never h k = refl
