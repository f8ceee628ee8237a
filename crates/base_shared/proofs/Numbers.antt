-- The first test that fails, of any tests. Assumes nothing.
use mathlib.Core.Path.{◌≡◌, refl, sym, ap, ◌∙◌}
use mathlib.Core.Bool.{Bool, true, false, cond, not, ◌&&◌, false≢true}
use mathlib.Core.List.{List, [], ◌∷◌, ◌++◌}
use mathlib.Core.Logic.{◌↔◌}
use Prim.Native.Nat.{ℕ}
use lib.Dec.{eqb}
use borrow.Author.Tests.{eq-eqb}
use Rattle.base_shared.specs.Refusals.{first_failing}
use Rattle.base_shared.specs.Numbered.{AllHold, without, own_numbers, NumberedLaw}
use Rattle.base_shared.proofs.Tests.{and_left, and_right}

differ : (a b : ℕ) → not (eqb a b) ≡ true → a ≡ b → ⊥
differ a b h e = false≢true (sym (ap not (eq-eqb a b e)) ∙ h)

-- ---- the numbers
module _ (t : Bool × ℕ) (ts : List (Bool × ℕ)) (h : own_numbers (t ∷ ts) ≡ true) where
  own : (not (eqb t.1 0) && without t.1 ts) ≡ true
  own = and_left (not (eqb t.1 0) && without t.1 ts) (own_numbers ts) h

  not_zero : t.1 ≡ 0 → ⊥
  not_zero = differ t.1 0 (and_left (not (eqb t.1 0)) (without t.1 ts) own)

  not_again : without t.1 ts ≡ true
  not_again = and_right (not (eqb t.1 0)) (without t.1 ts) own

  own_behind : own_numbers ts ≡ true
  own_behind = and_right (not (eqb t.1 0) && without t.1 ts) (own_numbers ts) h

-- a test that stands among them has another number
other : (n : ℕ) (xs : List (Bool × ℕ)) (t : Bool × ℕ) (ys : List (Bool × ℕ)) → without n (xs ++ t ∷ ys) ≡ true → t.1 ≡ n → ⊥
other n [] t ys h = differ t.1 n (and_left (not (eqb t.1 n)) (without n ys) h)
other n (u ∷ xs) t ys h = other n xs t ys (and_right (not (eqb u.1 n)) (without n (xs ++ t ∷ ys)) h)

-- and so no test tells that number
not_told : (n : ℕ) → (n ≡ 0 → ⊥) → (ts : List (Bool × ℕ)) → without n ts ≡ true → first_failing ts ≡ n → ⊥
not_told n z [] h e = z (sym e)
not_told n z (t ∷ ts) h e = go t.0 (not_told n z ts (and_right (not (eqb t.1 n)) (without n ts) h)) e
  where
    go : (b : Bool) → (first_failing ts ≡ n → ⊥) → cond b (first_failing ts) t.1 ≡ n → ⊥
    go true more f = more f
    go false more f = differ t.1 n (and_left (not (eqb t.1 n)) (without n ts) h) f

-- ---- 0 where all hold, and only then
pub none_fails : (ts : List (Bool × ℕ)) → own_numbers ts ≡ true → (first_failing ts ≡ 0) ↔ AllHold ts
none_fails [] s = ((λ _. tt), (λ _. refl))
none_fails (t ∷ ts) s = go t.0 (none_fails ts (own_behind t ts s))
  where
    go : (b : Bool) → (first_failing ts ≡ 0) ↔ AllHold ts → (cond b (first_failing ts) t.1 ≡ 0) ↔ ((b ≡ true) × AllHold ts)
    go true more = ((λ h. (refl, more.0 h)), (λ h. more.1 h.1))
    go false more = ((λ h. absurd (not_zero t ts s h)), (λ h. absurd (false≢true h.0)))

-- where the first tests hold, those behind them decide
pub decided_behind : (xs ys : List (Bool × ℕ)) → AllHold xs → first_failing (xs ++ ys) ≡ first_failing ys
decided_behind [] ys h = refl
decided_behind (t ∷ ts) ys h = rw h.0 (decided_behind ts ys h.1)

-- ---- a test's own where it fails and those before it hold, and only then
each_fails : (xs : List (Bool × ℕ)) (t : Bool × ℕ) (ys : List (Bool × ℕ)) → own_numbers (xs ++ t ∷ ys) ≡ true
    → (first_failing (xs ++ t ∷ ys) ≡ t.1) ↔ (AllHold xs × (t.0 ≡ false))
each_fails [] t ys s = go t.0
  where
    go : (b : Bool) → (cond b (first_failing ys) t.1 ≡ t.1) ↔ (Unit {0} × (b ≡ false))
    go true =
        ((λ h. absurd (not_told t.1 (not_zero t ys s) ys (not_again t ys s) h)), (λ h. absurd (false≢true (sym h.1))))
    go false = ((λ h. (tt, refl)), (λ h. refl))
each_fails (u ∷ xs) t ys s = go u.0 (each_fails xs t ys (own_behind u (xs ++ t ∷ ys) s))
  where
    go : (b : Bool) → (first_failing (xs ++ t ∷ ys) ≡ t.1) ↔ (AllHold xs × (t.0 ≡ false))
        → (cond b (first_failing (xs ++ t ∷ ys)) u.1 ≡ t.1) ↔ (((b ≡ true) × AllHold xs) × (t.0 ≡ false))
    go true more = ((λ h. ((refl, (more.0 h).0), (more.0 h).1)), (λ h. more.1 (h.0.1, h.1)))
    go false more =
        ((λ h. absurd (other u.1 xs t ys (not_again u (xs ++ t ∷ ys) s) (sym h))), (λ h. absurd (false≢true h.0.0)))

pub numbered_law : NumberedLaw
numbered_law ts s n e =
    let f = none_fails ts s in
    record {
      first = e;
      only = ((λ h. f.0 (sym e ∙ h)), (λ h. e ∙ f.1 h));
      each = each;
    }
  where
    each : (xs : List (Bool × ℕ)) (t : Bool × ℕ) (ys : List (Bool × ℕ)) → ts ≡ xs ++ t ∷ ys → (n ≡ t.1) ↔ (AllHold xs × (t.0 ≡ false))
    each xs t ys p =
        let g = each_fails xs t ys (ap own_numbers (sym p) ∙ s) in
        let m = e ∙ ap first_failing p in
        ((λ h. g.0 (sym m ∙ h)), (λ h. m ∙ g.1 h))
