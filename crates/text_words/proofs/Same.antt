-- Two names are equal where the library's test says so. Assumes nothing.
use Rattle.std.proofs.Common.{◌≡◌, ℕ, Bool, true, false, ◌↔◌, IsTrue, List, [], ◌∷◌, map, refl, sym, ◌∙◌, arith, eq-eqb}
use borrow.Author.Tests.{eqb-true}
use Rattle.std.specs.Char.{to_ascii_lowercase}
use Rattle.std.proofs.lemmas.Bool.Decides.{nat_tests}
use Rattle.base_shared.proofs.Tests.{and_left, and_right, both, tested}
use Rattle.text_words.specs.Names.{same_name, small}

lower : (b : ℕ) → small b ≡ to_ascii_lowercase b
lower b = grind (arith, nat_tests)

sound : (a b : List ℕ) → same_name a b ≡ true → map to_ascii_lowercase a ≡ map to_ascii_lowercase b
sound [] [] e = refl
sound [] (y ∷ ys) e = absurd (cc)
sound (x ∷ xs) [] e = absurd (cc)
sound (x ∷ xs) (y ∷ ys) e =
    let h : small x ≡ small y = eqb-true (small x) (small y) (and_left _ _ e) in
    (λ i. (sym (lower x) ∙ h ∙ lower y) i ∷ sound xs ys (and_right _ _ e) i)

complete : (a b : List ℕ) → map to_ascii_lowercase a ≡ map to_ascii_lowercase b → same_name a b ≡ true
complete [] [] e = refl
complete [] (y ∷ ys) e = absurd (cc)
complete (x ∷ xs) [] e = absurd (cc)
complete (x ∷ xs) (y ∷ ys) e =
    let h : to_ascii_lowercase x ≡ to_ascii_lowercase y = cc in
    let t : map to_ascii_lowercase xs ≡ map to_ascii_lowercase ys = cc in
    both (eq-eqb (small x) (small y) (lower x ∙ h ∙ sym (lower y))) (complete xs ys t)

pub same_by : (r : Bool) (a b : List ℕ) → (IsTrue r ↔ (map to_ascii_lowercase a ≡ map to_ascii_lowercase b)) → r ≡ same_name a b
same_by true a b h = sym (complete a b (h.0 refl))
same_by false a b h = tested (same_name a b) (λ e. h.1 (sound a b e) ∙ sym e) (λ e. sym e)
