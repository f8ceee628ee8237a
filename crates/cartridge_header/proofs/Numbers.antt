-- Each number is answered where its condition fails and those before it hold, and only there. Assumes nothing.
use mathlib.Core.Path.{◌≡◌, refl, sym, ap, ◌∙◌}
use mathlib.Core.Bool.{Bool, true, false, cond}
use mathlib.Core.List.{[], ◌∷◌}
use mathlib.Core.Logic.Iff
use mathlib.Core.Logic.{◌⊎◌, inl, inr, ◌↔◌}
use Prim.Native.Nat.{ℕ}
use native.Mathlib.Omega.{arith}
use lib.ListN.{length}
use Rattle.base_shared.specs.Refusals.{first_failing}
use Rattle.base_shared.specs.declared.Refusal.{Refusal}
use Rattle.base_shared.specs.declared.Refusal.TheVariants.{NoHeader, Mapper, FileLength}
use Rattle.base_shared.specs.Numbers.{number, answer_number}
use Rattle.std.specs.Prelude.{Result, Ok, Err}
use Rattle.base_shared.specs.Numbered.{Numbered}
use Rattle.base_shared.proofs.Numbers.{numbered_law}
use Rattle.cartridge.specs.declared.cartridge.Cartridge.{Cartridge}
use Rattle.cartridge.specs.Cartridges.{cartridge_of, fits}
use Rattle.cartridge_header.specs.Ines.{is_ines, is_supported, stated_by}
use Rattle.cartridge_header.specs.Laws.{HeaderNumbersLaw}
use Rattle.cartridge_header.proofs.Meanings.{fails, headed, supported, fitting}

-- the number of the first of the three tests that fails
abbrev first_number : (a b z : Bool) → ℕ
first_number a b z = cond a (cond b (cond z 0 7) 6) 5

-- the three tests in order
abbrev by_tests : (a b z : Bool) → Cartridge → Result Cartridge Refusal
by_tests a b z k = cond a (cond b (cond z (Ok k) (Err FileLength)) (Err Mapper)) (Err NoHeader)

module _ (k : Cartridge) where
  told : (a b z : Bool) → answer_number (by_tests a b z k) ≡ first_number a b z
  told true true true = refl
  told true true false = refl
  told true false z = refl
  told false b z = refl

  accepted_where : (a b z : Bool) → (by_tests a b z k ≡ Ok k) ↔ (first_number a b z ≡ 0)
  accepted_where true true true = (λ h. refl, λ h. refl)
  accepted_where true true false = (λ h. cc, λ h. absurd (omega arith))
  accepted_where true false z = (λ h. cc, λ h. absurd (omega arith))
  accepted_where false b z = (λ h. cc, λ h. absurd (omega arith))

  pub accepted_by : (a b z : Bool) (c : Cartridge) → by_tests a b z k ≡ Ok c → c ≡ k
  accepted_by true true true c h = cc
  accepted_by true true false c h = cc
  accepted_by true false z c h = cc
  accepted_by false b z c h = cc

  numbers : (a b z : Bool) (r : Refusal) → by_tests a b z k ≡ Err r → (number r ≡ 5) ⊎ (number r ≡ 6) ⊎ (number r ≡ 7)
  numbers true true true r h = cc
  numbers true true false r h = let e : r ≡ FileLength = cc in inr (inr (ap number e))
  numbers true false z r h = let e : r ≡ Mapper = cc in inr (inl (ap number e))
  numbers false b z r h = let e : r ≡ NoHeader = cc in inl (ap number e)

pub header_numbers_law : HeaderNumbersLaw
header_numbers_law file =
    let a = is_ines file in
    let b = is_supported file in
    let z = fits (stated_by file) (length file) in
    let k = cartridge_of (stated_by file) in
    let checks = (a, 5) ∷ (b, 6) ∷ (z, 7) ∷ [] in
    let n = first_failing checks in
    let l : Numbered checks n = numbered_law checks refl n refl in
    let i = headed file in
    let j = supported file in
    let f = fitting file in
    let t = told k a b z in
    let five = l.each [] (a, 5) ((b, 6) ∷ (z, 7) ∷ []) refl in
    let six = l.each ((a, 5) ∷ []) (b, 6) ((z, 7) ∷ []) refl in
    let seven = l.each ((a, 5) ∷ (b, 6) ∷ []) (z, 7) [] refl in
    let none = l.only in
    record {
      five = ((λ h. (fails a i).0 (five.0 (sym t ∙ h)).1), (λ h. t ∙ five.1 (tt, (fails a i).1 h)));
      six = ((λ h. let g = six.0 (sym t ∙ h) in (i.0 g.0.0, (fails b j).0 g.1)), (λ h. t ∙ six.1 ((i.1 h.0, tt), (fails b j).1 h.1)));
      seven = (
        (λ h. let g = seven.0 (sym t ∙ h) in (i.0 g.0.0, (j.0 g.0.1.0, (fails z f).0 g.1))),
        (λ h. t ∙ seven.1 ((i.1 h.0, (j.1 h.1.0, tt)), (fails z f).1 h.1.1)),
      );
      accepted =
          Iff.trans (accepted_where k a b z) (
            (λ h. let g = none.0 h in (i.0 g.0, (j.0 g.1.0, f.0 g.1.1.0))),
            (λ h. none.1 (i.1 h.0, (j.1 h.1.0, (f.1 h.1.1, tt)))),
          );
      no_other = numbers k a b z;
    }
