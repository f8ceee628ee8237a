-- A text's end by its last byte of a kind, found from behind. Assumes nothing.
use mathlib.Core.Path.{◌≡◌, refl, sym, ap, ◌∙◌}
use mathlib.Core.Bool.{Bool, true, false, cond, ◌||◌}
use mathlib.Core.List.{List, [], ◌∷◌, ◌++◌}
use Prim.Native.Nat.{ℕ, suc, ◌-◌, ◌<◌}
use native.Mathlib.Omega.{arith}
use lib.ListN.{length, take, get_or}
use lib.Seq.{take-suc, take-length}
use Rattle.scene_paths.specs.Names.{takes_any, up_to}

module _ (test : ℕ → Bool) (x : ℕ) where
  module _ (e : test x ≡ true) where
    has_last : (l : List ℕ) → takes_any test (l ++ (x ∷ [])) ≡ true
    has_last [] = rw e
    has_last (b ∷ bs) = ap (λ (t : Bool). test b || t) (has_last bs) ∙ or_true (test b)
      where
        or_true : (t : Bool) → (t || true) ≡ true
        or_true true = refl
        or_true false = refl

    -- behind a byte that the test takes nothing is left out
    pub taken : (l : List ℕ) → up_to test (l ++ (x ∷ [])) ≡ l ++ (x ∷ [])
    taken [] = rw e
    taken (b ∷ bs) =
        ap (λ (t : Bool). cond t (b ∷ up_to test (bs ++ (x ∷ []))) []) (has_last (b ∷ bs))
        ∙ ap (λ (l : List ℕ). b ∷ l) (taken bs)

  module _ (e : test x ≡ false) where
    has_none : (l : List ℕ) → takes_any test (l ++ (x ∷ [])) ≡ takes_any test l
    has_none [] = rw e
    has_none (b ∷ bs) = ap (λ (t : Bool). test b || t) (has_none bs)

    -- a last byte that the test does not take is left out
    pub passed : (l : List ℕ) → up_to test (l ++ (x ∷ [])) ≡ up_to test l
    passed [] = rw e
    passed (b ∷ bs) =
        ap (λ (t : Bool). cond t (b ∷ up_to test (bs ++ (x ∷ []))) []) (has_none (b ∷ bs))
        ∙ ap (λ (l : List ℕ). cond (takes_any test (b ∷ bs)) (b ∷ l) []) (passed bs)

-- ---- the same of a text that is not empty, by its last byte
module _ (test : ℕ → Bool) (text : List ℕ) (some : 0 < length text) where
  abbrev last : ℕ
  last = get_or text (length text - 1) 0

  split : text ≡ take (length text - 1) text ++ (last ∷ [])
  split =
      let s : length text ≡ suc (length text - 1) = omega arith in
      sym (take-length text) ∙ ap (λ (n : ℕ). take n text) s ∙ take-suc text (length text - 1) 0 (omega arith)

  pub kept : test last ≡ true → up_to test text ≡ text
  kept e = ap (up_to test) split ∙ taken test last e (take (length text - 1) text) ∙ sym split

  pub left_out : test last ≡ false → up_to test text ≡ up_to test (take (length text - 1) text)
  left_out e = ap (up_to test) split ∙ passed test last e (take (length text - 1) text)
