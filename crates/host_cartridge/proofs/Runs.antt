-- Zeros, and parts of a list that stand behind them. Assumes nothing.
use mathlib.Core.Path.{◌≡◌, refl, sym, ap, ap₂, ◌∙◌}
use mathlib.Core.List.{List, [], ◌∷◌, ◌++◌, append-nil, append_assoc}
use Prim.Native.Nat.{ℕ, zero, suc, ◌+◌, ◌-◌, ◌≤◌, ◌<◌}
use native.Mathlib.Omega.{arith}
use native.Mathlib.Numerals.{add-one}
use lib.ListN.{length, get_or, replicate, take, drop, set, drop_of_length-le}
use lib.Seq.{take_all, take-add, take-append-add, drop-drop}

-- ---- zeros, and what stands behind them
pub length_zeros : (n : ℕ) → length {A = ℕ} (replicate n 0) ≡ n
length_zeros zero = refl
length_zeros (suc n) = ap suc (length_zeros n)

-- two parts that stand one behind the other, behind zeros
pub two_parts : (n s p q : ℕ) (l : List ℕ)
    → take (n + p + q) (replicate n 0 ++ drop s l) ≡ replicate n 0 ++ take p (drop s l) ++ take q (drop (s + p) l)
two_parts n s p q l =
    let e : n + p + q ≡ length {A = ℕ} (replicate n 0) + (p + q) = omega (arith, length_zeros n) in
    ap (λ (k : ℕ). take k (replicate n 0 ++ drop s l)) e
    ∙ take-append-add (replicate n 0) (drop s l) (p + q)
    ∙ ap (λ (r : List ℕ). replicate n 0 ++ r)
    (take-add p q (drop s l) ∙ ap (λ (r : List ℕ). take p (drop s l) ++ take q r) (drop-drop p s l))
    ∙ sym (append_assoc (replicate n 0) (take p (drop s l)) (take q (drop (s + p) l)))

-- zeros over the first bytes of a buffer, and bytes of a list over the others
pub behind_zeros : (n m k start : ℕ) (first second l : List ℕ) → 1024 ≤ m → n ≡ 1024 → k + 1024 ≡ m → first ≡ replicate n 0
    → second ≡ take (start + k - start) (drop start l) → first ++ second ≡ take m (replicate 1024 0 ++ drop start l)
behind_zeros n m k start first second l h e f a b =
    let x : m ≡ length {A = ℕ} (replicate 1024 0) + k = omega (arith, f, length_zeros 1024) in
    let y : start + k - start ≡ k = omega arith in
    ap₂ ◌++◌ (a ∙ ap (λ (i : ℕ). replicate i 0) e) (b ∙ ap (λ (i : ℕ). take i (drop start l)) y)
    ∙ sym (ap (λ (i : ℕ). take i (replicate 1024 0 ++ drop start l)) x ∙ take-append-add (replicate 1024 0) (drop start l) k)

-- ---- bytes that are copied one after the other
one_more : (t l : List ℕ) (i : ℕ) → i < length t → i < length l
    → set (take i t ++ drop i l) i (get_or t i 0) ≡ take (suc i) t ++ drop (suc i) l
one_more [] l i h k = absurd (omega arith)
one_more (y ∷ ys) [] i h k = absurd (omega arith)
one_more (y ∷ ys) (x ∷ xs) zero h k = refl
one_more (y ∷ ys) (x ∷ xs) (suc i) h k = ap (λ (r : List ℕ). y ∷ r) (one_more ys xs i (omega (arith, h)) (omega (arith, k)))

-- i bytes are those of the list, and the others as they were
abbrev pub Copied : (from start now : List ℕ) (i : ℕ) → Type 0
Copied from start now i = now ≡ take i from ++ drop i start

pub none_copied : (from start : List ℕ) → Copied from start start 0
none_copied from start = refl

module _ (from start now : List ℕ) (i : ℕ) (e : length from ≡ length start) (c : Copied from start now i) where
  pub more_copied : i < length start → Copied from start (set now i (get_or from i 0)) (i + 1)
  more_copied h = rw (add-one i) (ap (λ (l : List ℕ). set l i (get_or from i 0)) c ∙ one_more from start i (omega (arith, e, h)) h)

  pub all_copied : length start ≤ i → now ≡ from
  all_copied h =
      c ∙ ap (λ (r : List ℕ). take i from ++ r) (drop_of_length-le start h) ∙ append-nil (take i from)
      ∙ take_all i from (omega (arith, e, h))
