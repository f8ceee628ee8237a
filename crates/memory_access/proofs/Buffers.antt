-- Two buffers, one behind the other: a byte and a part of either. Assumes nothing.
use mathlib.Core.Path.{◌≡◌, sym, ap, ◌∙◌}
use mathlib.Core.Bool.{true, false}
use mathlib.Core.List.{List, ◌++◌}
use Prim.Native.Nat.{ℕ, ◌+◌, ◌-◌, ◌≤◌, ◌<◌}
use native.Mathlib.Omega.{arith}
use native.Mathlib.Nat.{add-sub_cancel_left, add-sub_of_le}
use lib.Dec.{leb}
use lib.ListN.{length, get_or, set, take, drop, length-drop, get_or-append}
use lib.Seq.{get_or-append-add, get_or-set_same, get_or-set_other, take-append-le, drop-append-le, drop-append-add}
use borrow.Author.Tests.{leb-true, leb-false}
use Rattle.base_shared.proofs.Tests.{tested}

module _ (xs ys : List ℕ) where
  -- a byte of the first buffer
  pub first_at : (i : ℕ) → i < length xs → get_or xs i 0 ≡ get_or (xs ++ ys) i 0
  first_at i h = sym (get_or-append xs ys 0 i h)

  -- a byte of the second
  pub second_at : (i : ℕ) → length xs ≤ i → get_or ys (i - length xs) 0 ≡ get_or (xs ++ ys) i 0
  second_at i h = sym (get_or-append-add xs ys (i - length xs) 0) ∙ ap (λ (k : ℕ). get_or (xs ++ ys) k 0) (add-sub_of_le h)

  module _ (at n : ℕ) where
    -- n bytes that lie in the first
    pub first_part : at + n ≤ length xs → take (at + n - at) (drop at xs) ≡ take n (drop at (xs ++ ys))
    first_part h =
        let a : at ≤ length xs = omega arith in
        let b : n ≤ length (drop at xs) = simp length-drop (omega arith) in
        rw (add-sub_cancel_left at n, drop-append-le at xs ys a, take-append-le n (drop at xs) ys b)

    -- n bytes that lie in the second
    pub second_part : length xs ≤ at → take (at - length xs + n - (at - length xs)) (drop (at - length xs) ys) ≡ take n (drop at (xs ++ ys))
    second_part h =
        rw (add-sub_cancel_left (at - length xs) n)
        (ap (λ (l : List ℕ). take n l) (sym (drop-append-add xs ys (at - length xs)) ∙ ap (λ (k : ℕ). drop k (xs ++ ys)) (add-sub_of_le h)))

-- a store in the second buffer
module _ (xs ys : List ℕ) (at v : ℕ) where
  pub stored_same : (i : ℕ) → i ≡ length xs + at → at < length ys → get_or (xs ++ set ys at v) i 0 ≡ v
  stored_same i e h =
      ap (λ (n : ℕ). get_or (xs ++ set ys at v) n 0) e ∙ get_or-append-add xs (set ys at v) at 0 ∙ get_or-set_same ys at v 0 h

  pub stored_other : (i : ℕ) → (i ≡ length xs + at → ⊥) → get_or (xs ++ set ys at v) i 0 ≡ get_or (xs ++ ys) i 0
  stored_other i e = tested (leb (length xs) i) behind before
    where
      behind : leb (length xs) i ≡ true → get_or (xs ++ set ys at v) i 0 ≡ get_or (xs ++ ys) i 0
      behind h =
          let le = leb-true (length xs) i h in
          sym (second_at xs (set ys at v) i le)
          ∙ get_or-set_other ys at (i - length xs) v 0 (λ z. e (omega (arith, z)))
          ∙ second_at xs ys i le

      before : leb (length xs) i ≡ false → get_or (xs ++ set ys at v) i 0 ≡ get_or (xs ++ ys) i 0
      before h =
          let lt = leb-false (length xs) i h in sym (first_at xs (set ys at v) i lt) ∙ first_at xs ys i lt
