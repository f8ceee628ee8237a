-- The paging rule goes round a region of whole pages. Assumes nothing.
use mathlib.Core.Path.{◌≡◌, refl, sym, ap, ap₂, ◌∙◌}
use mathlib.Core.Bool.{Bool, true, false, cond}
use Prim.Native.Nat.{ℕ, ◌+◌, ◌*◌, ◌/◌, ◌%◌, ◌≤◌, ◌<◌}
use native.Mathlib.Omega.{arith}
use native.Mathlib.Nat.{div-add-mod, mod-eq_of_lt, mod-lt, mod-mod, mod-one, mul-add-mod_self_left, mul_assoc, div-eq_of_lt, zero-mul, zero-add}
use lib.Dec.{eqb}
use lib.IntN.{ℤ, pos}
use borrow.Author.Tests.{eqb-true, eqb-false}
use Rattle.memory_pages.specs.Pages.{entry, pages_on, unmapped}
use Rattle.memory_pages.proofs.Entries.{entry_on}
use Rattle.memory_layout.specs.declared.regions.Region.{Region}
use Rattle.memory_rule.specs.Rule.{rem_euclid, bank_count, base, shown}
use Rattle.memory_rule.specs.Required.{Whole, ring_of, ring_page}
use Rattle.memory_rule.specs.Laws.{RingLaw}
use Rattle.memory_rule.proofs.Banks.{bank_low}
use Rattle.memory_rule.proofs.Unwrapped.{same_rule}
use Rattle.base_shared.specs.Lists.{tabulate}

-- a remainder counted in bytes is the one counted in pages
scaled : (x m : ℕ) → 1 ≤ m → 1024 * x % (1024 * m) ≡ 1024 * (x % m)
scaled x m h =
    let whole : 1024 * x ≡ 1024 * m * (x / m) + 1024 * (x % m) = omega (arith, div-add-mod x m, mul_assoc 1024 m (x / m)) in
    let low : 1024 * (x % m) < 1024 * m = omega (arith, mod-lt x {m = m} h) in
    ap (λ (n : ℕ). n % (1024 * m)) whole ∙ mul-add-mod_self_left (1024 * m) (x / m) (1024 * (x % m)) ∙ mod-eq_of_lt low

module _ (r : Region) (w : Whole r) where
  abbrev count : ℕ
  count = bank_count r 1024

  -- a region that has bytes is so many pages long
  counted : (r.len ≡ 0 → ⊥) → r.len ≡ 1024 * count
  counted n = omega (arith, w.pages)

  module _ (p : ℕ) (b : ℤ) where
    -- the page at which the bank begins
    abbrev from : ℕ
    from = rem_euclid b (bank_count r (p * 1024)) * p

    in_bytes : (i : ℕ) → base r (p * 1024) b + 1024 * i ≡ 1024 * (from + i)
    in_bytes i = omega (arith, mul_assoc (rem_euclid b (bank_count r (p * 1024))) p 1024)

    pub rounds : (i : ℕ) → shown r (p * 1024) b i ≡ ring_page (ring_of r) (from + i)
    rounds i = go (eqb r.len 0) refl
      where
        go : (z : Bool) → eqb r.len 0 ≡ z
            → cond z unmapped (entry (r.start + (base r (p * 1024) b + 1024 * i) % r.len) r.writable)
            ≡ pages_on (cond z unmapped (entry r.start r.writable)) ((from + i) % count)
        go true e =
            let one : count ≡ 1 = omega (arith, eqb-true r.len 0 e) in
            sym (ap (pages_on unmapped) (ap (λ (n : ℕ). (from + i) % n) one ∙ mod-one (from + i)))
        go false e =
            let long = counted (eqb-false r.len 0 e) in
            let some : 1 ≤ count = omega arith in
            let at = (from + i) % count in
            let inside : (base r (p * 1024) b + 1024 * i) % r.len ≡ 1024 * at
            = ap₂ (λ (x n : ℕ). x % n) (in_bytes i) long ∙ scaled (from + i) count some in
            let low = mod-lt (from + i) {m = count} some in
            ap (λ (x : ℕ). entry (r.start + x) r.writable) inside ∙ sym (entry_on r.start r.writable at (omega (arith, w.below)))

  -- a window longer than the region goes round it from its first page
  pub around : (n : ℕ) (b : ℤ) → r.len < n * 1024 → tabulate n (ring_page (ring_of r)) ≡ tabulate n (shown r (n * 1024) b)
  around n b h =
      let one : bank_count r (n * 1024) ≡ 1 = omega (arith, div-eq_of_lt h) in
      let first : rem_euclid b (bank_count r (n * 1024)) ≡ 0 = omega (arith, bank_low b (bank_count r (n * 1024)) (omega arith)) in
      same_rule n (ring_page (ring_of r)) (shown r (n * 1024) b)
      (λ i l. sym (rounds n b i ∙ ap (λ (k : ℕ). ring_page (ring_of r) (k * n + i)) first ∙ rw (zero-mul, zero-add)))

  -- a window of one page
  pub one_shown : (v : ℕ) → shown r 1024 (pos v) 0 ≡ ring_page (ring_of r) v
  one_shown v =
      let plain : v % count * 1 + 0 ≡ v % count = omega arith in
      rounds 1 (pos v) 0 ∙ ap (pages_on (ring_of r).first) (ap (λ (n : ℕ). n % count) plain ∙ mod-mod v count)

pub ring_law : RingLaw
ring_law r w p b i = rounds r w p b i
