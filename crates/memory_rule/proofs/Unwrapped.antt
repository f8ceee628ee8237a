-- A window that its region holds whole does not wrap: its entries follow the first page by page. Assumes nothing.
use mathlib.Core.Path.{◌≡◌, refl, sym, ap, ap₂, ◌∙◌}
use mathlib.Core.List.{List, ◌∷◌}
use Prim.Native.Nat.{ℕ, zero, suc, ◌+◌, ◌*◌, ◌/◌, ◌%◌, ◌^◌, ◌≤◌, ◌<◌}
use native.Mathlib.Omega.{arith}
use native.Mathlib.Nat.{mod-eq_of_lt, div-mul-le_self, le-div_iff_mul-le}
use lib.IntN.{ℤ}
use borrow.Author.Tests.{ne_eqb}
use Rattle.base_shared.specs.Lists.{tabulate}
use Rattle.memory_pages.specs.declared.page.Page.{Page}
use Rattle.memory_pages.specs.Pages.{entry, pages_on}
use Rattle.memory_pages.proofs.Entries.{entry_on}
use Rattle.memory_layout.specs.declared.regions.Region.{Region}
use Rattle.memory_rule.specs.Rule.{rem_euclid, bank_count, base, shown}
use Rattle.memory_rule.proofs.Banks.{bank_low, bank_ends, first_unwrapped}

-- two lists are the same where their rules are
pub same_rule : {A : Type 0} (n : ℕ) (f g : ℕ → A) → ((i : ℕ) → i < n → f i ≡ g i) → tabulate n f ≡ tabulate n g
same_rule zero f g e = refl
same_rule (suc n) f g e =
    ap₂ (λ (x : _) (l : List _). x ∷ l) (e 0 (omega arith)) (same_rule n (λ k. f (suc k)) (λ k. g (suc k)) (λ i h. e (suc i) (omega arith)))

module _ (r : Region) (s : ℕ) (b : ℤ) (below : r.start + r.len ≤ 2 ^ 29) (some : 1 ≤ s) (n : r.len ≡ 0 → ⊥) where
  -- the first entry
  first_shown : shown r s b 0 ≡ entry (r.start + base r s b) r.writable
  first_shown = rw (ne_eqb _ _ n, first_unwrapped r s b some n)

  module _ (whole : s ≤ r.len) where
    some_bank : 1 ≤ r.len / s
    some_bank = (le-div_iff_mul-le {k = s} {x = 1} {y = r.len} some).1 (omega arith)

    -- the bank ends inside the region
    ends_inside : base r s b + s ≤ r.len
    ends_inside =
        bank_ends (rem_euclid b (bank_count r s)) (r.len / s) s r.len (omega (arith, bank_low b (bank_count r s) (omega arith), some_bank))
        (div-mul-le_self r.len s)

    follows : (i : ℕ) → 1024 * i < s → pages_on (shown r s b 0) i ≡ shown r s b i
    follows i h =
        let straight : (base r s b + 1024 * i) % r.len ≡ base r s b + 1024 * i = mod-eq_of_lt (omega (arith, ends_inside)) in
        let apart : r.start + (base r s b + 1024 * i) ≡ r.start + base r s b + 1024 * i = omega arith in
        let shows : shown r s b i ≡ entry (r.start + base r s b + 1024 * i) r.writable = rw (ne_eqb _ _ n, straight, apart) in
        rw first_shown (entry_on (r.start + base r s b) r.writable i (omega (arith, ends_inside))) ∙ sym shows

    -- so do all entries of the window
    pub unwrapped : (n : ℕ) → n * 1024 ≤ s → tabulate n (pages_on (entry (r.start + base r s b) r.writable)) ≡ tabulate n (shown r s b)
    unwrapped n l =
        same_rule n (pages_on (entry (r.start + base r s b) r.writable)) (shown r s b)
        (λ i h. ap (λ (e : Page). pages_on e i) (sym first_shown) ∙ follows i (omega arith))
