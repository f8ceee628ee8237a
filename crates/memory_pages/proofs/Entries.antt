-- The parts of an entry, and the lookup. Assumes nothing.
use mathlib.Core.Path.{◌≡◌, refl, sym, ap}
use mathlib.Core.Bool.{Bool, true, false, cond}
use Prim.Native.Nat.{ℕ, ◌+◌, ◌*◌, ◌^◌, ◌<◌}
use native.Mathlib.Omega.{arith}
use borrow.Author.Tests.{eqb-true, eq-eqb, ne_eqb}
use Rattle.memory_pages.specs.declared.page.Page.{Page}
use Rattle.std.specs.Prelude.{Some, None}
use Rattle.memory_pages.specs.Pages.{entry, is_unmapped, offset, writable, spare, pages_on, serving}
use Rattle.memory_pages.specs.Laws.{BitsLaw, EntryLaw, LookupLaw, PagesOnLaw}

pub offset_of : (at : ℕ) (w : Bool) → at < 2 ^ 30 → offset (entry at w) ≡ at
offset_of at true h = omega arith
offset_of at false h = omega arith

pub writable_of : (at : ℕ) (w : Bool) → writable (entry at w) ≡ w
writable_of at true = omega (arith, eq-eqb)
writable_of at false = omega (arith, ne_eqb)

pub spare_of : (at : ℕ) (w : Bool) → spare (entry at w) ≡ false
spare_of at true = omega (arith, ne_eqb)
spare_of at false = omega (arith, ne_eqb)

pub entry_law : EntryLaw
entry_law = record { offset_is = offset_of; writable_is = writable_of; spare_clear = spare_of }

-- ---- pages on
pub entry_on : (at : ℕ) (w : Bool) (n : ℕ) → at + 1024 * n < 2 ^ 30 → pages_on (entry at w) n ≡ entry (at + 1024 * n) w
entry_on at true n h = ap (λ (x : ℕ). record { 0 = x }) (omega arith)
entry_on at false n h = ap (λ (x : ℕ). record { 0 = x }) (omega arith)

pub on_again : (e : Page) (m n : ℕ) → pages_on (pages_on e m) n ≡ pages_on e (m + n)
on_again e m n = ap (λ (x : ℕ). record { 0 = x }) (omega arith)

pub pages_on_law : PagesOnLaw
pages_on_law = record { entry_on = entry_on; on_again = on_again }

pub bits_law : BitsLaw
bits_law = record { there = λ e. refl; back = λ n. refl }

pub lookup_law : LookupLaw
lookup_law e = go (is_unmapped e) refl
  where
    go : (b : Bool) → is_unmapped e ≡ b → serving (cond b None (Some e)) ≡ e
    go true h = sym (ap (λ (n : ℕ). record { 0 = n }) (eqb-true e.0 0 h))
    go false h = refl
