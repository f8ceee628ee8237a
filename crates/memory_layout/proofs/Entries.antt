-- An entry of a page in its buffer passes the entry check. Assumes nothing.
use mathlib.Core.Path.{◌≡◌, refl}
use mathlib.Core.Bool.{Bool, true, false, not, ◌&&◌, ◌||◌}
use Prim.Native.Nat.{ℕ, ◌+◌, ◌%◌, ◌^◌, ◌≤◌, ◌<◌}
use native.Mathlib.Omega.{arith}
use lib.Dec.{leb}
use borrow.Author.Tests.{eq-eqb, le-leb}
use Rattle.memory_pages.specs.Pages.{entry, unmapped}
use Rattle.memory_pages.proofs.Entries.{offset_of, writable_of, spare_of}
use Rattle.memory_layout.specs.declared.regions.MemoryLayout.{MemoryLayout}
use Rattle.memory_layout.specs.Layout.{fixed_length, changing_length}
use Rattle.memory_layout.specs.Entries.{entry_in_range}
use Rattle.memory_layout.specs.Laws.{UnmappedLaw}

-- a writable region lies in the changing buffer, another in the fixed one
abbrev pub Home : Bool → (fixed changing start len : ℕ) → Type 0
Home true fixed changing start len = (fixed ≤ start) × (start + len ≤ fixed + changing)
Home false fixed changing start len = start + len ≤ fixed

-- ---- an entry in its buffer
by_home : (w : Bool) (fixed changing at : ℕ) → Home w fixed changing at 1024
    → ((leb fixed at && leb (at + 1024) (fixed + changing)) || (leb (at + 1024) fixed && not w)) ≡ true
by_home true fixed changing at h = rw (le-leb fixed at h.0, le-leb (at + 1024) (fixed + changing) h.1)
by_home false fixed changing at h = rw (le-leb (at + 1024) fixed h) (or_true (leb fixed at && leb (at + 1024) (fixed + changing)))
  where
    or_true : (b : Bool) → (b || true) ≡ true
    or_true true = refl
    or_true false = refl

module _ (l : MemoryLayout) where
  pub entry_good : (at : ℕ) (w : Bool) → at < 2 ^ 30 → at % 1024 ≡ 0 → Home w (fixed_length l) (changing_length l) at 1024
      → entry_in_range l (entry at w) ≡ true
  entry_good at w small m h =
      simp
      (offset_of at w small, writable_of at w, spare_of at w, eq-eqb (at % 1024) 0 m, by_home w (fixed_length l) (changing_length l) at h)

  pub unmapped_good : entry_in_range l unmapped ≡ true
  unmapped_good = entry_good 0 false (omega arith) refl (omega arith)

pub unmapped_law : UnmappedLaw
unmapped_law = unmapped_good
