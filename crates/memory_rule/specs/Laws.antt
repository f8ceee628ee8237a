-- Laws of the paging rule, for every layout, region and window; `proofs/` proves them. Assumes nothing.
use Rattle.std.specs.Prelude.{◌≡◌, true, ℕ, ◌+◌, ◌*◌, ◌<◌, ℤ, pos, ◌+ℤ◌}
use Rattle.memory_layout.specs.declared.regions.MemoryLayout.{MemoryLayout}
use Rattle.memory_layout.specs.declared.regions.Region.{Region}
use Rattle.memory_layout.specs.declared.regions.Src.{Src}
use Rattle.memory_layout.specs.Layout.{within_limits, region}
use Rattle.memory_layout.specs.Entries.{entry_in_range}
use Rattle.memory_rule.specs.Rule.{rem_euclid, bank_count, shown}
use Rattle.memory_rule.specs.Required.{Whole, ring_of, ring_page}

-- the remainder is the one number below m that differs from b by a multiple of m (01, Paging 2)
pub record RemainderLaw : Type 0 where
  pub below : (b : ℤ) (m : ℕ) → 0 < m → rem_euclid b m < m
  pub small : (n m : ℕ) → n < m → rem_euclid (pos n) m ≡ n
  pub again : (b : ℤ) (m : ℕ) → 0 < m → rem_euclid (b +ℤ pos m) m ≡ rem_euclid b m

-- every entry that the paging rule gives a layout within its limits is one that the layout's boards can hold; the window is a whole
-- number of pages long (01, Paging 2; 01, The board's calls 4)
abbrev pub ShownLaw : Type 0
ShownLaw =
    (l : MemoryLayout) → within_limits l ≡ true → (src : Src) (pages : ℕ) (b : ℤ) (i : ℕ)
    → entry_in_range l (shown (region l src) (pages * 1024) b i) ≡ true

-- for windows of p whole pages the paging rule goes round the region, page by page, from the page at which the bank begins (01, Paging 2;
-- 02, change 3)
abbrev pub RingLaw : Type 0
RingLaw =
    (r : Region) → Whole r → (p : ℕ) (b : ℤ) (i : ℕ)
    → shown r (p * 1024) b i ≡ ring_page (ring_of r) (rem_euclid b (bank_count r (p * 1024)) * p + i)
