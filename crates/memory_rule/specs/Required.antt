-- What the functions of this crate require of their arguments, and what inner ones return. Assumes nothing.
use Rattle.std.specs.Prelude.{◌≡◌, cond, ℕ, ◌+◌, ◌*◌, ◌%◌, ◌^◌, ◌≤◌, ◌<◌, eqb}
use Rattle.memory_pages.specs.declared.page.Page.{Page}
use Rattle.memory_pages.specs.Pages.{entry, offset, pages_on, unmapped}
use Rattle.memory_layout.specs.declared.regions.Region.{Region}
use Rattle.memory_rule.specs.Rule.{bank_count}

-- a window of s bytes on a region: the region ends below 2 ^ 29, the window has 1 to 16,384 bytes
pub record Reach (r : Region) (s : ℕ) : Type 0 where
  pub below : r.start + r.len ≤ 2 ^ 29
  pub some : 1 ≤ s
  pub most : s ≤ 16_384

-- ---- a region as a ring of pages
-- a region of whole pages that ends below 2 ^ 29
pub record Whole (r : Region) : Type 0 where
  pub below : r.start + r.len ≤ 2 ^ 29
  pub pages : r.len % 1024 ≡ 0

-- pages one behind the other, and behind the last the first again: which one is first, and how many there are
pub record Ring : Type 0 where
  pub first : Page
  pub count : ℕ

-- the pages of a region; a region of no bytes has the unmapped page alone
abbrev pub ring_of : Region → Ring
ring_of r = record { first = cond (eqb r.len 0) unmapped (entry r.start r.writable); count = bank_count r 1024 }

-- page n, counted round the ring
abbrev pub ring_page : Ring → (n : ℕ) → Page
ring_page g n = pages_on g.first (n % g.count)

-- a ring of so many pages from this one has a page, and its last one ends below 2 ^ 30
pub record Closed (first : Page) (count : ℕ) : Type 0 where
  pub some : 1 ≤ count
  pub low : offset first + 1024 * count < 2 ^ 30

-- a window of so many pages, 16 at most, on a region that ends below 2 ^ 29, of whole pages if it is shorter than the window
pub record Mapped (r : Region) (pages : ℕ) : Type 0 where
  pub below : r.start + r.len ≤ 2 ^ 29
  pub short : r.len < pages * 1024 → r.len % 1024 ≡ 0
  pub some : 1 ≤ pages
  pub most : pages ≤ 16
