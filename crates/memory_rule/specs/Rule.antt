-- The paging rule: which page of a region each entry of a window shows (01, Paging; memory.rs, map_pages). Assumes nothing.
use Rattle.std.specs.Prelude.{cond, ℕ, ◌+◌, ◌-◌, ◌*◌, ◌/◌, ◌%◌, max, eqb, ℤ, pos, negsuc}
use Rattle.memory_pages.specs.declared.page.Page.{Page}
use Rattle.memory_pages.specs.Pages.{entry, unmapped}
use Rattle.memory_layout.specs.declared.regions.Region.{Region}

-- b modulo the count of banks, never negative; `negsuc n` is -(n + 1) (01, Paging 2; 01, Rust forms to recast 1)
abbrev pub rem_euclid : ℤ → (banks : ℕ) → ℕ
rem_euclid (pos n) banks = n % banks
rem_euclid (negsuc n) banks = banks - 1 - n % banks

-- a region's banks of s bytes: max(1, n / s rounded down) (01, Paging 2)
abbrev pub bank_count : Region → (s : ℕ) → ℕ
bank_count r s = max 1 (r.len / s)

-- where bank b begins in the region: (b modulo banks) × s (01, Paging 2)
abbrev pub base : Region → (s : ℕ) → ℤ → ℕ
base r s b = rem_euclid b (bank_count r s) * s

-- page i of a window of s bytes on bank b: region start + (base + 1,024 i) mod n, and unmapped if n = 0 (01, Paging 2)
abbrev pub shown : Region → (s : ℕ) → ℤ → (i : ℕ) → Page
shown r s b i = cond (eqb r.len 0) unmapped (entry (r.start + (base r s b + 1024 * i) % r.len) r.writable)
