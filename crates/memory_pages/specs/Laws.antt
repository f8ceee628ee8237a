-- Laws of entries, for every entry; `proofs/` proves them. Assumes nothing.
use Rattle.std.specs.Prelude.{◌≡◌, Bool, false, ℕ, ◌+◌, ◌*◌, ◌^◌, ◌<◌}
use Rattle.memory_pages.specs.declared.page.Page.{Page}
use Rattle.memory_pages.specs.Pages.{entry, offset, writable, spare, pages_on, bits, page_of_bits, found, serving}

-- an entry gives back the offset, where it is below 2 ^ 30, and the mark that it was made of (01, Records 3)
pub record EntryLaw : Type 0 where
  pub offset_is : (at : ℕ) (w : Bool) → at < 2 ^ 30 → offset (entry at w) ≡ at
  pub writable_is : (at : ℕ) (w : Bool) → writable (entry at w) ≡ w
  pub spare_clear : (at : ℕ) (w : Bool) → spare (entry at w) ≡ false

-- n pages on lies 1,024 n bytes on, as long as that stays below 2 ^ 30; steps add up
pub record PagesOnLaw : Type 0 where
  pub entry_on : (at : ℕ) (w : Bool) (n : ℕ) → at + 1024 * n < 2 ^ 30 → pages_on (entry at w) n ≡ entry (at + 1024 * n) w
  pub on_again : (e : Page) (m n : ℕ) → pages_on (pages_on e m) n ≡ pages_on e (m + n)

-- an entry and its bits say the same
pub record BitsLaw : Type 0 where
  pub there : (e : Page) → page_of_bits (bits e) ≡ e
  pub back : (n : ℕ) → bits (page_of_bits n) ≡ n

-- a lookup loses nothing: it stands for the entry that it was made of
abbrev pub LookupLaw : Type 0
LookupLaw = (e : Page) → serving (found e) ≡ e
