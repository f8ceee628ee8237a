-- What a store requires of an entry that is checked already. Assumes nothing.
use Rattle.std.specs.Prelude.{◌≡◌, true, List, ℕ, ◌+◌, ◌≤◌, length}
use Rattle.memory_pages.specs.declared.page.Page.{Page}
use Rattle.memory_pages.specs.Pages.{offset, writable}

-- the page of a writable entry lies inside the changing buffer, the fixed one being so long
pub record Placed (fixed : ℕ) (e : Page) (changing : List ℕ) : Type 0 where
  pub behind : writable e ≡ true → fixed ≤ offset e
  pub within : writable e ≡ true → offset e + 1024 ≤ fixed + length changing
