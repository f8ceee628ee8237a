-- What is known of an access that is not refused. Assumes nothing.
use mathlib.Core.Path.{◌≡◌, refl, sym, ◌∙◌}
use mathlib.Core.Bool.{Bool, true, false, cond, ◌&&◌, false≢true}
use mathlib.Core.List.{List, [], ◌∷◌, ◌++◌}
use mathlib.Core.Logic.{◌⊎◌, ⊎_elim}
use Prim.Native.Nat.{ℕ, ◌+◌, ◌≤◌, ◌<◌}
use native.Mathlib.Omega.{arith}
use lib.Dec.{eqb}
use lib.ListN.{length}
use borrow.Author.Tests.{eqb-true}
use Rattle.base_shared.specs.Numbered.{AllHold}
use Rattle.base_shared.proofs.Tests.{and_left, and_right}
use Rattle.base_shared.proofs.Numbers.{none_fails}
use Rattle.memory_pages.specs.declared.page.Page.{Page}
use Rattle.memory_pages.specs.Pages.{offset, writable}
use Rattle.memory_layout.specs.declared.regions.MemoryLayout.{MemoryLayout}
use Rattle.memory_layout.specs.Layout.{fixed_length, changing_length, layout_checks, lengths_fit, within_limits}
use Rattle.memory_layout.specs.Entries.{entry_in_range}
use Rattle.memory_layout.specs.Required.{Limits}
use Rattle.memory_layout.proofs.Limited.{limits, placed_in}
use Rattle.memory_access.specs.Access.{access_refusal}
use Rattle.memory_access.specs.Required.{Placed}

module _ (l : MemoryLayout) (e : Page) (fixed changing : ℕ) (others : Bool) (none : access_refusal l e fixed changing others ≡ 0) where
  all : AllHold (layout_checks l fixed changing ++ (others && entry_in_range l e, 3) ∷ [])
  all = (none_fails (layout_checks l fixed changing ++ (others && entry_in_range l e, 3) ∷ []) refl).0 none

  pub within : Limits l
  within = limits l all.0

  pub fixed_is : fixed ≡ fixed_length l
  fixed_is = eqb-true fixed (fixed_length l) (and_left (eqb fixed (fixed_length l)) (eqb changing (changing_length l)) all.1.0)

  pub changing_is : changing ≡ changing_length l
  changing_is = eqb-true changing (changing_length l) (and_right (eqb fixed (fixed_length l)) (eqb changing (changing_length l)) all.1.0)

  pub in_range : entry_in_range l e ≡ true
  in_range = and_right others (entry_in_range l e) all.1.1.0

  place : ((fixed ≤ offset e) × (offset e + 1024 ≤ fixed + changing)) ⊎ ((offset e + 1024 ≤ fixed) × (writable e ≡ false))
  place = rw (fixed_is, changing_is) (placed_in l e in_range)

  -- the page's bytes are in the buffers
  pub inside : offset e + 1024 ≤ fixed + changing
  inside = ⊎_elim (λ w. w.1) (λ w. omega arith) place

  -- a page that begins in the fixed buffer ends there
  pub whole : offset e < fixed → offset e + 1024 ≤ fixed
  whole h = ⊎_elim (λ w. absurd (omega arith)) (λ w. w.0) place

  -- a writable page lies in the changing buffer
  pub behind : writable e ≡ true → fixed ≤ offset e
  behind h = ⊎_elim (λ w. w.0) (λ w. absurd (false≢true (sym w.1 ∙ h))) place

-- so a byte can be stored through it
pub placed : (l : MemoryLayout) (e : Page) (fixed : ℕ) (changing : List ℕ) (others : Bool)
    → access_refusal l e fixed (length changing) others ≡ 0 → Placed fixed e changing
placed l e fixed changing others none =
    record {
      behind = behind l e fixed (length changing) others none;
      within = λ _. inside l e fixed (length changing) others none;
    }

-- ---- other values of a call, tested behind its entry
abbrev told : (limits lengths entry : Bool) → ℕ
told limits lengths entry = cond limits (cond lengths (cond entry 0 3) 2) 1

module _ (l : MemoryLayout) (e : Page) (fixed changing : ℕ) (others : Bool) where
  -- a call that is refused already is refused by the same number
  pub refused_first : (access_refusal l e fixed changing true ≡ 0 → ⊥)
      → access_refusal l e fixed changing others ≡ access_refusal l e fixed changing true
  refused_first h = go (within_limits l) (lengths_fit l fixed changing) (entry_in_range l e) others h
    where
      go : (a b c d : Bool) → (told a b c ≡ 0 → ⊥) → told a b (d && c) ≡ told a b c
      go true true true d h = absurd (h refl)
      go true true false true h = refl
      go true true false false h = refl
      go true false c d h = refl
      go false b c d h = refl

  -- and otherwise they decide
  pub values_decide : access_refusal l e fixed changing true ≡ 0 → access_refusal l e fixed changing others ≡ cond others 0 3
  values_decide h = go (within_limits l) (lengths_fit l fixed changing) (entry_in_range l e) others h
    where
      go : (a b c d : Bool) → told a b c ≡ 0 → told a b (d && c) ≡ cond d 0 3
      go true true true true h = refl
      go true true true false h = refl
      go true true false d h = cc
      go true false c d h = cc
      go false b c d h = cc
