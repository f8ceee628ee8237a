-- The place that a page view is told as: its answer case by case, and the law that ties it to the view. Assumes nothing.
use mathlib.Core.Path.{◌≡◌, refl, sym, ap, ◌∙◌, subst}
use mathlib.Core.Bool.{Bool, true, false, cond}
use mathlib.Core.List.{[], ◌++◌}
use Prim.Native.Nat.{ℕ, ◌+◌, ◌-◌, ◌≤◌, ◌<◌}
use native.Mathlib.Omega.{arith}
use native.Mathlib.Nat.{add-sub_cancel_left}
use lib.Dec.{leb}
use lib.ListN.{length, take, drop}
use borrow.Author.Tests.{le-leb, lt-leb, leb-true, leb-false}
use Rattle.base_shared.specs.Refusals.{unless}
use Rattle.base_shared.proofs.Tests.{tested, unless_done}
use Rattle.memory_pages.specs.Pages.{offset as offset_of}
use Rattle.memory_tables.specs.Paging.{picture}
use Rattle.memory_access.specs.Access.{page_bytes}
use Rattle.memory_access.proofs.Accepted.{inside as page-inside, whole}
use Rattle.memory_access.proofs.Buffers.{first_part, second_part}
use Rattle.vrc6.specs.Boards.{State, entry_of}
use Rattle.vrc6.specs.Calls.{page_view, page_view_refusal}
use Rattle.host_answers.specs.declared.PageAt.{PageAt}
use Rattle.host_answers.specs.Encoded.{page_at}
use Rattle.host_answers.specs.Laws.{PageLaw}

module _ (x : State) (address : ℕ) where
  -- where the entry points, counted from the fixed buffer on
  abbrev at : ℕ
  at = offset_of (entry_of picture x.board address)

  -- an answer from the number and the test
  abbrev told : ℕ → Bool → PageAt
  told n behind = record { offset = unless n (cond behind (at - length x.fixed) at) 0; changing = unless n behind false; refusal = n }

  module _ (n : ℕ) (e : n ≡ page_view_refusal x address) where
    pub at_fixed : n ≡ 0 → at < length x.fixed → record { offset = at; changing = false; refusal = n } ≡ page_at x address
    at_fixed h lt = ap (λ (k : ℕ). record { offset = at; changing = false; refusal = k }) h ∙ ap (told 0) (sym (lt-leb _ _ lt)) ∙ ap (λ (k : ℕ). told k (leb (length x.fixed) at)) (sym h ∙ e)

    pub at_changing : n ≡ 0 → length x.fixed ≤ at → record { offset = at - length x.fixed; changing = true; refusal = n } ≡ page_at x address
    at_changing h le = ap (λ (k : ℕ). record { offset = at - length x.fixed; changing = true; refusal = k }) h ∙ ap (told 0) (sym (le-leb _ _ le)) ∙ ap (λ (k : ℕ). told k (leb (length x.fixed) at)) (sym h ∙ e)

  module _ (none : page_view_refusal x address ≡ 0) where
    -- the view, and a place told from an answer that is known
    abbrev Shown : PageAt → Type 0
    Shown p = (page_view x address ≡ take 1024 (drop p.offset (cond p.changing x.changing x.fixed))) × (p.offset + 1024 ≤ length (cond p.changing x.changing x.fixed))

    view_is : page_view x address ≡ take 1024 (drop at (x.fixed ++ x.changing))
    view_is = unless_done (page_bytes (entry_of picture x.board address) x.fixed x.changing) [] (page_view_refusal x address) 0 (sym none) refl

    shown : Shown (page_at x address)
    shown = tested (leb (length x.fixed) at)
        (λ h. subst Shown (at_changing 0 (sym none) refl (leb-true _ _ h)) (
          view_is ∙ sym (second_part x.fixed x.changing at 1024 (leb-true _ _ h)) ∙ ap (λ (n : ℕ). take n (drop (at - length x.fixed) x.changing)) (add-sub_cancel_left (at - length x.fixed) 1024),
          omega (arith, page-inside x.board.layout (entry_of picture x.board address) (length x.fixed) (length x.changing) true none, leb-true (length x.fixed) at h),
        ))
        (λ h. subst Shown (at_fixed 0 (sym none) refl (leb-false _ _ h)) (
          view_is ∙ sym (first_part x.fixed x.changing at 1024 (in_fixed h)) ∙ ap (λ (n : ℕ). take n (drop at x.fixed)) (add-sub_cancel_left at 1024),
          in_fixed h,
        ))
      where
        in_fixed : leb (length x.fixed) at ≡ false → at + 1024 ≤ length x.fixed
        in_fixed h = whole x.board.layout (entry_of picture x.board address) (length x.fixed) (length x.changing) true none (leb-false _ _ h)

pub page_law : PageLaw
page_law x address none = record { shows = (shown x address none).0; inside = (shown x address none).1 }
