-- The laws of a byte stored, a view and a refused access. Assumes nothing.
use mathlib.Core.Path.{◌≡◌, refl, sym, ap, ◌∙◌}
use mathlib.Core.Bool.{Bool, true, false, cond}
use mathlib.Core.List.{List, [], ◌++◌}
use Prim.Native.Nat.{ℕ, zero, suc, ◌+◌, ◌-◌, ◌%◌, ◌≤◌, min}
use native.Mathlib.Omega.{arith}
use lib.ListN.{length, get_or, set, drop, length-set, length-append, length-take, length-drop}
use lib.Seq.{get_or-take, get_or-drop}
use Rattle.base_shared.specs.Refusals.{unless}
use Rattle.base_shared.proofs.Tests.{either, tested, unless_refused, unless_done}
use Rattle.memory_pages.specs.declared.page.Page.{Page}
use Rattle.memory_pages.specs.Pages.{offset, writable}
use Rattle.memory_layout.specs.declared.regions.MemoryLayout.{MemoryLayout}
use Rattle.memory_access.specs.Access.{access_refusal, plain_refusal, place, byte_at, stored, page_bytes, peeked, written, viewed}
use Rattle.memory_access.specs.Laws.{ByteStoredLaw, PageViewedLaw, AccessRefusedLaw}
use Rattle.memory_access.proofs.Accepted.{inside, behind}
use Rattle.memory_access.proofs.Buffers.{stored_same, stored_other}

module _ (l : MemoryLayout) (e : Page) (fixed changing : List ℕ) (a v : ℕ) (none : plain_refusal l e fixed changing ≡ 0) where
  abbrev at : ℕ
  at = offset e - length fixed + a % 1024

  left : written l e fixed changing a v ≡ stored (length fixed) e changing a v
  left = unless_done (stored (length fixed) e changing a v) changing (plain_refusal l e fixed changing) (plain_refusal l e fixed changing) refl none

  within : offset e + 1024 ≤ length fixed + length changing
  within = inside l e (length fixed) (length changing) true none

  off : writable e ≡ false → written l e fixed changing a v ≡ changing
  off w = left ∙ ap (λ (b : Bool). cond b (set changing at v) changing) w

  -- a read is not refused afterwards either
  again : plain_refusal l e fixed (written l e fixed changing a v) ≡ 0
  again =
      ap (λ (n : ℕ). access_refusal l e (length fixed) n true)
      (ap length left ∙ either (λ ys. length ys ≡ length changing) (writable e) (length-set changing at v) refl)
      ∙ none

  module _ (w : writable e ≡ true) where
    on : written l e fixed changing a v ≡ set changing at v
    on = left ∙ ap (λ (b : Bool). cond b (set changing at v) changing) w

    placed : place e a ≡ length fixed + at
    placed = omega (arith, behind l e (length fixed) (length changing) true none w)

    read_back : (peeked l e fixed (written l e fixed changing a v) a).byte ≡ v
    read_back =
        ap (λ (n : ℕ). unless n (byte_at e fixed (written l e fixed changing a v) a) 0) again
        ∙ ap (λ (ys : List ℕ). get_or (fixed ++ ys) (place e a) 0) on
        ∙ stored_same fixed changing at v (place e a) placed
        (omega (arith, within, behind l e (length fixed) (length changing) true none w))

    others_on : (i : ℕ) → (i ≡ place e a → ⊥) → get_or (fixed ++ written l e fixed changing a v) i 0 ≡ get_or (fixed ++ changing) i 0
    others_on i n =
        ap (λ (ys : List ℕ). get_or (fixed ++ ys) i 0) on ∙ stored_other fixed changing at v i (λ z. n (z ∙ sym placed))

  others : (i : ℕ) → (i ≡ place e a → ⊥) → get_or (fixed ++ written l e fixed changing a v) i 0 ≡ get_or (fixed ++ changing) i 0
  others i n = tested (writable e) (λ w. others_on w i n) (λ w. ap (λ (ys : List ℕ). get_or (fixed ++ ys) i 0) (off w))

pub byte_stored_law : ByteStoredLaw
byte_stored_law l e fixed changing a v none =
    record {
      read_back = read_back l e fixed changing a v none;
      others = others l e fixed changing a v none;
      unwritable = off l e fixed changing a v none;
    }

-- ---- a view
module _ (l : MemoryLayout) (e : Page) (fixed changing : List ℕ) where
  shows : (a n : ℕ) → get_or (unless n (page_bytes e fixed changing) []) (a % 1024) 0 ≡ unless n (byte_at e fixed changing a) 0
  shows a zero =
      get_or-take 1024 (drop (offset e) (fixed ++ changing)) (a % 1024) 0 (omega arith)
      ∙ get_or-drop (offset e) (fixed ++ changing) (a % 1024) 0
  shows a (suc n) = refl

  whole : plain_refusal l e fixed changing ≡ 0 → length (viewed l e fixed changing) ≡ 1024
  whole none =
      ap (λ (n : ℕ). length (unless n (page_bytes e fixed changing) [])) none
      ∙ length-take 1024 (drop (offset e) (fixed ++ changing))
      ∙ ap (min 1024) (length-drop (offset e) (fixed ++ changing))
      ∙ omega (arith, inside l e (length fixed) (length changing) true none, length-append fixed changing)

pub page_viewed_law : PageViewedLaw
page_viewed_law l e fixed changing =
    record { whole = whole l e fixed changing; shows = λ a. shows l e fixed changing a (plain_refusal l e fixed changing) }

-- ---- a refusal
pub access_refused_law : AccessRefusedLaw
access_refused_law l e fixed changing h =
    let n = plain_refusal l e fixed changing in
    record {
      no_byte = λ a. unless_refused (byte_at e fixed changing a) 0 n n refl h;
      untouched = λ a v. unless_refused (stored (length fixed) e changing a v) changing n n refl h;
      no_view = unless_refused (page_bytes e fixed changing) [] n n refl h;
    }
