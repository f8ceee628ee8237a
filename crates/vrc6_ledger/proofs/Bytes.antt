-- The laws of the bytes over board and buffers, from those of one access. Assumes nothing.
use mathlib.Core.Path.{◌≡◌, refl, sym, ap, ◌∙◌, subst}
use mathlib.Core.Bool.{true}
use mathlib.Core.List.{List, ◌++◌}
use Prim.Native.Nat.{ℕ, ◌%◌}
use lib.ListN.{get_or}
use Rattle.base_shared.specs.Refusals.{unless}
use Rattle.base_shared.proofs.Tests.{unless_done}
use Rattle.memory_pages.specs.declared.page.Page.{Page}
use Rattle.memory_pages.specs.Pages.{unmapped, writable}
use Rattle.memory_tables.specs.Paging.{Side, cpu, picture, entry_for}
use Rattle.memory_access.specs.Access.{byte_at, plain_refusal, peeked, written}
use Rattle.memory_access.proofs.Stored.{byte_stored_law as stored-access, page_viewed_law as view-access}
use Rattle.registers.specs.Decode.{Decoded}
use Rattle.registers.proofs.Both.{nothing_law}
use Rattle.vrc6_parts.specs.Reads.{Caller}
use Rattle.vrc6_parts.proofs.Handed.{mapped_shows, writable_mapped}
use Rattle.vrc6_calls.specs.declared.Call.TheVariants.{CpuWrite, PictureWrite, CpuRead, PictureRead}
use Rattle.vrc6.specs.Boards.{State, held_by, table, entry_of}
use Rattle.vrc6.specs.Checks.{memory_refusal}
use Rattle.vrc6.specs.Calls.{side_of, byte_read, register_written, stored_at}
use Rattle.vrc6_calls.specs.Lists.{after, next}
use Rattle.vrc6_ledger.specs.Demand3.{start}
use Rattle.vrc6_ledger.specs.Laws.{bytes, put, Stored, StoredLaw, WroteLaw, write_of, Plain, ReadBackLaw, ViewLaw}
use Rattle.vrc6_ledger.proofs.Shown.{next_done}
use Rattle.vrc6_ledger.proofs.Whole.{never_refused, demand3}

-- where a page takes writes, a read shows its byte, whoever reads
shows : (k : Caller) (y : State) (a : ℕ) → writable (entry_of (side_of k) y.board a) ≡ true
    → (byte_read k y a).byte ≡ (peeked y.board.layout (entry_of (side_of k) y.board a) y.fixed y.changing a).byte
shows k y a w =
    let e = entry_of (side_of k) y.board a in
    ap (λ (v : ℕ). unless (plain_refusal y.board.layout e y.fixed y.changing) v 0)
    (mapped_shows k y.board.open_bus e (byte_at e y.fixed y.changing a) (writable_mapped e w))

module _ (s : Side) (x : State) (a v : ℕ) (h : memory_refusal s x a true ≡ 0) where
  abbrev e : Page
  e = entry_of s x.board a

  -- an access that is not refused stores as a write does
  same : written x.board.layout e x.fixed x.changing a v ≡ stored_at s x a v
  same = unless_done (stored_at s x a v) x.changing (memory_refusal s x a true) (memory_refusal s x a true) refl h

  of_side : (k : Caller) → side_of k ≡ s → writable e ≡ true
      → (byte_read k (put s x a v) a).byte ≡ (peeked x.board.layout e x.fixed (stored_at s x a v) a).byte
  of_side k t =
      subst (λ (u : Side). writable (entry_of u x.board a) ≡ true
      → (byte_read k (put u x a v) a).byte ≡ (peeked x.board.layout (entry_of u x.board a) x.fixed (stored_at u x a v) a).byte)
      t (shows k (put (side_of k) x a v) a)

  pub stored : Stored s x a v
  stored =
      let law = stored-access x.board.layout e x.fixed x.changing a v h in
      record {
        read_back = λ w k t. of_side k t w ∙ ap (λ (ys : List ℕ). (peeked x.board.layout e x.fixed ys a).byte) (sym same) ∙ law.read_back w;
        others = λ i n. ap (λ (ys : List ℕ). get_or (x.fixed ++ ys) i 0) (sym same) ∙ law.others i n;
        unwritable = λ w. ap (λ (ys : List ℕ). held_by x.board x.fixed ys) (sym same ∙ law.unwritable w);
      }

pub stored_law : StoredLaw
stored_law s x a v h = stored s x a v h

pub wrote_law : WroteLaw
wrote_law x a v =
    record {
      by_picture = λ h. next_done x (PictureWrite a v) h;
      by_cpu = λ h low. next_done x (CpuWrite a v) h
          ∙ ap (λ (k : Decoded). held_by (register_written k v x.board) x.fixed (stored_at cpu x a v)) (nothing_law.low x.board.banking.revision_b a low);
      buffers = λ h. ap bytes (next_done x (CpuWrite a v) h);
    }

-- ---- after a list
pub read_back_law : ReadBackLaw
read_back_law c h ks k a v plain w =
    let s = side_of k in
    let e = ap (λ (t : List Page). entry_for s t a) ((demand3 c h ks).pages s) in
    ap (λ (y : State). (byte_read k y a).byte) (wrote s plain)
    ∙ (stored s x a v (free s)).read_back (ap writable e ∙ w) k refl
  where
    x : State
    x = after (start c) ks

    free : (t : Side) → memory_refusal t x a true ≡ 0
    free cpu = never_refused c h ks (CpuRead a 0)
    free picture = never_refused c h ks (PictureRead a)

    wrote : (t : Side) → Plain t a → next x (write_of t a v) ≡ put t x a v
    wrote cpu low = (wrote_law x a v).by_cpu (never_refused c h ks (CpuWrite a v)) low
    wrote picture p = (wrote_law x a v).by_picture (never_refused c h ks (PictureWrite a v))

pub view_law : ViewLaw
view_law x a =
    let l = x.board.layout in
    let law = view-access l (entry_of picture x.board a) x.fixed x.changing in
    record {
      whole = law.whole;
      shows = λ b e. law.shows b ∙ ap (λ (n : ℕ). (peeked l (get_or (table picture x.board) (n % 16) unmapped) x.fixed x.changing b).byte) (sym e);
    }
