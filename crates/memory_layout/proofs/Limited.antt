-- What is known of a layout within its limits, and of an entry in range. Assumes nothing.
use mathlib.Core.Path.{◌≡◌, refl}
use mathlib.Core.Bool.{Bool, true, false, not, ◌&&◌, ◌||◌, false≢true}
use mathlib.Core.Logic.{◌⊎◌, inl, inr, ⊎_elim}
use Prim.Native.Nat.{◌+◌, ◌%◌, ◌≤◌}
use lib.Dec.{leb, eqb}
use borrow.Author.Tests.{leb-true}
use Rattle.base_shared.proofs.Tests.{and_left, and_right}
use Rattle.memory_pages.specs.declared.page.Page.{Page}
use Rattle.memory_pages.specs.Pages.{offset, writable, spare}
use Rattle.memory_layout.specs.declared.regions.MemoryLayout.{MemoryLayout}
use Rattle.memory_layout.specs.Layout.{fixed_length, changing_length, within_limits}
use Rattle.memory_layout.specs.Entries.{in_fixed, in_changing, entry_in_range}
use Rattle.memory_layout.specs.Required.{Limits}

-- condition 1 as facts
pub limits : (l : MemoryLayout) → within_limits l ≡ true → Limits l
limits l h =
    let a = leb l.prg_rom 262_144 in
    let b = leb l.chr 262_144 in
    let c = leb l.prg_ram 8_192 in
    let d = leb l.ciram 4_096 in
    let abc = and_left (a && b && c) d h in
    let ab = and_left (a && b) c abc in
    record {
      prg = leb-true l.prg_rom 262_144 (and_left a b ab);
      chr = leb-true l.chr 262_144 (and_right a b ab);
      ram = leb-true l.prg_ram 8_192 (and_right (a && b) c abc);
      ciram = leb-true l.ciram 4_096 (and_right (a && b && c) d h);
    }

-- one of two tests
first_or : (a b c : Bool) → (a || (b && not c)) ≡ true → (a ≡ true) ⊎ ((b ≡ true) × (c ≡ false))
first_or true b c h = inl refl
first_or false true true h = absurd (false≢true h)
first_or false true false h = inr (refl, refl)
first_or false false c h = absurd (false≢true h)

-- the page of an entry in range lies in the fixed buffer and takes no writes, or in the changing one
pub placed_in : (l : MemoryLayout) (e : Page) → entry_in_range l e ≡ true
    → ((fixed_length l ≤ offset e) × (offset e + 1024 ≤ fixed_length l + changing_length l))
    ⊎ ((offset e + 1024 ≤ fixed_length l) × (writable e ≡ false))
placed_in l e h =
    let t = eqb (offset e % 1024) 0 && not (spare e) in
    let f = leb (fixed_length l) (offset e) in
    let g = leb (offset e + 1024) (fixed_length l + changing_length l) in
    ⊎_elim
    (λ w. inl (leb-true (fixed_length l) (offset e) (and_left f g w), leb-true (offset e + 1024) (fixed_length l + changing_length l) (and_right f g w)))
    (λ w. inr (leb-true (offset e + 1024) (fixed_length l) w.0, w.1))
    (first_or (in_changing l e) (in_fixed l e) (writable e) (and_right t (in_changing l e || (in_fixed l e && not (writable e))) h))
