-- The CPU's entries are the unmapped one exactly where nothing is there. Assumes nothing.
use mathlib.Core.Path.{◌≡◌, refl, sym, ap, ◌∙◌}
use mathlib.Core.Bool.{Bool, true, false, cond, not, ◌||◌}
use mathlib.Core.List.{List, ◌∷◌, ◌++◌, map}
use Prim.Native.Nat.{ℕ, zero, suc, ◌+◌, ◌-◌, ◌*◌, ◌/◌, ◌%◌, ◌^◌, ◌≤◌, ◌<◌}
use native.Mathlib.Omega.{arith}
use lib.Dec.{eqb, ltb}
use lib.IntN.{ℤ, pos, negsuc}
use lib.ListN.{length, get_or, replicate, length-replicate, get_or-replicate, get_or-append, get_or-map}
use lib.Seq.{get_or-append-add}
use borrow.Author.Tests.{eqb-true, eqb-false, eq-eqb, ne_eqb, ltb-true, ltb-false}
use Rattle.base_shared.specs.Bits.{bit}
use Rattle.base_shared.specs.Lists.{tabulate}
use Rattle.memory_pages.specs.declared.page.Page.{Page}
use Rattle.memory_pages.specs.Pages.{entry, is_unmapped, unmapped}
use Rattle.memory_layout.specs.declared.regions.MemoryLayout.{MemoryLayout}
use Rattle.memory_layout.specs.declared.regions.Region.{Region}
use Rattle.memory_layout.specs.declared.regions.Src.TheVariants.{PrgRom, PrgRam}
use Rattle.memory_layout.specs.Layout.{whole_pages, region}
use Rattle.memory_layout.specs.Required.{Limits}
use Rattle.memory_layout.proofs.Limited.{limits}
use Rattle.memory_rule.specs.Rule.{base, shown}
use Rattle.memory_rule.proofs.Banks.{wrapped_low}
use Rattle.memory_rule.proofs.Shown.{ends}
use Rattle.memory_tables.specs.Paging.{nothing, window}
use Rattle.vrc6_tables.specs.Required.{ram_entries}
use Rattle.vrc6_tables.specs.Tables.{cpu_entries}
use Rattle.vrc6_tables.specs.Laws.{NothingAtLaw}
use Rattle.vrc6_tables.proofs.Regions.{Below}

-- ---- one entry
-- an entry of another offset than 0 is not the unmapped one
mapped : (at : ℕ) (w : Bool) → 1 ≤ at → at < 2 ^ 30 → is_unmapped (entry at w) ≡ false
mapped at true h k = omega (arith, ne_eqb)
mapped at false h k = omega (arith, ne_eqb)

-- a region that starts behind the page of zeros shows nothing exactly if it is empty
shown_nothing : (r : Region) (empty : Bool) → eqb r.len 0 ≡ empty → 1024 ≤ r.start → Below r
    → (s : ℕ) (b : ℤ) (i : ℕ) → is_unmapped (shown r s b i) ≡ empty
shown_nothing r true e h k s b i = rw e
shown_nothing r false e h k s b i =
    let low = wrapped_low r s b i (eqb-false r.len 0 e) in
    rw e (mapped (r.start + (base r s b + 1024 * i) % r.len) r.writable (omega arith) (omega arith))

-- no bytes are no pages
no_pages : (n : ℕ) (empty : Bool) → eqb n 0 ≡ empty → eqb (whole_pages n) 0 ≡ empty
no_pages n true e = omega (arith, eqb-true, eq-eqb)
no_pages n false e = omega (arith, eqb-false, ne_eqb)

-- ---- runs of entries that are alike
alike : (f : ℕ → Page) (q : Bool) → ((i : ℕ) → is_unmapped (f i) ≡ q) → (count : ℕ) → map is_unmapped (tabulate count f) ≡ replicate count q
alike f q h zero = refl
alike f q h (suc count) = λ i. h 0 i ∷ alike (λ k. f (suc k)) q (λ k. h (suc k)) count i

-- a window on a region whose length is given as n bytes
windowed : (r : Region) (n : ℕ) → r.len ≡ whole_pages n → 1024 ≤ r.start → Below r
    → (s : ℕ) (b : ℤ) → map is_unmapped (window r s b) ≡ replicate (s / 1024) (eqb n 0)
windowed r n e h k s b =
    alike (shown r s b) (eqb n 0) (shown_nothing r (eqb n 0) (rw e (no_pages n (eqb n 0) refl)) h k s b) (s / 1024)

module _ (l : MemoryLayout) (h : Limits l) where
  rom : (s : ℕ) (b : ℤ) → map is_unmapped (window (region l PrgRom) s b) ≡ replicate (s / 1024) (eqb l.prg_rom 0)
  rom s b = windowed (region l PrgRom) l.prg_rom refl (omega arith) (ends l h PrgRom) s b

  ram : (s : ℕ) (b : ℤ) → map is_unmapped (window (region l PrgRam) s b) ≡ replicate (s / 1024) (eqb l.prg_ram 0)
  ram s b = windowed (region l PrgRam) l.prg_ram refl (omega arith) (ends l h PrgRam) s b

  -- the table: nothing, what $6000 shows, PRG ROM
  runs : (on : Bool) (first second : ℤ)
      → map is_unmapped
      (nothing 24576 ++ ram_entries (region l PrgRam) on ++ window (region l PrgRom) 16384 first ++ window (region l PrgRom) 8192 second
      ++ window (region l PrgRom) 8192 (negsuc 0))
      ≡ replicate 24 true ++ (replicate 8 (not on || eqb l.prg_ram 0) ++ replicate 32 (eqb l.prg_rom 0))
  runs true first second =
      λ i. replicate 24 true ++ (ram 8192 (pos 0) i ++ (rom 16384 first i ++ rom 8192 second i ++ rom 8192 (negsuc 0) i))
  runs false first second =
      λ i. replicate 24 true ++ (replicate 8 true ++ (rom 16384 first i ++ rom 8192 second i ++ rom 8192 (negsuc 0) i))

-- ---- the entry of an address
-- an element of a run, and one behind it
module _ (m : ℕ) (q : Bool) (t : List Bool) (n : ℕ) where
  inside : n < m → get_or (replicate m q ++ t) n true ≡ q
  inside h = get_or-append (replicate m q) t true n (omega (arith, length-replicate m q)) ∙ get_or-replicate m n q true h

  behind : m ≤ n → get_or (replicate m q ++ t) n true ≡ get_or t (n - m) true
  behind h =
      let e : n ≡ length (replicate m q) + (n - m) = omega (arith, length-replicate m q) in
      ap (λ (k : ℕ). get_or (replicate m q ++ t) k true) e ∙ get_or-append-add (replicate m q) t (n - m) true

-- which of the three runs it is in, by the two tests of its address
module _ (q r : Bool) (address : ℕ) (low : address < 2 ^ 16) where
  abbrev n : ℕ
  n = address / 1024 % 64

  abbrev up : List Bool
  up = replicate 8 q ++ replicate 32 r

  looked_up : (x y : Bool) → ltb address 0x6000 ≡ x → ltb address 0x8000 ≡ y → get_or (replicate 24 true ++ up) n true ≡ cond x true (cond y q r)
  looked_up true y e f = inside 24 true up n (omega (arith, ltb-true))
  looked_up false true e f =
      behind 24 true up n (omega (arith, ltb-false)) ∙ inside 8 q (replicate 32 r) (n - 24) (omega (arith, ltb-true, ltb-false))
  looked_up false false e f =
      behind 24 true up n (omega (arith, ltb-false)) ∙ behind 8 q (replicate 32 r) (n - 24) (omega (arith, ltb-false))
      ∙ get_or-replicate 32 (n - 24 - 8) r true (omega arith)

pub nothing_at_law : NothingAtLaw
unfolding cpu_entries
nothing_at_law l b h address low =
    let on = bit 7 b.banking_mode in
    let k = address / 1024 % 64 in
    sym (get_or-map is_unmapped (cpu_entries l b) k unmapped)
    ∙ ap (λ (t : List Bool). get_or t k true) (runs l (limits l h) on (pos (get_or b.prg_banks 0 0)) (pos (get_or b.prg_banks 1 0)))
    ∙ looked_up (not on || eqb l.prg_ram 0) (eqb l.prg_rom 0) address low (ltb address 0x6000) (ltb address 0x8000) refl refl
