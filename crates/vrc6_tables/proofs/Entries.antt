-- Every entry of either table is in range, part by part. Assumes nothing.
use mathlib.Core.Path.{◌≡◌}
use mathlib.Core.Bool.{true}
use mathlib.Core.List.{List, [], ◌∷◌, ◌++◌, map}
use Prim.Native.Nat.{ℕ, zero, suc, ◌/◌}
use lib.IntN.{ℤ, pos, negsuc}
use lib.ListN.{get_or}
use Rattle.base_shared.specs.Bits.{bit}
use Rattle.base_shared.specs.Lists.{tabulate}
use Rattle.base_shared.proofs.Tests.{either}
use Rattle.memory_pages.specs.declared.page.Page.{Page}
use Rattle.memory_pages.specs.Pages.{unmapped}
use Rattle.memory_layout.specs.declared.regions.MemoryLayout.{MemoryLayout}
use Rattle.memory_layout.specs.declared.regions.Src.{Src}
use Rattle.memory_layout.specs.declared.regions.Src.TheVariants.{PrgRom, PrgRam, Chr}
use Rattle.memory_layout.specs.Layout.{within_limits, region}
use Rattle.memory_layout.specs.Entries.{entry_in_range}
use Rattle.memory_layout.proofs.Entries.{unmapped_law}
use Rattle.memory_rule.specs.Rule.{shown}
use Rattle.memory_tables.specs.Paging.{cpu, picture, nothing, window}
use Rattle.memory_rule.proofs.Shown.{shown_law}
use Rattle.vrc6_banking.specs.declared.banking.Banking.{Banking}
use Rattle.vrc6_slots.specs.Chr.{chr_slots}
use Rattle.vrc6_tables.specs.Tables.{cpu_entries, nametable_source, one_page, picture_entries}
use Rattle.vrc6_tables.specs.Laws.{EntriesLaw}

-- every entry of a run is in range
record Good (l : MemoryLayout) (t : List Page) : Type 0 where
  at : (n : ℕ) → entry_in_range l (get_or t n unmapped) ≡ true

module _ (l : MemoryLayout) where
  none : Good l []
  none = record { at = λ n. unmapped_law l }

  more : (e : Page) {t : List Page} → entry_in_range l e ≡ true → Good l t → Good l (e ∷ t)
  more e {t} h k = record { at = go }
    where
      go : (n : ℕ) → entry_in_range l (get_or (e ∷ t) n unmapped) ≡ true
      go zero = h
      go (suc n) = k.at n

  append : {t u : List Page} → Good l t → Good l u → Good l (t ++ u)
  append {t} {u} h k = go t h
    where
      go : (s : List Page) → Good l s → Good l (s ++ u)
      go [] g = k
      go (e ∷ s) g = more e (g.at 0) (go s (record { at = λ n. g.at (suc n) }))

  tabulated : (count : ℕ) (f : ℕ → Page) → ((i : ℕ) → entry_in_range l (f i) ≡ true) → Good l (tabulate count f)
  tabulated zero f h = none
  tabulated (suc count) f h = more (f 0) (h 0) (tabulated count (λ k. f (suc k)) (λ k. h (suc k)))

  mapped : (f : ℕ → Page) → ((v : ℕ) → entry_in_range l (f v) ≡ true) → (vs : List ℕ) → Good l (map f vs)
  mapped f h [] = none
  mapped f h (v ∷ vs) = more (f v) (h v) (mapped f h vs)

  empty : (s : ℕ) → Good l (nothing s)
  empty s = tabulated (s / 1024) (λ _. unmapped) (λ _. unmapped_law l)

  module _ (within : within_limits l ≡ true) where
    -- a window of 16 KiB, of 8 KiB, and of one page for each bank
    wide : (src : Src) (b : ℤ) → Good l (window (region l src) 16384 b)
    wide src b = tabulated 16 (shown (region l src) 16384 b) (λ i. shown_law l within src 16 b i)

    narrow : (src : Src) (b : ℤ) → Good l (window (region l src) 8192 b)
    narrow src b = tabulated 8 (shown (region l src) 8192 b) (λ i. shown_law l within src 8 b i)

    pages : (src : Src) (vs : List ℕ) → Good l (map (one_page (region l src)) vs)
    pages src vs = mapped (one_page (region l src)) (λ v. shown_law l within src 1 (pos v) 0) vs

    prg : (b : Banking) → Good l (cpu_entries l b)
    unfolding cpu_entries
    prg b =
        append
        (append
        (append
        (append (empty 24576) (either (Good l) (bit 7 b.banking_mode) (narrow PrgRam (pos 0)) (empty 8192)))
        (wide PrgRom (pos (get_or b.prg_banks 0 0))))
        (narrow PrgRom (pos (get_or b.prg_banks 1 0))))
        (narrow PrgRom (negsuc 0))

    chr : (b : Banking) → Good l (picture_entries l b)
    unfolding picture_entries
    chr b =
        let names = pages (nametable_source b.banking_mode) b.nt_banks in
        append (append (pages Chr (chr_slots b.banking_mode b.chr)) names) names

pub entries_law : EntriesLaw
entries_law cpu l b h = (prg l h b).at
entries_law picture l b h = (chr l h b).at
