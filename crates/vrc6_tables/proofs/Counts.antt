-- How many entries each table has, and which of them are the nametables. Assumes nothing.
use mathlib.Core.Path.{◌≡◌, refl, sym, ap, ◌∙◌}
use mathlib.Core.Bool.{Bool, true, false, cond}
use mathlib.Core.List.{List, [], ◌∷◌, ◌++◌, map}
use Prim.Native.Nat.{ℕ, zero, suc, ◌+◌, ◌<◌}
use native.Mathlib.Omega.{arith}
use lib.IntN.{pos, negsuc}
use lib.ListN.{length, get_or, length-append, length-map, get_or-append}
use lib.Seq.{get_or-append-add}
use Rattle.base_shared.specs.Bits.{bit}
use Rattle.memory_pages.specs.declared.page.Page.{Page}
use Rattle.memory_pages.specs.Pages.{unmapped}
use Rattle.memory_layout.specs.declared.regions.MemoryLayout.{MemoryLayout}
use Rattle.memory_layout.specs.declared.regions.Src.TheVariants.{PrgRom, PrgRam, Chr}
use Rattle.memory_layout.specs.Layout.{region}
use Rattle.memory_tables.specs.Paging.{cpu, picture, nothing, window}
use Rattle.vrc6_banking.specs.declared.banking.Banking.{Banking}
use Rattle.vrc6_slots.specs.Chr.{chr_slots}
use Rattle.vrc6_slots.proofs.Counts.{slots_count}
use Rattle.vrc6_tables.specs.Tables.{cpu_entries, nametable_entries, nametable_source, one_page, picture_entries}
use Rattle.vrc6_tables.specs.Laws.{CountLaw, NametableLaw, Sized, nametable_entry}

-- an element of a list that is there, mapped
nth_mapped : (f : ℕ → Page) (vs : List ℕ) (n : ℕ) → n < length vs → get_or (map f vs) n unmapped ≡ f (get_or vs n 0)
nth_mapped f [] n h = absurd (omega arith)
nth_mapped f (v ∷ vs) zero h = refl
nth_mapped f (v ∷ vs) (suc n) h = nth_mapped f vs n (omega arith)

-- the picture side's table in its parts
module _ (l : MemoryLayout) (b : Banking) (w : Sized b) where
  abbrev slots : List Page
  slots = map (one_page (region l Chr)) (chr_slots b.banking_mode b.chr)

  abbrev names : List Page
  names = nametable_entries l b

  eight : length slots ≡ 8
  eight = length-map (chr_slots b.banking_mode b.chr) (one_page (region l Chr)) ∙ slots_count b.banking_mode b.chr w.chrs

  four : length names ≡ 4
  four = length-map b.nt_banks (one_page (region l (nametable_source b.banking_mode))) ∙ w.names

  twelve : length (slots ++ names) ≡ 12
  twelve = omega (arith, length-append slots names, eight, four)

  -- what follows says of the last four entries only what has to be shown, so that another last part fails where it is wrong
  sixteen : length (picture_entries l b) ≡ 16
  unfolding picture_entries
  sixteen = simp (length-append, length-map) (omega (arith, slots_count b.banking_mode b.chr w.chrs, w.names))

  -- nametable n, by its number
  nth_name : (n : ℕ) → n < 4 → get_or names n unmapped ≡ nametable_entry l b n
  nth_name n h = nth_mapped (one_page (region l (nametable_source b.banking_mode))) b.nt_banks n (omega (arith, w.names))

  low : (n : ℕ) → n < 4 → get_or (picture_entries l b) (8 + n) unmapped ≡ nametable_entry l b n
  unfolding picture_entries
  low n h =
      get_or-append (slots ++ names) _ unmapped (8 + n) (omega (arith, twelve))
      ∙ ap (λ (k : ℕ). get_or (slots ++ names) (k + n) unmapped) (sym eight)
      ∙ get_or-append-add slots names n unmapped ∙ nth_name n h

  high : (n : ℕ) → n < 4 → get_or (picture_entries l b) (12 + n) unmapped ≡ nametable_entry l b n
  unfolding picture_entries
  high n h =
      ap (λ (k : ℕ). get_or (picture_entries l b) (k + n) unmapped) (sym twelve) ∙ get_or-append-add (slots ++ names) _ n unmapped ∙ nth_name n h

-- the CPU's table, with PRG RAM at $6000 and without
cpu_count : (l : MemoryLayout) (b : Banking) → length (cpu_entries l b) ≡ 64
unfolding cpu_entries
cpu_count l b = go (bit 7 b.banking_mode)
  where
    go : (on : Bool)
        → length
        (nothing 24576 ++ cond on (window (region l PrgRam) 8192 (pos 0)) (nothing 8192)
        ++ window (region l PrgRom) 16384 (pos (get_or b.prg_banks 0 0))
        ++ window (region l PrgRom) 8192 (pos (get_or b.prg_banks 1 0))
        ++ window (region l PrgRom) 8192 (negsuc 0))
        ≡ 64
    go true = refl
    go false = refl

pub count_law : CountLaw
count_law cpu l b w = cpu_count l b
count_law picture l b w = sixteen l b (record { chrs = w.chrs; names = w.names })

pub nametable_law : NametableLaw
nametable_law = record { at_2000 = low; at_3000 = high }
