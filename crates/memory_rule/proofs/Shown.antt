-- Every entry that the paging rule makes is one that the layout's boards can hold, for every layout, region and window. Assumes nothing.
use mathlib.Core.Path.{◌≡◌, refl, sym, ap, ◌∙◌}
use mathlib.Core.Bool.{Bool, true, false, cond}
use Prim.Native.Nat.{ℕ, ◌+◌, ◌*◌, ◌%◌, ◌^◌, ◌≤◌, ◌<◌}
use native.Mathlib.Omega.{arith}
use native.Mathlib.Nat.{mod-lt, mod-mod_of_dvd, dvd_of_mod-eq-zero, mul_assoc, mul-mod_left}
use lib.IntN.{ℤ}
use lib.Dec.{eqb}
use borrow.Author.Tests.{eqb-false}
use Rattle.memory_pages.specs.Pages.{entry, unmapped}
use Rattle.memory_layout.specs.declared.regions.MemoryLayout.{MemoryLayout}
use Rattle.memory_layout.specs.declared.regions.Region.{Region}
use Rattle.memory_layout.specs.declared.regions.Src.{Src}
use Rattle.memory_layout.specs.declared.regions.Src.TheVariants.{PrgRom, PrgRam, Chr, CiRam}
use Rattle.memory_layout.specs.Layout.{whole_pages, ciram_bytes, region_length, fixed_length, changing_length, region}
use Rattle.memory_rule.specs.Rule.{rem_euclid, bank_count, base, shown}
use Rattle.memory_layout.specs.Entries.{entry_in_range}
use Rattle.memory_layout.specs.Required.{Limits}
use Rattle.memory_rule.specs.Required.{Whole}
use Rattle.memory_rule.specs.Laws.{ShownLaw}
use Rattle.memory_layout.proofs.Limited.{limits}
use Rattle.memory_layout.proofs.Entries.{Home, entry_good, unmapped_good}

-- ---- a region of whole pages in its buffer
record Homed (l : MemoryLayout) (r : Region) : Type 0 where
  small : r.start + r.len ≤ 2 ^ 29
  starts : r.start % 1024 ≡ 0
  lengths : r.len % 1024 ≡ 0
  home : Home r.writable (fixed_length l) (changing_length l) r.start r.len

-- one page of it
page_home : (w : Bool) (fixed changing start len x : ℕ) → Home w fixed changing start len → x + 1024 ≤ len
    → Home w fixed changing (start + x) 1024
page_home true fixed changing start len x h k = (omega arith, omega arith)
page_home false fixed changing start len x h k = omega arith

module _ (l : MemoryLayout) (r : Region) (p : Homed l r) (pages : ℕ) (b : ℤ) (i : ℕ) where
  abbrev x : ℕ
  x = base r (pages * 1024) b + 1024 * i

  whole_x : x % 1024 ≡ 0
  whole_x =
      let k = rem_euclid b (bank_count r (pages * 1024)) in
      omega (arith, ap (λ (n : ℕ). n % 1024) (sym (mul_assoc k pages 1024)) ∙ mul-mod_left (k * pages) 1024)

  shown_good : entry_in_range l (shown r (pages * 1024) b i) ≡ true
  shown_good = go (eqb r.len 0) refl
    where
      go : (z : Bool) → eqb r.len 0 ≡ z → entry_in_range l (cond z unmapped (entry (r.start + x % r.len) r.writable)) ≡ true
      go true e = unmapped_good l
      go false e =
          let low : x % r.len < r.len = mod-lt x (omega (arith, eqb-false r.len 0 e)) in
          let page : x % r.len % 1024 ≡ 0 = mod-mod_of_dvd 1024 x (dvd_of_mod-eq-zero 1024 p.lengths) ∙ whole_x in
          let fits : x % r.len + 1024 ≤ r.len = omega (arith, p.lengths) in
          entry_good l (r.start + x % r.len) r.writable (omega (arith, p.small)) (omega (arith, p.starts))
          (page_home r.writable (fixed_length l) (changing_length l) r.start r.len (x % r.len) p.home fits)

-- ---- the four regions, with CHR writable and not
whole : (n : ℕ) → whole_pages n % 1024 ≡ 0
whole n = omega arith

ciram_low : (l : MemoryLayout) → l.ciram ≤ 4096 → ciram_bytes l ≤ 4096
ciram_low l h = go (eqb l.ciram 0)
  where
    go : (b : Bool) → cond b 2048 l.ciram ≤ 4096
    go true = omega arith
    go false = h

-- over plain lengths: PRG ROM, CHR, PRG RAM and CIRAM are a, b, c, d
module _ (a b c d : ℕ) (ha : a % 1024 ≡ 0) (hb : b % 1024 ≡ 0) (hc : c % 1024 ≡ 0) where
  fixed_whole : (w : Bool) → (1024 + a + cond w 0 b) % 1024 ≡ 0
  fixed_whole true = omega arith
  fixed_whole false = omega arith

  chr_starts : (w : Bool) → cond w (1024 + a + cond w 0 b + c) (1024 + a) % 1024 ≡ 0
  chr_starts true = omega arith
  chr_starts false = omega arith

  chr_home : (w : Bool) → Home w (1024 + a + cond w 0 b) (c + cond w b 0 + d) (cond w (1024 + a + cond w 0 b + c) (1024 + a)) b
  chr_home true = (omega arith, omega arith)
  chr_home false = omega arith

  chr_small : (w : Bool) → a ≤ 262_144 → b ≤ 262_144 → c ≤ 8_192 → cond w (1024 + a + cond w 0 b + c) (1024 + a) + b ≤ 2 ^ 29
  chr_small true k m n = omega arith
  chr_small false k m n = omega arith

  ciram_starts : (w : Bool) → (1024 + a + cond w 0 b + c + cond w b 0) % 1024 ≡ 0
  ciram_starts true = omega arith
  ciram_starts false = omega arith

  all_small : (w : Bool) → a ≤ 262_144 → b ≤ 262_144 → c ≤ 8_192 → d ≤ 4_096 → 1024 + a + cond w 0 b + c + cond w b 0 + d ≤ 2 ^ 29
  all_small true k m n o = omega arith
  all_small false k m n o = omega arith

module _ (l : MemoryLayout) (h : Limits l) where
  abbrev w : Bool
  w = l.chr_writable

  abbrev a : ℕ
  a = region_length l PrgRom

  abbrev b : ℕ
  b = region_length l Chr

  abbrev c : ℕ
  c = region_length l PrgRam

  abbrev d : ℕ
  d = region_length l CiRam

  small : 1024 + a + cond w 0 b + c + cond w b 0 + d ≤ 2 ^ 29
  small =
      all_small a b c d (whole l.prg_rom) (whole l.chr) (whole l.prg_ram) w (omega (arith, h.prg)) (omega (arith, h.chr))
      (omega (arith, h.ram)) (omega (arith, ciram_low l h.ciram))

  homed : (src : Src) → Homed l (region l src)
  homed PrgRom = record { small = omega (arith, small); starts = refl; lengths = whole l.prg_rom; home = omega arith }
  homed PrgRam =
      record {
        small = omega (arith, small);
        starts = fixed_whole a b c d (whole l.prg_rom) (whole l.chr) (whole l.prg_ram) w;
        lengths = whole l.prg_ram;
        home = (omega arith, omega arith);
      }
  homed Chr =
      record {
        small =
            chr_small a b c d (whole l.prg_rom) (whole l.chr) (whole l.prg_ram) w (omega (arith, h.prg)) (omega (arith, h.chr))
            (omega (arith, h.ram));
        starts = chr_starts a b c d (whole l.prg_rom) (whole l.chr) (whole l.prg_ram) w;
        lengths = whole l.chr;
        home = chr_home a b c d (whole l.prg_rom) (whole l.chr) (whole l.prg_ram) w;
      }
  homed CiRam =
      record {
        small = small;
        starts = ciram_starts a b c d (whole l.prg_rom) (whole l.chr) (whole l.prg_ram) w;
        lengths = whole (ciram_bytes l);
        home = (omega arith, omega arith);
      }

-- every region is whole pages, and ends below 2 ^ 29
pub whole_region : (l : MemoryLayout) → Limits l → (src : Src) → Whole (region l src)
whole_region l h src = let p = homed l h src in record { below = p.small; pages = p.lengths }

pub ends : (l : MemoryLayout) → Limits l → (src : Src) → (region l src).start + (region l src).len ≤ 2 ^ 29
ends l h src = (homed l h src).small

pub shown_law : ShownLaw
shown_law l h src pages b i = shown_good l (region l src) (homed l (limits l h) src) pages b i
