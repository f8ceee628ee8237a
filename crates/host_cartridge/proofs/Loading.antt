-- An accepted file and the buffers of its layout: their lengths, the refusal's number, the bytes. Assumes nothing.
use mathlib.Core.Path.{◌≡◌, refl, sym, ap, ap₂, ◌∙◌}
use mathlib.Core.Bool.{Bool, true, false, cond}
use mathlib.Core.List.{List, [], ◌∷◌}
use Prim.Native.Nat.{ℕ, ◌+◌, ◌*◌, ◌≤◌}
use native.Mathlib.Omega.{arith}
use lib.Dec.{eqb}
use lib.ListN.{length, replicate, take, drop, length-append, length-drop}
use lib.Seq.{length-take-le}
use borrow.Author.Tests.{eqb-true}
use Rattle.std.specs.Prelude.{Result, Ok, Err}
use Rattle.base_shared.specs.declared.Refusal.{Refusal}
use Rattle.base_shared.specs.declared.Refusal.TheVariants.{NoHeader, Mapper, FileLength}
use Rattle.base_shared.specs.Numbers.{number}
use Rattle.base_shared.specs.Refusals.{first_failing}
use Rattle.base_shared.proofs.Answers.{never_zero}
use Rattle.base_shared.proofs.Tests.{and_left, tested, unless_done, unless_refused}
use Rattle.memory_layout.specs.Layout.{whole_pages, fixed_chr, fixed_length, changing_length, lengths_fit, layout_checks}
use Rattle.cartridge.specs.declared.cartridge.Cartridge.{Cartridge}
use Rattle.cartridge.specs.declared.cartridge.NesHeader.{NesHeader}
use Rattle.cartridge.specs.Cartridges.{prg_start, stated_layout, fits}
use Rattle.cartridge_header.specs.Ines.{is_ines, is_supported, read_header, stated_by, unless_failing}
use Rattle.cartridge_header.proofs.Meanings.{file_end_lem}
use Rattle.cartridge_header.proofs.Places.{known, in_file_law}
use Rattle.host_cartridge.specs.Filled.{cartridge_in, fill_refusal, fixed_of, fixed_filled, changing_filled, rom_from}
use Rattle.host_cartridge.proofs.Runs.{length_zeros, two_parts}

-- ---- lengths
pub rom_size : (start : ℕ) (file : List ℕ) (n : ℕ) → start + n ≤ 1024 + length file → n ≤ length (rom_from start file)
rom_size start file n k =
    let l : length (rom_from start file) ≡ length {A = ℕ} (replicate 1024 0) + length (drop start file) = length-append (replicate 1024 0) (drop start file) in
    omega (arith, l, length_zeros 1024, length-drop start file, k)

-- units are whole pages
prg_pages : (n : ℕ) → whole_pages (16384 * n) ≡ 16384 * n
prg_pages n = omega arith

chr_pages : (n : ℕ) → whole_pages (8192 * n) ≡ 8192 * n
chr_pages n = omega arith

chr_rom : (h : NesHeader) → fixed_chr (stated_layout h) ≡ 8192 * h.chr_rom_banks
chr_rom h =
    let u = h.chr_rom_banks in
    tested (eqb u 0)
    (λ e. let z : u ≡ 0 = eqb-true u 0 e in rw (e, z))
    (λ e. rw e (chr_pages u))

-- the fixed buffer's length
rom_bytes : (h : NesHeader) → fixed_length (stated_layout h) ≡ 1024 + 16384 * h.prg_rom_banks + fixed_chr (stated_layout h)
rom_bytes h = ap (λ (n : ℕ). 1024 + n + fixed_chr (stated_layout h)) (prg_pages h.prg_rom_banks)

-- ---- an accepted file
module _ (file : List ℕ) (c : Cartridge) (accepted : read_header file ≡ Ok c) where
  stated : c ≡ cartridge_in file
  stated = (known file c accepted).stated

  module _ (m n : ℕ) (fit : lengths_fit c.layout m n ≡ true) where
    long : m ≡ 1024 + 16384 * (stated_by file).prg_rom_banks + fixed_chr (stated_layout (stated_by file))
    long =
        eqb-true m (fixed_length c.layout) (and_left (eqb m (fixed_length c.layout)) (eqb n (changing_length c.layout)) fit)
        ∙ ap (λ (d : Cartridge). fixed_length d.layout) stated
        ∙ rom_bytes (stated_by file)

    pub enough : c.prg_start + m ≤ 1024 + length file
    enough =
        let s : c.prg_start ≡ prg_start (stated_by file) = ap (λ (d : Cartridge). d.prg_start) stated in
        omega (arith, s, long, chr_rom (stated_by file), file_end_lem file, (known file c accepted).fitting.2)

    pub loaded : take m (rom_from c.prg_start file) ≡ fixed_of file
    loaded =
        ap₂ (λ (k : ℕ) (d : Cartridge). take k (rom_from d.prg_start file)) long stated
        ∙ two_parts 1024 (prg_start (stated_by file)) (16384 * (stated_by file).prg_rom_banks) (fixed_chr (stated_layout (stated_by file))) file

    pub loaded_length : length (fixed_of file) ≡ m
    loaded_length =
        ap length (sym loaded) ∙ length-take-le m (rom_from c.prg_start file) (rom_size c.prg_start file m enough)

-- ---- the number
two : (t : Bool) → t ≡ false → ◌≡◌ {A = ℕ} (cond t 0 2) 0 → ⊥
two false f e = omega (arith, e)
two true f e = cc

-- the header's three tests and a fourth: where the header is refused its number counts, and where not the fourth decides
module _ (k : Cartridge) where
  answered : (a b z : Bool) → Result Cartridge Refusal
  answered a b z = unless_failing ((a, NoHeader) ∷ (b, Mapper) ∷ (z, FileLength) ∷ []) k

  counted : (a b z t : Bool) → ℕ
  counted a b z t = first_failing ((a, 5) ∷ (b, 6) ∷ (z, 7) ∷ (t, 2) ∷ [])

  refused_number : (a b z t : Bool) (r : Refusal) → answered a b z ≡ Err r → number r ≡ counted a b z t
  unfolding answered counted
  refused_number true true true t r h = cc
  refused_number true true false t r h = let e : r ≡ FileLength = cc in ap number e
  refused_number true false z t r h = let e : r ≡ Mapper = cc in ap number e
  refused_number false b z t r h = let e : r ≡ NoHeader = cc in ap number e

  accepted_number : (a b z t : Bool) (c : Cartridge) → answered a b z ≡ Ok c → counted a b z t ≡ cond t 0 2
  unfolding answered counted
  accepted_number true true true t c h = refl
  accepted_number true true false t c h = cc
  accepted_number true false z t c h = cc
  accepted_number false b z t c h = cc

module _ (file : List ℕ) (m n : ℕ) where
  pub of_refused : (r : Refusal) → read_header file ≡ Err r → number r ≡ fill_refusal file m n
  unfolding answered counted
  of_refused r h =
      refused_number (cartridge_in file) (is_ines file) (is_supported file) (fits (stated_by file) (length file))
      (lengths_fit (cartridge_in file).layout m n) r h

  pub of_accepted : (c : Cartridge) → read_header file ≡ Ok c → fill_refusal file m n ≡ cond (lengths_fit c.layout m n) 0 2
  unfolding answered counted
  of_accepted c h =
      accepted_number (cartridge_in file) (is_ines file) (is_supported file) (fits (stated_by file) (length file))
      (lengths_fit (cartridge_in file).layout m n) c h
      ∙ ap (λ (d : Cartridge). cond (lengths_fit d.layout m n) 0 2) (sym (known file c h).stated)

  -- the layout's own two tests say the same
  pub checked : (c : Cartridge) → read_header file ≡ Ok c → first_failing (layout_checks c.layout m n) ≡ fill_refusal file m n
  checked c h = rw ((in_file_law file c h).limits) (sym (of_accepted c h))

  -- so where they hold the buffers fit
  pub fitting : (c : Cartridge) → read_header file ≡ Ok c → first_failing (layout_checks c.layout m n) ≡ 0 → lengths_fit c.layout m n ≡ true
  fitting c h z =
      let e = sym (of_accepted c h) ∙ sym (checked c h) ∙ z in
      tested (lengths_fit c.layout m n) (λ t. t) (λ f. absurd (two (lengths_fit c.layout m n) f e))

-- ---- both buffers: as they were, or filled
module _ (file fixed changing : List ℕ) where
  refusal : ℕ
  refusal = fill_refusal file (length fixed) (length changing)

  pub kept : (r : Refusal) → number r ≡ fill_refusal file (length fixed) (length changing)
      → (fixed ≡ fixed_filled file fixed changing) × (changing ≡ changing_filled file fixed changing)
  unfolding refusal
  kept r e = (
    sym (unless_refused (fixed_of file) fixed refusal (number r) e (never_zero r)),
    sym (unless_refused (replicate (length changing) 0) changing refusal (number r) e (never_zero r)),
  )

  module _ (c : Cartridge) (h : read_header file ≡ Ok c)
      (z : first_failing (layout_checks c.layout (length fixed) (length changing)) ≡ 0) where
    none : refusal ≡ 0
    unfolding refusal
    none = sym (checked file (length fixed) (length changing) c h) ∙ z

    pub fixed_is : {first : List ℕ} → first ≡ take (length fixed) (rom_from c.prg_start file) → first ≡ fixed_filled file fixed changing
    unfolding refusal
    fixed_is a =
        let fit = fitting file (length fixed) (length changing) c h z in
        a ∙ loaded file c h (length fixed) (length changing) fit ∙ sym (unless_done (fixed_of file) fixed refusal refusal refl none)

    pub changing_is : {second : List ℕ} → second ≡ replicate (length changing) 0 → second ≡ changing_filled file fixed changing
    unfolding refusal
    changing_is b = b ∙ sym (unless_done (replicate (length changing) 0) changing refusal refusal refl none)
