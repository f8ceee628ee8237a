-- Where the parts of an accepted file lie. Assumes nothing.
use mathlib.Core.Path.{◌≡◌, refl, sym, ap, subst, ◌∙◌}
use mathlib.Core.Bool.{Bool, true, cond}
use mathlib.Core.List.{List}
use Prim.Native.Nat.{ℕ, ◌*◌, ◌≤◌}
use native.Mathlib.Omega.{arith}
use lib.Dec.{eqb, leb}
use lib.ListN.{length}
use borrow.Author.Tests.{leb-true}
use Rattle.base_shared.proofs.Tests.{and_left, and_right, either, tested}
use Rattle.memory_layout.specs.Layout.{within_limits}
use Rattle.cartridge.specs.declared.cartridge.Cartridge.{Cartridge}
use Rattle.cartridge.specs.declared.cartridge.NesHeader.{NesHeader}
use Rattle.std.specs.Prelude.{Ok}
use Rattle.cartridge.specs.Cartridges.{cartridge_of, file_end, fits, stated_layout}
use Rattle.cartridge_header.specs.Ines.{is_ines, is_supported, read_header, stated_by}
use Rattle.cartridge_header.specs.Laws.{Headed, Supported, Fitting, InFile, InFileLaw}
use Rattle.cartridge_header.proofs.Meanings.{fitting}
use Rattle.cartridge_header.proofs.Numbers.{accepted_by, header_numbers_law}

-- what an accepted file is
pub record Known (file : List ℕ) (c : Cartridge) : Type 0 where
  pub stated : c ≡ cartridge_of (stated_by file)
  pub headed : Headed file
  pub supported : Supported file
  pub fitting : Fitting file

pub known : (file : List ℕ) (c : Cartridge) → read_header file ≡ Ok c → Known file c
known file c h =
    let got = accepted_by (cartridge_of (stated_by file)) (is_ines file) (is_supported file) (fits (stated_by file) (length file)) c h in
    let all = (header_numbers_law file).accepted.0 (h ∙ ap Ok got) in
    record { stated = got; headed = all.0; supported = all.1.0; fitting = all.1.1 }

-- what CHR takes of the file
taken : (none : Bool) (ram rom : ℕ) → cond none 0 (cond none ram rom) ≤ rom
taken none ram rom = tested none (λ h. rw h (omega arith)) (λ h. rw h (omega arith))

module _ (s : NesHeader) (n : ℕ) (h : fits s n ≡ true) where
  ends : file_end s ≤ n
  ends = leb-true (file_end s) n (and_right (within_limits (stated_layout s)) (leb (file_end s) n) h)

  placed : InFile n (cartridge_of s)
  placed =
      record {
        limits = and_left (within_limits (stated_layout s)) (leb (file_end s) n) h;
        behind_header = either (λ (k : ℕ). 16 ≤ k) s.trainer (omega arith) (omega arith);
        chr_start = refl;
        prg_inside = omega (arith, ends);
        chr_inside = omega (arith, ends, taken (eqb s.chr_rom_banks 0) s.chr_ram (8192 * s.chr_rom_banks));
      }

pub in_file_law : InFileLaw
in_file_law file c h =
    let k = known file c h in
    subst (λ (d : Cartridge). InFile (length file) d) (sym k.stated) (placed (stated_by file) (length file) ((fitting file).1 k.fitting))
