-- Creation gives well-formed banking values, and a bank write keeps them so. Assumes nothing.
use mathlib.Core.Path.{◌≡◌, refl, ◌∙◌}
use mathlib.Core.Bool.{true, ◌&&◌}
use mathlib.Core.List.{List, [], ◌∷◌}
use Prim.Native.Nat.{ℕ, ◌%◌}
use native.Mathlib.Omega.{arith}
use lib.Dec.{leb}
use lib.ListN.{length, get_or, set, length-set}
use borrow.Author.Tests.{le-leb}
use Rattle.base_shared.proofs.Tests.{and_left, and_right, both}
use Rattle.registers.specs.declared.BankRegister.{BankRegister}
use Rattle.registers.specs.declared.BankRegister.TheVariants.{Prg16, Prg8, Mode, Chr}
use Rattle.vrc6_banking.specs.declared.banking.Banking.{Banking}
use Rattle.vrc6_slots.specs.declared.Mirroring.{Mirroring}
use Rattle.vrc6_slots.specs.declared.Mirroring.TheVariants.{Vertical, Horizontal, SingleScreenA, SingleScreenB, FourScreen}
use Rattle.vrc6_banking.specs.declared.banking.Settings.{Settings}
use Rattle.vrc6_slots.specs.Nametables.{nametable_mirroring}
use Rattle.vrc6_banking.specs.Banking.{bank_written, first_banking, mirroring_number, renamed, repaged}
use Rattle.vrc6_banking.specs.Laws.{WellFormed, WrittenLaw}
use Rattle.vrc6_slots.proofs.Counts.{mirroring_count, numbers_count}

number_low : (m : Mirroring) → leb (mirroring_number m) 4 ≡ true
number_low Vertical = refl
number_low Horizontal = refl
number_low SingleScreenA = refl
number_low SingleScreenB = refl
number_low FourScreen = refl

first : (s : Settings) → WellFormed (first_banking s)
first s = record { in_range = number_low s.mirroring; prgs = refl; chrs = refl; names = mirroring_count s.mirroring }

module _ (b : Banking) (w : WellFormed b) where
  -- both PRG numbers are in range
  abbrev prgs_low : (p : List ℕ) → Type 0
  prgs_low p = (leb (get_or p 0 0) 15 && leb (get_or p 1 0) 31) ≡ true

  old : prgs_low b.prg_banks
  old = and_left (leb (get_or b.prg_banks 0 0) 15 && leb (get_or b.prg_banks 1 0) 31) (leb b.mirroring 4) w.in_range

  old_mirroring : leb b.mirroring 4 ≡ true
  old_mirroring =
      and_right (leb (get_or b.prg_banks 0 0) 15 && leb (get_or b.prg_banks 1 0) 31) (leb b.mirroring 4) w.in_range

  again : (m : ℕ) (c : List ℕ) → length c ≡ 8 → WellFormed (renamed b m c)
  again m c h =
      record { in_range = both old (number_low (nametable_mirroring m)); prgs = w.prgs; chrs = h; names = numbers_count m c }

  one : (i n : ℕ) → prgs_low (set b.prg_banks i n) → WellFormed (repaged b i n)
  one i n h =
      record { in_range = both h old_mirroring; prgs = length-set b.prg_banks i n ∙ w.prgs; chrs = w.chrs; names = w.names }

  wide : (n : ℕ) → leb n 15 ≡ true → prgs_low (set b.prg_banks 0 n)
  wide n h = go b.prg_banks old
    where
      go : (p : List ℕ) → prgs_low p → prgs_low (set p 0 n)
      go [] g = g
      go (x ∷ p) g = both h (and_right (leb x 15) (leb (get_or p 0 0) 31) g)

  narrow : (n : ℕ) → leb n 31 ≡ true → prgs_low (set b.prg_banks 1 n)
  narrow n h = go b.prg_banks old
    where
      go : (p : List ℕ) → prgs_low p → prgs_low (set p 1 n)
      go [] g = g
      go (x ∷ []) g = g
      go (x ∷ y ∷ p) g = both (and_left (leb x 15) (leb y 31) g) h

  written : (k : BankRegister) (v : ℕ) → WellFormed (bank_written k v b)
  written Prg16 v = one 0 (v % 16) (wide (v % 16) (omega (arith, le-leb)))
  written Prg8 v = one 1 (v % 32) (narrow (v % 32) (omega (arith, le-leb)))
  written Mode v = again v b.chr w.chrs
  written (Chr i) v = again b.banking_mode (set b.chr (i % 8) v) (length-set b.chr (i % 8) v ∙ w.chrs)

revision : (k : BankRegister) (v : ℕ) (b : Banking) → (bank_written k v b).revision_b ≡ b.revision_b
revision Prg16 v b = refl
revision Prg8 v b = refl
revision Mode v b = refl
revision (Chr i) v b = refl

pub written_law : WrittenLaw
written_law = record { first = first; written = λ k v b w. written b w k v; revision = revision }
