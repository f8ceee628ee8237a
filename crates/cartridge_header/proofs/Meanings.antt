-- What the tests say in the paper's words. Assumes nothing.
use mathlib.Core.Path.{◌≡◌, refl, sym}
use mathlib.Core.Bool.{Bool, true, false, cond, not, ◌&&◌, ◌||◌, false≢true}
use mathlib.Core.List.{List, [], ◌∷◌}
use mathlib.Core.Logic.{◌⊎◌, inl, inr, ⊎_elim, ◌↔◌}
use Prim.Native.Nat.{ℕ, ◌+◌, ◌*◌, ◌/◌, ◌%◌, ◌≤◌}
use native.Mathlib.Omega.{arith}
use lib.Dec.{eqb, leb}
use lib.ListN.{length}
use borrow.Author.Tests.{leb-true, le-leb, eqb-true, eqb-false, eq-eqb}
use Rattle.base_shared.specs.Bits.{bit}
use Rattle.base_shared.proofs.Tests.{and_left, and_right, both, either, tested}
use Rattle.memory_layout.specs.Layout.{within_limits}
use Rattle.memory_layout.proofs.Limited.{limits}
use Rattle.cartridge.specs.Cartridges.{file_end, fits, stated_layout}
use Rattle.cartridge_header.specs.Ines.{file_byte, is_ines, is_supported, mapper_number, stated_by}
use Rattle.cartridge_header.specs.Laws.{Headed, Supported, Fitting, needed}

-- what a test says, where it fails
pub fails : {P : Type 0} (b : Bool) → (b ≡ true) ↔ P → (b ≡ false) ↔ (P → ⊥)
fails true i = (λ h. absurd (false≢true (sym h)), λ h. absurd (h (i.0 refl)))
fails false i = (λ h p. false≢true (i.1 p), λ h. refl)

-- ---- 5
-- five tests that all hold
five : (t p q r s : Bool) → (t && p && q && r && s) ≡ true → (t ≡ true) × (p ≡ true) × (q ≡ true) × (r ≡ true) × (s ≡ true)
five t p q r s h =
    let k = and_left (t && p && q && r) s h in
    let j = and_left (t && p && q) r k in
    let i = and_left (t && p) q j in
    (and_left t p i, and_right t p i, and_right (t && p) q j, and_right (t && p && q) r k, and_right (t && p && q && r) s h)

tests : (file : List ℕ) → is_ines file ≡ true
    → (leb 16 (length file) ≡ true) × (eqb (file_byte file 0) 78 ≡ true) × (eqb (file_byte file 1) 69 ≡ true) × (eqb (file_byte file 2) 83 ≡ true) × (eqb (file_byte file 3) 26 ≡ true)
tests file h = five (leb 16 (length file)) (eqb (file_byte file 0) 78) (eqb (file_byte file 1) 69) (eqb (file_byte file 2) 83) (eqb (file_byte file 3) 26) h

-- a list too short for the first four bytes
short : (file : List ℕ) → (16 ≤ length file → ⊥) → (is_ines file ≡ true) ↔ Headed file
short file d = (λ h. absurd (d (leb-true 16 (length file) (tests file h).0)), λ h. absurd (d h.0))

pub headed : (file : List ℕ) → (is_ines file ≡ true) ↔ Headed file
headed [] = short [] (λ h. omega arith)
headed (a ∷ []) = short (a ∷ []) (λ h. omega arith)
headed (a ∷ b ∷ []) = short (a ∷ b ∷ []) (λ h. omega arith)
headed (a ∷ b ∷ c ∷ []) = short (a ∷ b ∷ c ∷ []) (λ h. omega arith)
headed (a ∷ b ∷ c ∷ d ∷ l) = (
  λ h.
      let t = tests (a ∷ b ∷ c ∷ d ∷ l) h in
      let p : a ≡ 78 = eqb-true a 78 t.1 in
      let q : b ≡ 69 = eqb-true b 69 t.2 in
      let r : c ≡ 83 = eqb-true c 83 t.3 in
      let s : d ≡ 26 = eqb-true d 26 t.4 in
      (leb-true 16 (length (a ∷ b ∷ c ∷ d ∷ l)) t.0, cc),
  λ h.
      let e : a ∷ b ∷ c ∷ d ∷ [] ≡ 78 ∷ 69 ∷ 83 ∷ 26 ∷ [] = h.1 in
      let p : a ≡ 78 = cc in
      let q : b ≡ 69 = cc in
      let r : c ≡ 83 = cc in
      let s : d ≡ 26 = cc in
      both (both (both (both (le-leb 16 (length (a ∷ b ∷ c ∷ d ∷ l)) h.0) (eq-eqb a 78 p)) (eq-eqb b 69 q)) (eq-eqb c 83 r)) (eq-eqb d 26 s),
)

-- ---- 6
either_mapper : (m : ℕ) → ((eqb m 24 || eqb m 26) ≡ true) ↔ ((m ≡ 24) ⊎ (m ≡ 26))
either_mapper m = (
  λ h. tested (eqb m 24) (λ e. inl (eqb-true m 24 e)) (λ e. inr (eqb-true m 26 (rw e at h))),
  λ h. ⊎_elim (λ e. rw e) (λ e. rw e) h,
)

-- two bits that are not 1 and 0
not_newer : (x y : ℕ) → (not (eqb (x % 2) 1 && not (eqb (y % 2) 1)) ≡ true) ↔ ((x % 2 ≡ 1) × (y % 2 ≡ 0) → ⊥)
not_newer x y =
    tested (eqb (x % 2) 1)
    (λ e.
    tested (eqb (y % 2) 1)
    (λ f. (λ h g. let z : y % 2 ≡ 1 = eqb-true (y % 2) 1 f in omega arith, λ h. rw (e, f)))
    (λ f. (
      λ h g. absurd (false≢true (rw (e, f) at h)),
      λ h. absurd (h (eqb-true (x % 2) 1 e, let z : y % 2 ≡ 1 → ⊥ = eqb-false (y % 2) 1 f in omega arith)),
    )))
    (λ e. (λ h g. absurd (eqb-false (x % 2) 1 e g.0), λ h. rw e))

pub supported : (file : List ℕ) → (is_supported file ≡ true) ↔ Supported file
supported file =
    let m = mapper_number file in
    let seven = file_byte file 7 in
    let x = eqb m 24 || eqb m 26 in
    let y = not (bit 3 seven && not (bit 2 seven)) in (
      λ h. ((either_mapper m).0 (and_left x y h), (not_newer (seven / 8) (seven / 4)).0 (and_right x y h)),
      λ h. both ((either_mapper m).1 h.0) ((not_newer (seven / 8) (seven / 4)).1 h.1),
    )

-- ---- 7
-- CHR's limit in units
pub chr_units : (c ram : ℕ) → ram ≤ 262_144 → (cond (eqb c 0) ram (8192 * c) ≤ 262_144) ↔ (c ≤ 32)
chr_units c ram k = (
  λ h. tested (eqb c 0) (λ e. omega (arith, eqb-true c 0 e)) (λ e. let g : 8192 * c ≤ 262_144 = rw e at h in omega arith),
  λ h. tested (eqb c 0) (λ e. rw e k) (λ e. rw e (omega arith)),
)

-- a trainer's bytes by its bit
trained : (x : ℕ) → cond (eqb (x % 2) 1) (16 + 512) 16 ≡ 16 + 512 * (x % 2)
trained x =
    tested (eqb (x % 2) 1)
    (λ e. let z : x % 2 ≡ 1 = eqb-true (x % 2) 1 e in rw (e, z))
    (λ e. let d : x % 2 ≡ 1 → ⊥ = eqb-false (x % 2) 1 e in let z : x % 2 ≡ 0 = omega arith in rw (e, z))

pub file_end_lem : (file : List ℕ) → file_end (stated_by file) ≡ needed file
file_end_lem file = let t = trained (file_byte file 6 / 4) in omega (arith, t)

pub fitting : (file : List ℕ) → (fits (stated_by file) (length file) ≡ true) ↔ Fitting file
fitting file =
    let s = stated_by file in
    let n = length file in
    let e = file_end_lem file in (
      λ h.
          let k = limits (stated_layout s) (and_left (within_limits (stated_layout s)) (leb (file_end s) n) h) in
          let p : 16384 * file_byte file 4 ≤ 262_144 = k.prg in
          let q = leb-true (file_end s) n (and_right (within_limits (stated_layout s)) (leb (file_end s) n) h) in
          (omega arith, (chr_units (file_byte file 5) 8192 (omega arith)).0 k.chr, omega (arith, e, q)),
      λ h.
          both
          (both
          (both (both (le-leb (16384 * file_byte file 4) 262_144 (omega arith)) (le-leb (stated_layout s).chr 262_144 ((chr_units (file_byte file 5) 8192 (omega arith)).1 h.1))) refl)
          (either (λ (k : ℕ). leb k 4096 ≡ true) s.four_screens refl refl))
          (le-leb (file_end s) n (omega (arith, e, h.2))),
    )
