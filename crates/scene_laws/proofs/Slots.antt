-- The bank that a slot's entry is told as. Assumes nothing.
use mathlib.Core.Path.{◌≡◌, ap, ◌∙◌}
use mathlib.Core.Bool.{Bool, cond}
use Rattle.std.proofs.Common.{Some, None}
use Prim.Native.Nat.{ℕ, ◌+◌, ◌-◌, ◌*◌, ◌%◌, ◌≤◌, ◌<◌}
use native.Mathlib.Omega.{arith}
use native.Mathlib.Nat.{mod-lt, mod-eq_of_lt}
use lib.IntN.{pos}
use borrow.Author.Tests.{ne_eqb, lt-ltb, le-ltb}
use Rattle.memory_pages.specs.Pages.{entry, offset, unmapped}
use Rattle.memory_pages.proofs.Entries.{offset_of}
use Rattle.memory_layout.specs.declared.regions.MemoryLayout.{MemoryLayout}
use Rattle.memory_layout.specs.declared.regions.Region.{Region}
use Rattle.memory_layout.specs.declared.regions.Src.TheVariants.{Chr}
use Rattle.memory_layout.specs.Layout.{region}
use Rattle.memory_layout.proofs.Limited.{limits}
use Rattle.memory_rule.specs.Rule.{base, bank_count}
use Rattle.memory_rule.proofs.Shown.{ends}
use Rattle.vrc6_tables.specs.Tables.{one_page}
use Rattle.scene_banks.specs.Shown.{bank_at}
use Rattle.scene_laws.specs.Banks.{BankLaw}

-- an offset so many banks behind the start of CHR
bank_at_lem : (chr : Region) (y m : ℕ) → y ≡ m * 1024 → y < chr.len → bank_at chr (chr.start + y) ≡ Some m
bank_at_lem chr y m e h =
    let back : chr.start + y - chr.start ≡ y = omega arith in
    rw (le-ltb (chr.start + y) chr.start (omega arith), back, lt-ltb y chr.len h) (ap Some (omega (arith, e)))

module _ (l : MemoryLayout) (v : ℕ) (n : 1 ≤ (region l Chr).len) where
  abbrev r : Region
  r = region l Chr

  abbrev m : ℕ
  m = v % bank_count r 1024

  abbrev y : ℕ
  y = (base r 1024 (pos v) + 1024 * 0) % r.len

  low : m < bank_count r 1024
  low = mod-lt v (omega arith)

  short : base r 1024 (pos v) + 1024 * 0 < r.len
  short = omega (arith, low)

  whole : y ≡ m * 1024
  whole = mod-eq_of_lt short ∙ omega arith

  inside : y < r.len
  inside = omega (arith, whole, low)

pub bank_law : BankLaw
bank_law l h n v =
    ap (λ (b : Bool). cond b (bank_at (r l v n) (offset (one_page (r l v n) v))) None) h
    ∙ ap (λ (b : Bool). bank_at (r l v n) (offset (cond b unmapped (entry ((r l v n).start + y l v n) (r l v n).writable)))) (ne_eqb (r l v n).len 0 (λ z. omega (arith, z)))
    ∙ ap (bank_at (r l v n)) (offset_of ((r l v n).start + y l v n) (r l v n).writable (omega (arith, ends l (limits l h) Chr, inside l v n)))
    ∙ bank_at_lem (r l v n) (y l v n) (m l v n) (whole l v n) (inside l v n)
