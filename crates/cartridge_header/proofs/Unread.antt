-- Bytes that make no difference. Assumes nothing.
use mathlib.Core.Path.{◌≡◌, refl, sym, ap, ◌∙◌}
use mathlib.Core.Bool.{Bool, true, false, ◌&&◌}
use mathlib.Core.List.{List, ◌++◌}
use Prim.Native.Nat.{ℕ, ◌*◌, ◌≤◌, ◌<◌}
use native.Mathlib.Omega.{arith}
use lib.Dec.{leb}
use lib.ListN.{length, set, take, drop, length-set, length-append, take-append-drop, get_or-append}
use lib.Seq.{get_or-set_other, length-take-le, take_all}
use borrow.Author.Tests.{leb-true, leb-false, le-leb}
use Rattle.base_shared.proofs.Tests.{tested}
use Rattle.memory_layout.specs.Layout.{within_limits}
use Rattle.memory_layout.proofs.Limited.{limits}
use Rattle.cartridge.specs.declared.cartridge.Cartridge.{Cartridge}
use Rattle.std.specs.Prelude.{Ok}
use Rattle.cartridge.specs.Cartridges.{file_end, fits, stated_layout}
use Rattle.cartridge_header.specs.Ines.{file_byte, read_header, stated_by}
use Rattle.cartridge_header.specs.Laws.{UnreadLaw, longest}
use Rattle.cartridge_header.proofs.Meanings.{chr_units, file_end_lem}
use Rattle.cartridge_header.proofs.Places.{known}

-- bytes 0 to 7 alike
record First (f g : List ℕ) : Type 0 where
  b0 : file_byte f 0 ≡ file_byte g 0
  b1 : file_byte f 1 ≡ file_byte g 1
  b2 : file_byte f 2 ≡ file_byte g 2
  b3 : file_byte f 3 ≡ file_byte g 3
  b4 : file_byte f 4 ≡ file_byte g 4
  b5 : file_byte f 5 ≡ file_byte g 5
  b6 : file_byte f 6 ≡ file_byte g 6
  b7 : file_byte f 7 ≡ file_byte g 7

first : (f g : List ℕ) → ((j : ℕ) → j < 8 → file_byte f j ≡ file_byte g j) → First f g
first f g h =
    record {
      b0 = h 0 (omega arith);
      b1 = h 1 (omega arith);
      b2 = h 2 (omega arith);
      b3 = h 3 (omega arith);
      b4 = h 4 (omega arith);
      b5 = h 5 (omega arith);
      b6 = h 6 (omega arith);
      b7 = h 7 (omega arith);
    }

-- two files alike in their first bytes, in having a whole header and in fitting
same : (f g : List ℕ) → First f g → leb 16 (length f) ≡ leb 16 (length g)
    → fits (stated_by f) (length f) ≡ fits (stated_by f) (length g) → read_header f ≡ read_header g
same f g e l k = cc (e.b0, e.b1, e.b2, e.b3, e.b4, e.b5, e.b6, e.b7, l, k)

-- a length from which on all lengths fit alike
same_fit : (w : Bool) (end m n : ℕ) → (w ≡ true → (end ≤ m) × (end ≤ n)) → (w && leb end m) ≡ (w && leb end n)
same_fit true end m n h = le-leb end m (h refl).0 ∙ sym (le-leb end n (h refl).1)
same_fit false end m n h = refl

-- both are long enough for a header
same_whole : (m n : ℕ) → 16 ≤ m → 16 ≤ n → leb 16 m ≡ leb 16 n
same_whole m n h k = le-leb 16 m h ∙ sym (le-leb 16 n k)

later : (file : List ℕ) (i v : ℕ) → 8 ≤ i → read_header (set file i v) ≡ read_header file
later file i v h =
    let e = first (set file i v) file (λ j k. get_or-set_other file i j v 0 (λ z. omega arith)) in
    let l = length-set file i v in
    same (set file i v) file e (ap (leb 16) l) (ap (fits (stated_by (set file i v))) l)

trailing : (file more : List ℕ) (c : Cartridge) → read_header file ≡ Ok c → read_header (file ++ more) ≡ Ok c
trailing file more c h =
    let g = file ++ more in
    let k = known file c h in
    let l = length-append file more in
    let n = file_end_lem file in
    let e = first file g (λ j b. sym (get_or-append file more 0 j (omega (arith, k.headed.0)))) in
    let fit =
    same_fit (within_limits (stated_layout (stated_by file))) (file_end (stated_by file)) (length file) (length g)
    (λ w. (omega (arith, n, k.fitting.2), omega (arith, n, l, k.fitting.2))) in
    sym (same file g e (same_whole (length file) (length g) k.headed.0 (omega (arith, l, k.headed.0))) fit) ∙ h

-- no file within the limits needs more than the longest
most : (file : List ℕ) → within_limits (stated_layout (stated_by file)) ≡ true → file_end (stated_by file) ≤ longest
most file w =
    let k = limits (stated_layout (stated_by file)) w in
    let p : 16384 * file_byte file 4 ≤ 262_144 = k.prg in
    let c = (chr_units (file_byte file 5) 8192 (omega arith)).0 k.chr in
    omega (arith, file_end_lem file, p, c)

cut_long : (file : List ℕ) → longest ≤ length file → read_header (take longest file) ≡ read_header file
cut_long file h =
    let g = take longest file in
    let l : length g ≡ longest = length-take-le longest file h in
    let whole = take-append-drop longest file in
    let e =
    first file g
    (λ j b.
    ap (λ (x : List ℕ). file_byte x j) (sym whole)
    ∙ get_or-append g (drop longest file) 0 j (omega (arith, l))) in
    let fit =
    same_fit (within_limits (stated_layout (stated_by file))) (file_end (stated_by file)) (length file) (length g)
    (λ w. (omega (arith, h, most file w), omega (arith, l, most file w))) in
    sym (same file g e (same_whole (length file) (length g) (omega (arith, h)) (omega (arith, l))) fit)

cut : (file : List ℕ) → read_header (take longest file) ≡ read_header file
cut file =
    tested (leb longest (length file))
    (λ h. cut_long file (leb-true longest (length file) h))
    (λ h. ap read_header (take_all longest file (omega (arith, leb-false longest (length file) h))))

pub unread_law : UnreadLaw
unread_law = record { later = later; trailing = trailing; cut = cut }
