-- The CPU's table as the code fills it, window by window, and entries by a rule. Assumes nothing.
use mathlib.Core.Path.{◌≡◌, refl, ap, subst, ◌∙◌}
use mathlib.Core.List.{List, [], ◌∷◌, ◌++◌, map}
use Prim.Native.Nat.{ℕ, zero, suc, ◌*◌}
use native.Mathlib.Omega.{arith}
use lib.IntN.{ℤ, pos, negsuc}
use lib.ListN.{length, get_or, take, drop}
use borrow.Rule.Slice.PartMut.{put_mid}
use Rattle.base_shared.specs.Bits.{bit}
use Rattle.base_shared.specs.Lists.{tabulate}
use Rattle.memory_pages.specs.declared.page.Page.{Page}
use Rattle.memory_pages.specs.Pages.{unmapped}
use Rattle.memory_layout.specs.declared.regions.MemoryLayout.{MemoryLayout}
use Rattle.memory_layout.specs.declared.regions.Region.{Region}
use Rattle.memory_layout.specs.declared.regions.Src.TheVariants.{PrgRom, PrgRam}
use Rattle.memory_layout.specs.Layout.{region}
use Rattle.memory_rule.specs.Rule.{shown}
use Rattle.memory_tables.specs.Paging.{nothing, window}
use Rattle.vrc6_banking.specs.declared.banking.Banking.{Banking}
use Rattle.vrc6_slots.proofs.Spelled.{spelled}
use Rattle.vrc6_tables.specs.Required.{ram_entries}
use Rattle.vrc6_tables.specs.Tables.{cpu_entries}

-- entries by the numbers of a list
pub by_numbers : (f : ℕ → Page) (n : ℕ) (vs : List ℕ) → length vs ≡ n → tabulate n (λ i. f (get_or vs i 0)) ≡ map f vs
by_numbers f zero [] h = refl
by_numbers f zero (v ∷ vs) h = absurd (omega arith)
by_numbers f (suc n) [] h = absurd (omega arith)
by_numbers f (suc n) (v ∷ vs) h = ap (λ (l : List Page). f v ∷ l) (by_numbers f n vs (omega arith))

-- what holds of every list that is spelled out, element by element, holds of one of that length
by_spelling : (n : ℕ) (P : List Page → Type 0) → ((f : ℕ → Page) → P (tabulate n f)) → (l : List Page) → length l ≡ n → P l
by_spelling n P h l e = subst P (spelled unmapped n l e) (h (λ i. get_or l i unmapped))

-- three windows stored behind the first 32 entries of a table
module _ (p x : List Page) (lp : length p ≡ 64) (lx : length x ≡ 16) where
  first_long : length (take 16 (drop 32 p)) ≡ 16
  first_long = by_spelling 64 (λ q. length (take 16 (drop 32 q)) ≡ 16) (λ f. refl) p lp

  second_long : length (take 8 (drop 48 (put_mid 32 16 p x))) ≡ 8
  second_long =
      by_spelling 64 (λ q. length (take 8 (drop 48 (put_mid 32 16 q x))) ≡ 8)
      (λ f. by_spelling 16 (λ v. length (take 8 (drop 48 (put_mid 32 16 (tabulate 64 f) v))) ≡ 8) (λ g. refl) x lx)
      p
      lp

  module _ (y : List Page) (ly : length y ≡ 8) where
    third_long : length (take 8 (drop 56 (put_mid 48 8 (put_mid 32 16 p x) y))) ≡ 8
    third_long =
        by_spelling 64 (λ q. length (take 8 (drop 56 (put_mid 48 8 (put_mid 32 16 q x) y))) ≡ 8)
        (λ f. by_spelling 16 (λ v. length (take 8 (drop 56 (put_mid 48 8 (put_mid 32 16 (tabulate 64 f) v) y))) ≡ 8)
        (λ g. by_spelling 8 (λ w. length (take 8 (drop 56 (put_mid 48 8 (put_mid 32 16 (tabulate 64 f) (tabulate 16 g)) w))) ≡ 8) (λ h. refl) y ly)
        x
        lx)
        p
        lp

    all_three : (z : List Page) → length z ≡ 8 → put_mid 56 8 (put_mid 48 8 (put_mid 32 16 p x) y) z ≡ take 32 p ++ x ++ y ++ z
    all_three z lz =
        by_spelling 64 (λ q. put_mid 56 8 (put_mid 48 8 (put_mid 32 16 q x) y) z ≡ take 32 q ++ x ++ y ++ z)
        (λ f. by_spelling 16 (λ v. put_mid 56 8 (put_mid 48 8 (put_mid 32 16 (tabulate 64 f) v) y) z ≡ take 32 (tabulate 64 f) ++ v ++ y ++ z)
        (λ g. by_spelling 8
        (λ w. put_mid 56 8 (put_mid 48 8 (put_mid 32 16 (tabulate 64 f) (tabulate 16 g)) w) z ≡ take 32 (tabulate 64 f) ++ tabulate 16 g ++ w ++ z)
        (λ h. by_spelling 8
        (λ t. put_mid 56 8 (put_mid 48 8 (put_mid 32 16 (tabulate 64 f) (tabulate 16 g)) (tabulate 8 h)) t
        ≡ take 32 (tabulate 64 f) ++ tabulate 16 g ++ tabulate 8 h ++ t) (λ k. refl) z lz)
        y
        ly)
        x
        lx)
        p
        lp

-- n entries of a window on a bank
abbrev pub Shows : (n : ℕ) → Region → ℤ → List Page → Type 0
Shows n r b l = l ≡ tabulate n (shown r (n * 1024) b)

pub joined : (l : MemoryLayout) (b : Banking) {rom : Region} {first second : ℤ} (p x y z : List Page) → length p ≡ 64
    → take 32 p ≡ nothing 24576 ++ ram_entries (region l PrgRam) (bit 7 b.banking_mode)
    → Shows (length (take 16 (drop 32 p))) rom first x
    → Shows (length (take 8 (drop 48 (put_mid 32 16 p x)))) rom second y
    → Shows (length (take 8 (drop 56 (put_mid 48 8 (put_mid 32 16 p x) y)))) rom (negsuc 0) z
    → rom ≡ region l PrgRom → first ≡ pos (get_or b.prg_banks 0 0) → second ≡ pos (get_or b.prg_banks 1 0)
    → put_mid 56 8 (put_mid 48 8 (put_mid 32 16 p x) y) z ≡ cpu_entries l b
unfolding cpu_entries
joined l b {rom} {first} {second} p x y z lp front ex ey ez er e1 e2 =
    let shows : (c : ℤ) (n : ℕ) → List Page = λ c n. tabulate n (shown rom (n * 1024) c) in
    let xs : x ≡ window rom 16384 first = ex ∙ ap (shows first) (by_spelling 64 (λ q. length (take 16 (drop 32 q)) ≡ 16) (λ f. refl) p lp) in
    let lx : length x ≡ 16 = ap length xs in
    let ys : y ≡ window rom 8192 second = ey ∙ ap (shows second) (second_long p x lp lx) in
    let ly : length y ≡ 8 = ap length ys in
    let zs : z ≡ window rom 8192 (negsuc 0) = ez ∙ ap (shows (negsuc 0)) (third_long p x lp lx y ly) in
    all_three p x lp lx y ly z (ap length zs) ∙ (λ i. front i ++ xs i ++ ys i ++ zs i)
    ∙ (λ i.
    nothing 24576 ++ ram_entries (region l PrgRam) (bit 7 b.banking_mode) ++ window (er i) 16384 (e1 i) ++ window (er i) 8192 (e2 i)
    ++ window (er i) 8192 (negsuc 0))
