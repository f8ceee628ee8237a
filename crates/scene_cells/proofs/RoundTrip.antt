-- A quoted cell is read back. Assumes nothing.
use mathlib.Core.Path.{◌≡◌, refl, sym, ap, subst, ◌∙◌}
use mathlib.Core.Bool.{Bool, true, false, cond, ◌||◌}
use mathlib.Core.List.{List, [], ◌∷◌, ◌++◌}
use Prim.Native.Nat.{ℕ, ◌-◌}
use native.Mathlib.Omega.{arith}
use borrow.Author.Tests.{eqb-true, ne_eqb}
use lib.Dec.{eqb}
use lib.ListN.{length, take, length-append}
use lib.Seq.{take_at}
use Rattle.base_shared.proofs.Tests.{tested}
use Rattle.scene_cells.specs.Cells.{behind_break, closed_to, ends_row, from_break, from_quote, is_break, quoted_cell, quoted_to, wrong_behind}
use Rattle.scene_cells.specs.Laws.{BreakNext, RoundTripLaw, doubled}
use Rattle.scene_cells.specs.Marks.{before}
use Rattle.std.proofs.Common.{Option, None}
use Rattle.scene_cells.specs.declared.CellFault.{CellFault}

-- a byte that is no quote is passed
no_quote : (a : ℕ) (l : List ℕ) → eqb a 34 ≡ false → from_quote l ≡ from_quote (a ∷ l)
no_quote a [] e = rw e
no_quote a (b ∷ bs) e = rw e

-- a quote before another byte closes
single : (b : ℕ) (bs : List ℕ) → eqb b 34 ≡ false → from_quote (34 ∷ b ∷ bs) ≡ 34 ∷ b ∷ bs
single b bs e = ap (λ (t : Bool). cond t (from_quote bs) (34 ∷ b ∷ bs)) e

module _ (separator : ℕ) (plain : separator ≡ 34 → ⊥) where
  -- a text that begins with a separator or a line end begins with no quote
  no_quote_next : (b : ℕ) → is_break separator b ≡ true → eqb b 34 ≡ false
  no_quote_next b e =
      tested (eqb b 34)
      (λ q.
      let z : is_break separator 34 ≡ true = subst (λ (x : ℕ). is_break separator x ≡ true) (eqb-true b 34 q) e in
      let n : eqb 34 separator ≡ false = ne_eqb 34 separator (λ s. plain (sym s)) in
      let f : false ≡ true = sym (ap (λ (t : Bool). t || false) n) ∙ z in
      cc)
      (λ q. q)

  -- the quote behind the bytes closes them
  closes : (bytes text : List ℕ) → BreakNext separator text → from_quote (doubled bytes ++ (34 ∷ text)) ≡ 34 ∷ text
  closes [] [] h = refl
  closes [] (b ∷ bs) h = single b bs (no_quote_next b h)
  closes (x ∷ xs) text h =
      tested (eqb x 34)
      (λ e. ap (λ (t : Bool). from_quote (cond t (34 ∷ 34 ∷ doubled xs) (x ∷ doubled xs) ++ (34 ∷ text))) e ∙ closes xs text h)
      (λ e.
      ap (λ (t : Bool). from_quote (cond t (34 ∷ 34 ∷ doubled xs) (x ∷ doubled xs) ++ (34 ∷ text))) e
      ∙ sym (no_quote x (doubled xs ++ (34 ∷ text)) e)
      ∙ closes xs text h)

  at_break : (text : List ℕ) → BreakNext separator text → from_break separator text ≡ text
  at_break [] h = refl
  at_break (b ∷ bs) h = ap (λ (t : Bool). cond t (b ∷ bs) (from_break separator bs)) h

before_part : (s part : List ℕ) → before (s ++ part) part ≡ s
before_part s part =
    let n : length (s ++ part) - length part ≡ length s = omega (arith, length-append s part) in
    ap (λ (i : ℕ). take i (s ++ part)) n ∙ take_at s part (length s) refl

-- nothing stands behind the closing quote
nothing_behind : (text : List ℕ) → wrong_behind (length (before text text)) ≡ None
nothing_behind text = ap (λ (l : List ℕ). wrong_behind (length l)) (before_part [] text)

pub round_trip : RoundTripLaw
unfolding quoted_cell
round_trip separator plain bytes text h =
    ap (quoted_to separator (doubled bytes ++ (34 ∷ text))) (closes separator plain bytes text h)
    ∙ ap (closed_to (before (doubled bytes ++ (34 ∷ text)) (34 ∷ text)) text) (at_break separator plain text h)
    ∙ ap (λ (l : List ℕ). closed_to l text text) (before_part (doubled bytes) (34 ∷ text))
    ∙ ap (λ (w : Option CellFault). record { bytes = doubled bytes; rest = behind_break text; quoted = true; last = ends_row text; wrong = w }) (nothing_behind text)
