-- The cells of a row, one after the other. Assumes nothing.
use Rattle.std.proofs.Common.{◌≡◌, ℕ, zero, suc, ◌+◌, ◌-◌, ◌<◌, ◌≤◌, Bool, true, false, cond, not, ◌&&◌, eqb, ltb, List, [], ◌∷◌, length, drop, get_or, Option, Some, None, refl, sym, ap, ◌∙◌, arith, length-drop}
use Rattle.std.specs.Bool.{then_some}
use Rattle.text_words.proofs.Cuts.{taken_le}
use Rattle.scene_cells.specs.declared.Cell.{Cell}
use Rattle.scene_cells.specs.Cells.{Content, behind_break, cell_of, from_break, from_quote, is_break, plain_cell, quoted_cell, quoted_to}
use Rattle.scene_cells.specs.Contents.{content}
use Rattle.scene_cells.specs.Rows.{FoundIn, NameAt, cells_in, cells_left, cells_of, nth_cell}
use Rattle.scene_cells.specs.declared.columns.Column.{Column}
use Rattle.scene_cells.specs.Columns.{column_of}
use Rattle.std.specs.List.{AllWithin, HoldsAt}
use Rattle.std.specs.Option.{MatchOption, option_and_then}
use Rattle.std.proofs.lemmas.Option.{none-some, slice_get-get_or, slice_get_past}
use Rattle.std.proofs.lemmas.Bool.{ltb-true, ltb-false}
use Rattle.base_shared.proofs.Tests.{tested}
use Rattle.scene_cells.proofs.Contents.{quote_le}

-- behind a separator or line end less is left
behind_less : (s : List ℕ) → length (behind_break s) ≤ length s - 1
behind_less s = split (eqb (get_or s 0 0) 13 && eqb (get_or s 1 0) 10)
  where
    split : (t : Bool) → length (drop (cond t 2 1) s) ≤ length s - 1
    split true = omega (arith, length-drop 2 s)
    split false = omega (arith, length-drop 1 s)

break_less : (separator : ℕ) (s : List ℕ) → length (behind_break (from_break separator s)) ≤ length s - 1
break_less separator s = omega (arith, behind_less (from_break separator s), taken_le (is_break separator) s)

quoted_less : (separator : ℕ) (text close : List ℕ) → length close ≤ length text → length (quoted_to separator text close).rest ≤ length text
quoted_less separator text [] h = omega arith
quoted_less separator text (q ∷ behind) h = omega (arith, break_less separator behind)

-- a cell takes at least one byte, where there is one
less : (separator : ℕ) (s : List ℕ) → length (cell_of separator s).rest ≤ length s - 1
unfolding plain_cell quoted_cell
less separator [] = omega (arith, break_less separator [])
less separator (b ∷ bs) = split (eqb b 34)
  where
    split : (t : Bool) → length (cond t (quoted_cell separator bs) (plain_cell separator (b ∷ bs))).rest ≤ suc (length bs) - 1
    split true = omega (arith, quoted_less separator bs (from_quote bs) (quote_le bs))
    split false = omega (arith, break_less separator (b ∷ bs))

-- a cell that is not its row's last does not stand at the text's end
some_left : (separator : ℕ) (s : List ℕ) → (cell_of separator s).last ≡ false → 0 < length s
unfolding plain_cell
some_left separator [] e = absurd (cc)
some_left separator (b ∷ bs) e = omega arith

-- the cells do not depend on the number of cells looked for, if that is more than the bytes
enough : (n m separator : ℕ) (s : List ℕ) → length s < n → length s < m → cells_in n separator s ≡ cells_in m separator s
enough zero m separator s h k = absurd (omega arith)
enough (suc n) zero separator s h k = absurd (omega arith)
enough (suc n) (suc m) separator s h k = split (enough n m separator (cell_of separator s).rest) (cell_of separator s).last refl
  where
    split : (length (cell_of separator s).rest < n → length (cell_of separator s).rest < m → cells_in n separator (cell_of separator s).rest ≡ cells_in m separator (cell_of separator s).rest)
        → (t : Bool) → (cell_of separator s).last ≡ t
        → (cell_of separator s ∷ cond t [] (cells_in n separator (cell_of separator s).rest)) ≡ (cell_of separator s ∷ cond t [] (cells_in m separator (cell_of separator s).rest))
    split later true e = refl
    split later false e =
        let some = some_left separator s e in
        let fewer = less separator s in
        ap (λ (cs : List Content). cell_of separator s ∷ cs) (later (omega arith) (omega arith))

-- a row's first cell, and those behind it
opened : (separator : ℕ) (s : List ℕ) → cells_of separator s ≡ cell_of separator s ∷ cond (cell_of separator s).last [] (cells_of separator (cell_of separator s).rest)
unfolding cells_of
opened separator s = split (cell_of separator s).last refl
  where
    one : length s + 1 ≡ suc (length s)
    one = omega arith

    split : (t : Bool) → (cell_of separator s).last ≡ t
        → cells_in (length s + 1) separator s ≡ cell_of separator s ∷ cond (cell_of separator s).last [] (cells_in (length (cell_of separator s).rest + 1) separator (cell_of separator s).rest)
    split true e =
        let cell : Content = cell_of separator s in
        ap (λ n. cells_in n separator s) one
        ∙ ap (λ t. cell ∷ cond t [] (cells_in (length s) separator cell.rest)) e
        ∙ sym (ap (λ t. cell ∷ cond t [] (cells_in (length cell.rest + 1) separator cell.rest)) e)
    split false e =
        let some = some_left separator s e in
        let fewer = less separator s in
        ap (λ n. cells_in n separator s) one
        ∙ ap (λ (cs : List Content). cell_of separator s ∷ cond (cell_of separator s).last [] cs)
        (enough (length s) (length (cell_of separator s).rest + 1) separator (cell_of separator s).rest (omega arith) (omega arith))

pub step : (separator : ℕ) (s : List ℕ) (cell : Cell) → content cell ≡ cell_of separator s
    → cells_of separator s ≡ content cell ∷ cells_left separator (then_some (not cell.last) cell.rest)
step separator s cell e =
    opened separator s
    ∙ ap (λ (c : Content). c ∷ cond c.last [] (cells_of separator c.rest)) (sym e)
    ∙ ap (λ (cs : List Content). content cell ∷ cs) (split cell.last)
  where
    split : (t : Bool) → cond t [] (cells_of separator cell.rest.now) ≡ cells_left separator (then_some (not t) cell.rest)
    split true = refl
    split false = refl

-- at most one cell more than bytes
pub few : (separator : ℕ) (s : List ℕ) → length (cells_of separator s) ≤ length s + 1
unfolding cells_of
few separator s = few_in (length s + 1) s
  where
    few_in : (n : ℕ) (t : List ℕ) → length (cells_in n separator t) ≤ n
    few_in zero t = omega arith
    few_in (suc n) t = split (cell_of separator t).last (few_in n (cell_of separator t).rest)
      where
        split : (l : Bool) → length (cells_in n separator (cell_of separator t).rest) ≤ n → suc (length (cond l [] (cells_in n separator (cell_of separator t).rest))) ≤ suc n
        split true h = omega arith
        split false h = omega arith

-- ---- the first cell with the name of a column
no_cell : Content
no_cell = record { bytes = []; rest = []; quoted = false; last = true; wrong = None }

module _ (separator : ℕ) (column : Column) (row : List ℕ) where
  abbrev pub Named : Content → Type 0
  Named c = column_of c.bytes ≡ Some column

  abbrev pub Unnamed : Content → Type 0
  Unnamed c = column_of c.bytes ≡ Some column → ⊥

  there : (k : ℕ) → k < length (cells_of separator row)
      → option_and_then (λ (c : Content). column_of c.bytes) (nth_cell separator k row) ≡ column_of (get_or (cells_of separator row) k no_cell).bytes
  there k h = ap (option_and_then (λ (c : Content). column_of c.bytes)) (slice_get-get_or (cells_of separator row) k no_cell h)

  none_before : (n : ℕ) → n ≤ length (cells_of separator row) → AllWithin Unnamed (cells_of separator row) 0 n → (j : ℕ) → j < n → NameAt separator column j row → ⊥
  none_before n h all j k e = all j no_cell (omega arith) k (sym (there j (omega arith)) ∙ e)

  pub found_in : (r : Option ℕ)
      → MatchOption r (AllWithin Unnamed (cells_of separator row) 0 (length (cells_of separator row)))
      (λ i. (i < length (cells_of separator row)) × HoldsAt Named (cells_of separator row) i × AllWithin Unnamed (cells_of separator row) 0 i)
      → FoundIn separator column row r
  found_in None h = λ k e.
      tested (ltb k (length (cells_of separator row)))
      (λ t. none_before (length (cells_of separator row)) (omega arith) h k (ltb-true k (length (cells_of separator row)) t) e)
      (λ t. let past : nth_cell separator k row ≡ None = slice_get_past (cells_of separator row) k (ltb-false k (length (cells_of separator row)) t) in
      none-some column (sym (ap (option_and_then (λ (c : Content). column_of c.bytes)) past) ∙ e))
  found_in (Some i) h = (there i h.0 ∙ h.1 no_cell, none_before i (omega (arith, h.0)) h.2)
