-- A cell's content, by the parts of a text that the code found. Assumes nothing.
use Rattle.std.proofs.Common.{◌≡◌, ℕ, suc, ◌<◌, ◌≤◌, eqb, cond, Bool, true, false, List, [], ◌∷◌, length, take, drop, Option, Some, None, refl, ap, ◌∙◌, arith}
use Rattle.text_words.proofs.Cuts.{front}
use Rattle.scene_cells.specs.declared.CellFault.{CellFault}
use Rattle.scene_cells.specs.declared.CellFault.TheVariants.{Unclosed}
use Rattle.scene_cells.specs.Cells.{Content, behind_break, closed_to, ends_row, from_break, from_quote, plain_cell, quoted_cell, quoted_to, wrong_behind}
use Rattle.scene_cells.specs.Marks.{before}

same_content : {b b' r r' : List ℕ} {q l l' : Bool} {w w' : Option CellFault} → b ≡ b' → r ≡ r' → l ≡ l' → w ≡ w'
    → ◌≡◌ {A = Content}
    (record { bytes = b; rest = r; quoted = q; last = l; wrong = w })
    (record { bytes = b'; rest = r'; quoted = q; last = l'; wrong = w' })
same_content e f g h = cc

-- a text that is cut before its first separator or line end
module _ (separator : ℕ) (text : List ℕ) (n : ℕ) (bound : n ≤ length text) (cut : drop n text ≡ from_break separator text)
    (stop rest : List ℕ) (last : Bool) (s : stop ≡ drop n text) (r : rest ≡ behind_break stop) (l : last ≡ ends_row stop) where
  pub plain : {bytes : List ℕ} → bytes ≡ take n text → ◌≡◌ {A = Content} (record { bytes = bytes; rest = rest; quoted = false; last = last; wrong = None }) (plain_cell separator text)
  unfolding plain_cell
  plain b = same_content (b ∙ front text (from_break separator text) n bound cut) (r ∙ ap behind_break (s ∙ cut)) (l ∙ ap ends_row (s ∙ cut)) refl

  pub closed : (bytes between : List ℕ) {wrong : Option CellFault} → between ≡ take n text → wrong ≡ wrong_behind (length between)
      → record { bytes = bytes; rest = rest; quoted = true; last = last; wrong = wrong } ≡ closed_to bytes text (from_break separator text)
  closed bytes between b w =
      same_content refl (r ∙ ap behind_break (s ∙ cut)) (l ∙ ap ends_row (s ∙ cut))
      (w ∙ ap (λ x. wrong_behind (length x)) (b ∙ front text (from_break separator text) n bound cut))

-- what is left from the closing quote on is no longer than the text
pub quote_le : (s : List ℕ) → length (from_quote s) ≤ length s
quote_le [] = omega arith
quote_le (a ∷ []) = split (eqb a 34)
  where
    split : (t : Bool) → length (cond t (a ∷ []) []) ≤ 1
    split true = omega arith
    split false = omega arith
quote_le (a ∷ b ∷ bs) = split (eqb a 34) (eqb b 34) (quote_le bs) (quote_le (b ∷ bs))
  where
    split : (t u : Bool) → length (from_quote bs) ≤ length bs → length (from_quote (b ∷ bs)) ≤ suc (length bs)
        → length (cond t (cond u (from_quote bs) (a ∷ b ∷ bs)) (from_quote (b ∷ bs))) ≤ suc (suc (length bs))
    split true true h k = omega arith
    split true false h k = omega arith
    split false u h k = omega arith

-- a cell in quotes, by the text from its closing quote on
pub unclosed : (separator : ℕ) (text close : List ℕ) → close ≡ from_quote text → length close ≡ 0
    → ◌≡◌ {A = Content} (record { bytes = text; rest = close; quoted = true; last = true; wrong = Some Unclosed }) (quoted_cell separator text)
unfolding quoted_cell
unclosed separator text [] e h = ap (quoted_to separator text) e
unclosed separator text (q ∷ behind) e h = absurd (omega arith)

pub quoted : (separator : ℕ) (text close : List ℕ) → close ≡ from_quote text → 0 < length close
    → closed_to (before text close) (drop 1 close) (from_break separator (drop 1 close)) ≡ quoted_cell separator text
unfolding quoted_cell
quoted separator text [] e h = absurd (omega arith)
quoted separator text (q ∷ behind) e h = ap (quoted_to separator text) e
