-- What the cell `at` says, by the tests that the code makes, and that it lies in the picture. Assumes nothing.
use mathlib.Core.List.{List}
use Prim.Native.Nat.{ℕ}
use lib.Dec.{eqb}
use lib.ListN.{length}
use Rattle.base_shared.proofs.Tests.{either}
use Rattle.text_words.specs.declared.number.NumberError.{NumberError}
use Rattle.text_words.specs.Numbers.{number_of}
use Rattle.text_words.specs.Words.{from_word, is_empty, past_word, word_of}
use Rattle.scene_cells.specs.Marks.{before_mark, behind_mark, from_mark}
use Rattle.scene_steps.specs.declared.picture.At.{At}
use Rattle.scene_steps.specs.declared.picture.AtError.{AtError}
use Rattle.std.proofs.Common.{Result, Ok, Err, IfOk, Option, IfSome}
use Rattle.scene_steps.specs.Laws.{InPicture, InPictureLaw}
use Rattle.scene_steps.specs.Picture.{at_of, dot_from, line_and_dot, at_line, said_at}
use Rattle.scene_steps.proofs.Ranges.{Below, below}

abbrev Placed : Result At AtError → Type 0
Placed r = IfOk r InPicture

abbrev CellPlaced : Result (Option At) AtError → Type 0
CellPlaced r = IfOk r (λ at. IfSome at InPicture)

line_in : (n : Result ℕ NumberError) → Below 261 n → Placed (at_line n)
line_in (Ok n) h = h
line_in (Err e) h = tt

dot_in : (line : ℕ) → Below 261 (Ok line) → (n : Result ℕ NumberError) → Below 340 n → Placed (dot_from line n)
dot_in line k (Ok n) h = (k, h)
dot_in line k (Err e) h = tt

both_in : (m n : Result ℕ NumberError) → Below 261 m → Below 340 n → Placed (line_and_dot m n)
both_in (Ok line) n k h = dot_in line k n h
both_in (Err e) n k h = tt

word_in : (w : List ℕ) → Placed (at_of w)
unfolding at_of
word_in w =
    either Placed (eqb (length (from_mark 58 w)) 0)
    (line_in (number_of 10 261 w) (below 10 261 w))
    (both_in (number_of 10 261 (before_mark 58 w)) (number_of 10 340 (behind_mark 58 w)) (below 10 261 (before_mark 58 w)) (below 10 340 (behind_mark 58 w)))

said_in : (r : Result At AtError) → Placed r → CellPlaced (said_at r)
said_in (Ok at) h = h
said_in (Err e) h = tt

pub in_picture_law : InPictureLaw
in_picture_law cell =
    either CellPlaced (is_empty cell) tt
    (either CellPlaced (is_empty (past_word (from_word cell))) (said_in (at_of (word_of (from_word cell))) (word_in (word_of (from_word cell)))) tt)
