-- A text that is split at its first mark. Assumes nothing.
use Rattle.std.proofs.Common.{◌≡◌, ℕ, ◌+◌, ◌-◌, ◌<◌, eqb, true, List, length, take, drop, Some, None, refl, sym, ap, ◌∙◌, arith, length-drop, eq-eqb}
use Rattle.std.proofs.lemmas.Bool.{ne_eqb}
use Rattle.std.proofs.lemmas.List.Quantifiers.{position-Some}
use lib.Seq.{drop-drop, take_all}
use Rattle.std.specs.List.{position}
use Rattle.text_words.proofs.Cuts.{front, placed}
use Rattle.scene_cells.specs.Marks.{SplitAt, from_mark}

-- the rest of a text, as long as it is
pub onward : (text : List ℕ) (a : ℕ) → take (length text - a) (drop a text) ≡ drop a text
onward text a = take_all (length text - a) (drop a text) (omega (arith, length-drop a text))

module _ (mark : ℕ) (text : List ℕ) where
  pub missing : None ≡ position (λ b. eqb b mark) text → eqb (length (from_mark mark text)) 0 ≡ true
  missing e =
      let p = placed (λ b. eqb b mark) text None (length text) e refl in
      eq-eqb (length (from_mark mark text)) 0 (omega (arith, ap length p, length-drop (length text) text))

  pub split : (n : ℕ) → Some n ≡ position (λ b. eqb b mark) text → SplitAt mark text (take n text) (take (length text - (n + 1)) (drop (n + 1) text))
  split n e =
      let p = placed (λ b. eqb b mark) text (Some n) n e refl in
      let within : n < length text = (position-Some (λ b. eqb b mark) text n 0 (sym e)).0 in
      let some : length (from_mark mark text) ≡ 0 → ⊥ = λ z. absurd (omega (arith, ap length p, length-drop n text)) in
      record {
        there = ne_eqb (length (from_mark mark text)) 0 some;
        head = front text (from_mark mark text) n (omega (arith, within)) p;
        tail = onward text (n + 1) ∙ sym (drop-drop 1 n text) ∙ ap (drop 1) p;
      }
