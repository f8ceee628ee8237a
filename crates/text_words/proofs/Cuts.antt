-- A text cut at its first byte that a test takes, and its first word. Assumes nothing.
use Rattle.std.proofs.Common.{◌≡◌, ℕ, suc, ◌+◌, ◌-◌, ◌≤◌, Bool, true, false, cond, not, List, [], ◌∷◌, length, take, drop, Option, Some, None, refl, ap, ◌∙◌, arith, unwrap_or, ltb, length-drop, length-take-le}
use Rattle.std.proofs.lemmas.Bool.{ltb-false}
use Rattle.std.proofs.lemmas.List.Sums.{prefix_len-le-length}
use Rattle.std.specs.Bool.{beq}
use Rattle.std.specs.List.{position, position_or_len}
use Rattle.text_words.specs.declared.Word.{Word}
use Rattle.text_words.specs.Found.{Found}
use Rattle.text_words.specs.Words.{from_taken, from_word, is_blank, past_word, word_of}

module _ (test : ℕ → Bool) where
  cut : (s : List ℕ) → drop (position_or_len test s) s ≡ from_taken test s
  cut [] = refl
  cut (b ∷ bs) = split (test b) (cut bs)
    where
      split : (t : Bool) → drop (position_or_len test bs) bs ≡ from_taken test bs
          → drop (cond (not t) (1 + position_or_len test bs) 0) (b ∷ bs) ≡ cond t (b ∷ bs) (from_taken test bs)
      split true h = refl
      split false h = let e : 1 + position_or_len test bs ≡ suc (position_or_len test bs) = omega arith in ap (λ n. drop n (b ∷ bs)) e ∙ h

  -- what is left of a text is no longer than it
  pub taken_le : (s : List ℕ) → length (from_taken test s) ≤ length s
  taken_le s = omega (arith, ap length (cut s), length-drop (position_or_len test s) s)

  -- a text from the first byte on that the test takes, by that byte's place, or the text's length
  pub placed : (s : List ℕ) (r : Option ℕ) (n : ℕ) → r ≡ position test s → n ≡ unwrap_or r (length s) → drop n s ≡ from_taken test s
  placed s r n e f = split (ltb (position_or_len test s) (length s)) refl
    where
      le : position_or_len test s ≤ length s
      le = prefix_len-le-length (λ b. not (test b)) s

      at_place : n ≡ position_or_len test s → drop n s ≡ from_taken test s
      at_place g = ap (λ i. drop i s) g ∙ cut s

      split : (t : Bool) → ltb (position_or_len test s) (length s) ≡ t → drop n s ≡ from_taken test s
      split true h = at_place (f ∙ ap (λ o. unwrap_or o (length s)) (e ∙ ap (λ t. cond t (Some (position_or_len test s)) None) h))
      split false h =
          let all : length s ≤ position_or_len test s = ltb-false (position_or_len test s) (length s) h in
          at_place (f ∙ ap (λ o. unwrap_or o (length s)) (e ∙ ap (λ t. cond t (Some (position_or_len test s)) None) h) ∙ omega (arith, all, le))

-- what stands before a cut
pub front : (s rest : List ℕ) (n : ℕ) → n ≤ length s → drop n s ≡ rest → take n s ≡ take (length s - length rest) s
front s rest n h e = let k : n ≡ length s - length rest = omega (arith, h, ap length e, length-drop n s) in ap (λ i. take i s) k

-- the first word of a text, up to a place in the text from it on
module _ (text s : List ℕ) (n : ℕ) (e : s ≡ from_word text) (bound : n ≤ length s) (cut_at : drop n s ≡ past_word s) where
  word : take n s ≡ word_of (from_word text)
  word = front s (past_word s) n bound cut_at ∙ ap word_of e

  pub one_word : (w : Word) → w.bytes.now ≡ take n s → w.rest.now ≡ drop n s → (length w.bytes.now ≡ 0 → ⊥) → Found text w
  one_word w f g some = record {
    bytes = f ∙ word;
    rest = g ∙ cut_at ∙ ap past_word e;
    some = omega (arith, some);
    fits = omega (arith, ap length f, ap length g, length-take-le n s bound, length-drop n s, bound, ap length e, taken_le (λ b. beq (is_blank b) false) text);
  }
