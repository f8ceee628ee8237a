-- The words of a text, one after the other. Assumes nothing.
use Rattle.std.proofs.Common.{◌≡◌, ℕ, zero, suc, ◌-◌, ◌<◌, ◌≤◌, Bool, true, false, cond, List, [], ◌∷◌, length, refl, sym, ap, ◌∙◌, arith, min, length-take}
use Rattle.std.proofs.lemmas.Bool.{eqb-false, ne_eqb}
use Rattle.text_words.proofs.Cuts.{taken_le}
use Rattle.text_words.specs.declared.Word.{Word}
use Rattle.text_words.specs.Found.{Found}
use Rattle.text_words.specs.Names.{words_in, words_of}
use Rattle.std.specs.Bool.{beq}
use Rattle.text_words.specs.Words.{is_blank, from_word, is_empty, past_word, word_of}

-- a text with a word is longer than what is behind it
behind_word : (t : List ℕ) → is_empty t ≡ false → length (past_word (from_word t)) < length t
behind_word t e =
    let s : List ℕ = from_word t in
    let some : length (word_of s) ≡ 0 → ⊥ = eqb-false (length (word_of s)) 0 e in
    let size : length (word_of s) ≡ min (length s - length (past_word s)) (length s) = length-take (length s - length (past_word s)) s in
    omega (arith, some, size, taken_le (λ b. beq (is_blank b) false) t)

-- the words do not depend on the number of words looked for, if that is no less than the bytes
enough : (n m : ℕ) (t : List ℕ) → length t ≤ n → length t ≤ m → words_in n t ≡ words_in m t
enough zero zero t h k = refl
enough zero (suc m) [] h k = refl
enough zero (suc m) (b ∷ bs) h k = absurd (omega arith)
enough (suc n) zero [] h k = refl
enough (suc n) zero (b ∷ bs) h k = absurd (omega arith)
enough (suc n) (suc m) t h k = split (enough n m (past_word (from_word t))) (is_empty t) refl
  where
    split : (length (past_word (from_word t)) ≤ n → length (past_word (from_word t)) ≤ m → words_in n (past_word (from_word t)) ≡ words_in m (past_word (from_word t)))
        → (e : Bool) → is_empty t ≡ e
        → cond e [] (word_of (from_word t) ∷ words_in n (past_word (from_word t))) ≡ cond e [] (word_of (from_word t) ∷ words_in m (past_word (from_word t)))
    split later true e = refl
    split later false e = let less = behind_word t e in ap (λ ws. word_of (from_word t) ∷ ws) (later (omega arith) (omega arith))

-- a text without a word
pub none_left : (t : List ℕ) → is_empty t ≡ true → words_of t ≡ []
none_left [] e = refl
none_left (b ∷ bs) e = ap (λ k. cond k [] (word_of (from_word (b ∷ bs)) ∷ words_in (length bs) (past_word (from_word (b ∷ bs))))) e

-- a text with one
pub one_more : (t : List ℕ) → is_empty t ≡ false → words_of t ≡ word_of (from_word t) ∷ words_of (past_word (from_word t))
one_more [] e = absurd (cc)
one_more (b ∷ bs) e =
    let less = behind_word (b ∷ bs) e in
    let past : List ℕ = past_word (from_word (b ∷ bs)) in
    ap (λ k. cond k [] (word_of (from_word (b ∷ bs)) ∷ words_in (length bs) past)) e
    ∙ ap (λ ws. word_of (from_word (b ∷ bs)) ∷ ws) (enough (length bs) (length past) past (omega arith) (omega arith))

-- a word that was found, and those behind it
pub found : (t : List ℕ) (w : Word) → Found t w → words_of t ≡ w.bytes.now ∷ words_of w.rest.now
found t w f =
    let some : length (word_of (from_word t)) ≡ 0 → ⊥ = λ z. let e = ap length f.bytes in absurd (omega (arith, f.some)) in
    one_more t (ne_eqb (length (word_of (from_word t))) 0 some) ∙ (λ i. sym f.bytes i ∷ words_of (sym f.rest i))

-- no more words than bytes
pub few : (t : List ℕ) → length (words_of t) ≤ length t
few t = few_in (length t) t
  where
    few_in : (n : ℕ) (s : List ℕ) → length (words_in n s) ≤ n
    few_in zero s = omega arith
    few_in (suc n) s = split (is_empty s) (few_in n (past_word (from_word s)))
      where
        split : (e : Bool) → length (words_in n (past_word (from_word s))) ≤ n
            → length (cond e [] (word_of (from_word s) ∷ words_in n (past_word (from_word s)))) ≤ suc n
        split true h = omega arith
        split false h = omega arith
