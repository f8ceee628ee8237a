-- Spaces for the no-break spaces of a text, place by place. Assumes nothing.
use Rattle.std.proofs.Common.{◌≡◌, ℕ, suc, ◌+◌, ◌<◌, ◌≤◌, true, false, cond, List, [], ◌∷◌, ◌++◌, length, get_or, set, take, drop, refl, sym, ap, ◌∙◌, arith, add-one, length-append, length-drop, length-take-le, take-append-drop}
use Rattle.std.proofs.Math.Seq.{append_snoc, drop-cons, split_at}
use Rattle.std.proofs.lemmas.List.{drop_at, set_at, take_at}
use Rattle.scene_cells.specs.Spaces.{is_no_break, with_spaces}

-- a text of which the first n bytes are done, with spaces in the others
abbrev pub done_to : (n : ℕ) → List ℕ → List ℕ
done_to n text = take n text ++ with_spaces (drop n text)

-- the same of a text in two parts, of which the first is done
parts : (front s : List ℕ) (n : ℕ) → length front ≡ n → done_to n (front ++ s) ≡ front ++ with_spaces s
parts front s n e = λ i. take_at front s n e i ++ with_spaces (drop_at front s n e i)

-- a byte, and the text from it on
from_byte : (text : List ℕ) (i : ℕ) → i < length text → drop i text ≡ get_or text i 0 ∷ drop (i + 1) text
from_byte text i k = rw (add-one, drop-cons text i 0)

-- a space begins no no-break space
after_space : (s : List ℕ) → with_spaces (32 ∷ s) ≡ 32 ∷ with_spaces s
after_space [] = refl
after_space (b ∷ bs) = refl

module _ (text : List ℕ) (n : ℕ) (k : n + 1 < length text) where
  abbrev front : List ℕ
  front = take n text

  abbrev a : ℕ
  a = get_or text n 0

  abbrev b : ℕ
  b = get_or text (n + 1) 0

  abbrev later : List ℕ
  later = drop (n + 1 + 1) text

  size : length front ≡ n
  size = length-take-le n text (omega arith)

  longer : (x : ℕ) → length (front ++ (x ∷ [])) ≡ n + 1
  longer x = length-append front (x ∷ []) ∙ ap (λ m. m + 1) size

  whole : text ≡ front ++ a ∷ b ∷ later
  whole =
      let next : drop (suc n) text ≡ b ∷ later = ap (λ i. drop i text) (sym (add-one n)) ∙ from_byte text (n + 1) k in
      split_at text n 0 (omega arith) ∙ ap (λ s. front ++ a ∷ s) next

  begins : done_to n text ≡ front ++ with_spaces (a ∷ b ∷ later)
  begins = ap (done_to n) whole ∙ parts front (a ∷ b ∷ later) n size

  pub kept : is_no_break a b ≡ false → done_to (n + 1) text ≡ done_to n text
  kept e =
      ap (done_to (n + 1)) (whole ∙ sym (append_snoc front a (b ∷ later)))
      ∙ parts (front ++ (a ∷ [])) (b ∷ later) (n + 1) (longer a)
      ∙ append_snoc front a (with_spaces (b ∷ later))
      ∙ ap (λ t. front ++ cond t (32 ∷ 32 ∷ with_spaces later) (a ∷ with_spaces (b ∷ later))) (sym e)
      ∙ sym begins

  replaced : set (set text n 32) (n + 1) 32 ≡ (front ++ (32 ∷ [])) ++ 32 ∷ later
  replaced =
      ap (λ t. set (set t n 32) (n + 1) 32) whole
      ∙ ap (λ t. set t (n + 1) 32) (set_at front a (b ∷ later) 32 n size ∙ sym (append_snoc front 32 (b ∷ later)))
      ∙ set_at (front ++ (32 ∷ [])) b later 32 (n + 1) (longer 32)

  pub spaced : is_no_break a b ≡ true → done_to (n + 1) (set (set text n 32) (n + 1) 32) ≡ done_to n text
  spaced e =
      ap (done_to (n + 1)) replaced
      ∙ parts (front ++ (32 ∷ [])) (32 ∷ later) (n + 1) (longer 32)
      ∙ append_snoc front 32 (with_spaces (32 ∷ later))
      ∙ ap (λ s. front ++ 32 ∷ s) (after_space later)
      ∙ ap (λ t. front ++ cond t (32 ∷ 32 ∷ with_spaces later) (a ∷ with_spaces (b ∷ later))) (sym e)
      ∙ sym begins

-- a text of one byte or none has no no-break space
short : (s : List ℕ) → length s ≤ 1 → with_spaces s ≡ s
short [] h = refl
short (a ∷ []) h = refl
short (a ∷ b ∷ bs) h = absurd (omega arith)

pub finished : (text : List ℕ) (n : ℕ) → length text ≤ n + 1 → done_to n text ≡ text
finished text n h = ap (λ s. take n text ++ s) (short (drop n text) (omega (arith, length-drop n text))) ∙ take-append-drop n text
