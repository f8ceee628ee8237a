-- A word's digits read one after the other, the value kept within 64 bits: what a loop has read so far, and what it answers. Assumes nothing.
use Rattle.std.proofs.Common.{◌≡◌, ℕ, suc, ◌+◌, ◌-◌, ◌*◌, ◌^◌, ◌≤◌, ◌<◌, min, Bool, true, false, cond, ◌&&◌, List, [], ◌∷◌, ◌++◌, Option, Some, None, Ok, Err, length, get_or, take, drop, refl, sym, ap, ◌∙◌, arith, add-one, unwrap_or, is_some}
use mathlib.Core.List.{foldl-append}
use native.Mathlib.Nat.{mul-le-mul_left}
use borrow.Author.Tests.{leb-true, leb-false, lt-leb, le-leb}
use Rattle.std.proofs.lemmas.Bool.{ltb-true}
use lib.Dec.{ltb, leb}
use lib.Seq.{take-suc, take_all, split_at}
use Rattle.base_shared.proofs.Tests.{both, tested}
use Rattle.text_words.specs.declared.number.NumberError.TheVariants.{NoNumber, TooLarge}
use Rattle.text_words.specs.Numbers.{are_digits, below, digit_of, limited, number_of, value_of}

and_assoc : (a b c : Bool) → (a && (b && c)) ≡ ((a && b) && c)
and_assoc true b c = refl
and_assoc false b c = refl

and_false : (a : Bool) → (a && false) ≡ false
and_false true = refl
and_false false = refl

digits_append : (base : ℕ) (xs ys : List ℕ) → are_digits base (xs ++ ys) ≡ (are_digits base xs && are_digits base ys)
digits_append base [] ys = refl
digits_append base (x ∷ xs) ys =
    ap (λ (b : Bool). is_some (below base (digit_of x)) && b) (digits_append base xs ys)
    ∙ and_assoc (is_some (below base (digit_of x))) (are_digits base xs) (are_digits base ys)

value_more : (base : ℕ) (xs : List ℕ) (b : ℕ) → value_of base (xs ++ (b ∷ [])) ≡ value_of base xs * base + unwrap_or (digit_of b) 0
value_more base xs b = foldl-append (λ (v d : ℕ). v * base + unwrap_or (digit_of d) 0) 0 xs (b ∷ [])

-- the largest number of 64 bits for a larger one
abbrev top : ℕ → ℕ
top v = min v (2 ^ 64 - 1)

-- a value goes on from the largest number as it does itself
top_more : (v base d : ℕ) → 1 ≤ base → top (top (top v * base) + d) ≡ top (v * base + d)
top_more v base d h =
    tested (leb v (2 ^ 64 - 1))
    (λ e. let k : v ≤ 2 ^ 64 - 1 = leb-true v (2 ^ 64 - 1) e in let same : top v ≡ v = omega arith in ap (λ x. top (top (x * base) + d)) same ∙ omega arith)
    (λ e.
    let k : 2 ^ 64 - 1 < v = leb-false v (2 ^ 64 - 1) e in
    let same : top v ≡ 2 ^ 64 - 1 = omega arith in
    let large : v * 1 ≤ v * base = mul-le-mul_left v h in
    ap (λ x. top (top (x * base) + d)) same ∙ omega arith)

-- a digit that is below the base is the digit
is_below : (base d : ℕ) (o : Option ℕ) → Some d ≡ below base o → d ≡ unwrap_or o 0
is_below base d None e = absurd (cc)
is_below base d (Some x) e = split (ltb x base) e
  where
    split : (t : Bool) → Some d ≡ cond t (Some x) None → d ≡ x
    split true e = cc
    split false e = absurd (cc)

-- a base with a digit is not 0
some_base : (base d : ℕ) (o : Option ℕ) → Some d ≡ below base o → 1 ≤ base
some_base base d None e = absurd (cc)
some_base base d (Some x) e = split (ltb x base) refl e
  where
    split : (t : Bool) → ltb x base ≡ t → Some d ≡ cond t (Some x) None → 1 ≤ base
    split true h e = omega (arith, ltb-true x base h)
    split false h e = absurd (cc)

-- the first i bytes are digits, and v is their value, or the largest number
pub record Read (base : ℕ) (word : List ℕ) (i v : ℕ) : Type 0 where
  pub digits : are_digits base (take i word) ≡ true
  pub value : v ≡ min (value_of base (take i word)) (2 ^ 64 - 1)

module _ (base : ℕ) (word : List ℕ) (i : ℕ) (k : i < length word) where
  split : take (i + 1) word ≡ take i word ++ (get_or word i 0 ∷ [])
  split = ap (λ (j : ℕ). take j word) (add-one i) ∙ take-suc word i 0 k

  pub more : (v d : ℕ) → Read base word i v → Some d ≡ below base (digit_of (get_or word i 0))
      → Read base word (i + 1) (min (min (v * base) (2 ^ 64 - 1) + d) (2 ^ 64 - 1))
  more v d r e =
      let h : 1 ≤ base = some_base base d (digit_of (get_or word i 0)) e in
      let last : are_digits base (get_or word i 0 ∷ []) ≡ true = both (ap is_some (sym e)) refl in
      record {
        digits = ap (are_digits base) split ∙ digits_append base (take i word) (get_or word i 0 ∷ []) ∙ both r.digits last;
        value =
            ap (λ (x : ℕ). min (min (x * base) (2 ^ 64 - 1) + d) (2 ^ 64 - 1)) r.value
            ∙ top_more (value_of base (take i word)) base d h
            ∙ ap top (ap (λ (x : ℕ). value_of base (take i word) * base + x) (is_below base d (digit_of (get_or word i 0)) e) ∙ sym (ap (value_of base) split ∙ value_more base (take i word) (get_or word i 0)));
      }

number_of_false : (base limit : ℕ) (w : List ℕ) → are_digits base w ≡ false → Err NoNumber ≡ number_of base limit w
unfolding number_of
number_of_false base limit [] e = refl
number_of_false base limit (b ∷ bs) e = ap (λ (t : Bool). cond t (limited limit (value_of base (b ∷ bs))) (Err NoNumber)) (sym e)

number_of_true : (base limit : ℕ) (w : List ℕ) → 0 < length w → are_digits base w ≡ true → limited limit (value_of base w) ≡ number_of base limit w
unfolding number_of
number_of_true base limit [] h e = absurd (omega arith)
number_of_true base limit (b ∷ bs) h e = ap (λ (t : Bool). cond t (limited limit (value_of base (b ∷ bs))) (Err NoNumber)) (sym e)

pub number_empty : (base limit : ℕ) (w : List ℕ) → length w ≡ 0 → Err NoNumber ≡ number_of base limit w
unfolding number_of
number_empty base limit [] h = refl
number_empty base limit (b ∷ bs) h = absurd (omega arith)

-- a byte that is no digit of the base
pub no_digit : (base limit : ℕ) (w : List ℕ) (i : ℕ) → i < length w → below base (digit_of (get_or w i 0)) ≡ None → Err NoNumber ≡ number_of base limit w
no_digit base limit w i k fails =
    number_of_false base limit w
    (ap (are_digits base) (split_at w i 0 k)
    ∙ digits_append base (take i w) (get_or w i 0 ∷ drop (suc i) w)
    ∙ ap (λ (t : Bool). are_digits base (take i w) && (t && are_digits base (drop (suc i) w))) (ap is_some fails)
    ∙ and_false (are_digits base (take i w)))

-- every byte was read
module _ (base limit : ℕ) (w : List ℕ) (i v : ℕ) (r : Read base w i v) (end : length w ≤ i) (some : 0 < length w) (fits : limit < 2 ^ 32) where
  whole : take i w ≡ w
  whole = take_all i w end

  number : limited limit (value_of base w) ≡ number_of base limit w
  number = number_of_true base limit w some (sym (ap (are_digits base) whole) ∙ r.digits)

  value : v ≡ top (value_of base w)
  value = r.value ∙ ap (λ (l : List ℕ). top (value_of base l)) whole

  pub in_limit : v ≤ limit → Ok v ≡ number_of base limit w
  in_limit h =
      let same : v ≡ value_of base w = omega (arith, value) in
      ap Ok same ∙ ap (λ (t : Bool). cond t (Ok (value_of base w)) (Err TooLarge)) (sym (le-leb (value_of base w) limit (omega (arith, same)))) ∙ number

  pub over : limit < v → Err TooLarge ≡ number_of base limit w
  over h = ap (λ (t : Bool). cond t (Ok (value_of base w)) (Err TooLarge)) (sym (lt-leb (value_of base w) limit (omega (arith, value)))) ∙ number
