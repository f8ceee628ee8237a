-- What a table of names gives. Assumes nothing.
use Rattle.std.proofs.Common.{◌≡◌, Bool, true, false, cond, List, [], ◌∷◌, map, Option, Some, None, option_map, Bor, refl, sym, ap, ◌∙◌}
use Rattle.std.specs.List.{find}

-- two steps are one
through : {A B C : Type 0} (f : A → B) (g : B → C) (o : Option A) → option_map (λ x. g (f x)) o ≡ option_map g (option_map f o)
through f g None = refl
through f g (Some x) = refl

-- to look among what f makes of a list is to look in the list
find_in_map : {A B : Type 0} (f : A → B) (p : B → Bool) (l : List A) → find p (map f l) ≡ option_map f (find (λ x. p (f x)) l)
find_in_map f p [] = refl
find_in_map f p (x ∷ xs) = split (p (f x)) (find_in_map f p xs)
  where
    split : (b : Bool) → find p (map f xs) ≡ option_map f (find (λ x. p (f x)) xs)
        → cond b (Some (f x)) (find p (map f xs)) ≡ option_map f (cond b (Some x) (find (λ x. p (f x)) xs))
    split true e = refl
    split false e = e

-- part g of what is found among what f makes of a list
pub part_found : {A B C : Type 0} (f : A → B) (g : B → C) (p : B → Bool) (l : List A) (r : Option (Bor A))
    → option_map (λ x. x.now) r ≡ find (λ x. p (f x)) l → option_map (λ x. g (f x.now)) r ≡ option_map g (find p (map f l))
part_found f g p l r e =
    through (λ x. x.now) (λ x. g (f x)) r ∙ ap (option_map (λ x. g (f x))) e ∙ through f g (find (λ x. p (f x)) l) ∙ ap (option_map g) (sym (find_in_map f p l))
