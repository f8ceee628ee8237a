-- What calls made one after the other leave. Assumes nothing.
use Rattle.std.proofs.Common.{◌≡◌, ℕ, zero, suc, ◌+◌, ◌<◌, List, [], ◌∷◌, ◌++◌, length, get_or, take, drop, replicate, refl, sym, ap, ◌∙◌, arith, add-one, append-nil, append_assoc, drop-cons}
use Rattle.vrc6_calls.specs.declared.Call.{Call}
use Rattle.vrc6.specs.Boards.{State}
use Rattle.vrc6_calls.specs.Lists.{next, after}
use Rattle.scene_steps.specs.declared.step.Step.{Step}
use Rattle.scene_board.specs.Played.{calls_of, step_calls}

-- ---- lists of calls
-- two lists joined, and one after the other
pub joined : (ks js : List Call) (x : State) → after x (ks ++ js) ≡ after (after x ks) js
joined [] js x = refl
joined (k ∷ ks) js x = joined ks js (next x k)

-- a call n times, and once more
again : (n : ℕ) (k : Call) (x : State) → next (after x (replicate n k)) k ≡ after x (replicate (suc n) k)
again zero k x = refl
again (suc n) k x = again n k (next x k)

-- a call is made n times
pub record Times (k : Call) (first now : State) (n : ℕ) : Type 0 where
  pub made : now ≡ after first (replicate n k)

pub once_more : (k : Call) (first now then : State) (n : ℕ) → Times k first now n → then ≡ next now k → Times k first then (n + 1)
once_more k first now then n t f =
    record { made = f ∙ ap (λ (x : State). next x k) t.made ∙ again n k first ∙ sym (ap (λ (j : ℕ). after first (replicate j k)) (add-one n)) }

-- ---- steps
-- i steps are played, and those that are left lead to the same end
pub record Left (steps : List Step) (first now : State) (i : ℕ) : Type 0 where
  pub rest : after now (calls_of (drop i steps)) ≡ after first (calls_of steps)

pub one_on : (steps : List Step) (first now then : State) (i : ℕ) (d : Step) → Left steps first now i → i < length steps
    → then ≡ after now (step_calls (get_or steps i d)) → Left steps first then (i + 1)
one_on steps first now then i d l h f =
    record {
      rest =
          ap (λ (x : State). after x (calls_of (drop (i + 1) steps))) f
          ∙ ap (λ (j : ℕ). after (after now (step_calls (get_or steps i d))) (calls_of (drop j steps))) (add-one i)
          ∙ sym (joined (step_calls (get_or steps i d)) (calls_of (drop (suc i) steps)) now)
          ∙ sym (ap (λ (r : List Step). after now (calls_of r)) (drop-cons steps i d h))
          ∙ l.rest;
    }

-- the calls of a step more
longer : (l : List Step) (i : ℕ) (d : Step) → i < length l → calls_of (take (suc i) l) ≡ calls_of (take i l) ++ step_calls (get_or l i d)
longer [] i d h = absurd (omega arith)
longer (c ∷ l) zero d h = append-nil (step_calls c)
longer (c ∷ l) (suc i) d h =
    ap (λ (ks : List Call). step_calls c ++ ks) (longer l i d (omega arith))
    ∙ sym (append_assoc (step_calls c) (calls_of (take i l)) (step_calls (get_or l i d)))

pub steps_on : (l : List Step) (i : ℕ) (d : Step) → i < length l → calls_of (take (i + 1) l) ≡ calls_of (take i l) ++ step_calls (get_or l i d)
steps_on l i d h = ap (λ (j : ℕ). calls_of (take j l)) (add-one i) ∙ longer l i d h
